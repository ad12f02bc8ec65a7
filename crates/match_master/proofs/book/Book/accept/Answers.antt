use Rattle.match_master.proofs.LineLaws.{line_is_line}
use Rattle.match_master.proofs.book.Book.accept.Goals as goal

pub stage-requires : goal.stage-requires
stage-requires g c = rw c.in-Ok.ensures (line_is_line _)
