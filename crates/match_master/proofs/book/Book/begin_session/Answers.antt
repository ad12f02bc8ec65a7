use Rattle.match_master.proofs.LineLaws.{line_is_line}
use Rattle.match_master.proofs.book.Book.begin_session.Goals as goal

pub attach-requires : goal.attach-requires
attach-requires g c = rw (c.in-Ok-new.ensures.ok, c.in-Ok.ensures) (line_is_line _)
