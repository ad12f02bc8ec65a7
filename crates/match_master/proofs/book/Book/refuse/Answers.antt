use Rattle.match_master.proofs.LineLaws.{line_is_line}
use Rattle.match_master.proofs.book.Book.refuse.Goals as goal

pub tell_own-requires : goal.tell_own-requires
tell_own-requires g c = rw (c.in-Ok-new.ensures.ok, c.in-Ok.ensures) (line_is_line _)
