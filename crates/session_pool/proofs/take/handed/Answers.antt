use Rattle.std.proofs.Common.{Some, refl, subst, sym}
use Rattle.board_links.specs.Pieces.{told_bytes}
use Rattle.board_links.specs.declared.link.SessionEnd.TheVariants as end
use Rattle.session_pool.specs.Turn.{HandsTaken}
use Rattle.session_pool.proofs.Saying.{stopped_at}
use Rattle.session_pool.proofs.take.handed.Goals as goal

pub returns-in-NoMemory-clause-told : goal.returns-in-NoMemory-clause-told
returns-in-NoMemory-clause-told g c told =
    let sent = g.L.Link.sent c.args.link.now in
    subst (λ r. HandsTaken (Some r) (told_bytes sent) (Some end.NoMemory) sent) (sym c.in-NoMemory.is) (refl, stopped_at sent told)
