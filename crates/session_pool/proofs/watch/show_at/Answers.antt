use Rattle.std.proofs.Common.{sym, ◌∙◌}
use Rattle.session_pool.proofs.Watching.{knows_on}
use Rattle.session_pool.proofs.watch.show_at.Goals as goal

pub returns-in-Some-clause-keeps : goal.returns-in-Some-clause-keeps
returns-in-Some-clause-keeps g c = knows_on c.args.watch.now c.in-Some.witness c.show.result.seen (sym c.take.ensures.value ∙ c.in-Some.is) c.show.ensures.goes_on
