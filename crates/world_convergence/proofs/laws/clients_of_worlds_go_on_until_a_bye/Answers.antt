use Rattle.world_convergence.proofs.Clauses.{no_session, remains_by}
use Rattle.world_convergence.proofs.laws.clients_of_worlds_go_on_until_a_bye.Goals as goal

pub returns-clause-reads : goal.returns-clause-reads
returns-clause-reads g c = λ flat named tape. remains_by named g.X.Game.rules tape g.met.X.Game.lawful c.matches_stay_sound.ensures flat

pub returns-clause-before : goal.returns-clause-before
returns-clause-before g c = λ flat named tape. no_session named g.X.Game.rules tape g.met.X.Game.lawful c.matches_stay_sound.ensures flat
