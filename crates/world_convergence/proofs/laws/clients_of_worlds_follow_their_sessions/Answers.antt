use Rattle.world_convergence.proofs.Clauses.{knows_by, trails_by}
use Rattle.world_convergence.proofs.laws.clients_of_worlds_follow_their_sessions.Goals as goal

pub returns-clause-trails : goal.returns-clause-trails
returns-clause-trails g c = λ flat named tape. trails_by named g.X.Game.rules tape g.met.X.Game.lawful c.matches_stay_sound.ensures flat

pub returns-clause-answers : goal.returns-clause-answers
returns-clause-answers g c = λ flat named tape. knows_by named g.X.Game.rules tape g.met.X.Game.lawful c.matches_stay_sound.ensures flat
