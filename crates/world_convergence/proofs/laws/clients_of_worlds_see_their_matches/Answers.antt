use Rattle.world_convergence.proofs.Clauses.{meets_in, meets_synced, present_by, settles_by}
use Rattle.world_convergence.proofs.laws.clients_of_worlds_see_their_matches.Goals as goal

pub returns-clause-session : goal.returns-clause-session
returns-clause-session g c = λ flat named tape. meets_in named g.X.Game.rules tape g.met.X.Game.lawful c.matches_stay_sound.ensures flat

pub returns-clause-synced : goal.returns-clause-synced
returns-clause-synced g c = λ flat named tape. meets_synced named g.X.Game.rules tape g.met.X.Game.lawful c.matches_stay_sound.ensures flat

pub returns-clause-settled : goal.returns-clause-settled
returns-clause-settled g c = λ flat named tape. settles_by named g.X.Game.rules tape g.met.X.Game.lawful c.matches_stay_sound.ensures flat

pub returns-clause-present : goal.returns-clause-present
returns-clause-present g c = λ flat named tape. present_by named g.X.Game.rules tape g.met.X.Game.lawful c.matches_stay_sound.ensures flat
