use Rattle.any_game.specs.AnyRules.{any_lawful, any_rules}
use Rattle.any_game.proofs.Depths.{all_are_shallow}
use Rattle.world_convergence.proofs.Clauses.{gone_by, lost_by, nothing_by}
use Rattle.any_game.proofs.Others.{unread}
use Rattle.world_convergence.proofs.laws.clients_of_other_games_are_lost.Goals as goal

pub returns-clause-nothing : goal.returns-clause-nothing
returns-clause-nothing c = λ named tape run client held s m meets other.
    nothing_by named any_rules tape any_lawful c.matches_stay_sound.ensures all_are_shallow run client held s m meets (unread m.game held.game other)

pub returns-clause-sync : goal.returns-clause-sync
returns-clause-sync c = λ named tape run client held s m meets other.
    lost_by named any_rules tape any_lawful c.matches_stay_sound.ensures all_are_shallow run client held s m meets (unread m.game held.game other)

pub returns-clause-gone : goal.returns-clause-gone
returns-clause-gone c = λ named tape run client held s m meets other.
    gone_by named any_rules tape any_lawful c.matches_stay_sound.ensures all_are_shallow run client held s m meets (unread m.game held.game other)
