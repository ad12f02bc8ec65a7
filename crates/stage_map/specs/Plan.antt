-- What setting a spec comes to, whatever the map was: the rows and the follower of the last spec that was set, and whether
-- each of them keeps the earlier map.
use Rattle.std.specs.Prelude.{Option, None, Some}
use Rattle.stage_map.specs.declared.plan.Plan.{Plan}
use Rattle.stage_map.specs.Active.{Map}
use Rattle.stage_map.specs.Set.{stack_after, unfollowed}

-- the map of a plan, which may be empty
abbrev pub made_by : Plan → Map → Map
made_by plan m = record { rows = Some plan.rows; next = plan.next; stack = stack_after plan.keeps m }

-- the map after a plan; none is no spec
abbrev pub planned : Option Plan → Map → Map
planned None m = unfollowed m
planned (Some plan) m = unfollowed (made_by plan m)
