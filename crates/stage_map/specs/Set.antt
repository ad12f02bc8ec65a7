-- Setting a spec makes a new map of its rows with its follower. With `revert` the earlier map is kept on the stack, where
-- it has rows; without it the stack is emptied. A map that is empty is settled at once: its follower is set, and so on;
-- without a follower the top of the stack returns, else the map is null.
use Rattle.std.specs.Prelude.{ℕ, zero, suc, Bool, Option, None, Some, List, [], ◌∷◌, length, slice_get, if◌then◌else◌}
use Rattle.game_sheet.specs.declared.sheet.Sheet.{Sheet}
use Rattle.game_sheet.specs.declared.sheet.SpecRow.{SpecRow}
use Rattle.stage_map.specs.declared.rows.Row.{Row}
use Rattle.stage_map.specs.declared.active.Kept.{Kept}
use Rattle.stage_map.specs.Active.{Map, none}
use Rattle.stage_map.specs.Rows.{spec_rows}
use Rattle.std.specs.Option.{option_map_or}

-- the stack with this map on it; only a map with rows is kept
abbrev pub kept_on : Option (List Row) → Option ℕ → List Kept → List Kept
kept_on (Some (row ∷ listed)) next stack = record { rows = row ∷ listed; next = next } ∷ stack
kept_on listed next stack = stack

abbrev pub stack_after : Bool → Map → List Kept
stack_after keeps m = if keeps then kept_on m.rows m.next m.stack else []

-- the map of a spec, which may be empty
abbrev pub made : SpecRow → ℕ → List ℕ → Map → Map
made spec current order m = record { rows = Some (spec_rows spec current order); next = spec.next; stack = stack_after spec.revert m }

abbrev pub returned : List Kept → Map
returned [] = none
returned (top ∷ stack) = record { rows = Some top.rows; next = top.next; stack = stack }

-- a map settled without a follower
abbrev pub unfollowed_by : Option (List Row) → Map → Map
unfollowed_by (Some []) m = returned m.stack
unfollowed_by listed m = m

abbrev pub unfollowed : Map → Map
unfollowed m = unfollowed_by m.rows m

-- a map settled with what `follow` makes of it by its follower
abbrev pub settled_by : (ℕ → Map → Map) → Option (List Row) → Option ℕ → Map → Map
settled_by follow (Some []) None m = returned m.stack
settled_by follow (Some []) (Some spec) m = follow spec m
settled_by follow listed next m = m

abbrev pub settled : (ℕ → Map → Map) → Map → Map
settled follow m = settled_by follow m.rows m.next m

-- a spec and at most so many that follow it; a sheet's followers rise, so the number of its specs is enough. A spec that the sheet doesn't
-- have follows no map.
unfoldable pub set_within : ℕ → Sheet → ℕ → List ℕ → ℕ → Map → Map
set_within zero sheet current order spec m = unfollowed m
set_within (suc n) sheet current order spec m =
    option_map_or (λ row. settled (set_within n sheet current order) (made row current order m)) (slice_get sheet.specs spec) (unfollowed m)

-- the map after a spec is set, with this current seat and play order
abbrev pub set : Sheet → ℕ → ℕ → List ℕ → Map → Map
set sheet spec current order m = set_within (length sheet.specs) sheet current order spec m

abbrev pub settle : Sheet → ℕ → List ℕ → Map → Map
settle sheet current order m = settled (λ spec emptied. set sheet spec current order emptied) m
