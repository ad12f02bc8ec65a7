-- Names for parts of what may be done and set, by which the laws speak of them.
use Rattle.std.specs.Prelude.{◌==◌, ℕ, Bool, List, Option, is_some}
use Rattle.game_sheet.specs.declared.sheet.SpecRow.{SpecRow}
use Rattle.std.specs.Option.{option_map_or}
use Rattle.stage_map.specs.Active.{Map}
use Rattle.stage_map.specs.Moves.{place_of}
use Rattle.stage_map.specs.Set.{made, settled, unfollowed}

-- whether a seat may act, by the rows that are active and the current seat
abbrev pub may_on : Option (List (ℕ × Option ℕ)) → ℕ → ℕ → Bool
may_on active current seat = option_map_or (λ rows. is_some (place_of rows seat)) active (seat == current)

-- a spec is set, if the sheet has it, and maps that follow it
abbrev pub set_by : (ℕ → Map → Map) → Option SpecRow → ℕ → List ℕ → Map → Map
set_by follow spec current order m = option_map_or (λ spec. settled follow (made spec current order m)) spec (unfollowed m)
