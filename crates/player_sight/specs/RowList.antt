-- Rows of active players as members one after another, and when these are the members of their object.
use Rattle.std.specs.Prelude.{ℕ, ◌+◌, List, [], ◌∷◌, Bool, true, ◌&&◌, nat_le, Option, decimal}
use Rattle.serde_json.specs.Data.{Members, member, no_members}
use Rattle.game_sheet.specs.declared.sheet.Sheet.{Sheet}
use Rattle.player_sight.specs.Parts.{stage_or_null}

abbrev pub row_list : Sheet → List (ℕ × Option ℕ) → Members
row_list sheet [] = no_members
row_list sheet (row ∷ rows) = member (decimal row.0) (stage_or_null sheet row.1) (row_list sheet rows)

-- the seats rise from one on, and are below ten
abbrev pub rises_from : ℕ → List (ℕ × Option ℕ) → Bool
rises_from least [] = true
rises_from least (row ∷ rows) = nat_le least row.0 && (nat_le row.0 9 && rises_from (row.0 + 1) rows)
