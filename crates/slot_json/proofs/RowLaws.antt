-- Where no name or no row is left.
use Rattle.std.proofs.Common.{◌≡◌, ◌<◌, ◌≤◌, ℕ, false, List, [], ◌∷◌, length, refl, arith}
use Rattle.game_slots.specs.declared.rows.SlotRow.{SlotRow}
use Rattle.slot_json.specs.SlotForms.{rows_fit}

-- a name without a row doesn't fit
pub fit_no_rows : (names : List (List ℕ)) (rows : List SlotRow) → 1 ≤ length names → length rows < 1 → rows_fit names rows ≡ false
fit_no_rows [] rows some none = absurd (omega arith)
fit_no_rows (name ∷ names) [] some none = refl
fit_no_rows (name ∷ names) (row ∷ rows) some none = absurd (omega arith)
