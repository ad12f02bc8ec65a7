-- The number of a sheet's specs is enough for a spec and those that follow it, where followers rise.
use Rattle.std.proofs.Common.{◌≡◌, ◌≤◌, ◌+◌, ◌-◌, ℕ, zero, suc, Option, None, Some, List, [], ◌∷◌, length, slice_get, refl, ap, sym, ◌∙◌, arith}
use Rattle.std.proofs.lemmas.Option.{slice_get_past}
use Rattle.game_sheet.specs.declared.sheet.Sheet.{Sheet}
use Rattle.game_sheet.specs.declared.sheet.SpecRow.{SpecRow}
use Rattle.stage_map.specs.declared.rows.Row.{Row}
use Rattle.stage_map.specs.Active.{Map}
use Rattle.game_sheet.specs.SheetFits.{SheetFits}
use Rattle.stage_map.specs.Rows.{spec_rows}
use Rattle.stage_map.specs.Set.{made, set, set_within, settled_by}
use Rattle.stage_map.specs.Parts.{set_by}

settled_same : (follow other : ℕ → Map → Map) (listed : Option (List Row)) (next : Option ℕ) (m : Map) → ((spec : ℕ) → next ≡ Some spec → follow spec m ≡ other spec m) → settled_by follow listed next m ≡ settled_by other listed next m
settled_same follow other None next m f = refl
settled_same follow other (Some []) None m f = refl
settled_same follow other (Some []) (Some spec) m f = f spec refl
settled_same follow other (Some (row ∷ listed)) next m f = refl

-- what follows a spec matters at its follower alone
set_same : (follow other : ℕ → Map → Map) (spec : Option SpecRow) (current : ℕ) (order : List ℕ) (m : Map) → ((row : SpecRow) (next : ℕ) (emptied : Map) → spec ≡ Some row → row.next ≡ Some next → follow next emptied ≡ other next emptied) → set_by follow spec current order m ≡ set_by other spec current order m
set_same follow other None current order m f = refl
set_same follow other (Some row) current order m f =
    settled_same follow other (Some (spec_rows row current order)) row.next (made row current order m) (λ next e. f row next (made row current order m) refl e)

enough : (n : ℕ) (sheet : Sheet) (current : ℕ) (order : List ℕ) (spec : ℕ) (m : Map) → SheetFits sheet → length sheet.specs ≤ n + spec → set_within n sheet current order spec m ≡ set_within (suc n) sheet current order spec m
unfolding set_within
enough zero sheet current order spec m r h =
    sym (ap (λ o. set_by (set_within zero sheet current order) o current order m) (slice_get_past sheet.specs spec (omega arith)))
enough (suc n) sheet current order spec m r h =
    set_same (set_within n sheet current order) (set_within (suc n) sheet current order) (slice_get sheet.specs spec) current order m
    (λ row next emptied e f. enough n sheet current order next emptied r (let k = r.rise spec row next e f in omega arith))

-- setting a spec is its map, with the follower set where that is empty
pub set_follows : (sheet : Sheet) (spec current : ℕ) (order : List ℕ) (m : Map) → SheetFits sheet → set sheet spec current order m ≡ set_by (λ next emptied. set sheet next current order emptied) (slice_get sheet.specs spec) current order m
unfolding set_within
set_follows sheet spec current order m r = enough (length sheet.specs) sheet current order spec m r (omega arith)

more_enough : (k : ℕ) (sheet : Sheet) (current : ℕ) (order : List ℕ) (spec : ℕ) (m : Map) → SheetFits sheet → set_within (k + length sheet.specs) sheet current order spec m ≡ set sheet spec current order m
more_enough zero sheet current order spec m r = ap (λ n. set_within n sheet current order spec m) (omega arith)
more_enough (suc k) sheet current order spec m r =
    let next : suc k + length sheet.specs ≡ suc (k + length sheet.specs) = omega arith in
    ap (λ n. set_within n sheet current order spec m) next
    ∙ sym (enough (k + length sheet.specs) sheet current order spec m r (omega arith))
    ∙ more_enough k sheet current order spec m r

pub number_enough : (n : ℕ) (sheet : Sheet) (current : ℕ) (order : List ℕ) (spec : ℕ) (m : Map) → SheetFits sheet → length sheet.specs ≤ n → set_within n sheet current order spec m ≡ set sheet spec current order m
number_enough n sheet current order spec m r h =
    let parts : n ≡ (n - length sheet.specs) + length sheet.specs = omega arith in
    ap (λ k. set_within k sheet current order spec m) parts ∙ more_enough (n - length sheet.specs) sheet current order spec m r
