-- What the first of some specs comes to.
use Rattle.std.proofs.Common.{◌≡◌, ℕ, zero, suc, ◌-◌, ◌≢◌, Option, Some, List, [], slice_get, refl, ap, sym, ◌∙◌, arith}
use Rattle.game_sheet.specs.declared.sheet.Sheet.{Sheet}
use Rattle.game_sheet.specs.declared.sheet.SpecRow.{SpecRow}
use Rattle.stage_map.specs.declared.plan.Plan.{Plan}
use Rattle.stage_map.specs.declared.rows.Row.{Row}
use Rattle.stage_map.specs.Active.{Map}
use Rattle.stage_map.specs.Plan.{planned}
use Rattle.stage_map.specs.Rows.{spec_rows}
use Rattle.stage_map.specs.Set.{set_within, settled, settled_by, stack_after, unfollowed}
use Rattle.stage_map.specs.Parts.{set_by}

pub set_none : (n : ℕ) (sheet : Sheet) (current : ℕ) (order : List ℕ) (spec : ℕ) (m : Map) → n ≡ 0 → set_within n sheet current order spec m ≡ unfollowed m
unfolding set_within
set_none n sheet current order spec m z = ap (λ k. set_within k sheet current order spec m) z

pub set_first : (n : ℕ) (sheet : Sheet) (current : ℕ) (order : List ℕ) (spec : ℕ) (m : Map) → n ≢ 0 → set_within n sheet current order spec m ≡ set_by (set_within (n - 1) sheet current order) (slice_get sheet.specs spec) current order m
unfolding set_within
set_first zero sheet current order spec m h = absurd (h refl)
set_first (suc n) sheet current order spec m h =
    let same : n ≡ suc n - 1 = omega arith in
    ap (λ k. set_by (set_within k sheet current order) (slice_get sheet.specs spec) current order m) same

-- a spec without rows comes to what its follower comes to
pub set_follower : (n : ℕ) (sheet : Sheet) (current : ℕ) (order : List ℕ) (spec next : ℕ) (row : SpecRow) (listed : List Row) (later : Option Plan) (result : Map) (m : Map) → n ≢ 0 → slice_get sheet.specs spec ≡ Some row → listed ≡ spec_rows row current order → listed ≡ [] → row.next ≡ Some next → ((emptied : Map) → set_within (n - 1) sheet current order next emptied ≡ planned later emptied) → planned later (record { rows = Some []; next = row.next; stack = stack_after row.revert m }) ≡ result → set_within n sheet current order spec m ≡ result
set_follower n sheet current order spec next row listed later result m some is rows_are empty follower by_later by_plan =
    let go = set_within (n - 1) sheet current order in
    let emptied : Map = record { rows = Some listed; next = row.next; stack = stack_after row.revert m } in
    set_first n sheet current order spec m some
    ∙ ap (λ o. set_by go o current order m) is
    ∙ ap (λ given. settled go (record { rows = Some given; next = row.next; stack = stack_after row.revert m })) (sym rows_are)
    ∙ ap (λ given. settled_by go (Some given) row.next emptied) empty
    ∙ ap (λ f. settled_by go (Some []) f emptied) follower
    ∙ by_later emptied
    ∙ ap (λ given. planned later (record { rows = Some given; next = row.next; stack = stack_after row.revert m })) empty
    ∙ by_plan
