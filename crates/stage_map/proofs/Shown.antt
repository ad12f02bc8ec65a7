-- What a context that shows a map says of it.
use Rattle.std.proofs.Common.{◌≡◌, ◌<◌, ◌≤◌, ◌+◌, ◌==◌, ℕ, zero, suc, Bool, true, false, cond, Option, None, Some, List, [], ◌∷◌, length, map, slice_index, option_map, option_and_then, subst, sym, refl, arith}
use Rattle.std.specs.List.Sorted.{IsStrictlyIncreasing}
use Rattle.stage_map.specs.declared.rows.Row.{Row}
use Rattle.stage_map.specs.Active.{Map, row_of, row_count, row_on, count_of, shown, shown_row}
use Rattle.stage_map.specs.IsSound.{IsSound, Rise, StandsOrNull}
use Rattle.stage_map.specs.Moves.{place_of}
use Rattle.stage_map.proofs.Sounds.{listed_fits}

abbrev seats_of : List (ℕ × Option ℕ) → List ℕ
seats_of pairs = map (λ (pair : ℕ × Option ℕ). pair.0) pairs

increasing : (listed : List Row) → Rise listed → (k : ℕ) → k + 1 < length (seats_of (map shown_row listed)) → slice_index (seats_of (map shown_row listed)) k < slice_index (seats_of (map shown_row listed)) (k + 1)
increasing [] r k h = absurd (omega arith)
increasing (row ∷ []) r k h = absurd (omega arith)
increasing (row ∷ other ∷ listed) r zero h = r.0.0
increasing (row ∷ other ∷ listed) r (suc k) h =
    let later : suc k + 1 ≡ suc (k + 1) = omega arith in
    let all : List ℕ = seats_of (map shown_row (row ∷ other ∷ listed)) in
    subst (λ j. slice_index all (suc k) < slice_index all j) (sym later) (increasing (other ∷ listed) r.1 k (omega arith))

rises_by : (specs stages seats most : ℕ) (rows : Option (List Row)) (m : Map) (pairs : List (ℕ × Option ℕ)) → StandsOrNull specs stages seats most rows m → option_map (map shown_row) rows ≡ Some pairs → IsStrictlyIncreasing (seats_of pairs)
rises_by specs stages seats most None m pairs s e = cc
rises_by specs stages seats most (Some listed) m pairs s e =
    let same : map shown_row listed ≡ pairs = cc in
    subst (λ (given : List (ℕ × Option ℕ)). IsStrictlyIncreasing (seats_of given)) same (increasing listed s.rise)

pub shown_rises : (specs stages seats most : ℕ) (m : Map) (pairs : List (ℕ × Option ℕ)) → IsSound specs stages seats most m → shown m ≡ Some pairs → IsStrictlyIncreasing (seats_of pairs)
shown_rises specs stages seats most m pairs s e = rises_by specs stages seats most m.rows m pairs s.present e

either_place : (b : Bool) (row : Row) (place : Option (Option ℕ)) (rest : Option Row) → place ≡ option_map (λ (found : Row). found.stage) rest → cond b (Some row.stage) place ≡ option_map (λ (found : Row). found.stage) (cond b (Some row) rest)
either_place true row place rest e = refl
either_place false row place rest e = e

place_of_rows : (listed : List Row) (seat : ℕ) → place_of (map shown_row listed) seat ≡ option_map (λ (row : Row). row.stage) (row_of seat listed)
place_of_rows [] seat = refl
place_of_rows (row ∷ listed) seat = either_place (row.seat == seat) row (place_of (map shown_row listed) seat) (row_of seat listed) (place_of_rows listed seat)

lists_by : (rows : Option (List Row)) (pairs : List (ℕ × Option ℕ)) (seat : ℕ) → option_map (map shown_row) rows ≡ Some pairs → place_of pairs seat ≡ option_map (λ (row : Row). row.stage) (option_and_then (row_of seat) rows)
lists_by None pairs seat e = cc
lists_by (Some listed) pairs seat e =
    let same : map shown_row listed ≡ pairs = cc in
    subst (λ (given : List (ℕ × Option ℕ)). place_of given seat ≡ option_map (λ (row : Row). row.stage) (row_of seat listed)) same (place_of_rows listed seat)

pub shown_lists : (m : Map) (pairs : List (ℕ × Option ℕ)) (seat : ℕ) → shown m ≡ Some pairs → place_of pairs seat ≡ option_map (λ (row : Row). row.stage) (row_on m seat)
shown_lists m pairs seat e = lists_by m.rows pairs seat e

count_by_row : (most : ℕ) (found : Option Row) → ((row : Row) → found ≡ Some row → row.count ≤ most) → row_count found ≤ most
count_by_row most None f = omega arith
count_by_row most (Some row) f = f row refl

pub counts_bounded : (specs stages seats most seat : ℕ) (m : Map) → IsSound specs stages seats most m → count_of m seat ≤ most
counts_bounded specs stages seats most seat m s =
    count_by_row most (row_on m seat) (λ row e. (listed_fits specs stages seats most seat m.rows m row e s.present).count)
