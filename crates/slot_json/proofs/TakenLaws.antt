-- Bytes that are taken one after another.
use Rattle.std.proofs.Common.{◌≡◌, ◌+◌, ◌-◌, ◌*◌, ◌≤◌, ◌<◌, ℕ, zero, suc, List, [], ◌∷◌, length, drop, get_or, Bool, true, false, if◌then◌else◌, nat_le, Option, Some, None, refl, ap, ◌∙◌, arith}
use Rattle.std.specs.Prelude.{is_some}
use Rattle.std.proofs.Math.Nat.{mul-suc}
use Rattle.game_slots.specs.declared.rows.SlotRow.{SlotRow}
use Rattle.std.proofs.lemmas.Bool.{both_ways, le-leb, leb-true}
use Rattle.slot_json.specs.TextBytes.{rows_bytes, slot_bytes, taken}

taken_both : (left a b : ℕ) (one all : Bool) → nat_le a left ≡ one → nat_le (a + b) left ≡ all → taken (if one then Some (left - a) else None) b ≡ (if all then Some (left - (a + b)) else None)
taken_both left a b false false is all = refl
taken_both left a b false true is all = let fits : a + b ≤ left = leb-true (a + b) left all in let first : a ≤ left = omega arith in absurd (both_ways (nat_le a left) is (le-leb a left first))
taken_both left a b true all is whole = rest (nat_le b (left - a)) all refl whole
  where
    rest : (next all : Bool) → nat_le b (left - a) ≡ next → nat_le (a + b) left ≡ all → (if next then Some (left - a - b) else None) ≡ (if all then Some (left - (a + b)) else None)
    rest true true h k = let same : left - a - b ≡ left - (a + b) = omega arith in ap Some same
    rest false false h k = refl
    rest true false h k =
        let first : a ≤ left = leb-true a left is in
        let second : b ≤ left - a = leb-true b (left - a) h in
        let fits : a + b ≤ left = omega arith in
        absurd (both_ways (nat_le (a + b) left) k (le-leb (a + b) left fits))
    rest false true h k =
        let fits : a + b ≤ left = leb-true (a + b) left k in
        let second : b ≤ left - a = omega arith in
        absurd (both_ways (nat_le b (left - a)) h (le-leb b (left - a) second))

-- what is taken one after another is taken together
pub taken_more : (left : Option ℕ) (a b : ℕ) → taken (taken left a) b ≡ taken left (a + b)
taken_more None a b = refl
taken_more (Some left) a b = taken_both left a b (nat_le a left) (nat_le (a + b) left) refl refl

-- one seat more
pub seat_taken : (left : Option ℕ) (bytes seats : ℕ) → 0 < seats → taken (taken (taken left bytes) 3) ((bytes + 2 + 1) * (seats - 1)) ≡ taken left ((bytes + 2 + 1) * seats)
seat_taken left bytes zero some = absurd (omega arith)
seat_taken left bytes (suc n) some =
    let fewer : suc n - 1 ≡ n = omega arith in
    let product : (bytes + 2 + 1) * suc n ≡ (bytes + 2 + 1) * n + (bytes + 2 + 1) = mul-suc (bytes + 2 + 1) n in
    let whole : bytes + 3 + (bytes + 2 + 1) * n ≡ (bytes + 2 + 1) * suc n = omega arith in
    ap (λ k. taken (taken (taken left bytes) 3) ((bytes + 2 + 1) * k)) fewer
    ∙ ap (λ o. taken o ((bytes + 2 + 1) * n)) (taken_more left bytes 3) ∙ taken_more left (bytes + 3) ((bytes + 2 + 1) * n) ∙ ap (taken left) whole

some_left : (bytes : ℕ) (fits all : Bool) → nat_le bytes 8190 ≡ fits → nat_le (bytes + 2) 8192 ≡ all → is_some (if fits then Some (8190 - bytes) else None) ≡ all
some_left bytes true true h k = refl
some_left bytes false false h k = refl
some_left bytes true false h k = let low : bytes ≤ 8190 = leb-true bytes 8190 h in let fits : bytes + 2 ≤ 8192 = omega arith in absurd (both_ways (nat_le (bytes + 2) 8192) k (le-leb (bytes + 2) 8192 fits))
some_left bytes false true h k = let low : bytes + 2 ≤ 8192 = leb-true (bytes + 2) 8192 k in let fits : bytes ≤ 8190 = omega arith in absurd (both_ways (nat_le bytes 8190) h (le-leb bytes 8190 fits))

-- whether all parts can be taken
pub all_taken : (common players secret : ℕ) → is_some (taken (taken (taken (Some 8190) common) players) secret) ≡ nat_le (common + players + secret + 2) 8192
all_taken common players secret =
    ap (λ o. is_some (taken o secret)) (taken_more (Some 8190) common players) ∙ ap is_some (taken_more (Some 8190) (common + players) secret)
    ∙ some_left (common + players + secret) (nat_le (common + players + secret) 8190) (nat_le (common + players + secret + 2) 8192) refl refl

-- where no name or no row is left, nothing is taken
pub no_names_bytes : (names : List (List ℕ)) (rows : List SlotRow) → length names < 1 → rows_bytes names rows ≡ 0
no_names_bytes [] rows h = refl
no_names_bytes (name ∷ names) rows h = absurd (omega arith)

pub no_rows_bytes : (names : List (List ℕ)) (rows : List SlotRow) → length rows < 1 → rows_bytes names rows ≡ 0
no_rows_bytes [] rows h = refl
no_rows_bytes (name ∷ names) [] h = refl
no_rows_bytes (name ∷ names) (row ∷ rows) h = absurd (omega arith)

four_taken : (left : Option ℕ) (a b c d : ℕ) → taken (taken (taken (taken left a) b) c) d ≡ taken left (a + b + c + d)
four_taken left a b c d = ap (λ o. taken (taken o c) d) (taken_more left a b) ∙ ap (λ o. taken o d) (taken_more left (a + b) c) ∙ taken_more left (a + b + c) d

-- one row more
pub rows_step : (left one two three end : Option ℕ) (names later : List (List ℕ)) (rows others : List SlotRow) (name told : List ℕ) (row : SlotRow) → 1 ≤ length names → 1 ≤ length rows
    → name ≡ get_or names 0 name → row ≡ get_or rows 0 row → told ≡ name → later ≡ drop 1 names → others ≡ drop 1 rows
    → one ≡ taken left (length told) → two ≡ taken one 4 → three ≡ taken two (slot_bytes row) → end ≡ taken three (rows_bytes later others) → end ≡ taken left (rows_bytes names rows)
rows_step left one two three end [] later rows others name told row some some_too is_name is_row is_told is_later is_others is_one is_two is_three is_end = absurd (omega arith)
rows_step left one two three end (n ∷ names) later [] others name told row some some_too is_name is_row is_told is_later is_others is_one is_two is_three is_end = absurd (omega arith)
rows_step left one two three end (n ∷ names) later (r ∷ rows) others name told row some some_too is_name is_row is_told is_later is_others is_one is_two is_three is_end =
    is_end ∙ ap (λ o. taken o (rows_bytes later others)) (is_three ∙ ap (λ o. taken o (slot_bytes row)) (is_two ∙ ap (λ o. taken o 4) is_one))
    ∙ four_taken left (length told) 4 (slot_bytes row) (rows_bytes later others)
    ∙ ap (λ q. taken left (length q + 4 + slot_bytes row + rows_bytes later others)) (is_told ∙ is_name)
    ∙ ap (λ q. taken left (length n + 4 + slot_bytes q + rows_bytes later others)) is_row
    ∙ ap (λ q. taken left (length n + 4 + slot_bytes r + rows_bytes q others)) is_later
    ∙ ap (λ q. taken left (length n + 4 + slot_bytes r + rows_bytes names q)) is_others
