-- A file has one list of records.
use Rattle.std.proofs.Common.{◌≡◌, ◌≢◌, ◌<◌, ◌≤◌, ◌^◌, inl, inr, ℕ, List, [], ◌∷◌, ◌++◌, length, get_or, take, drop, refl, sym, ◌∙◌, ap, arith, append_assoc, length-append}
use Rattle.std.proofs.lemmas.List.{take_at, drop_at}
use Rattle.std.proofs.lemmas.Nat.{from_le_bytes-to_le_bytes_4}
use Rattle.std.specs.Int.{w32, to_le_bytes, from_le_bytes}
use Rattle.record_file.specs.Records.{record_bytes, open_records, HasRecords}

-- two records at one place are the same
pub record IsSame (p q r s : List ℕ) : Type 0 where
  pub payload : p ≡ q
  pub rest : r ≡ s

pub same_record : (p q r s : List ℕ) → length p < 2 ^ 32 → length q < 2 ^ 32 → record_bytes p ++ r ≡ record_bytes q ++ s → IsSame p q r s
same_record p q r s short brief e =
    let f : to_le_bytes w32 (length p) ++ (p ++ r) ≡ to_le_bytes w32 (length q) ++ (q ++ s) = sym (append_assoc (to_le_bytes w32 (length p)) p r) ∙ e ∙ append_assoc (to_le_bytes w32 (length q)) q s in
    let bytes : to_le_bytes w32 (length p) ≡ to_le_bytes w32 (length q) = ap (take 4) f in
    let tails : p ++ r ≡ q ++ s = ap (drop 4) f in
    let long : length p ≡ length q = sym (from_le_bytes-to_le_bytes_4 (length p) short) ∙ ap (from_le_bytes w32) bytes ∙ from_le_bytes-to_le_bytes_4 (length q) brief in
    record {
      payload = sym (take_at p r (length p) refl) ∙ ap (take (length p)) tails ∙ take_at q s (length p) (sym long);
      rest = sym (drop_at p r (length p) refl) ∙ ap (drop (length p)) tails ∙ drop_at q s (length p) (sym long);
    }

one_ends : (records others : List (List ℕ)) (g h : ℕ) (r s : List ℕ) → g ≢ 1 → h ≢ 1 → length (open_records records ++ g ∷ r) < 2 ^ 32 → open_records records ++ g ∷ r ≡ open_records others ++ h ∷ s → records ≡ others
one_ends [] [] g h r s shut closed few e = refl
one_ends [] (q ∷ others) g h r s shut closed few e = absurd (shut (ap (λ (l : List ℕ). get_or l 0 0) e))
one_ends (p ∷ records) [] g h r s shut closed few e = absurd (closed (sym (ap (λ (l : List ℕ). get_or l 0 0) e)))
one_ends (p ∷ records) (q ∷ others) g h r s shut closed few e =
    let tails : record_bytes p ++ (open_records records ++ g ∷ r) ≡ record_bytes q ++ (open_records others ++ h ∷ s) =
    sym (append_assoc (record_bytes p) (open_records records) (g ∷ r)) ∙ ap (drop 1) e ∙ append_assoc (record_bytes q) (open_records others) (h ∷ s) in
    let whole : length (record_bytes p ++ (open_records records ++ g ∷ r)) < 2 ^ 32 = omega (arith, few, ap length (append_assoc (record_bytes p) (open_records records) (g ∷ r))) in
    let first = length-append (record_bytes p) (open_records records ++ g ∷ r) in
    let second = length-append (record_bytes q) (open_records others ++ h ∷ s) in
    let head = length-append (to_le_bytes w32 (length p)) p in
    let other = length-append (to_le_bytes w32 (length q)) q in
    let same : IsSame p q (open_records records ++ g ∷ r) (open_records others ++ h ∷ s) =
    same_record p q (open_records records ++ g ∷ r) (open_records others ++ h ∷ s) (omega (arith, whole, first, head)) (omega (arith, whole, second, other, ap length tails)) tails in
    (λ i. same.payload i ∷ one_ends records others g h r s shut closed (omega (arith, whole, first)) same.rest i)

few_none : (records : List (List ℕ)) (g : ℕ) (r : List ℕ) → length (open_records records ++ g ∷ r) ≤ 1 → records ≡ []
few_none [] g r few = refl
few_none (p ∷ records) g r few = absurd (omega (
  arith,
  few,
  length-append (open_records (p ∷ records)) (g ∷ r),
  length-append (record_bytes p) (open_records records),
  length-append (to_le_bytes w32 (length p)) p,
))

pub one : (file : List ℕ) (records others : List (List ℕ)) → length file < 2 ^ 32 → HasRecords file records → HasRecords file others → records ≡ others
one file records others few (inl none) (inl nothing) = none.1 ∙ sym nothing.1
one file records others few (inl none) (inr ends) = none.1 ∙ sym (few_none others ends.gate ends.rest (omega (arith, none.0, ap length ends.split)))
one file records others few (inr ends) (inl none) = few_none records ends.gate ends.rest (omega (arith, none.0, ap length ends.split)) ∙ sym none.1
one file records others few (inr ends) (inr stops) =
    one_ends records others ends.gate stops.gate ends.rest stops.rest ends.shut stops.shut (omega (arith, few, ap length ends.split)) (sym ends.split ∙ stops.split)
