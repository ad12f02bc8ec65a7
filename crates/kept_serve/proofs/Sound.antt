-- A file of records that may follow each other isn't damaged.
use Rattle.std.proofs.Common.{◌≡◌, ◌≢◌, ◌<◌, ◌≤◌, ◌+◌, ◌^◌, inl, inr, refl, ℕ, Bool, true, List, [], ◌∷◌, ◌++◌, length, get_or, drop, ap, sym, ◌∙◌, subst, arith, append-nil, append_assoc, length-append}
use Rattle.std.specs.Int.{to_le_bytes, w32}
use Rattle.record_file.proofs.One.{IsSame, same_record}
use Rattle.record_file.specs.Damage.{AllFollow, IsDamaged}
use Rattle.record_file.specs.Gates.{HasWhole}
use Rattle.record_file.specs.Ready.{longest}
use Rattle.record_file.specs.Records.{EndsAfter, HasRecords, open_records, record_bytes}

-- the gate at which what is left of a file begins
first_gate : (records : List (List ℕ)) (g : ℕ) (r : List ℕ) → (gate : ℕ) × (rest : List ℕ) × (open_records records ++ g ∷ r ≡ gate ∷ rest)
first_gate [] g r = (g, r, refl)
first_gate (n ∷ more) g r = (1, (record_bytes n ++ open_records more) ++ g ∷ r, refl)

module _ (follows : List (List ℕ) → List ℕ → Bool) where
  never_broken : (before records others : List (List ℕ)) (g : ℕ) (r behind : List ℕ) → AllFollow follows before records → g ≢ 1 → length (open_records records ++ g ∷ r) < 2 ^ 32
      → open_records records ++ g ∷ r ≡ open_records others ++ 1 ∷ behind → ((payload : List ℕ) → HasWhole behind payload → follows (before ++ others) payload ≡ true → ⊥) → ⊥
  never_broken before [] [] g r behind all shut few e broken = shut (ap (λ (l : List ℕ). get_or l 0 0) e)
  never_broken before [] (q ∷ others) g r behind all shut few e broken = shut (ap (λ (l : List ℕ). get_or l 0 0) e)
  never_broken before (p ∷ records) [] g r behind all shut few e broken =
      let at = first_gate records g r in
      let whole : HasWhole behind p = record {
        gate = at.0;
        rest = at.1;
        split = sym (ap (drop 1) e) ∙ append_assoc (record_bytes p) (open_records records) (g ∷ r) ∙ ap (λ (l : List ℕ). record_bytes p ++ l) at.2;
      } in
      broken p whole (subst (λ (l : List (List ℕ)). follows l p ≡ true) (sym (append-nil before)) all.0)
  never_broken before (p ∷ records) (q ∷ others) g r behind all shut few e broken =
      let tails : record_bytes p ++ (open_records records ++ g ∷ r) ≡ record_bytes q ++ (open_records others ++ 1 ∷ behind) =
      sym (append_assoc (record_bytes p) (open_records records) (g ∷ r)) ∙ ap (drop 1) e ∙ append_assoc (record_bytes q) (open_records others) (1 ∷ behind) in
      let whole : length (record_bytes p ++ (open_records records ++ g ∷ r)) < 2 ^ 32 = omega (arith, few, ap length (append_assoc (record_bytes p) (open_records records) (g ∷ r))) in
      let first = length-append (record_bytes p) (open_records records ++ g ∷ r) in
      let second = length-append (record_bytes q) (open_records others ++ 1 ∷ behind) in
      let head = length-append (to_le_bytes w32 (length p)) p in
      let other = length-append (to_le_bytes w32 (length q)) q in
      let same : IsSame p q (open_records records ++ g ∷ r) (open_records others ++ 1 ∷ behind) =
      same_record p q (open_records records ++ g ∷ r) (open_records others ++ 1 ∷ behind) (omega (arith, whole, first, head)) (omega (arith, whole, second, other, ap length tails)) tails in
      let gone : (before ++ p ∷ []) ++ others ≡ before ++ q ∷ others = append_assoc before (p ∷ []) others ∙ ap (λ (x : List ℕ). before ++ x ∷ others) same.payload in
      never_broken (before ++ p ∷ []) records others g r behind all.1 shut (omega (arith, whole, first)) same.rest
      (λ payload has f. broken payload has (subst (λ (l : List (List ℕ)). follows l payload ≡ true) gone f))

  pub undamaged : (file : List ℕ) (records : List (List ℕ)) (place : ℕ) → AllFollow follows [] records → EndsAfter file records → length file ≤ longest → IsDamaged follows file place → ⊥
  undamaged file records place all ends few d =
      never_broken [] records d.records ends.gate ends.rest d.behind all ends.shut (omega (arith, few, ap length ends.split)) (sym ends.split ∙ d.split) d.broken

-- a file is no shorter than its records
pub no_shorter : (file : List ℕ) (records : List (List ℕ)) → HasRecords file records → length (open_records records) ≤ length file
no_shorter file records (inl none) = omega (arith, ap (λ (l : List (List ℕ)). length (open_records l)) none.1)
no_shorter file records (inr ends) = omega (arith, ap length ends.split, length-append (open_records records) (ends.gate ∷ ends.rest))
