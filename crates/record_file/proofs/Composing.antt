-- Runs of calls one after the other, and files of at most one byte.
use Rattle.std.proofs.Common.{◌≡◌, inl, inr, ⊎_elim, ◌≤◌, ℕ, List, [], ◌∷◌, ◌++◌, length, refl, ap, arith, length-append}
use Rattle.room_disk.specs.Disk.{LeavesOnly}
use Rattle.std.specs.Int.{to_le_bytes, w32}
use Rattle.record_file.specs.Records.{HasRecords, open_records, record_bytes}
use Rattle.record_file.specs.Ready.{IsFew}

pub and_then : {D : Type 0} (moment : D → ℕ) (left_since : D → ℕ → List ℕ → Type 0) (a b c : D) (P : List ℕ → Type 0) → LeavesOnly moment left_since a b P → LeavesOnly moment left_since b c P → LeavesOnly moment left_since a c P
and_then moment left_since a b c P first second = record {
  later = omega (arith, first.later, second.later);
  each = λ f left. ⊎_elim (first.each f) (λ p. p) (second.before (moment a) f first.later left);
  before = λ t f le left. ⊎_elim (first.before t f le) (λ p. inr p) (second.before t f (omega (arith, le, first.later)) left);
}

pub weaker : {D : Type 0} (moment : D → ℕ) (left_since : D → ℕ → List ℕ → Type 0) (old new : D) (P Q : List ℕ → Type 0) → ((c : List ℕ) → P c → Q c) → LeavesOnly moment left_since old new P → LeavesOnly moment left_since old new Q
weaker moment left_since old new P Q f l = record {
  later = l.later;
  each = λ c left. f c (l.each c left);
  before = λ t c le left. ⊎_elim (λ a. inl a) (λ p. inr (f c p)) (l.before t c le left);
}

few_none : (records : List (List ℕ)) (g : ℕ) (r : List ℕ) → length (open_records records ++ g ∷ r) ≤ 1 → records ≡ []
few_none [] g r few = refl
few_none (p ∷ records) g r few = absurd (omega (
  arith,
  few,
  length-append (open_records (p ∷ records)) (g ∷ r),
  length-append (record_bytes p) (open_records records),
  length-append (to_le_bytes w32 (length p)) p,
))

-- a file of at most one byte has no records, and so has every other one
pub few_keep : (file c : List ℕ) (records : List (List ℕ)) → length file ≤ 1 → HasRecords file records → IsFew c → HasRecords c records
few_keep file c records few (inl none) short = inl (short, none.1)
few_keep file c records few (inr ends) short = inl (short, few_none records ends.gate ends.rest (omega (arith, few, ap length ends.split)))
