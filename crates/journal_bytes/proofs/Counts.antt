-- The records of a file, one after another.
use Rattle.std.proofs.Common.{◌≡◌, ◌≢◌, ◌<◌, ◌≤◌, inl, inr, ℕ, ◌+◌, List, [], ◌∷◌, ◌++◌, length, get_or, take, drop, refl, sym, ◌∙◌, ap, subst, arith, append_assoc, length-append, length-drop}
use Rattle.std.proofs.lemmas.List.{drop-drop, length-take-le}
use Rattle.std.specs.Int.{w32, to_le_bytes}
use Rattle.record_file.specs.Gates.{HasWhole, IsGate, IsShut}
use Rattle.record_file.specs.Records.{EndsAfter, HasRecords, open_records, record_bytes}
use Rattle.record_file.specs.declared.gates.Gate.TheVariants.{Record, Broken}
use Rattle.record_file.proofs.One.{same_record}

-- from a place on these records are left
pub record Left (file : List ℕ) (at count : ℕ) (records : List (List ℕ)) : Type 0 where
  pub rest : List (List ℕ)
  pub ends : EndsAfter (drop at file) rest
  pub counted : length records ≡ count + length rest

-- all of them are left at first
pub all_left : (file : List ℕ) (records : List (List ℕ)) → EndsAfter file records → Left file 0 0 records
all_left file records ends = record { rest = records; ends = ends; counted = omega arith }

first_byte : (a b : ℕ) (xs ys : List ℕ) → a ∷ xs ≡ b ∷ ys → a ≡ b
first_byte a b xs ys e = ap (λ (l : List ℕ). get_or l 0 0) e

no_more : (behind : List ℕ) (rest : List (List ℕ)) → EndsAfter behind rest → ((payload : List ℕ) (more : List ℕ) → behind ≡ 1 ∷ (record_bytes payload ++ more) → ⊥) → length rest ≡ 0
no_more behind [] ends none = refl
no_more behind (p ∷ rest) ends none =
    absurd (none p (open_records rest ++ ends.gate ∷ ends.rest) (ends.split ∙ ap (λ (l : List ℕ). 1 ∷ l) (append_assoc (record_bytes p) (open_records rest) (ends.gate ∷ ends.rest))))

pub at_shut : (file : List ℕ) (at count : ℕ) (records : List (List ℕ)) → Left file at count records → IsShut (drop at file) → count ≡ length records
at_shut file at count records left shut =
    let none = no_more (drop at file) left.rest left.ends (λ payload more e. shut.shut (first_byte shut.gate 1 shut.rest (record_bytes payload ++ more) (sym shut.split ∙ e))) in
    omega (arith, none, left.counted)

whole_before : (rest : List (List ℕ)) (g : ℕ) (r behind p : List ℕ) → behind ≡ record_bytes p ++ (open_records rest ++ g ∷ r) → HasWhole behind p
whole_before [] g r behind p e = record { gate = g; rest = r; split = e }
whole_before (q ∷ rest) g r behind p e = record { gate = 1; rest = (record_bytes q ++ open_records rest) ++ g ∷ r; split = e }

open_ends : (rest : List (List ℕ)) (g : ℕ) (r behind : List ℕ) → g ≢ 1 → 1 ∷ behind ≡ open_records rest ++ g ∷ r → ((payload : List ℕ) → HasWhole behind payload → ⊥) → ⊥
open_ends [] g r behind shut e none = shut (sym (first_byte 1 g behind r e))
open_ends (p ∷ rest) g r behind shut e none = none p (whole_before rest g r behind p (ap (drop 1) e ∙ append_assoc (record_bytes p) (open_records rest) (g ∷ r)))

pub at_broken : (file : List ℕ) (at count : ℕ) (records : List (List ℕ)) → Left file at count records → IsGate Broken (drop at file) → count ≡ length records
at_broken file at count records left broken = absurd (open_ends left.rest left.ends.gate left.ends.rest broken.0 left.ends.shut (sym broken.1 ∙ left.ends.split) broken.2)

pub at_end : (file : List ℕ) (at count : ℕ) (records : List (List ℕ)) → Left file at count records → length file ≤ at → count ≡ length records
at_end file at count records left none =
    let room = ap length left.ends.split in
    let all = length-append (open_records left.rest) (left.ends.gate ∷ left.ends.rest) in
    absurd (omega (arith, none, room, all, length-drop at file))

-- one record fewer is left
pub record OneLess (behind : List ℕ) (size : ℕ) (rest : List (List ℕ)) : Type 0 where
  pub more : List (List ℕ)
  pub ends : EndsAfter (drop (5 + size) behind) more
  pub counted : length rest ≡ 1 + length more

module _ (behind : List ℕ) (size : ℕ) (few : length behind ≤ 268435456) (gate : IsGate (Record size) behind) where
  long : length (take size (drop 5 behind)) ≡ size
  long = length-take-le size (drop 5 behind) (omega (arith, gate.1, length-drop 5 behind))

  one_less : (rest : List (List ℕ)) → EndsAfter behind rest → OneLess behind size rest
  one_less [] ends = absurd (ends.shut (first_byte ends.gate 1 ends.rest (record_bytes (take size (drop 5 behind)) ++ drop (5 + size) behind) (sym ends.split ∙ gate.0)))
  one_less (p ∷ rest) ends =
      let q = take size (drop 5 behind) in
      let tails : record_bytes q ++ drop (5 + size) behind ≡ record_bytes p ++ (open_records rest ++ ends.gate ∷ ends.rest) =
      ap (drop 1) (sym gate.0 ∙ ends.split) ∙ append_assoc (record_bytes p) (open_records rest) (ends.gate ∷ ends.rest) in
      let room = ap length ends.split in
      let all = length-append (open_records (p ∷ rest)) (ends.gate ∷ ends.rest) in
      let first = length-append (record_bytes p) (open_records rest) in
      let head = length-append (to_le_bytes w32 (length p)) p in
      let same = same_record q p (drop (5 + size) behind) (open_records rest ++ ends.gate ∷ ends.rest) (omega (arith, few, long, gate.1)) (omega (arith, few, room, all, first, head)) tails in
      record { more = rest; ends = record { gate = ends.gate; rest = ends.rest; shut = ends.shut; split = same.rest }; counted = omega arith }

-- one more is counted
pub counts_more : (file : List ℕ) (at count size : ℕ) (records : List (List ℕ)) → length file ≤ 268435456 → IsGate (Record size) (drop at file) → Left file at count records → Left file (at + 5 + size) (count + 1) records
counts_more file at count size records few gate left =
    let less = one_less (drop at file) size (omega (arith, few, length-drop at file)) gate left.rest left.ends in
    record {
      rest = less.more;
      ends = subst (λ (l : List ℕ). EndsAfter l less.more) (drop-drop (5 + size) at file ∙ ap (λ (k : ℕ). drop k file) (omega arith)) less.ends;
      counted = omega (arith, less.counted, left.counted);
    }

pub within : (file : List ℕ) (at size : ℕ) → IsGate (Record size) (drop at file) → at + 5 + size < length file
within file at size gate = omega (arith, gate.1, length-drop at file)

-- a file of at most one byte has no record
pub by_records : (file : List ℕ) (count : ℕ) (records : List (List ℕ)) → (length file ≤ 1 → count ≡ 0) → (EndsAfter file records → count ≡ length records) → HasRecords file records → count ≡ length records
by_records file count records few counted (inl none) = few none.0 ∙ sym (ap length none.1)
by_records file count records few counted (inr ends) = counted ends
