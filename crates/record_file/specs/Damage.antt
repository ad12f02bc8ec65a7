-- When a file of records is sound, and where it is damaged, by which payloads may follow which.
use Rattle.std.specs.Prelude.{◌≡◌, ℕ, List, [], ◌∷◌, ◌++◌, length, Bool, true}
use Rattle.record_file.specs.Records.{open_records}
use Rattle.record_file.specs.Gates.{HasWhole}

module _ (may_follow : List (List ℕ) → List ℕ → Bool) where
  -- each of the records may follow those before it
  abbrev pub AllFollow : List (List ℕ) → List (List ℕ) → Type 0
  AllFollow before [] = Unit {0}
  AllFollow before (payload ∷ records) = (may_follow before payload ≡ true) × AllFollow (before ++ payload ∷ []) records

  -- The file has sound records up to an open gate at this place, and what stands behind it isn't a whole record that may follow them,
  -- together with its next gate.
  pub record IsDamaged (file : List ℕ) (place : ℕ) : Type 0 where
    pub records : List (List ℕ)
    pub follow : AllFollow [] records
    pub behind : List ℕ
    pub split : file ≡ open_records records ++ 1 ∷ behind
    pub place_is : place ≡ length (open_records records)
    pub broken : (payload : List ℕ) → HasWhole behind payload → may_follow records payload ≡ true → ⊥
