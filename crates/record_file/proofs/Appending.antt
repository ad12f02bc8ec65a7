-- What a crash leaves after each of the four calls that keep a record.
use Rattle.std.proofs.Common.{◌≡◌, ◌≤◌, inl, inr, ℕ, ◌+◌, List, [], ◌∷◌, ◌++◌, length, take, drop, sym, ◌∙◌, ap, subst, arith}
use Rattle.room_disk.specs.Disk.{AddsNone, Elapses, Follows, LeavesOnly, Only, Torn}
use Rattle.record_file.specs.Records.{behind, framed_all, open_records, EndsAfter, IsBeforeOrAfter, IsSettled}
use Rattle.record_file.proofs.Frames.{IsStaged, gate_crash, gate_written, longer, split_length, stage_crash, staged, within}
use Rattle.record_file.proofs.Moments.{goes_on, started}

module _ {D : Type 0} (is_told : D → Type 0) (seen : D → List ℕ) (may_leave : D → List ℕ → Type 0) (moment : D → ℕ) (left_since : D → ℕ → List ℕ → Type 0) (only_now : (d : D) (c : List ℕ) → is_told d → left_since d (moment d) c → may_leave d c) where
  abbrev pub Later : D → D → Type 0
  Later old new = Elapses (moment old) (moment new) (left_since old) (left_since new) (may_leave new)

  -- a write is done within the file
  abbrev pub Written : ℕ → List ℕ → D → D → Type 0
  Written place bytes old new = place ≤ length (seen old) → seen new ≡ take place (seen old) ++ bytes ++ drop (place + length bytes) (seen old)

  abbrev pub Synced : D → D → Type 0
  Synced old new = (seen new ≡ seen old) × Only (seen old) (may_leave new)

  module _ (records : List (List ℕ)) (payload : List ℕ) (more : List (List ℕ)) (frame : List ℕ) (is : frame ≡ framed_all payload more) (start : D) (end : ℕ) (s : IsSettled is_told seen may_leave start end records) where
    abbrev pub Leaves : D → Type 0
    Leaves now = LeavesOnly moment left_since start now (IsBeforeOrAfter records (payload ∷ more))

    at_start : Leaves start
    at_start = started moment left_since start (IsBeforeOrAfter records (payload ∷ more)) (may_leave start) (λ c left. only_now start c s.told left)
        (λ c left. inl (inr (subst (λ (f : List ℕ). EndsAfter f records) (sym (s.durable c left)) s.stands)))

    pub wrote : (one : D) → Follows (Torn (end + 1) (length frame)) (may_leave start) (may_leave one) → Later start one → Leaves one
    wrote one crash time = goes_on moment left_since start start one (IsBeforeOrAfter records (payload ∷ more)) (may_leave one) at_start time
        (stage_crash records payload more end s.place (seen start) s.stands (length frame) (may_leave start) (may_leave one) s.durable crash)

    pub synced : (one two : D) → Follows (Torn (end + 1) (length frame)) (may_leave start) (may_leave one) → Later start one → AddsNone (may_leave one) (may_leave two) → Later one two → Leaves two
    synced one two crash time adds time_two = goes_on moment left_since start one two (IsBeforeOrAfter records (payload ∷ more)) (may_leave two) (wrote one crash time) time_two
        (λ c left. stage_crash records payload more end s.place (seen start) s.stands (length frame) (may_leave start) (may_leave one) s.durable crash c (adds c left))

    pub is_staged : (one : D) → Written (end + 1) frame start one → IsStaged (seen one) records payload more
    is_staged one written = staged records payload more end s.place (seen start) frame (seen one) s.stands is (written (within records payload more end s.place (seen start) s.stands))

    -- the gate's write, and the sync after it, from where the first sync was done
    module _ (one two : D) (written : Written (end + 1) frame start one) (durable : Synced one two) (so_far : Leaves two) where
      pub gated : (three : D) → Follows (Torn end 1) (may_leave two) (may_leave three) → Later two three → Leaves three
      gated three crash time = goes_on moment left_since start two three (IsBeforeOrAfter records (payload ∷ more)) (may_leave three) so_far time
          (gate_crash records payload more end s.place (seen one) (is_staged one written) (may_leave two) (may_leave three) durable.1 crash)

      pub ended : (three four : D) → Follows (Torn end 1) (may_leave two) (may_leave three) → Later two three → AddsNone (may_leave three) (may_leave four) → Later three four → Leaves four
      ended three four crash time adds time_four = goes_on moment left_since start three four (IsBeforeOrAfter records (payload ∷ more)) (may_leave four) (gated three crash time) time_four
          (λ c left. gate_crash records payload more end s.place (seen one) (is_staged one written) (may_leave two) (may_leave three) durable.1 crash c (adds c left))

      pub settled : (three four : D) → is_told four → Written end (1 ∷ []) two three → Synced three four → IsSettled is_told seen may_leave four (end + length frame) (records ++ payload ∷ more)
      settled three four told opens last =
          let stage = is_staged one written in
          let room : end ≤ length (seen two) = omega (arith, s.place, ap length durable.0, ap length stage.split, split_length (open_records records) stage.gate (behind payload more ++ 0 ∷ stage.rest)) in
          let stands : EndsAfter (seen three) (records ++ payload ∷ more) =
          gate_written records payload more end s.place (seen one) (seen three) stage (opens room ∙ ap (λ (f : List ℕ). take end f ++ (1 ∷ []) ++ drop (end + 1) f) durable.0) in
          record {
            told = told;
            stands = subst (λ (f : List ℕ). EndsAfter f (records ++ payload ∷ more)) (sym last.0) stands;
            place = longer records payload more end s.place frame is;
            durable = subst (λ (f : List ℕ). Only f (may_leave four)) (sym last.0) last.1;
          }
