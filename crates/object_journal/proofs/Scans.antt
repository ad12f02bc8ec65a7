-- One record more of a file.
use Rattle.std.proofs.Common.{◌≡◌, ◌<◌, ◌≤◌, ℕ, ◌+◌, ◌-◌, Bool, true, false, List, [], ◌∷◌, ◌++◌, length, take, drop, sym, ◌∙◌, ap, subst, arith, append_assoc, append-nil, length-append, length-drop}
use Rattle.std.proofs.lemmas.List.{drop-drop, length-take-le, take_all}
use Rattle.std.specs.Int.{to_le_bytes, w32}
use Rattle.room_object.specs.Entry.{Entry}
use Rattle.record_file.specs.Records.{open_records, record_bytes}
use Rattle.record_file.proofs.Frames.{record-push, split_length}
use Rattle.record_file.specs.Damage.{AllFollow, IsDamaged}
use Rattle.record_file.specs.Gates.{IsGate}
use Rattle.record_file.specs.declared.gates.Gate.TheVariants.{Record, Broken}
use Rattle.record_file.proofs.One.{same_record}
use Rattle.object_journal.specs.Replaying.{HasMade}

module _ (may_follow : List (List ℕ) → List ℕ → Bool) where
  pub follow_more : (before records : List (List ℕ)) (payload : List ℕ) → AllFollow may_follow before records → may_follow (before ++ records) payload ≡ true → AllFollow may_follow before (records ++ payload ∷ [])
  follow_more before [] payload a m = (subst (λ (l : List (List ℕ)). may_follow l payload ≡ true) (append-nil before) m, tt)
  follow_more before (r ∷ records) payload a m = (a.0, follow_more (before ++ r ∷ []) records payload a.1 (subst (λ (l : List (List ℕ)). may_follow l payload ≡ true) (sym (append_assoc before (r ∷ []) records)) m))

  -- so far the object stands for the records up to a place
  pub record Scanned {O C : Type 0} (stands_for has_come : O → List (Entry C) → Type 0) (records : List (Entry C) → List (List ℕ)) (object : O) (file : List ℕ) (at : ℕ) : Type 0 where
    pub h : List (Entry C)
    pub stands : stands_for object h
    pub came : has_come object h
    pub split : file ≡ open_records (records h) ++ drop at file
    pub place : at ≡ length (open_records (records h))
    pub follow : AllFollow may_follow [] (records h)

  module _ {O C : Type 0} (stands_for has_come : O → List (Entry C) → Type 0) (records : List (Entry C) → List (List ℕ)) (object : O) (file : List ℕ) (at : ℕ) (s : Scanned stands_for has_come records object file at) where
    pub cut_short : IsGate Broken (drop at file) → IsDamaged may_follow file at
    cut_short broken = record {
      records = records s.h;
      follow = s.follow;
      behind = broken.0;
      split = s.split ∙ ap (λ (l : List ℕ). open_records (records s.h) ++ l) broken.1;
      place_is = s.place;
      broken = λ payload whole follows. broken.2 payload whole;
    }

    module _ (count : ℕ) (gate : IsGate (Record count) (drop at file)) where
      abbrev behind : List ℕ
      behind = record_bytes (take count (drop 5 (drop at file))) ++ drop (5 + count) (drop at file)

      long : length (take count (drop 5 (drop at file))) ≡ count
      long = length-take-le count (drop 5 (drop at file)) (omega (arith, gate.1, length-drop 5 (drop at file)))

      at_gate : file ≡ open_records (records s.h) ++ 1 ∷ behind
      at_gate = s.split ∙ ap (λ (l : List ℕ). open_records (records s.h) ++ l) gate.0

      pub within : at + 5 + count < length file
      within = omega (arith, gate.1, length-drop at file)

      -- one that may not follow is damage
      pub refused : length file ≤ 268435456 → may_follow (records s.h) (take count (drop 5 (drop at file))) ≡ false → IsDamaged may_follow file at
      refused few no_more = record {
        records = records s.h;
        follow = s.follow;
        behind = behind;
        split = at_gate;
        place_is = s.place;
        broken = λ other whole follows.
            let room = ap length whole.split in
            let all = ap length at_gate in
            let outer = split_length (open_records (records s.h)) 1 behind in
            let first = length-append (record_bytes (take count (drop 5 (drop at file)))) (drop (5 + count) (drop at file)) in
            let second = length-append (record_bytes other) (whole.gate ∷ whole.rest) in
            let head = length-append (to_le_bytes w32 (length other)) other in
            let same = same_record (take count (drop 5 (drop at file))) other (drop (5 + count) (drop at file)) (whole.gate ∷ whole.rest) (omega (arith, few, long, within)) (omega (arith, few, room, all, outer, second, head)) whole.split in
            differ (sym no_more ∙ ap (may_follow (records s.h)) same.payload ∙ follows);
      }
        where
          differ : false ≡ true → ⊥
          differ h = cc

      -- one that was made again
      pub further : (object_after : O) → HasMade stands_for has_come records may_follow s.h (take count (drop 5 (drop at file))) object_after → Scanned stands_for has_come records object_after file (at + 5 + count)
      further object_after made = record {
        h = made.after;
        stands = made.stands;
        came = made.came;
        split = at_gate ∙ sym (record-push (records s.h) (take count (drop 5 (drop at file))) (drop (5 + count) (drop at file)))
            ∙ ap (λ (r : List (List ℕ)). open_records r ++ drop (5 + count) (drop at file)) (sym made.adds)
            ∙ ap (λ (l : List ℕ). open_records (records made.after) ++ l) (behind_is);
        place = omega (
          arith,
          s.place,
          long,
          ap (λ (r : List (List ℕ)). length (open_records r)) made.adds,
          ap length (record-push (records s.h) (take count (drop 5 (drop at file))) []),
          length-append (open_records (records s.h ++ take count (drop 5 (drop at file)) ∷ [])) [],
          length-append (open_records (records s.h)) (1 ∷ (record_bytes (take count (drop 5 (drop at file))) ++ [])),
          length-append (record_bytes (take count (drop 5 (drop at file)))) [],
          length-append (to_le_bytes w32 (length (take count (drop 5 (drop at file))))) (take count (drop 5 (drop at file))),
        );
        follow = subst (λ (r : List (List ℕ)). AllFollow may_follow [] r) (sym made.adds) (follow_more [] (records s.h) (take count (drop 5 (drop at file))) s.follow made.follows);
      }
        where
          behind_is : drop (5 + count) (drop at file) ≡ drop (at + 5 + count) file
          behind_is = drop-drop (5 + count) at file ∙ ap (λ (k : ℕ). drop k file) (omega arith)

-- the payload of a record, as it is handed on
pub payload_is : (file : List ℕ) (at count : ℕ) → take (at + 5 + count - (at + 5)) (drop (at + 5) file) ≡ take count (drop 5 (drop at file))
payload_is file at count = ap (λ (k : ℕ). take k (drop (at + 5) file)) (omega arith) ∙ ap (take count) (sym (drop-drop 5 at file))

-- the bytes from a gate on, as they are handed on
pub rest_is : (file : List ℕ) (at : ℕ) → take (length file - at) (drop at file) ≡ drop at file
rest_is file at = take_all (length file - at) (drop at file) (omega (arith, length-drop at file))
