-- What each write of a record leaves, and what a crash in it may leave.
use Rattle.std.proofs.Common.{◌≡◌, ◌≢◌, ◌≤◌, inl, inr, ℕ, ◌+◌, min, List, [], ◌∷◌, ◌++◌, length, get_or, take, drop, refl, sym, ◌∙◌, ap, subst, arith, append-nil, append_assoc, length-append, take-append-drop}
use Rattle.std.proofs.lemmas.Bool.{cases_eq}
use Rattle.std.proofs.lemmas.List.{take_at, drop_at, drop_more}
use Rattle.room_disk.specs.Disk.{Torn, Follows, Only}
use Rattle.record_file.specs.Records.{behind, framed, framed_all, open_records, record_bytes, EndsAfter, IsBeforeOrAfter}

-- one record alone is a batch with nothing more
pub one_is_all : (payload : List ℕ) → framed payload ≡ framed_all payload []
one_is_all payload = ap (λ (l : List ℕ). l ++ 0 ∷ []) (sym (append-nil (record_bytes payload)))

-- one record more at the end
pub records-push : (records : List (List ℕ)) (payload : List ℕ) (more : List (List ℕ)) (rest : List ℕ) → open_records (records ++ payload ∷ more) ++ rest ≡ open_records records ++ 1 ∷ (behind payload more ++ rest)
records-push [] payload more rest = refl
records-push (p ∷ ps) payload more rest =
    ap (λ (l : List ℕ). 1 ∷ l) (append_assoc (record_bytes p) (open_records (ps ++ payload ∷ more)) rest ∙ ap (λ (l : List ℕ). record_bytes p ++ l) (records-push ps payload more rest) ∙ sym (append_assoc (record_bytes p) (open_records ps) (1 ∷ (behind payload more ++ rest))))

-- and of one record alone
pub record-push : (records : List (List ℕ)) (payload rest : List ℕ) → open_records (records ++ payload ∷ []) ++ rest ≡ open_records records ++ 1 ∷ (record_bytes payload ++ rest)
record-push records payload rest = records-push records payload [] rest ∙ ap (λ (l : List ℕ). open_records records ++ 1 ∷ (l ++ rest)) (append-nil (record_bytes payload))

-- a list with one item in its midst
module _ (front : List ℕ) (item : ℕ) (back : List ℕ) where
  pub split_length : length (front ++ item ∷ back) ≡ length front + 1 + length back
  split_length = omega (arith, length-append front (item ∷ back))

  by_item : front ++ item ∷ back ≡ (front ++ item ∷ []) ++ back
  by_item = sym (append_assoc front (item ∷ []) back)

  long : length (front ++ item ∷ []) ≡ length front + 1
  long = omega (arith, length-append front (item ∷ []))

  pub take_item : take (length front + 1) (front ++ item ∷ back) ≡ front ++ item ∷ []
  take_item = ap (λ (l : List ℕ). take (length front + 1) l) by_item ∙ take_at (front ++ item ∷ []) back (length front + 1) long

  pub drop_item : drop (length front + 1) (front ++ item ∷ back) ≡ back
  drop_item = ap (λ (l : List ℕ). drop (length front + 1) l) by_item ∙ drop_at (front ++ item ∷ []) back (length front + 1) long

  -- a torn write behind the item leaves what is before it, and the item
  pub torn_behind : (n : ℕ) (c : List ℕ) → Torn (length front + 1) n (front ++ item ∷ back) c → c ≡ front ++ item ∷ drop (length front + 1) c
  torn_behind n c torn =
      let short : min (length front + 1) (length (front ++ item ∷ back)) ≡ length front + 1 = omega (arith, split_length) in
      let same : take (length front + 1) c ≡ front ++ item ∷ [] = ap (λ (k : ℕ). take k c) (sym short) ∙ torn.before ∙ take_item in
      sym (take-append-drop (length front + 1) c) ∙ ap (λ (l : List ℕ). l ++ drop (length front + 1) c) same ∙ append_assoc front (item ∷ []) (drop (length front + 1) c)

  -- a torn write of the item alone leaves all but the item
  pub torn_item : (c : List ℕ) → Torn (length front) 1 (front ++ item ∷ back) c → c ≡ front ++ get_or c (length front) 0 ∷ back
  torn_item c torn =
      let short : min (length front) (length (front ++ item ∷ back)) ≡ length front = omega (arith, split_length) in
      let same : take (length front) c ≡ front = ap (λ (k : ℕ). take k c) (sym short) ∙ torn.before ∙ take_at front (item ∷ back) (length front) refl in
      let tail : drop (length front) c ≡ get_or c (length front) 0 ∷ back =
      drop_more c (length front) 0 (omega (arith, torn.no_shorter, split_length)) ∙ ap (λ (l : List ℕ). get_or c (length front) 0 ∷ l) (torn.after ∙ drop_item) in
      sym (take-append-drop (length front) c) ∙ ap (λ (l : List ℕ). l ++ drop (length front) c) same ∙ ap (λ (l : List ℕ). front ++ l) tail

-- the file with a whole record behind its closed gate, and the next gate closed
pub record IsStaged (file : List ℕ) (records : List (List ℕ)) (payload : List ℕ) (more : List (List ℕ)) : Type 0 where
  pub gate : ℕ
  pub rest : List ℕ
  pub shut : gate ≢ 1
  pub split : file ≡ open_records records ++ gate ∷ (behind payload more ++ 0 ∷ rest)

module _ (records : List (List ℕ)) (payload : List ℕ) (more : List (List ℕ)) (end : ℕ) (place : end ≡ length (open_records records)) where
  -- the closed gate stands in each outcome of the first write
  pub stage_torn : (file : List ℕ) → EndsAfter file records → (n : ℕ) (c : List ℕ) → Torn (end + 1) n file c → EndsAfter c records
  stage_torn file ends n c torn =
      let here : Torn (length (open_records records) + 1) n (open_records records ++ ends.gate ∷ ends.rest) c =
      subst (λ (f : List ℕ). Torn (length (open_records records) + 1) n f c) ends.split (subst (λ (k : ℕ). Torn (k + 1) n file c) place torn) in
      record {
        gate = ends.gate;
        rest = drop (length (open_records records) + 1) c;
        shut = ends.shut;
        split = torn_behind (open_records records) ends.gate ends.rest n c here;
      }

  pub within : (file : List ℕ) → EndsAfter file records → end + 1 ≤ length file
  within file ends = omega (arith, place, ap length ends.split, split_length (open_records records) ends.gate ends.rest)

  pub staged : (file frame new : List ℕ) → EndsAfter file records → frame ≡ framed_all payload more → new ≡ take (end + 1) file ++ frame ++ drop (end + 1 + length frame) file → IsStaged new records payload more
  staged file frame new ends is written =
      let rest = drop (end + 1 + length frame) file in
      let front : take (end + 1) file ≡ open_records records ++ ends.gate ∷ [] =
      ap (λ (k : ℕ). take (k + 1) file) place ∙ ap (λ (f : List ℕ). take (length (open_records records) + 1) f) ends.split ∙ take_item (open_records records) ends.gate ends.rest in
      record {
        gate = ends.gate;
        rest = rest;
        shut = ends.shut;
        split = written ∙ ap (λ (l : List ℕ). l ++ frame ++ rest) front ∙ ap (λ (l : List ℕ). (open_records records ++ ends.gate ∷ []) ++ l ++ rest) is
            ∙ append_assoc (open_records records ++ ends.gate ∷ []) (behind payload more ++ 0 ∷ []) rest
            ∙ append_assoc (open_records records) (ends.gate ∷ []) ((behind payload more ++ 0 ∷ []) ++ rest)
            ∙ ap (λ (l : List ℕ). open_records records ++ ends.gate ∷ l) (append_assoc (behind payload more) (0 ∷ []) rest);
      }

  opened : (rest c : List ℕ) → c ≡ open_records records ++ 1 ∷ (behind payload more ++ 0 ∷ rest) → EndsAfter c (records ++ payload ∷ more)
  opened rest c is = record { gate = 0; rest = rest; shut = omega arith; split = is ∙ sym (records-push records payload more (0 ∷ rest)) }

  -- the record stands whole in each outcome of the second write
  pub gate_torn : (file : List ℕ) → IsStaged file records payload more → (c : List ℕ) → Torn end 1 file c → IsBeforeOrAfter records (payload ∷ more) c
  gate_torn file s c torn =
      let back = behind payload more ++ 0 ∷ s.rest in
      let gate = get_or c (length (open_records records)) 0 in
      let here : Torn (length (open_records records)) 1 (open_records records ++ s.gate ∷ back) c =
      subst (λ (f : List ℕ). Torn (length (open_records records)) 1 f c) s.split (subst (λ (k : ℕ). Torn k 1 file c) place torn) in
      let split : c ≡ open_records records ++ gate ∷ back = torn_item (open_records records) s.gate back c here in
      elim (cases_eq gate 1) [
        | inl is_open ↦ inr (inr (opened s.rest c (split ∙ ap (λ (k : ℕ). open_records records ++ k ∷ back) is_open)))
        | inr shut ↦ inl (inr (record { gate = gate; rest = back; shut = shut; split = split }))
      ]

  pub gate_written : (file new : List ℕ) → IsStaged file records payload more → new ≡ take end file ++ (1 ∷ []) ++ drop (end + 1) file → EndsAfter new (records ++ payload ∷ more)
  gate_written file new s written =
      let back = behind payload more ++ 0 ∷ s.rest in
      let front : take end file ≡ open_records records =
      ap (λ (k : ℕ). take k file) place ∙ ap (λ (f : List ℕ). take (length (open_records records)) f) s.split ∙ take_at (open_records records) (s.gate ∷ back) (length (open_records records)) refl in
      let tail : drop (end + 1) file ≡ back =
      ap (λ (k : ℕ). drop (k + 1) file) place ∙ ap (λ (f : List ℕ). drop (length (open_records records) + 1) f) s.split ∙ drop_item (open_records records) s.gate back in
      opened s.rest new (written ∙ ap (λ (l : List ℕ). l ++ (1 ∷ []) ++ drop (end + 1) file) front ∙ ap (λ (l : List ℕ). (open_records records ++ (1 ∷ [])) ++ l) tail ∙ append_assoc (open_records records) (1 ∷ []) back)

  pub longer : (frame : List ℕ) → frame ≡ framed_all payload more → end + length frame ≡ length (open_records (records ++ payload ∷ more))
  longer frame is = omega (
    arith,
    place,
    ap length is,
    ap length (records-push records payload more []),
    length-append (open_records (records ++ payload ∷ more)) [],
    length-append (open_records records) (1 ∷ (behind payload more ++ [])),
    length-append (behind payload more) [],
    length-append (behind payload more) (0 ∷ []),
  )

-- what the disk may leave follows the write, from just what was there
pub stage_crash : (records : List (List ℕ)) (payload : List ℕ) (more : List (List ℕ)) (end : ℕ) → end ≡ length (open_records records) → (file : List ℕ) → EndsAfter file records → (n : ℕ) (old new : List ℕ → Type 0) → Only file old → Follows (Torn (end + 1) n) old new
    → (c : List ℕ) → new c → IsBeforeOrAfter records (payload ∷ more) c
stage_crash records payload more end place file ends n old new only follows c left =
    let from = follows c left in
    inl (inr (stage_torn records payload more end place file ends n c (subst (λ (f : List ℕ). Torn (end + 1) n f c) (only from.0 from.1) from.2)))

pub gate_crash : (records : List (List ℕ)) (payload : List ℕ) (more : List (List ℕ)) (end : ℕ) → end ≡ length (open_records records) → (file : List ℕ) → IsStaged file records payload more → (old new : List ℕ → Type 0) → Only file old → Follows (Torn end 1) old new
    → (c : List ℕ) → new c → IsBeforeOrAfter records (payload ∷ more) c
gate_crash records payload more end place file s old new only follows c left =
    let from = follows c left in
    gate_torn records payload more end place file s c (subst (λ (f : List ℕ). Torn end 1 f c) (only from.0 from.1) from.2)
