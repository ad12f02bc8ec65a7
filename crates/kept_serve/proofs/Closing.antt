-- What the disks of rooms have, once the rooms are closed.
use Rattle.std.proofs.Common.{◌≡◌, ◌+◌, ℕ, List, [], ◌∷◌, ◌++◌, length, map, Option, Some, refl, ap, sym, ◌∙◌, subst, arith, inl, inr}
use Rattle.std.proofs.lemmas.List.{append-nil, append_assoc, length-map, nil_from_length}
use Rattle.std.specs.Prelude.{Bool}
use Rattle.door_serve.specs.Ends.{AreGiven}
use Rattle.door_serve.specs.Rooms.{Numbered, Stand, hosted}
use Rattle.door_serve.specs.declared.serving.ServeEnd.{ServeEnd}
use Rattle.kept_room.specs.Hosting.{StandsFrom}
use Rattle.kept_room.specs.Journal.{Calls}
use Rattle.kept_room.specs.declared.room.KeptRoom.{KeptRoom}
use Rattle.kept_serve.specs.Kept.{GoesOnFrom, HasKept, HaveKept, Leave, left_of}
use Rattle.kept_serve.specs.declared.opened_room.ClosedRoom.{ClosedRoom}
use Rattle.kept_serve.proofs.Since.{is_made}
use Rattle.object_journal.specs.declared.performing.Stop.{Stop}

-- one more that was closed
pub closed_more : {X Z : Type 0} (g : X → Z) (done after : List Z) (z : Z) (coming rest : List X) (x : X) (all : List Z) → after ≡ done ++ z ∷ [] → coming ≡ x ∷ rest → z ≡ g x
    → done ++ map g coming ≡ all → after ++ map g rest ≡ all
closed_more g done after z coming rest x all push e same is =
    ap (λ m. m ++ map g rest) push
    ∙ (append_assoc done (z ∷ []) (map g rest)
    ∙ (ap (λ w. done ++ w ∷ map g rest) same ∙ (ap (λ w. done ++ map g w) (sym e) ∙ is)))

-- once none is to come, all were closed
pub closed_all : {X Z : Type 0} (g : X → Z) (done : List Z) (coming : List X) (all : List Z) → length coming ≡ 0 → done ++ map g coming ≡ all → done ≡ all
closed_all g done coming all none is = sym (append-nil done) ∙ (ap (λ l. done ++ map g l) (sym (nil_from_length coming none)) ∙ is)

abbrev pub closed_of : {D : Type 0} → D → Option Stop → ClosedRoom D
closed_of disk stopped = record { disk = disk; stopped = stopped }

pub left_so : {D : Type 0} (r : KeptRoom D) (disk : D) (stopped : Option Stop) → disk ≡ r.file.disk → stopped ≡ r.stopped → closed_of disk stopped ≡ left_of r
left_so r disk stopped d s = ap (λ x. closed_of x stopped) d ∙ ap (closed_of r.file.disk) s

module _ {D : Type 0} (is_told : D → Type 0) (seen : D → List ℕ) (may_leave : D → List ℕ → Type 0) (moment : D → ℕ) (left_since : D → ℕ → List ℕ → Type 0) (faults : D → ℕ) where
  abbrev From : (ℕ → Option D) → KeptRoom D → Calls → Type 0
  From start r h = StandsFrom is_told seen may_leave moment left_since faults r.object.room (start r.object.room) r h

  abbrev GoesOn : ℕ → D → Calls → Type 0
  GoesOn room start h = GoesOnFrom is_told seen may_leave moment left_since faults room start h

  -- a room stands for what goes on from the records of its file
  goes_on : (start : ℕ → Option D) (k : ℕ) (r : KeptRoom D) (h : Calls) → r.object.room ≡ k → From start r h → (disk : D) → start k ≡ Some disk → is_told disk → GoesOn k disk h
  goes_on start k r h at s disk is told = subst (λ (n : ℕ). GoesOn n disk h) at (s.past, s.made, s.split, (s.had disk (ap start at ∙ is) told).0)

  kept_one : (start : ℕ → Option D) (k : ℕ) (old : KeptRoom D) (past : Calls) (r : KeptRoom D) (h : Calls) → old.object.room ≡ k → From start old past → r.object.room ≡ k → From start r h
      → (disk : D) → start k ≡ Some disk → is_told disk → HasKept is_told seen may_leave moment left_since faults k disk past h (left_of r)
  kept_one start k old past r h was stood at s disk is told =
      let from : start r.object.room ≡ Some disk = ap start at ∙ is in
      let on = s.stands.on_disk disk from told in
      let just = s.had disk from told in
      let began = subst (λ (n : ℕ). GoesOn n disk past) (sym at) (goes_on start k old past was stood disk is told) in
      subst (λ (n : ℕ). HasKept is_told seen may_leave moment left_since faults n disk past h (left_of r)) at (record {
        first = s.past;
        made = s.made;
        split = s.split;
        had = just.0;
        began = began;
        since = is_made r.object.room (seen disk) s.past s.made h past began.0 began.1 s.split just began.2 began.3;
        settled = λ n. (r.file.end, (on.keeps n).settled);
        crash = on.crash;
        safe = on.safe;
        fits = on.fits;
        cause = on.cause;
      })

  module _ {B : Type 0} (room_in : B → KeptRoom D) (start : ℕ → Option D) where
    abbrev number_in : B → ℕ
    number_in b = (room_in b).object.room

    abbrev stands_from : B → Calls → Type 0
    stands_from b h = From start (room_in b) h

    pub kept_all : (k : ℕ) (before : List B) (pasts : List Calls) (rooms : List B) (histories : List Calls) → length before ≡ length rooms → Numbered number_in k before → Stand stands_from before pasts
        → Numbered number_in k rooms → Stand stands_from rooms histories → HaveKept is_told seen may_leave moment left_since faults start k pasts histories (map (λ b. left_of (room_in b)) rooms)
    kept_all k [] [] [] [] same was stood n s = tt
    kept_all k [] [] [] (h ∷ histories) same was stood n s = absurd s
    kept_all k [] [] (b ∷ rooms) histories same was stood n s = absurd (omega (arith, same))
    kept_all k [] (past ∷ pasts) rooms histories same was stood n s = absurd stood
    kept_all k (old ∷ before) [] rooms histories same was stood n s = absurd stood
    kept_all k (old ∷ before) (past ∷ pasts) [] histories same was stood n s = absurd (omega (arith, same))
    kept_all k (old ∷ before) (past ∷ pasts) (b ∷ rooms) [] same was stood n s = absurd s
    kept_all k (old ∷ before) (past ∷ pasts) (b ∷ rooms) (h ∷ histories) same was stood n s = (
      kept_one start k (room_in old) past (room_in b) h was.0 stood.0 n.0 s.0,
      kept_all (k + 1) before pasts rooms histories (omega (arith, same)) was.1 stood.1 n.1 s.1,
    )

    -- rooms that come back from their desks, and are closed then
    pub leaves : (has_stopped : B → Bool) (served : List Calls → List Calls → Type 0) (count many : ℕ) (how : ServeEnd) (before rooms : List B) (closed : List (ClosedRoom D)) → count ≡ many → length before ≡ count
        → Numbered number_in 0 before → closed ≡ map (λ b. left_of (room_in b)) rooms → AreGiven (hosted number_in stands_from has_stopped) count how before rooms served
        → Leave is_told seen may_leave moment left_since faults start many served how closed
    leaves has_stopped served count many how before rooms closed same few was closes (inl (pasts, histories, stood, are, told)) =
        inl (
          pasts,
          histories,
          ap length closes ∙ (length-map rooms (λ b. left_of (room_in b)) ∙ (are.many ∙ same)),
          subst (HaveKept is_told seen may_leave moment left_since faults start 0 pasts histories) (sym closes)
              (kept_all 0 before pasts rooms histories (few ∙ sym are.many) was stood are.numbered are.stand),
          told,
        )
    leaves has_stopped served count many how before rooms closed same few was closes (inr (starved, none)) = inr (starved, closes ∙ ap (map (λ b. left_of (room_in b))) none)
