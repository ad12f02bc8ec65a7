-- The jobs of rooms that are to be opened, and what came of them.
use Rattle.std.proofs.Common.{◌≡◌, ◌⊎◌, ◌<◌, ◌≤◌, inl, inr, refl, ℕ, zero, List, [], ◌∷◌, ◌++◌, ◌+◌, map, length, ap, sym, ◌∙◌, subst, arith, slice_index_or, Option, Some, None, Result, Ok, Bool, false, true}
use Rattle.std.specs.Prelude.{All, Err, IfErr, IfOk, is_some, not, option_map, slice_get, suc}
use Rattle.std.proofs.lemmas.List.{append-nil, append_assoc, get_or-map, length-append, length-map, map-append, nil_from_length}
use Rattle.kept_serve.specs.Anew.{AllBegin, Begins}
use Rattle.kept_serve.specs.Opened.{AreOpened, AreOpenedFrom, IsOpened, IsOpenedFrom, IsRefusedFrom, room_of}
use Rattle.kept_serve.specs.Refused.{WasRefused, WereRefused}
use Rattle.kept_serve.specs.declared.opened_room.OpenedRoom.{OpenedRoom}
use Rattle.kept_serve.specs.declared.opening.Job.{Job}
use Rattle.object_journal.specs.Opening.{IsRefused}
use Rattle.object_journal.specs.declared.replaying.OpenNo.{OpenNo}
use Rattle.object_journal.specs.declared.replaying.OpenNo.TheVariants as open_no
use Rattle.room_journal.specs.Kept.{may_follow}
use Rattle.session_pool.specs.Rooms.{numbers}

-- ---- the numbers of rooms

as_many_numbers : (k n : ℕ) → length (numbers k n) ≡ n
as_many_numbers k zero = refl
as_many_numbers k (suc n) = let m = as_many_numbers k n in let l = length-append (numbers k n) ((k + n) ∷ []) in omega (arith, m, l)

-- they count up from one on
abbrev CountUp : ℕ → List ℕ → Type 0
CountUp k [] = Unit {0}
CountUp k (x ∷ xs) = (x ≡ k) × CountUp (k + 1) xs

count_further : (k : ℕ) (xs : List ℕ) (y : ℕ) → y ≡ k + length xs → CountUp k xs → CountUp k (xs ++ y ∷ [])
count_further k [] y e up = (omega (arith, e), tt)
count_further k (x ∷ xs) y e up = (up.0, count_further (k + 1) xs y (omega (arith, e)) up.1)

numbers_count : (k n : ℕ) → CountUp k (numbers k n)
numbers_count k zero = tt
numbers_count k (suc n) = count_further k (numbers k n) (k + n) (let m = as_many_numbers k n in omega (arith, m)) (numbers_count k n)

number_at : (k : ℕ) (xs : List ℕ) (i x : ℕ) → CountUp k xs → i < length xs → slice_index_or xs i x ≡ k + i
number_at k [] i x up low = absurd (omega arith)
number_at k (y ∷ xs) zero x up low = let e = up.0 in omega (arith, e)
number_at k (y ∷ xs) (suc i) x up low = let e = number_at (k + 1) xs i x up.1 (omega (arith, low)) in omega (arith, e)

pub as_many : {X : Type 0} (f : X → ℕ) (xs : List X) (n : ℕ) → map f xs ≡ numbers 0 n → length xs ≡ n
as_many f xs n is =
    let many = as_many_numbers 0 n in
    let mapped = length-map xs f in
    let same = ap length is in
    omega (arith, many, mapped, same)

pub its_number : (ns : List ℕ) (n i x : ℕ) → ns ≡ numbers 0 n → i < n → slice_index_or ns i x ≡ i
its_number ns n i x is low =
    let many = as_many_numbers 0 n in
    let at = number_at 0 (numbers 0 n) i x (numbers_count 0 n) (omega (arith, low, many)) in
    let same : slice_index_or ns i x ≡ slice_index_or (numbers 0 n) i x = ap (λ l. slice_index_or l i x) is in
    omega (arith, at, same)

-- the numbers of so few rooms
pub low_numbers : {X : Type 0} (f : X → ℕ) (xs : List X) (n : ℕ) → n ≤ 64 → map f xs ≡ numbers 0 n → All (λ x. f x ≤ 63) xs
low_numbers f xs n few is k d low =
    let many = as_many f xs n is in
    let at : slice_index_or (map f xs) k (f d) ≡ k = its_number (map f xs) n k (f d) is (omega (arith, low, many)) in
    let here : slice_index_or (map f xs) k (f d) ≡ f (slice_index_or xs k d) = get_or-map f xs k d (f d) low in
    omega (arith, at, here, low, many, few)

-- ---- rooms that are gathered

-- one more that was opened
pub kept_more : {X E : Type 0} (done after : List X) (x : X) (coming rest all : List (Result X E)) → after ≡ done ++ x ∷ [] → coming ≡ Ok x ∷ rest → map Ok done ++ coming ≡ all → map Ok after ++ rest ≡ all
kept_more {X} {E} done after x coming rest all push e is =
    let ok : X → Result X E = Ok in
    ap (λ m. map ok m ++ rest) push
    ∙ (ap (λ m. m ++ rest) (map-append ok done (x ∷ []))
    ∙ (append_assoc (map ok done) (ok x ∷ []) rest
    ∙ (ap (λ m. map ok done ++ m) (sym e) ∙ is)))

-- all were
pub kept_all : {X E : Type 0} (done : List X) (coming all : List (Result X E)) → length coming ≡ 0 → map Ok done ++ coming ≡ all → map Ok done ≡ all
kept_all {X} {E} done coming all none is =
    let ok : X → Result X E = Ok in
    sym (append-nil (map ok done)) ∙ (ap (λ l. map ok done ++ l) (sym (nil_from_length coming none)) ∙ is)

pub some_none : {X : Type 0} (x : X) → Some x ≡ None → ⊥
some_none x e = cc

pub said_some : {X : Type 0} (o : Option X) (b : Bool) → is_some o ≡ not b → b ≡ false → o ≡ None → ⊥
said_some None b is e none = let f = is ∙ ap not e in cc
said_some (Some x) b is e none = cc

-- those that were gone through
pub passed_on : {X : Type 0} (done coming rest all : List X) (x : X) → coming ≡ x ∷ rest → done ++ coming ≡ all → (done ++ x ∷ []) ++ rest ≡ all
passed_on done coming rest all x e is = append_assoc done (x ∷ []) rest ∙ (ap (λ l. done ++ l) (sym e) ∙ is)

-- the first that wasn't opened
pub found_here : {X E : Type 0} (done coming rest all : List (Result X E)) (result : Result X E) (why one : E) → coming ≡ result ∷ rest → result ≡ Err why → done ++ coming ≡ all → Some why ≡ Some one
    → (before : List (Result X E)) × (after : List (Result X E)) × (all ≡ before ++ Err one ∷ after)
found_here {X} {E} done coming rest all result why one e is all_is same =
    let here : why ≡ one = cc in
    (done, rest, sym all_is ∙ (ap (λ l. done ++ l) e ∙ (ap (λ r. done ++ r ∷ rest) is ∙ ap (λ (w : E). done ++ Err w ∷ rest) here)))

-- ---- what came of jobs

module _ {D : Type 0} (is_told : D → Type 0) (seen : D → List ℕ) (may_leave : D → List ℕ → Type 0) (moment : D → ℕ) (left_since : D → ℕ → List ℕ → Type 0) (faults : D → ℕ) (passes : ℕ) where
  abbrev From : Job D → OpenedRoom D → Type 0
  From job r = IsOpenedFrom is_told seen may_leave moment left_since faults passes job r

  abbrev Refused : Job D → OpenNo → Type 0
  Refused job why = IsRefusedFrom is_told seen may_leave moment left_since faults job why

  abbrev AllFrom : List (Job D) → List (Result (OpenedRoom D) OpenNo) → Type 0
  AllFrom jobs results = AreOpenedFrom is_told seen may_leave moment left_since faults passes jobs results

  pub each_came : (jobs : List (Job D)) (results : List (Result (OpenedRoom D) OpenNo)) → length results ≡ length jobs
      → ((i : ℕ) (d : Result (OpenedRoom D) OpenNo) → i < length jobs → (job : Job D) × ((e : Job D) → slice_index_or jobs i e ≡ job) × IfOk (slice_index_or results i d) (From job)
      × IfErr (slice_index_or results i d) (Refused job)) → AllFrom jobs results
  each_came [] [] same each = tt
  each_came [] (result ∷ results) same each = absurd (omega (arith, same))
  each_came (job ∷ jobs) [] same each = absurd (omega (arith, same))
  each_came (job ∷ jobs) (result ∷ results) same each =
      let here = each 0 result (omega arith) in (
        subst (λ j. IfOk result (From j)) (sym (here.1 job)) here.2,
        subst (λ j. IfErr result (Refused j)) (sym (here.1 job)) here.3,
        each_came jobs results (omega (arith, same)) (λ i d low. each (suc i) d (omega (arith, low))),
      )

  pub came_all : (jobs : List (Job D)) (results : List (Result (OpenedRoom D) OpenNo)) → AllFrom jobs results → length results ≡ length jobs
  came_all [] [] all = refl
  came_all [] (result ∷ results) all = absurd all
  came_all (job ∷ jobs) [] all = absurd all
  came_all (job ∷ jobs) (result ∷ results) all = let more = came_all jobs results all.2 in omega (arith, more)

  came_at : (jobs : List (Job D)) (rooms : List (OpenedRoom D)) → AllFrom jobs (map Ok rooms) → (i x : ℕ) (d : OpenedRoom D) → i < length rooms
      → (job : Job D) × (slice_index_or (map (λ j. j.room) jobs) i x ≡ job.room) × From job (slice_index_or rooms i d)
  came_at [] [] all i x d low = absurd (omega arith)
  came_at [] (room ∷ rooms) all i x d low = absurd all
  came_at (job ∷ jobs) [] all i x d low = absurd all
  came_at (job ∷ jobs) (room ∷ rooms) all zero x d low = (job, refl, all.0)
  came_at (job ∷ jobs) (room ∷ rooms) all (suc i) x d low = came_at jobs rooms all.2 i x d (omega (arith, low))

  abbrev Began : List D → List (OpenedRoom D) → Type 0
  Began disks rooms = AllBegin is_told seen may_leave moment left_since faults disks rooms

  all_begin : (jobs : List (Job D)) (rooms : List (OpenedRoom D)) → AllFrom jobs (map Ok rooms) → Began (map (λ j. j.disk) jobs) rooms
  all_begin [] [] all = tt
  all_begin [] (room ∷ rooms) all = absurd all
  all_begin (job ∷ jobs) [] all = absurd all
  all_begin (job ∷ jobs) (room ∷ rooms) all = (
    subst (λ n. Begins is_told seen may_leave moment left_since faults n job.disk room.start.value) (sym all.0.0.opened.numbered) all.0.1,
    all_begin jobs rooms all.2,
  )

  rooms_numbered : (jobs : List (Job D)) (rooms : List (OpenedRoom D)) → AllFrom jobs (map Ok rooms) → map room_of rooms ≡ map (λ j. j.room) jobs
  rooms_numbered [] [] all = refl
  rooms_numbered [] (room ∷ rooms) all = absurd all
  rooms_numbered (job ∷ jobs) [] all = absurd all
  rooms_numbered (job ∷ jobs) (room ∷ rooms) all = ap (λ n. n ∷ map room_of rooms) all.0.0.opened.numbered ∙ ap (λ l. job.room ∷ l) (rooms_numbered jobs rooms all.2)

  its_own : (r : OpenedRoom D) (job : Job D) → From job r → IsOpened is_told seen may_leave moment left_since faults passes (room_of r) r
  its_own r job from = subst (λ n. IsOpened is_told seen may_leave moment left_since faults passes n r) (sym from.0.opened.numbered) from.0

  module _ (jobs : List (Job D)) (results : List (Result (OpenedRoom D) OpenNo)) (rooms : List (OpenedRoom D)) (count : ℕ) (numbered : map (λ j. j.room) jobs ≡ numbers 0 count) (all : AllFrom jobs results)
      (kept : map Ok rooms ≡ results) where
    all_kept : AllFrom jobs (map Ok rooms)
    all_kept = subst (AllFrom jobs) (sym kept) all

    pub are_opened : AreOpened is_told seen may_leave moment left_since faults passes count rooms
    are_opened = record {
      numbered = rooms_numbered jobs rooms all_kept ∙ numbered;
      each = λ k d low. let at = came_at jobs rooms all_kept k 0 d low in its_own (slice_index_or rooms k d) at.0 at.2;
    }

    pub all_given : (first now next : Option (List D)) → now ≡ option_map (λ before. before ++ map (λ j. j.disk) jobs) first → next ≡ now
        → (disks : List D) × (next ≡ option_map (λ before. before ++ disks) first) × Began disks rooms
    all_given first now next is same = (map (λ j. j.disk) jobs, same ∙ is, all_begin jobs rooms all_kept)

  -- the job whose file was refused
  refused_at : (jobs : List (Job D)) (before after : List (Result (OpenedRoom D) OpenNo)) (why : OpenNo) → AllFrom jobs (before ++ Err why ∷ after)
      → (job : Job D) × (slice_get (map (λ j. j.disk) jobs) (length before) ≡ Some job.disk) × ((x : ℕ) → slice_index_or (map (λ j. j.room) jobs) (length before) x ≡ job.room)
      × (length before < length jobs) × Refused job why
  refused_at [] [] after why all = absurd all
  refused_at [] (b ∷ before) after why all = absurd all
  refused_at (job ∷ jobs) [] after why all = (job, refl, λ x. refl, omega arith, all.1)
  refused_at (job ∷ jobs) (b ∷ before) after why all =
      let t = refused_at jobs before after why all.2 in
      (t.0, t.1, t.2, omega (arith, t.3), t.4)

  pub was_refused : (jobs : List (Job D)) (results : List (Result (OpenedRoom D) OpenNo)) (count : ℕ) (why : OpenNo) → map (λ j. j.room) jobs ≡ numbers 0 count → AllFrom jobs results
      → (before after : List (Result (OpenedRoom D) OpenNo)) → results ≡ before ++ Err why ∷ after → WasRefused is_told seen faults (map (λ j. j.disk) jobs) why
  was_refused jobs results count why numbered all before after is =
      let t = refused_at jobs before after why (subst (AllFrom jobs) is all) in
      let many = as_many (λ j. j.room) jobs count numbered in
      let at = its_number (map (λ j. j.room) jobs) count (length before) 0 numbered (omega (arith, t.3, many)) in
      let room : t.0.room ≡ length before = sym (t.2 0) ∙ at in
      record {
        room = length before;
        disk = t.0.disk;
        after = t.4.0;
        at = t.1;
        refused = subst (λ n. IsRefused (may_follow n) is_told seen faults t.0.disk t.4.0 why) room t.4.1;
      }

  -- what is said where one of the rooms wasn't opened
  pub were_refused : {X : Type 0} (jobs : List (Job D)) (results : List (Result (OpenedRoom D) OpenNo)) (count : ℕ) (r : Result X OpenNo) (first now next : Option (List D)) (old new : ℕ)
      → map (λ j. j.room) jobs ≡ numbers 0 count → AllFrom jobs results → now ≡ option_map (λ before. before ++ map (λ j. j.disk) jobs) first → next ≡ now
      → IfErr r (λ why. (why ≡ open_no.NoMemory) ⊎ ((before : List (Result (OpenedRoom D) OpenNo)) × (after : List (Result (OpenedRoom D) OpenNo)) × (results ≡ before ++ Err why ∷ after)))
      → IfErr r (λ why. WereRefused is_told seen faults count first next old new why)
  were_refused jobs results count (Ok x) first now next old new numbered all is same why_is = tt
  were_refused jobs results count (Err why) first now next old new numbered all is same (inl none) = record { disks = map (λ j. j.disk) jobs; gave = same ∙ is; cause = inl (inl none) }
  were_refused jobs results count (Err why) first now next old new numbered all is same (inr (before, after, e)) = record {
    disks = map (λ j. j.disk) jobs;
    gave = same ∙ is;
    cause = inr (was_refused jobs results count why numbered all before after e);
  }
