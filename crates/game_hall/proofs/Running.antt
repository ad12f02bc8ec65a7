-- What runs of requests come to.
use Rattle.std.proofs.Common.{◌≡◌, ◌≤◌, ◌<◌, ℕ, zero, suc, ◌+◌, Bool, true, false, nat_lt, if◌then◌else◌, List, [], ◌∷◌, ◌++◌, length, take, Option, Some, None, Result, Ok, Err, refl, sym, ap, ◌∙◌, arith}
use Rattle.std.specs.Prelude.{replicate}
use Rattle.std.proofs.lemmas.Bool.Decides.{nat_tests}
use Rattle.wire_json.specs.Refusals.{Refusal as Fault}
use Rattle.wire_json.specs.declared.client.ClientMsg.{ClientMsg}
use Rattle.wire_json.specs.declared.client.ClientMsg.TheVariants as line
use Rattle.wire_json.specs.declared.match_row.MatchRow.{MatchRow}
use Rattle.wire_json.specs.declared.refusal.Refusal.{Refusal}
use Rattle.wire_json.specs.declared.refusal.Refusal.TheVariants.{Full, NoMatch}
use Rattle.wire_json.specs.declared.submission.Submission.{Submission}
use Rattle.room_history.specs.declared.call.RoomCall.{RoomCall}
use Rattle.room_history.specs.declared.call.RoomCall.TheVariants as call
use Rattle.room_history.specs.declared.reply.RoomReply.{RoomReply}
use Rattle.room_history.specs.declared.reply.RoomReply.TheVariants as reply
use Rattle.game_hall.specs.Bench.{bench_after, or_bench}
use Rattle.game_hall.specs.Core.{Core, asked, heard, moved}
use Rattle.game_hall.specs.declared.bench.Bench.{Bench}
use Rattle.game_hall.specs.declared.bench.Bench.TheVariants.{Absent, Idle, Wants, Sought}
use Rattle.game_hall.specs.Requests.{acts, after_attach, after_listing, after_submit, begins, created_by, hears, in_room, is_attached, is_busy, is_judged, is_starved, lists, lists_of, makes, next, refuses, syncs, tries, undone, with_row}
use Rattle.game_hall.specs.Run.{AreServed, reply_next, rows_from, run}
use Rattle.game_hall.specs.Words.{key_of, seed_of}
use Rattle.game_hall.specs.declared.answer.Answer.{Answer}
use Rattle.game_hall.specs.declared.answer.Answer.TheVariants as answer
use Rattle.game_hall.specs.declared.next.Next.{Next}
use Rattle.game_hall.specs.declared.next.Next.TheVariants.{Calls, Says, Attaches, Silent}
use Rattle.game_hall.specs.declared.request.Request.{Request}
use Rattle.game_hall.specs.declared.request.Request.TheVariants.{Creating, Listing, Looking, Joining, Renaming, Leaving, Syncing, Acting}

-- what moves a core with a request on moves the core before it
pub moved_over : {X : Type 0} (c : Core X) (room : ℕ) (made : RoomCall X) (request : Request) (n : Next X) → moved (asked (moved c (Calls room made request))) n ≡ moved c n
moved_over c room made request (Calls other next waits) = refl
moved_over c room made request (Says a) = refl
moved_over c room made request (Attaches at) = refl
moved_over c room made request Silent = refl

none_some : {A : Type 0} (x : A) → None ≡ Some x → ⊥
none_some x e = cc

-- an act is not put to the bench
not_benched : {X : Type 0} (bench : Bench) (submission : Submission) (n : Next X) → or_bench bench (Ok (line.Act submission)) n ≡ n
not_benched Absent submission n = refl
not_benched Idle submission n = refl
not_benched (Wants name seat) submission n = refl
not_benched (Sought name seat) submission n = refl

-- an act goes to the attached room, whatever match it names
pub act_goes : {X : Type 0} (named : List ℕ → Option X) (c : Core X) (room : ℕ) (submission : Submission) (words : List ℕ) (seed : Option (List ℕ))
    → c.at ≡ Some room → (heard named c (Ok (line.Act submission)) words seed).call ≡ Some (room, call.Submit submission)
act_goes {X = X} named c room submission words seed h =
    ap (λ n. (moved benched n).call) (not_benched c.bench submission (begins named c.rooms c.at (line.Act submission) words seed))
    ∙ ap (λ at. (moved benched (begins named c.rooms at (line.Act submission) words seed)).call) h
  where
    benched : Core X
    benched = record c { bench = bench_after c.bench (Ok (line.Act submission)) }

said_alone : {X : Type 0} (c : Core X) (a : Answer) (y : Next X) → c.said ≡ None → (moved c y).said ≡ Some a → moved c y ≡ moved c (Says a)
said_alone c a (Calls room made request) none some = absurd (none_some a (sym none ∙ some))
said_alone c a (Says b) none some = ap (λ said. record c { call = None; request = None; said = said }) some
said_alone c a (Attaches room) none some = absurd (none_some a (sym none ∙ some))
said_alone c a Silent none some = absurd (none_some a (sym none ∙ some))

module _ {X S : Type 0} (named : List ℕ → Option X) (ask : ℕ → RoomCall X → S → RoomReply × S) where
  -- however far a request runs, its core is the one before it, moved once
  pub went : (n : ℕ) (c : Core X) (x : Next X) (s : S) → (y : Next X) × ((run named ask n (moved c x) s).0 ≡ moved c y)
  went zero c x s = (x, refl)
  went (suc n) c (Says a) s = (Says a, refl)
  went (suc n) c (Attaches room) s = (Attaches room, refl)
  went (suc n) c Silent s = (Silent, refl)
  went (suc n) c (Calls room made request) s =
      let told = ask room made s in
      let later = went n c (next named c.rooms request told.0) told.1 in
      (later.0, ap (λ d. (run named ask n d told.1).0) (moved_over c room made request (next named c.rooms request told.0)) ∙ later.1)

  -- a request that ends with a direct answer, `again` among them, has left the core as it was but for the answer
  pub answer_alone : (n : ℕ) (c : Core X) (x : Next X) (s : S) (a : Answer) → c.said ≡ None → (run named ask n (moved c x) s).0.said ≡ Some a
      → (run named ask n (moved c x) s).0 ≡ moved c (Says a)
  answer_alone n c x s a none some =
      let w = went n c x s in
      w.1 ∙ said_alone c a w.0 none (sym (ap (λ (d : Core X). d.said) w.1) ∙ some)

  silent_run : (n : ℕ) (c : Core X) (s : S) → c.said ≡ (run named ask n (moved c Silent) s).0.said
  silent_run zero c s = refl
  silent_run (suc n) c s = refl

  kept_alone : (n : ℕ) (c : Core X) (bench : Bench) (x : Next X) (s : S) (a : Answer) → c.bench ≡ bench → c.said ≡ None
      → (run named ask n (moved (record c { bench = bench }) x) s).0.said ≡ Some a
      → (run named ask n (moved (record c { bench = bench }) x) s).0 ≡ moved c (Says a)
  kept_alone n c bench x s a is none some =
      answer_alone n (record c { bench = bench }) x s a none some ∙ ap (λ b. moved (record c { bench = b }) (Says a)) (sym is)

  -- a line that is put to the bench ends with no answer yet; every other leaves the bench as it was
  benched_alone : (n : ℕ) (c : Core X) (bench : Bench) (read : Result ClientMsg Fault) (x : Next X) (s : S) (a : Answer) → c.bench ≡ bench → c.said ≡ None
      → (run named ask n (moved (record c { bench = bench_after bench read }) (or_bench bench read x)) s).0.said ≡ Some a
      → (run named ask n (moved (record c { bench = bench_after bench read }) (or_bench bench read x)) s).0 ≡ moved c (Says a)
  benched_alone n c Absent read x s a is none some = kept_alone n c Absent x s a is none some
  benched_alone n c (Wants name seat) read x s a is none some = kept_alone n c (Wants name seat) x s a is none some
  benched_alone n c (Sought name seat) read x s a is none some = kept_alone n c (Sought name seat) x s a is none some
  benched_alone n c Idle (Ok (line.Takeover name seat)) x s a is none some = absurd (none_some a (sym none ∙ silent_run n (record c { bench = Wants name seat }) s ∙ some))
  benched_alone n c Idle (Ok line.Games) x s a is none some = kept_alone n c Idle x s a is none some
  benched_alone n c Idle (Ok (line.Matches game)) x s a is none some = kept_alone n c Idle x s a is none some
  benched_alone n c Idle (Ok (line.Look name)) x s a is none some = kept_alone n c Idle x s a is none some
  benched_alone n c Idle (Ok (line.Create game seats)) x s a is none some = kept_alone n c Idle x s a is none some
  benched_alone n c Idle (Ok (line.Join name player seat)) x s a is none some = kept_alone n c Idle x s a is none some
  benched_alone n c Idle (Ok (line.Rename key name player seat)) x s a is none some = kept_alone n c Idle x s a is none some
  benched_alone n c Idle (Ok (line.Leave key name seat)) x s a is none some = kept_alone n c Idle x s a is none some
  benched_alone n c Idle (Ok (line.Sync name viewer protocol)) x s a is none some = kept_alone n c Idle x s a is none some
  benched_alone n c Idle (Ok (line.Act submission)) x s a is none some = kept_alone n c Idle x s a is none some
  benched_alone n c Idle (Err fault) x s a is none some = kept_alone n c Idle x s a is none some

  -- a line whose request ends with a direct answer has left the core as it was but for the answer
  pub line_answer_alone : (n : ℕ) (c : Core X) (read : Result ClientMsg Fault) (words : List ℕ) (seed : Option (List ℕ)) (s : S) (a : Answer) → c.said ≡ None
      → (run named ask n (heard named c read words seed) s).0.said ≡ Some a → (run named ask n (heard named c read words seed) s).0 ≡ moved c (Says a)
  line_answer_alone n c read words seed s a none some = benched_alone n c c.bench read (hears named c.rooms c.at read words seed) s a refl none some

-- ---- the end of a request

-- so many more calls are enough
abbrev pub IsWithin : ℕ → ℕ → Request → Type 0
IsWithin rooms n (Creating game seats seed room) = (room < rooms) × (rooms ≤ room + n)
IsWithin rooms n (Listing game rows room) = (room < rooms) × (rooms ≤ room + n)
IsWithin rooms n other = 1 ≤ n

abbrev pub AreWithin : {X : Type 0} → ℕ → ℕ → Next X → Type 0
AreWithin rooms n (Calls room made request) = IsWithin rooms n request
AreWithin rooms n other = Unit {0}

below_is : (m n : ℕ) → nat_lt m n ≡ true → m < n
below_is m n e = grind (arith, nat_tests)

makes_within : {X : Type 0} (rooms n : ℕ) (found : Option X) (game : List ℕ) (seats : ℕ) (seed : List ℕ) (room : ℕ) → room < rooms → rooms ≤ room + n → AreWithin rooms n (makes found game seats seed room)
makes_within rooms n None game seats seed room l h = tt
makes_within rooms n (Some x) game seats seed room l h = (l, h)

lists_within : (X : Type 0) (rooms n : ℕ) (game : List ℕ) (rows : List MatchRow) (room : ℕ) → rooms ≤ room + n → AreWithin {X = X} rooms n (lists rooms game rows room)
lists_within X rooms n game rows room h = by_case (nat_lt room rooms) refl
  where
    by_case : (b : Bool) → nat_lt room rooms ≡ b → AreWithin {X = X} rooms n (if b then Calls room (call.Look None) (Listing game rows room) else Says (answer.Matches rows))
    by_case true e = (below_is room rooms e, h)
    by_case false e = tt

listing_within : (X : Type 0) (rooms n : ℕ) (game : List ℕ) (rows : List MatchRow) (room : ℕ) (told : RoomReply) → rooms ≤ room + suc n → AreWithin {X = X} rooms n (after_listing rooms game rows room told)
listing_within X rooms n game rows room told h = by_case (is_starved told)
  where
    by_case : (b : Bool) → AreWithin {X = X} rooms n (if b then Says (answer.Again None) else lists rooms game (with_row game rows told) (room + 1))
    by_case true = tt
    by_case false = lists_within X rooms n game (with_row game rows told) (room + 1) (omega (arith, h))

attach_within : (X : Type 0) (rooms n room : ℕ) (told : RoomReply) → AreWithin {X = X} rooms n (after_attach room told)
attach_within X rooms n room told = by_case (is_attached told)
  where
    by_case : (b : Bool) → AreWithin {X = X} rooms n (if b then Attaches room else Says (undone None told))
    by_case true = tt
    by_case false = tt

submit_within : (X : Type 0) (rooms n ticket : ℕ) (told : RoomReply) → AreWithin {X = X} rooms n (after_submit ticket told)
submit_within X rooms n ticket told = by_case (is_judged told)
  where
    by_case : (b : Bool) → AreWithin {X = X} rooms n (if b then Silent else Says (undone (Some ticket) told))
    by_case true = tt
    by_case false = tt

room_within : {X : Type 0} (rooms n room : ℕ) (made : RoomCall X) (request : Request) → IsWithin rooms n request → AreWithin rooms n (in_room rooms room made request)
room_within {X = X} rooms n room made request h = by_case (nat_lt room rooms)
  where
    by_case : (b : Bool) → AreWithin rooms n (if b then Calls room made request else refuses {X = X} NoMatch)
    by_case true = h
    by_case false = tt

none_within : (rooms : ℕ) (request : Request) → IsWithin rooms 0 request → ⊥
none_within rooms (Creating game seats seed room) h = omega (arith, h.0, h.1)
none_within rooms (Listing game rows room) h = omega (arith, h.0, h.1)
none_within rooms Looking h = omega (arith, h)
none_within rooms (Joining name seat key) h = omega (arith, h)
none_within rooms (Renaming name seat) h = omega (arith, h)
none_within rooms (Leaving name seat) h = omega (arith, h)
none_within rooms (Syncing room) h = omega (arith, h)
none_within rooms (Acting ticket) h = omega (arith, h)

module _ {X : Type 0} (named : List ℕ → Option X) (rooms : ℕ) where
  tries_within : (n : ℕ) (game : List ℕ) (seats : ℕ) (seed : List ℕ) (room : ℕ) → rooms ≤ room + n → AreWithin rooms n (tries named rooms game seats seed room)
  tries_within n game seats seed room h = by_case (nat_lt room rooms) refl
    where
      by_case : (b : Bool) → nat_lt room rooms ≡ b → AreWithin rooms n (if b then makes (named game) game seats seed room else refuses {X = X} Full)
      by_case true e = makes_within rooms n (named game) game seats seed room (below_is room rooms e) h
      by_case false e = tt

  next_within : (n : ℕ) (request : Request) (told : RoomReply) → IsWithin rooms (suc n) request → AreWithin rooms n (next named rooms request told)
  next_within n (Creating game seats seed room) told h = by_case (is_busy told)
    where
      by_case : (b : Bool) → AreWithin rooms n (if b then tries named rooms game seats seed (room + 1) else Says (created_by room told))
      by_case true = tries_within n game seats seed (room + 1) (omega (arith, h.1))
      by_case false = tt
  next_within n (Listing game rows room) told h = listing_within X rooms n game rows room told h.1
  next_within n Looking told h = tt
  next_within n (Joining name seat key) told h = tt
  next_within n (Renaming name seat) told h = tt
  next_within n (Leaving name seat) told h = tt
  next_within n (Syncing room) told h = attach_within X rooms n room told
  next_within n (Acting ticket) told h = submit_within X rooms n ticket told

  some_calls : 1 ≤ rooms + 1
  some_calls = omega arith

  lists_of_within : (found : Option X) (game : List ℕ) → AreWithin rooms (rooms + 1) (lists_of rooms found game)
  lists_of_within None game = tt
  lists_of_within (Some x) game = lists_within X rooms (rooms + 1) game [] 0 (omega arith)

  syncs_within : (at : Option ℕ) (room : ℕ) (made : RoomCall X) → AreWithin rooms (rooms + 1) (syncs rooms at room made)
  syncs_within None room made = room_within rooms (rooms + 1) room made (Syncing room) some_calls
  syncs_within (Some at) room made = tt

  acts_within : (at : Option ℕ) (made : RoomCall X) (ticket : ℕ) → AreWithin rooms (rooms + 1) (acts at made ticket)
  acts_within None made ticket = tt
  acts_within (Some room) made ticket = some_calls

  begins_within : (at : Option ℕ) (message : ClientMsg) (words : List ℕ) (seed : Option (List ℕ)) → AreWithin rooms (rooms + 1) (begins named rooms at message words seed)
  begins_within at line.Games words seed = tt
  begins_within at (line.Matches game) words seed = lists_of_within (named game) game
  begins_within at (line.Look name) words seed = room_within rooms (rooms + 1) name.room _ Looking some_calls
  begins_within at (line.Create game seats) words seed = tries_within (rooms + 1) game seats (seed_of seed words) 0 (omega arith)
  begins_within at (line.Join name player seat) words seed = room_within rooms (rooms + 1) name.room _ (Joining name seat (key_of words)) some_calls
  begins_within at (line.Rename key name player seat) words seed = room_within rooms (rooms + 1) name.room _ (Renaming name seat) some_calls
  begins_within at (line.Leave key name seat) words seed = room_within rooms (rooms + 1) name.room _ (Leaving name seat) some_calls
  begins_within at (line.Sync name viewer protocol) words seed = syncs_within at name.room _
  begins_within at (line.Act submission) words seed = acts_within at _ submission.ticket
  begins_within at (line.Takeover name seat) words seed = tt

  hears_within : (at : Option ℕ) (read : Result ClientMsg Fault) (words : List ℕ) (seed : Option (List ℕ)) → AreWithin rooms (rooms + 1) (hears named rooms at read words seed)
  hears_within at (Ok message) words seed = begins_within at message words seed
  hears_within at (Err fault) words seed = tt

module _ {X S : Type 0} (named : List ℕ → Option X) (ask : ℕ → RoomCall X → S → RoomReply × S) where
  pub comes_to_end : (n : ℕ) (c : Core X) (x : Next X) (s : S) → AreWithin c.rooms n x → (run named ask n (moved c x) s).0.request ≡ None
  comes_to_end zero c (Calls room made request) s h = absurd (none_within c.rooms request h)
  comes_to_end zero c (Says a) s h = refl
  comes_to_end zero c (Attaches room) s h = refl
  comes_to_end zero c Silent s h = refl
  comes_to_end (suc n) c (Says a) s h = refl
  comes_to_end (suc n) c (Attaches room) s h = refl
  comes_to_end (suc n) c Silent s h = refl
  comes_to_end (suc n) c (Calls room made request) s h =
      let told = ask room made s in
      ap (λ d. (run named ask n d told.1).0.request) (moved_over c room made request (next named c.rooms request told.0))
      ∙ comes_to_end n c (next named c.rooms request told.0) told.1 (next_within named c.rooms n request told.0 h)

  within_bench : (rooms n : ℕ) (bench : Bench) (read : Result ClientMsg Fault) (x : Next X) → AreWithin rooms n x → AreWithin rooms n (or_bench bench read x)
  within_bench rooms n Absent read x h = h
  within_bench rooms n Idle (Ok (line.Takeover name seat)) x h = tt
  within_bench rooms n Idle (Ok line.Games) x h = h
  within_bench rooms n Idle (Ok (line.Matches game)) x h = h
  within_bench rooms n Idle (Ok (line.Look name)) x h = h
  within_bench rooms n Idle (Ok (line.Create game seats)) x h = h
  within_bench rooms n Idle (Ok (line.Join name player seat)) x h = h
  within_bench rooms n Idle (Ok (line.Rename key name player seat)) x h = h
  within_bench rooms n Idle (Ok (line.Leave key name seat)) x h = h
  within_bench rooms n Idle (Ok (line.Sync name viewer protocol)) x h = h
  within_bench rooms n Idle (Ok (line.Act submission)) x h = h
  within_bench rooms n Idle (Err fault) x h = h
  within_bench rooms n (Wants name seat) read x h = h
  within_bench rooms n (Sought name seat) read x h = h

  -- whatever the line and the replies, the request is closed
  pub line_ends : (c : Core X) (read : Result ClientMsg Fault) (words : List ℕ) (seed : Option (List ℕ)) (s : S)
      → (run named ask (c.rooms + 1) (heard named c read words seed) s).0.request ≡ None
  line_ends c read words seed s =
      comes_to_end (c.rooms + 1) (record c { bench = bench_after c.bench read }) (or_bench c.bench read (hears named c.rooms c.at read words seed)) s
      (within_bench c.rooms (c.rooms + 1) c.bench read (hears named c.rooms c.at read words seed) (hears_within named c.rooms c.at read words seed))

-- ---- a create that finds every room busy

is_below : (m n k : ℕ) → n ≡ m + suc k → nat_lt m n ≡ true
is_below m n k h = grind (arith, nat_tests)

is_not_below : (m n : ℕ) → n ≡ m + 0 → nat_lt m n ≡ false
is_not_below m n h = grind (arith, nat_tests)

false_true : false ≡ true → ⊥
false_true e = cc

-- which answers are `full`
abbrev is_full : Refusal → Bool
is_full Full = true
is_full other = false

abbrev says_full : Option Answer → Bool
says_full (Some (answer.Refused why)) = is_full why
says_full other = false

busy_is : (told : RoomReply) → is_busy told ≡ true → told ≡ reply.Busy
busy_is (reply.Created serial) h = absurd (false_true h)
busy_is reply.Joined h = absurd (false_true h)
busy_is reply.Renamed h = absurd (false_true h)
busy_is reply.Left h = absurd (false_true h)
busy_is reply.Cleared h = absurd (false_true h)
busy_is (reply.Looked row) h = absurd (false_true h)
busy_is reply.Attached h = absurd (false_true h)
busy_is (reply.Verdict verdict) h = absurd (false_true h)
busy_is (reply.Taken bytes end) h = absurd (false_true h)
busy_is reply.Detached h = absurd (false_true h)
busy_is reply.Busy h = refl
busy_is reply.BadSeats h = absurd (false_true h)
busy_is reply.NoStart h = absurd (false_true h)
busy_is reply.NoMatch h = absurd (false_true h)
busy_is reply.NoSeat h = absurd (false_true h)
busy_is reply.SeatTaken h = absurd (false_true h)
busy_is reply.BadName h = absurd (false_true h)
busy_is reply.AlreadyAttached h = absurd (false_true h)
busy_is reply.Unauthorized h = absurd (false_true h)
busy_is reply.NotAttached h = absurd (false_true h)
busy_is reply.NoMemory h = absurd (false_true h)

not_full : (room : ℕ) (told : RoomReply) → is_busy told ≡ false → says_full (Some (created_by room told)) ≡ false
not_full room (reply.Created serial) h = refl
not_full room reply.Joined h = refl
not_full room reply.Renamed h = refl
not_full room reply.Left h = refl
not_full room reply.Cleared h = refl
not_full room (reply.Looked row) h = refl
not_full room reply.Attached h = refl
not_full room (reply.Verdict verdict) h = refl
not_full room (reply.Taken bytes end) h = refl
not_full room reply.Detached h = refl
not_full room reply.Busy h = h
not_full room reply.BadSeats h = refl
not_full room reply.NoStart h = refl
not_full room reply.NoMatch h = refl
not_full room reply.NoSeat h = refl
not_full room reply.SeatTaken h = refl
not_full room reply.BadName h = refl
not_full room reply.AlreadyAttached h = refl
not_full room reply.Unauthorized h = refl
not_full room reply.NotAttached h = refl
not_full room reply.NoMemory h = refl

-- an answered request stands still
still : {X : Type 0} (named : List ℕ → Option X) (c : Core X) (n : ℕ) (a : Answer) (replies : List RoomReply) → (run named reply_next n (moved c (Says a)) replies).0.said ≡ Some a
still named c zero a replies = refl
still named c (suc n) a replies = refl

module _ {X : Type 0} (named : List ℕ → Option X) (c : Core X) (game : List ℕ) (x : X) (found : named game ≡ Some x) (seats : ℕ) (seed : List ℕ) where
  -- the first call, where a room is left to ask
  asks_next : (k at : ℕ) → c.rooms ≡ at + suc k → tries named c.rooms game seats seed at ≡ Calls at (call.Create x seats seed) (Creating game seats seed at)
  asks_next k at h =
      ap (λ b. if b then makes (named game) game seats seed at else refuses Full) (is_below at c.rooms k h)
      ∙ ap (λ o. makes o game seats seed at) found

  asks_none : (at : ℕ) → c.rooms ≡ at + 0 → tries named c.rooms game seats seed at ≡ refuses Full
  asks_none at h = ap (λ b. if b then makes (named game) game seats seed at else refuses Full) (is_not_below at c.rooms h)

  pub full_where_busy : (k at : ℕ) (rest : List RoomReply) → c.rooms ≡ at + k
      → (run named reply_next k (moved c (tries named c.rooms game seats seed at)) (replicate k reply.Busy ++ rest)).0 ≡ moved c (refuses Full)
  full_where_busy zero at rest h = ap (moved c) (asks_none at h)
  full_where_busy (suc k) at rest h =
      ap (λ n. (run named reply_next (suc k) (moved c n) (reply.Busy ∷ (replicate k reply.Busy ++ rest))).0) (asks_next k at h)
      ∙ ap (λ d. (run named reply_next k d (replicate k reply.Busy ++ rest)).0) (moved_over c at (call.Create x seats seed) (Creating game seats seed at) (tries named c.rooms game seats seed (at + 1)))
      ∙ full_where_busy k (at + 1) rest (h ∙ omega arith)

  first_step : (k at : ℕ) (told : RoomReply) (replies : List RoomReply) → c.rooms ≡ at + suc k
      → (run named reply_next (suc k) (moved c (tries named c.rooms game seats seed at)) (told ∷ replies)).0
      ≡ (run named reply_next k (moved c (next named c.rooms (Creating game seats seed at) told)) replies).0
  first_step k at told replies h =
      ap (λ n. (run named reply_next (suc k) (moved c n) (told ∷ replies)).0) (asks_next k at h)
      ∙ ap (λ d. (run named reply_next k d replies).0) (moved_over c at (call.Create x seats seed) (Creating game seats seed at) (next named c.rooms (Creating game seats seed at) told))

  first_starved : (k at : ℕ) → c.rooms ≡ at + suc k
      → (run named reply_next (suc k) (moved c (tries named c.rooms game seats seed at)) []).0 ≡ (run named reply_next k (moved c (Says (answer.Again None))) []).0
  first_starved k at h =
      ap (λ n. (run named reply_next (suc k) (moved c n) []).0) (asks_next k at h)
      ∙ ap (λ d. (run named reply_next k d []).0) (moved_over c at (call.Create x seats seed) (Creating game seats seed at) (Says (answer.Again None)))

  pub only_where_busy : (k at : ℕ) (replies : List RoomReply) → c.rooms ≡ at + k
      → (run named reply_next k (moved c (tries named c.rooms game seats seed at)) replies).0.said ≡ Some (answer.Refused Full) → take k replies ≡ replicate k reply.Busy
  only_where_busy zero at replies h e = refl
  only_where_busy (suc k) at [] h e =
      absurd (false_true (ap says_full (sym (still named c k (answer.Again None) []) ∙ sym (ap (λ (d : Core X). d.said) (first_starved k at h)) ∙ e)))
  only_where_busy (suc k) at (told ∷ replies) h e = by_case (only_where_busy k (at + 1) replies (h ∙ omega arith)) (is_busy told) refl
    where
      after : Bool → Option Answer
      after b = (run named reply_next k (moved c (if b then tries named c.rooms game seats seed (at + 1) else Says (created_by at told))) replies).0.said

      stepped : after (is_busy told) ≡ Some (answer.Refused Full)
      stepped = sym (ap (λ (d : Core X). d.said) (first_step k at told replies h)) ∙ e

      by_case : ((run named reply_next k (moved c (tries named c.rooms game seats seed (at + 1))) replies).0.said ≡ Some (answer.Refused Full) → take k replies ≡ replicate k reply.Busy)
          → (b : Bool) → is_busy told ≡ b → take (suc k) (told ∷ replies) ≡ replicate (suc k) reply.Busy
      by_case later true b = ap (λ t. t ∷ take k replies) (busy_is told b) ∙ ap (λ rest. reply.Busy ∷ rest) (later (sym (ap after b) ∙ stepped))
      by_case later false b = absurd (false_true (sym (not_full at told b) ∙ ap says_full (sym (still named c k (created_by at told) replies) ∙ sym (ap after b) ∙ stepped)))

-- ---- a list

module _ {X : Type 0} (named : List ℕ → Option X) (c : Core X) (game : List ℕ) where
  pub lists_rows : (k at : ℕ) (rows : List MatchRow) (replies : List RoomReply) → c.rooms ≡ at + k → length replies ≡ k → AreServed replies
      → (run named reply_next k (moved c (lists c.rooms game rows at)) replies).0 ≡ moved c (Says (answer.Matches (rows_from game rows replies)))
  lists_rows zero at rows [] h l served = ap (λ b. moved c (if b then Calls at (call.Look None) (Listing game rows at) else Says (answer.Matches rows))) (is_not_below at c.rooms h)
  lists_rows zero at rows (told ∷ replies) h l served = absurd (omega (arith, l))
  lists_rows (suc k) at rows [] h l served = absurd (omega (arith, l))
  lists_rows (suc k) at rows (told ∷ replies) h l served =
      ap (λ b. (run named reply_next (suc k) (moved c (if b then Calls at (call.Look None) (Listing game rows at) else Says (answer.Matches rows))) (told ∷ replies)).0) (is_below at c.rooms k h)
      ∙ ap (λ d. (run named reply_next k d replies).0) (moved_over c at (call.Look None) (Listing game rows at) (after_listing c.rooms game rows at told))
      ∙ ap (λ b. (run named reply_next k (moved c (if b then Says (answer.Again None) else lists c.rooms game (with_row game rows told) (at + 1))) replies).0) served.0
      ∙ lists_rows k (at + 1) (with_row game rows told) replies (h ∙ omega arith) (omega (arith, l)) served.1
