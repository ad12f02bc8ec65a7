-- A call is of a room that is there, and so is each room that its request speaks of.
use Rattle.std.proofs.Common.{◌≡◌, ◌<◌, ℕ, ◌+◌, Bool, true, false, nat_lt, if◌then◌else◌, List, [], Option, Some, None, Result, Ok, Err, IfSome, IsSome, refl, ap, ◌∙◌, arith}
use Rattle.std.proofs.lemmas.Bool.Decides.{nat_tests}
use Rattle.wire_json.specs.RefusalText.{refusal_of}
use Rattle.wire_json.specs.Refusals.{Refusal as Fault, Refuses, Line, UnknownMessage, ExtraField, Field}
use Rattle.wire_json.specs.declared.wire_no.WireNo.{WireNo}
use Rattle.wire_json.specs.declared.wire_no.WireNo.TheVariants as no
use Rattle.wire_json.specs.declared.match_row.MatchRow.{MatchRow}
use Rattle.wire_json.specs.declared.refusal.Refusal.TheVariants.{Full, NoMatch}
use Rattle.room_history.specs.declared.call.RoomCall.{RoomCall}
use Rattle.room_history.specs.declared.call.RoomCall.TheVariants as call
use Rattle.wire_json.specs.declared.client.ClientMsg.{ClientMsg}
use Rattle.wire_json.specs.declared.client.ClientMsg.TheVariants as line
use Rattle.room_history.specs.declared.reply.RoomReply.{RoomReply}
use Rattle.game_hall.specs.Bench.{or_bench}
use Rattle.game_hall.specs.declared.bench.Bench.{Bench}
use Rattle.game_hall.specs.declared.bench.Bench.TheVariants.{Absent, Idle, Wants, Sought}
use Rattle.game_hall.specs.Kept.{NextIn, RequestIn}
use Rattle.game_hall.specs.Requests.{acts, after_attach, after_listing, after_submit, begins, created_by, in_room, is_attached, is_busy, is_judged, is_starved, lists, lists_of, makes, next, refuses, syncs, tries, undone, with_row}
use Rattle.game_hall.specs.Words.{seed_of}
use Rattle.game_hall.specs.declared.answer.Answer.{Answer}
use Rattle.game_hall.specs.declared.answer.Answer.TheVariants as answer
use Rattle.game_hall.specs.declared.next.Next.{Next}
use Rattle.game_hall.specs.declared.next.Next.TheVariants.{Calls, Says, Attaches, Silent}
use Rattle.game_hall.specs.declared.request.Request.{Request}
use Rattle.game_hall.specs.declared.request.Request.TheVariants.{Creating, Listing, Looking, Joining, Renaming, Leaving, Syncing, Acting}

below_is : (m n : ℕ) → nat_lt m n ≡ true → m < n
below_is m n e = grind (arith, nat_tests)

-- a call that is made only where its room is there
if_in : {X : Type 0} (rooms room : ℕ) (b : Bool) (asked : RoomCall X) (request : Request) (why : Answer) → (b ≡ true → (room < rooms) × RequestIn rooms request)
    → NextIn rooms (if b then Calls room asked request else Says why)
if_in rooms room true asked request why h = h refl
if_in rooms room false asked request why h = tt

makes_in : {X : Type 0} (rooms : ℕ) (found : Option X) (game : List ℕ) (seats : ℕ) (seed : List ℕ) (room : ℕ) → room < rooms → NextIn rooms (makes found game seats seed room)
makes_in rooms None game seats seed room h = tt
makes_in rooms (Some x) game seats seed room h = (h, h)

in_room_in : {X : Type 0} (rooms room : ℕ) (asked : RoomCall X) (request : Request) → (room < rooms → RequestIn rooms request) → NextIn rooms (in_room rooms room asked request)
in_room_in rooms room asked request h = if_in rooms room (nat_lt room rooms) asked request (answer.Refused NoMatch) (λ e. let there = below_is room rooms e in (there, h there))

lists_in : (X : Type 0) (rooms : ℕ) (game : List ℕ) (rows : List MatchRow) (room : ℕ) → NextIn {X = X} rooms (lists rooms game rows room)
lists_in X rooms game rows room = if_in {X = X} rooms room (nat_lt room rooms) (call.Look None) (Listing game rows room) (answer.Matches rows) (λ e. let there = below_is room rooms e in (there, there))

lists_of_in : {X : Type 0} (rooms : ℕ) (found : Option X) (game : List ℕ) → NextIn rooms (lists_of rooms found game)
lists_of_in rooms None game = tt
lists_of_in {X = X} rooms (Some x) game = lists_in X rooms game [] 0

after_listing_in : (X : Type 0) (rooms : ℕ) (game : List ℕ) (rows : List MatchRow) (room : ℕ) (told : RoomReply) → NextIn {X = X} rooms (after_listing rooms game rows room told)
after_listing_in X rooms game rows room told = by_case (is_starved told)
  where
    by_case : (b : Bool) → NextIn {X = X} rooms (if b then Says (answer.Again None) else lists rooms game (with_row game rows told) (room + 1))
    by_case true = tt
    by_case false = lists_in X rooms game (with_row game rows told) (room + 1)

attach_in : (X : Type 0) (rooms room : ℕ) (told : RoomReply) → room < rooms → NextIn {X = X} rooms (after_attach room told)
attach_in X rooms room told h = by_case (is_attached told)
  where
    by_case : (b : Bool) → NextIn {X = X} rooms (if b then Attaches room else Says (undone None told))
    by_case true = h
    by_case false = tt

submit_in : (X : Type 0) (rooms ticket : ℕ) (told : RoomReply) → NextIn {X = X} rooms (after_submit ticket told)
submit_in X rooms ticket told = by_case (is_judged told)
  where
    by_case : (b : Bool) → NextIn {X = X} rooms (if b then Silent else Says (undone (Some ticket) told))
    by_case true = tt
    by_case false = tt

syncs_in : {X : Type 0} (rooms : ℕ) (at : Option ℕ) (room : ℕ) (asked : RoomCall X) → NextIn rooms (syncs rooms at room asked)
syncs_in rooms None room asked = in_room_in rooms room asked (Syncing room) (λ there. there)
syncs_in rooms (Some at) room asked = tt

acts_in : {X : Type 0} (rooms : ℕ) (at : Option ℕ) (asked : RoomCall X) (ticket : ℕ) → IfSome at (λ room. room < rooms) → NextIn rooms (acts at asked ticket)
acts_in rooms None asked ticket h = tt
acts_in rooms (Some room) asked ticket h = (h, tt)

module _ {X : Type 0} (named : List ℕ → Option X) (rooms : ℕ) where
  tries_in : (game : List ℕ) (seats : ℕ) (seed : List ℕ) (room : ℕ) → NextIn rooms (tries named rooms game seats seed room)
  tries_in game seats seed room = by_case (nat_lt room rooms) refl
    where
      by_case : (b : Bool) → nat_lt room rooms ≡ b → NextIn rooms (if b then makes (named game) game seats seed room else refuses {X = X} Full)
      by_case true e = makes_in rooms (named game) game seats seed room (below_is room rooms e)
      by_case false e = tt

  -- what a reply comes to
  pub next_in : (request : Request) (told : RoomReply) → RequestIn rooms request → NextIn rooms (next named rooms request told)
  next_in (Creating game seats seed room) told h = by_case (is_busy told)
    where
      by_case : (b : Bool) → NextIn rooms (if b then tries named rooms game seats seed (room + 1) else Says (created_by room told))
      by_case true = tries_in game seats seed (room + 1)
      by_case false = tt
  next_in (Listing game rows room) told h = after_listing_in X rooms game rows room told
  next_in Looking told h = tt
  next_in (Joining name seat key) told h = tt
  next_in (Renaming name seat) told h = tt
  next_in (Leaving name seat) told h = tt
  next_in (Syncing room) told h = attach_in X rooms room told h
  next_in (Acting ticket) told h = submit_in X rooms ticket told

  -- what a message comes to
  pub begins_in : (at : Option ℕ) (message : ClientMsg) (words : List ℕ) (seed : Option (List ℕ)) → IfSome at (λ room. room < rooms) → NextIn rooms (begins named rooms at message words seed)
  begins_in at line.Games words seed h = tt
  begins_in at (line.Matches game) words seed h = lists_of_in rooms (named game) game
  begins_in at (line.Look name) words seed h = in_room_in rooms name.room _ Looking (λ there. tt)
  begins_in at (line.Create game seats) words seed h = tries_in game seats (seed_of seed words) 0
  begins_in at (line.Join name player seat) words seed h = in_room_in rooms name.room _ _ (λ there. tt)
  begins_in at (line.Rename key name player seat) words seed h = in_room_in rooms name.room _ (Renaming name seat) (λ there. tt)
  begins_in at (line.Leave key name seat) words seed h = in_room_in rooms name.room _ (Leaving name seat) (λ there. tt)
  begins_in at (line.Sync name viewer protocol) words seed h = syncs_in rooms at name.room _
  begins_in at (line.Act submission) words seed h = acts_in rooms at _ submission.ticket h
  begins_in at (line.Takeover name seat) words seed h = tt

false_true : false ≡ true → ⊥
false_true e = cc

-- a line that is no message is put to no bench
no_message_benched : {X : Type 0} (bench : Bench) (fault : Fault) (n : Next X) → or_bench bench (Err fault) n ≡ n
no_message_benched Absent fault n = refl
no_message_benched Idle fault n = refl
no_message_benched (Wants name seat) fault n = refl
no_message_benched (Sought name seat) fault n = refl

pub unread_is : {X : Type 0} (fault : WireNo) (read : Result ClientMsg Fault) (bench : Bench) (n : Next X) → Refuses fault read → IsSome (refusal_of fault)
    → or_bench bench read n ≡ n
unread_is (no.Line fault) read bench n e some = ap (λ r. or_bench bench r n) e ∙ no_message_benched bench (Line fault) n
unread_is no.UnknownMessage read bench n e some = ap (λ r. or_bench bench r n) e ∙ no_message_benched bench UnknownMessage n
unread_is no.ExtraField read bench n e some = ap (λ r. or_bench bench r n) e ∙ no_message_benched bench ExtraField n
unread_is (no.Field name fault) read bench n e some = ap (λ r. or_bench bench r n) e ∙ no_message_benched bench (Field name.now fault) n
unread_is no.NoMemory read bench n e some = absurd (false_true some)

-- what waits for the bench speaks of no room
pub benched_in : {X : Type 0} (rooms : ℕ) (bench : Bench) (message : ClientMsg) (n : Next X) → NextIn rooms n → NextIn rooms (or_bench bench (Ok message) n)
benched_in rooms Absent message n h = h
benched_in rooms Idle (line.Takeover name seat) n h = tt
benched_in rooms Idle line.Games n h = h
benched_in rooms Idle (line.Matches game) n h = h
benched_in rooms Idle (line.Look name) n h = h
benched_in rooms Idle (line.Create game seats) n h = h
benched_in rooms Idle (line.Join name player seat) n h = h
benched_in rooms Idle (line.Rename key name player seat) n h = h
benched_in rooms Idle (line.Leave key name seat) n h = h
benched_in rooms Idle (line.Sync name viewer protocol) n h = h
benched_in rooms Idle (line.Act submission) n h = h
benched_in rooms (Wants name seat) message n h = h
benched_in rooms (Sought name seat) message n h = h
