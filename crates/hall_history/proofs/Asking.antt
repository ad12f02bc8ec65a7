-- What the calls of a session's requests are: each takes nothing and frees nobody, and only a sync attaches.
use Rattle.std.proofs.Common.{◌≡◌, ◌<◌, ℕ, ◌+◌, Bool, true, false, nat_lt, if◌then◌else◌, List, [], Option, Some, None, Result, Ok, Err, refl, sym, subst, arith}
use Rattle.std.proofs.lemmas.Bool.Decides.{nat_tests}
use Rattle.wire_json.specs.Refusals.{Refusal as Fault}
use Rattle.wire_json.specs.declared.client.ClientMsg.{ClientMsg}
use Rattle.wire_json.specs.declared.client.ClientMsg.TheVariants as line
use Rattle.wire_json.specs.declared.match_row.MatchRow.{MatchRow}
use Rattle.wire_json.specs.declared.refusal.Refusal.TheVariants.{Full, NoMatch}
use Rattle.room_history.specs.declared.call.RoomCall.{RoomCall}
use Rattle.room_history.specs.declared.call.RoomCall.TheVariants as call
use Rattle.room_history.specs.declared.reply.RoomReply.{RoomReply}
use Rattle.game_sheet.specs.Viewer.{Viewer}
use Rattle.wire_json.specs.declared.protocol.Protocol.{Protocol}
use Rattle.game_hall.specs.Core.{Core, moved}
use Rattle.game_hall.specs.Requests.{acts, after_attach, begins, created_by, hears, in_room, is_attached, is_busy, is_judged, is_starved, lists, lists_of, makes, next, refuses, syncs, tries, undone, with_row}
use Rattle.game_hall.specs.Words.{key_of, seed_of}
use Rattle.game_hall.specs.declared.answer.Answer.TheVariants as answer
use Rattle.game_hall.specs.declared.next.Next.{Next}
use Rattle.game_hall.specs.declared.next.Next.TheVariants.{Calls, Says, Attaches, Silent}
use Rattle.game_hall.specs.declared.request.Request.{Request}
use Rattle.game_hall.specs.declared.request.Request.TheVariants.{Creating, Listing, Looking, Joining, Renaming, Leaving, Syncing, Acting}
use Rattle.hall_history.specs.Adding.{IsAsking, IsPlain}

abbrev pub Attaching : {X : Type 0} → RoomCall X → Type 0
Attaching made = (serial : ℕ) × (viewer : Viewer) × (protocol : Protocol) × (made ≡ call.Attach serial viewer protocol)

-- a sync's call attaches in a room that is there, and another call attaches and frees nobody
abbrev pub CallFits : {X : Type 0} → ℕ → Option ℕ → ℕ → RoomCall X → Request → Type 0
CallFits rooms at room made (Syncing asked) = Attaching made × (room ≡ asked) × (room < rooms) × (at ≡ None)
CallFits rooms at room made request = IsPlain made

abbrev pub NextFits : {X : Type 0} → ℕ → Option ℕ → Next X → Type 0
NextFits rooms at (Calls room made request) = CallFits rooms at room made request
NextFits rooms at next = Unit {0}

-- it leaves the session where it is
abbrev pub Stays : {X : Type 0} → ℕ → Option ℕ → Next X → Type 0
Stays rooms at (Attaches room) = ⊥
Stays rooms at next = NextFits rooms at next

pub stays_fits : {X : Type 0} (rooms : ℕ) (at : Option ℕ) (x : Next X) → Stays rooms at x → NextFits rooms at x
stays_fits rooms at (Calls room made request) h = h
stays_fits rooms at (Says a) h = tt
stays_fits rooms at (Attaches room) h = tt
stays_fits rooms at Silent h = tt

pub stays_at : {X : Type 0} (rooms : ℕ) (at : Option ℕ) (c : Core X) (x : Next X) → Stays rooms at x → (moved c x).at ≡ c.at
stays_at rooms at c (Calls room made request) h = refl
stays_at rooms at c (Says a) h = refl
stays_at rooms at c (Attaches room) h = absurd h
stays_at rooms at c Silent h = refl

below_is : (m n : ℕ) → nat_lt m n ≡ true → m < n
below_is m n e = grind (arith, nat_tests)

pub plain_asks : {X : Type 0} (made : RoomCall X) → IsPlain made → IsAsking made
plain_asks (call.Create game seats seed) h = tt
plain_asks (call.Join serial seat name key) h = tt
plain_asks (call.Rename serial seat key name) h = tt
plain_asks (call.Leave serial seat key) h = tt
plain_asks (call.Clear serial) h = absurd h
plain_asks (call.Look serial) h = tt
plain_asks (call.Attach serial viewer protocol) h = tt
plain_asks (call.Submit s) h = tt
plain_asks call.Take h = absurd h
plain_asks call.Detach h = absurd h

attaching_asks : {X : Type 0} (made : RoomCall X) → Attaching made → IsAsking made
attaching_asks made h = subst (λ x. IsAsking x) (sym h.3) tt

pub call_asks : {X : Type 0} (rooms : ℕ) (at : Option ℕ) (room : ℕ) (made : RoomCall X) (request : Request) → CallFits rooms at room made request → IsAsking made
call_asks rooms at room made (Creating game seats seed r) h = plain_asks made h
call_asks rooms at room made (Listing game rows r) h = plain_asks made h
call_asks rooms at room made Looking h = plain_asks made h
call_asks rooms at room made (Joining name seat key) h = plain_asks made h
call_asks rooms at room made (Renaming name seat) h = plain_asks made h
call_asks rooms at room made (Leaving name seat) h = plain_asks made h
call_asks rooms at room made (Syncing r) h = attaching_asks made h.0
call_asks rooms at room made (Acting ticket) h = plain_asks made h

module _ {X : Type 0} (rooms : ℕ) (at : Option ℕ) where
  if_stays : (b : Bool) (x y : Next X) → Stays rooms at x → Stays rooms at y → Stays rooms at (if b then x else y)
  if_stays true x y h k = h
  if_stays false x y h k = k

  makes_stays : (found : Option X) (game : List ℕ) (seats : ℕ) (seed : List ℕ) (room : ℕ) → Stays rooms at (makes found game seats seed room)
  makes_stays None game seats seed room = tt
  makes_stays (Some x) game seats seed room = tt

  room_stays : (n room : ℕ) (made : RoomCall X) (request : Request) → CallFits rooms at room made request → Stays rooms at (in_room n room made request)
  room_stays n room made request h = if_stays (nat_lt room n) (Calls room made request) (refuses NoMatch) h tt

  sync_stays : (room : ℕ) (made : RoomCall X) → Attaching made → at ≡ None → Stays rooms at (in_room rooms room made (Syncing room))
  sync_stays room made h none = by (nat_lt room rooms) refl
    where
      by : (b : Bool) → nat_lt room rooms ≡ b → Stays rooms at (if b then Calls room made (Syncing room) else refuses {X = X} NoMatch)
      by true e = (h, refl, below_is room rooms e, none)
      by false e = tt

lists_stays : (X : Type 0) (rooms : ℕ) (at : Option ℕ) (n : ℕ) (game : List ℕ) (rows : List MatchRow) (room : ℕ) → Stays {X = X} rooms at (lists n game rows room)
lists_stays X rooms at n game rows room = if_stays {X = X} rooms at (nat_lt room n) (Calls room (call.Look None) (Listing game rows room)) (Says (answer.Matches rows)) tt tt

module _ {X : Type 0} (rooms : ℕ) (at : Option ℕ) where
  lists_of_stays : (n : ℕ) (found : Option X) (game : List ℕ) → Stays rooms at (lists_of n found game)
  lists_of_stays n None game = tt
  lists_of_stays n (Some x) game = lists_stays X rooms at n game [] 0

syncs_stays : {X : Type 0} (rooms : ℕ) (at : Option ℕ) (room : ℕ) (made : RoomCall X) → Attaching made → Stays rooms at (syncs rooms at room made)
syncs_stays rooms None room made h = sync_stays rooms None room made h refl
syncs_stays rooms (Some r) room made h = tt

acts_stays : {X : Type 0} (rooms : ℕ) (at : Option ℕ) (made : RoomCall X) (ticket : ℕ) → IsPlain made → Stays rooms at (acts at made ticket)
acts_stays rooms None made ticket h = tt
acts_stays rooms (Some room) made ticket h = h

module _ {X : Type 0} (named : List ℕ → Option X) (rooms : ℕ) (at : Option ℕ) where
  pub tries_stays : (game : List ℕ) (seats : ℕ) (seed : List ℕ) (room : ℕ) → Stays rooms at (tries named rooms game seats seed room)
  tries_stays game seats seed room =
      if_stays rooms at (nat_lt room rooms) (makes (named game) game seats seed room) (refuses Full) (makes_stays rooms at (named game) game seats seed room) tt

  begins_stays : (message : ClientMsg) (words : List ℕ) (seed : Option (List ℕ)) → Stays rooms at (begins named rooms at message words seed)
  begins_stays line.Games words seed = tt
  begins_stays (line.Matches game) words seed = lists_of_stays rooms at rooms (named game) game
  begins_stays (line.Look name) words seed = room_stays rooms at rooms name.room _ Looking tt
  begins_stays (line.Create game seats) words seed = tries_stays game seats (seed_of seed words) 0
  begins_stays (line.Join name player seat) words seed = room_stays rooms at rooms name.room _ (Joining name seat (key_of words)) tt
  begins_stays (line.Rename key name player seat) words seed = room_stays rooms at rooms name.room _ (Renaming name seat) tt
  begins_stays (line.Leave key name seat) words seed = room_stays rooms at rooms name.room _ (Leaving name seat) tt
  begins_stays (line.Sync name viewer protocol) words seed = syncs_stays rooms at name.room _ (name.serial, viewer, protocol, refl)
  begins_stays (line.Act submission) words seed = acts_stays rooms at _ submission.ticket tt
  begins_stays (line.Takeover name seat) words seed = tt

  pub hears_stays : (read : Result ClientMsg Fault) (words : List ℕ) (seed : Option (List ℕ)) → Stays rooms at (hears named rooms at read words seed)
  hears_stays (Ok message) words seed = begins_stays message words seed
  hears_stays (Err fault) words seed = tt

  -- what a reply makes of a request that is no sync
  abbrev pub IsNoSync : Request → Type 0
  IsNoSync (Syncing room) = ⊥
  IsNoSync request = Unit {0}

  pub next_stays : (request : Request) (told : RoomReply) → IsNoSync request → Stays rooms at (next named rooms request told)
  next_stays (Creating game seats seed room) told h =
      if_stays rooms at (is_busy told) (tries named rooms game seats seed (room + 1)) (Says (created_by room told)) (tries_stays game seats seed (room + 1)) tt
  next_stays (Listing game rows room) told h =
      if_stays rooms at (is_starved told) (Says (answer.Again None)) (lists rooms game (with_row game rows told) (room + 1)) tt (lists_stays X rooms at rooms game (with_row game rows told) (room + 1))
  next_stays Looking told h = tt
  next_stays (Joining name seat key) told h = tt
  next_stays (Renaming name seat) told h = tt
  next_stays (Leaving name seat) told h = tt
  next_stays (Syncing room) told h = absurd h
  next_stays (Acting ticket) told h = if_stays rooms at (is_judged told) Silent (Says (undone (Some ticket) told)) tt tt

  attach_fits : (room : ℕ) (told : RoomReply) → NextFits {X = X} rooms at (after_attach room told)
  attach_fits room told = by (is_attached told)
    where
      by : (b : Bool) → NextFits {X = X} rooms at (if b then Attaches room else Says (undone None told))
      by true = tt
      by false = tt

  pub next_fits : (request : Request) (told : RoomReply) → NextFits rooms at (next named rooms request told)
  next_fits (Creating game seats seed room) told = stays_fits rooms at _ (next_stays (Creating game seats seed room) told tt)
  next_fits (Listing game rows room) told = stays_fits rooms at _ (next_stays (Listing game rows room) told tt)
  next_fits Looking told = tt
  next_fits (Joining name seat key) told = tt
  next_fits (Renaming name seat) told = tt
  next_fits (Leaving name seat) told = tt
  next_fits (Syncing room) told = attach_fits room told
  next_fits (Acting ticket) told = stays_fits rooms at _ (next_stays (Acting ticket) told tt)
