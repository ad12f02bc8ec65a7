-- What a room may reply to each call: a match that it made has a serial; only an action has a verdict, and only a Take hands out bytes.
use Rattle.std.proofs.Common.{◌≡◌, ◌≤◌, ℕ, ◌+◌, ◌==◌, Bool, true, false, if◌then◌else◌, List, [], ◌∷◌, Option, Some, None, Result, Ok, Err, refl, sym, subst, arith}
use Rattle.game_hall.specs.Kept.{IsNamed}
use Rattle.game_sheet.specs.Viewer.{Viewer}
use Rattle.game_sheet.specs.declared.refusal.GameRule.{GameRule}
use Rattle.game_trait.specs.Rules.{Rules}
use Rattle.phase_flow.specs.Action.{begin}
use Rattle.phase_flow.specs.Reached.{Reached}
use Rattle.room_object.specs.Entry.{Entry}
use Rattle.game_hall.specs.Counts.{accepts, hands_out, refuses}
use Rattle.room_history.specs.Does.{Room, reply_to}
use Rattle.room_history.specs.Match.{Match}
use Rattle.room_history.specs.Piece.{Closed, Ended, Open, Piece, State}
use Rattle.room_history.specs.Reply.{Fate, Goes, Turned, Unheard, attached_match, created_match, fate, last_serial, looked_match, match_row, named_match, new_match, open_match, reply_by, reseated_match, roster_reply, seats_fit, submit_reply}
use Rattle.room_history.proofs.Names.{lets_in, with_roster}
use Rattle.room_history.specs.Room.{reply, room_of}
use Rattle.room_history.specs.Session.{Session, detach_reply, latest_state, latest_take_reply, session_state, stream_of, take_reply_in}
use Rattle.room_history.specs.declared.call.RoomCall.{RoomCall}
use Rattle.room_history.specs.declared.call.RoomCall.TheVariants.{Create, Join, Rename, Leave, Look, Attach, Submit, Take, Detach, Clear}
use Rattle.room_history.specs.declared.reply.RoomReply.{RoomReply}
use Rattle.room_history.specs.declared.reply.RoomReply.TheVariants as reply
use Rattle.seat_roster.specs.Player.{Seats}
use Rattle.seat_roster.specs.Roster.{join, leave, rename}
use Rattle.seat_roster.specs.declared.refusal.RosterNo.{RosterNo}
use Rattle.seat_roster.specs.declared.refusal.RosterNo.TheVariants as rule

-- it names no new match, judges no action and hands out nothing
abbrev pub IsPlainReply : RoomReply → Type 0
IsPlainReply (reply.Created serial) = ⊥
IsPlainReply (reply.Verdict verdict) = ⊥
IsPlainReply (reply.Taken bytes end) = ⊥
IsPlainReply other = Unit {0}

abbrev pub IsMaking : RoomReply → Type 0
IsMaking (reply.Created serial) = 1 ≤ serial
IsMaking other = IsPlainReply other

abbrev pub IsJudging : RoomReply → Type 0
IsJudging (reply.Verdict verdict) = Unit {0}
IsJudging other = IsPlainReply other

abbrev pub IsTaking : RoomReply → Type 0
IsTaking (reply.Taken bytes end) = Unit {0}
IsTaking other = IsPlainReply other

abbrev pub IsReplyTo : {X : Type 0} → RoomCall X → RoomReply → Type 0
IsReplyTo (Create game seats seed) told = IsMaking told
IsReplyTo (Submit s) told = IsJudging told
IsReplyTo Take told = IsTaking told
IsReplyTo other told = IsPlainReply told

-- what it is refused by is plain
abbrev IsRefused : {A : Type 0} → Result A RoomReply → Type 0
IsRefused (Ok x) = Unit {0}
IsRefused (Err why) = IsPlainReply why

by_plain : {A : Type 0} (said : A → RoomReply) → ((x : A) → IsPlainReply (said x)) → (r : Result A RoomReply) → IsRefused r → IsPlainReply (reply_by said r)
by_plain said all (Ok x) h = all x
by_plain said all (Err why) h = h

if_refused : {A : Type 0} (b : Bool) (x y : Result A RoomReply) → IsRefused x → IsRefused y → IsRefused (if b then x else y)
if_refused true x y h k = h
if_refused false x y h k = k

roster_plain : (why : RosterNo) → IsPlainReply (roster_reply why)
roster_plain rule.NoSeat = tt
roster_plain rule.SeatTaken = tt
roster_plain rule.BadName = tt
roster_plain rule.Unauthorized = tt

module _ {X G : Type 0} where
  named_refused : (standing : Option (Match X G)) (serial : ℕ) → IsRefused (named_match standing serial)
  named_refused None serial = tt
  named_refused (Some m) serial = if_refused (m.serial == serial) (Ok m) (Err reply.NoMatch) tt tt

  looked_refused : (standing : Option (Match X G)) (serial : Option ℕ) → IsRefused (looked_match standing serial)
  looked_refused None serial = tt
  looked_refused (Some m) None = tt
  looked_refused (Some m) (Some serial) = named_refused (Some m) serial

  roster_refused : (m : Match X G) (found : Result Seats RosterNo) → IsRefused (with_roster m found)
  roster_refused m (Ok seats) = tt
  roster_refused m (Err why) = roster_plain why

  reseated_refused : (found : Result (Match X G) RoomReply) (change : Seats → Result Seats RosterNo) → IsRefused found → IsRefused (reseated_match found change)
  reseated_refused (Ok m) change h = roster_refused m (change m.roster)
  reseated_refused (Err why) change h = h

  open_refused : (viewer : Viewer) (found : Result (Match X G) RoomReply) → IsRefused found → IsRefused (open_match viewer found)
  open_refused viewer (Ok m) h = if_refused (lets_in m.roster viewer) (Ok m) (Err reply.Unauthorized) tt tt
  open_refused viewer (Err why) h = h

  attached_refused : (standing : Option (Match X G)) (state : State) (serial : ℕ) (viewer : Viewer) → IsRefused (attached_match standing state serial viewer)
  attached_refused standing Open serial viewer = tt
  attached_refused standing (Ended why) serial viewer = tt
  attached_refused standing Closed serial viewer = open_refused viewer (named_match standing serial) (named_refused standing serial)

  submit_judging : (f : Fate X G) → IsJudging (submit_reply f)
  submit_judging Unheard = tt
  submit_judging (Turned n reason) = tt
  submit_judging (Goes m) = tt

  abbrev created : Result (Match X G) RoomReply → RoomReply
  created = reply_by (λ (m : Match X G). reply.Created m.serial)

  if_created : (b : Bool) (x y : Result (Match X G) RoomReply) → IsMaking (created x) → IsMaking (created y) → IsMaking (created (if b then x else y))
  if_created true x y h k = h
  if_created false x y h k = k

take_taking : (state : State) (pieces : List Piece) → IsTaking (take_reply_in state pieces)
take_taking Open pieces = tt
take_taking (Ended why) pieces = tt
take_taking Closed pieces = tt

latest_taking : (sessions : List Session) → IsTaking (latest_take_reply sessions)
latest_taking [] = tt
latest_taking (s ∷ before) = take_taking (session_state s) (stream_of s)

detach_plain : (state : State) → IsPlainReply (detach_reply state)
detach_plain Open = tt
detach_plain (Ended why) = tt
detach_plain Closed = tt

module _ {X G : Type 0} (rules : X → Rules G) where
  new_making : (serials : ℕ) (game : X) (seats : ℕ) (seed : List ℕ) (first : Result (Reached G) GameRule) → IsMaking (created (new_match rules (serials + 1) game seats seed first))
  new_making serials game seats seed (Ok first) = omega arith
  new_making serials game seats seed (Err why) = tt

  created_making : (serials : ℕ) (standing : Option (Match X G)) (game : X) (seats : ℕ) (seed : List ℕ) → IsMaking (created (created_match rules serials standing game seats seed))
  created_making serials (Some m) game seats seed = tt
  created_making serials None game seats seed =
      let first = begin (rules game) seats seed in
      if_created (serials == last_serial) (Err reply.Busy) (if seats_fit (rules game).sheet seats then new_match rules (serials + 1) game seats seed first else Err reply.BadSeats) tt
      (if_created (seats_fit (rules game).sheet seats) (new_match rules (serials + 1) game seats seed first) (Err reply.BadSeats) (new_making serials game seats seed first) tt)

-- want of memory is told to any call
starved_by : {X : Type 0} (call : RoomCall X) (b : Bool) (told : RoomReply) → IsReplyTo call told → IsReplyTo call (if b then reply.NoMemory else told)
starved_by call false told h = h
starved_by (Create game seats seed) true told h = tt
starved_by (Join serial seat name key) true told h = tt
starved_by (Rename serial seat key name) true told h = tt
starved_by (Leave serial seat key) true told h = tt
starved_by (Clear serial) true told h = tt
starved_by (Look serial) true told h = tt
starved_by (Attach serial viewer protocol) true told h = tt
starved_by (Submit s) true told h = tt
starved_by Take true told h = tt
starved_by Detach true told h = tt

module _ {X G : Type 0} (rules : X → Rules G) (room : ℕ) where
  call_replied : (r : Room X G) (pass : ℕ) (call : RoomCall X) → IsReplyTo call (reply_to rules room r pass call)
  call_replied r pass (Create game seats seed) = created_making rules r.serials r.standing game seats seed
  call_replied r pass (Join serial seat name key) =
      by_plain (λ (m : Match X G). reply.Joined) (λ m. tt) _ (reseated_refused (named_match r.standing serial) (λ roster. join roster seat name key) (named_refused r.standing serial))
  call_replied r pass (Rename serial seat key name) =
      by_plain (λ (m : Match X G). reply.Renamed) (λ m. tt) _ (reseated_refused (named_match r.standing serial) (λ roster. rename roster seat key name) (named_refused r.standing serial))
  call_replied r pass (Clear serial) = by_plain (λ (m : Match X G). reply.Cleared) (λ m. tt) _ (named_refused r.standing serial)
  call_replied r pass (Leave serial seat key) =
      by_plain (λ (m : Match X G). reply.Left) (λ m. tt) _ (reseated_refused (named_match r.standing serial) (λ roster. leave roster seat key) (named_refused r.standing serial))
  call_replied r pass (Look serial) = by_plain (λ (m : Match X G). reply.Looked (match_row rules room m)) (λ m. tt) _ (looked_refused r.standing serial)
  call_replied r pass (Attach serial viewer protocol) =
      by_plain (λ (m : Match X G). reply.Attached) (λ m. tt) _ (attached_refused r.standing (latest_state (r.sessions pass)) serial viewer)
  call_replied r pass (Submit s) = submit_judging (fate rules room r.standing (r.sessions pass) s)
  call_replied r pass Take = latest_taking (r.sessions pass)
  call_replied r pass Detach = detach_plain (latest_state (r.sessions pass))

  pub is_reply : (h : List (Entry (RoomCall X))) (e : Entry (RoomCall X)) → IsReplyTo e.call (reply rules room h e)
  unfolding reply
  is_reply h e = starved_by e.call e.starved (reply_to rules room (room_of rules room h) e.pass e.call) (call_replied (room_of rules room h) e.pass e.call)

-- ---- what follows of a reply by itself

plain_named : (told : RoomReply) → IsPlainReply told → IsNamed told
plain_named (reply.Created serial) h = absurd h
plain_named other h = tt

making_named : (told : RoomReply) → IsMaking told → IsNamed told
making_named (reply.Created serial) h = h
making_named other h = tt

judging_named : (told : RoomReply) → IsJudging told → IsNamed told
judging_named (reply.Created serial) h = absurd h
judging_named other h = tt

taking_named : (told : RoomReply) → IsTaking told → IsNamed told
taking_named (reply.Created serial) h = absurd h
taking_named other h = tt

reply_named : {X : Type 0} (call : RoomCall X) (told : RoomReply) → IsReplyTo call told → IsNamed told
reply_named (Create game seats seed) told h = making_named told h
reply_named (Submit s) told h = judging_named told h
reply_named Take told h = taking_named told h
reply_named (Join serial seat name key) told h = plain_named told h
reply_named (Rename serial seat key name) told h = plain_named told h
reply_named (Leave serial seat key) told h = plain_named told h
reply_named (Clear serial) told h = plain_named told h
reply_named (Look serial) told h = plain_named told h
reply_named (Attach serial viewer protocol) told h = plain_named told h
reply_named Detach told h = plain_named told h

pub named_by : {X G : Type 0} (rules : X → Rules G) (room : ℕ) (h : List (Entry (RoomCall X))) (e : Entry (RoomCall X)) (told : RoomReply) → told ≡ reply rules room h e → IsNamed told
named_by rules room h e told is = subst IsNamed (sym is) (reply_named e.call (reply rules room h e) (is_reply rules room h e))

-- only an action has a verdict
plain_unjudged : (told : RoomReply) → IsPlainReply told → (accepts told ≡ 0) × (refuses told ≡ 0)
plain_unjudged (reply.Verdict verdict) h = absurd h
plain_unjudged other h = (refl, refl)

making_unjudged : (told : RoomReply) → IsMaking told → (accepts told ≡ 0) × (refuses told ≡ 0)
making_unjudged (reply.Verdict verdict) h = absurd h
making_unjudged other h = (refl, refl)

taking_unjudged : (told : RoomReply) → IsTaking told → (accepts told ≡ 0) × (refuses told ≡ 0)
taking_unjudged (reply.Verdict verdict) h = absurd h
taking_unjudged other h = (refl, refl)

abbrev pub IsNoAction : {X : Type 0} → RoomCall X → Type 0
IsNoAction (Submit s) = ⊥
IsNoAction other = Unit {0}

pub unjudged : {X : Type 0} (call : RoomCall X) (told : RoomReply) → IsNoAction call → IsReplyTo call told → (accepts told ≡ 0) × (refuses told ≡ 0)
unjudged (Create game seats seed) told n h = making_unjudged told h
unjudged (Submit s) told n h = absurd n
unjudged Take told n h = taking_unjudged told h
unjudged (Join serial seat name key) told n h = plain_unjudged told h
unjudged (Rename serial seat key name) told n h = plain_unjudged told h
unjudged (Leave serial seat key) told n h = plain_unjudged told h
unjudged (Clear serial) told n h = plain_unjudged told h
unjudged (Look serial) told n h = plain_unjudged told h
unjudged (Attach serial viewer protocol) told n h = plain_unjudged told h
unjudged Detach told n h = plain_unjudged told h

-- and only a Take hands out bytes
plain_keeps : (told : RoomReply) → IsPlainReply told → hands_out told ≡ 0
plain_keeps (reply.Taken bytes end) h = absurd h
plain_keeps other h = refl

making_keeps : (told : RoomReply) → IsMaking told → hands_out told ≡ 0
making_keeps (reply.Taken bytes end) h = absurd h
making_keeps other h = refl

judging_keeps : (told : RoomReply) → IsJudging told → hands_out told ≡ 0
judging_keeps (reply.Taken bytes end) h = absurd h
judging_keeps other h = refl

abbrev pub IsNoTake : {X : Type 0} → RoomCall X → Type 0
IsNoTake Take = ⊥
IsNoTake other = Unit {0}

pub keeps_bytes : {X : Type 0} (call : RoomCall X) (told : RoomReply) → IsNoTake call → IsReplyTo call told → hands_out told ≡ 0
keeps_bytes (Create game seats seed) told n h = making_keeps told h
keeps_bytes (Submit s) told n h = judging_keeps told h
keeps_bytes Take told n h = absurd n
keeps_bytes (Join serial seat name key) told n h = plain_keeps told h
keeps_bytes (Rename serial seat key name) told n h = plain_keeps told h
keeps_bytes (Leave serial seat key) told n h = plain_keeps told h
keeps_bytes (Clear serial) told n h = plain_keeps told h
keeps_bytes (Look serial) told n h = plain_keeps told h
keeps_bytes (Attach serial viewer protocol) told n h = plain_keeps told h
keeps_bytes Detach told n h = plain_keeps told h
