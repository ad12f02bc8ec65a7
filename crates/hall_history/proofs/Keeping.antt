-- A request that is answered `again` has changed no room, however many calls it made.
use Rattle.std.proofs.Common.{◌≡◌, ◌⊎◌, inl, inr, ℕ, zero, suc, ◌+◌, Bool, true, false, if◌then◌else◌, nat_lt, List, [], ◌∷◌, length, Option, Some, None, Result, Ok, Err, refl, sym, ap, ◌∙◌, subst}
use Rattle.game_sheet.specs.Viewer.{Viewer}
use Rattle.game_trait.specs.Rules.{Rules}
use Rattle.room_object.specs.Entry.{Entry, entry}
use Rattle.room_history.proofs.Others.{want_keeps_all}
use Rattle.room_history.specs.Does.{Room, reply_to, room_after, with_cleared, with_left_seat, with_match, with_new_match, with_session}
use Rattle.room_history.specs.Match.{Match}
use Rattle.room_history.specs.Others.{KeepsAll}
use Rattle.room_history.specs.Piece.{Closed, Ended, Open, Piece, State}
use Rattle.room_history.specs.Reply.{Fate, Goes, Turned, Unheard, attached_match, created_match, fate, named_match, reply_by, reseated_match, submit_reply}
use Rattle.room_history.specs.Room.{reply, room_of}
use Rattle.room_history.specs.Session.{Session, detach_reply, latest_state, latest_take_reply, session_state, stream_of, take_reply_in}
use Rattle.room_history.specs.declared.call.RoomCall.{RoomCall}
use Rattle.room_history.specs.declared.call.RoomCall.TheVariants.{Create, Join, Rename, Leave, Look, Attach, Submit, Take, Detach, Clear}
use Rattle.room_history.specs.declared.reply.RoomReply.{RoomReply}
use Rattle.room_history.specs.declared.reply.RoomReply.TheVariants as reply
use Rattle.seat_roster.specs.Roster.{join, leave, rename}
use Rattle.wire_json.specs.ClientReading.{client_read}
use Rattle.wire_json.specs.Refusals.{Refusal as Fault}
use Rattle.wire_json.specs.declared.client.ClientMsg.{ClientMsg}
use Rattle.wire_json.specs.declared.client.ClientMsg.TheVariants as line
use Rattle.wire_json.specs.declared.match_row.MatchRow.{MatchRow}
use Rattle.wire_json.specs.declared.protocol.Protocol.{Protocol}
use Rattle.game_hall.specs.Core.{Core, moved}
use Rattle.game_hall.specs.Requests.{acts, created_by, hears, in_room, is_attached, is_busy, is_judged, is_starved, lists, lists_of, makes, next, refuses, syncs, tries, undone, with_row}
use Rattle.game_hall.specs.Run.{run}
use Rattle.game_hall.specs.Words.{key_of, seed_of}
use Rattle.game_hall.specs.declared.answer.Answer.{Answer}
use Rattle.game_hall.specs.declared.answer.Answer.TheVariants.{Again}
use Rattle.game_hall.specs.declared.next.Next.{Next}
use Rattle.game_hall.specs.declared.next.Next.TheVariants.{Calls, Says, Attaches, Silent}
use Rattle.game_hall.specs.declared.request.Request.{Request}
use Rattle.game_hall.specs.declared.request.Request.TheVariants.{Creating, Listing, Looking, Joining, Renaming, Leaving, Syncing, Acting}
use Rattle.game_hall.proofs.Running.{moved_over}
use Rattle.hall_history.specs.Hall.{Hall, after_line, core_of, request}
use Rattle.hall_history.specs.Mark.{Luck, Lucky, Mark, Served, Unread, Starved, ask_rooms, unheard}
use Rattle.hall_history.specs.Parts.{entry_by, runs_out}
use Rattle.hall_history.specs.Rooms.{Rooms, history_of, with_entry}
use Rattle.hall_history.proofs.Rooming.{one_entry}

-- ---- replies of a room that has changed nothing

abbrev pub IsIdle : RoomReply → Type 0
IsIdle reply.NoMemory = Unit {0}
IsIdle reply.Busy = Unit {0}
IsIdle (reply.Looked row) = Unit {0}
IsIdle other = ⊥

idle_by : (b : Bool) (told : RoomReply) → (if b then unheard told else told) ≡ reply.NoMemory → IsIdle told
idle_by b reply.NoMemory e = tt
idle_by b reply.Busy e = tt
idle_by b (reply.Looked row) e = tt
idle_by true other e = cc
idle_by false other e = cc

busy_idle : (b : Bool) (told : RoomReply) → is_busy (if b then unheard told else told) ≡ true → IsIdle told
busy_idle b reply.NoMemory e = tt
busy_idle b reply.Busy e = tt
busy_idle b (reply.Looked row) e = tt
busy_idle true other e = cc
busy_idle false other e = cc

pub same_all : {X G : Type 0} (r : Room X G) → KeepsAll r r
same_all r = record { matches = record { serials = refl; standing = refl; removed = refl }; attachments = λ q. refl }

pub both_all : {X G : Type 0} (a b c : Room X G) → KeepsAll a b → KeepsAll b c → KeepsAll a c
both_all a b c h k = record {
  matches = record { serials = k.matches.serials ∙ h.matches.serials; standing = k.matches.standing ∙ h.matches.standing; removed = k.matches.removed ∙ h.matches.removed };
  attachments = λ q. k.attachments q ∙ h.attachments q;
}

module _ {X G : Type 0} where
  new_keeps : (r : Room X G) (found : Result (Match X G) RoomReply) → IsIdle (reply_by (λ (m : Match X G). reply.Created m.serial) found) → KeepsAll r (with_new_match r found)
  new_keeps r (Ok m) h = absurd h
  new_keeps r (Err why) h = same_all r

  match_keeps : (told : RoomReply) → (IsIdle told → ⊥) → (r : Room X G) (found : Result (Match X G) RoomReply) → IsIdle (reply_by (λ (m : Match X G). told) found) → KeepsAll r (with_match r found)
  match_keeps told never r (Ok m) h = absurd (never h)
  match_keeps told never r (Err why) h = same_all r

  left_keeps : (seat : ℕ) (r : Room X G) (found : Result (Match X G) RoomReply) → IsIdle (reply_by (λ (m : Match X G). reply.Left) found) → KeepsAll r (with_left_seat seat r found)
  left_keeps seat r (Ok m) h = absurd h
  left_keeps seat r (Err why) h = same_all r

  cleared_keeps : (r : Room X G) (found : Result (Match X G) RoomReply) → IsIdle (reply_by (λ (m : Match X G). reply.Cleared) found) → KeepsAll r (with_cleared r found)
  cleared_keeps r (Ok m) h = absurd h
  cleared_keeps r (Err why) h = same_all r

  judged : (f : Fate X G) → IsIdle (submit_reply f) → ⊥
  judged Unheard h = h
  judged (Turned n reason) h = h
  judged (Goes m) h = h

taken : (state : State) (pieces : List Piece) → IsIdle (take_reply_in state pieces) → ⊥
taken Open pieces h = h
taken (Ended why) pieces h = h
taken Closed pieces h = h

latest_taken : (sessions : List Session) → IsIdle (latest_take_reply sessions) → ⊥
latest_taken [] h = h
latest_taken (s ∷ before) h = taken (session_state s) (stream_of s) h

detached : (state : State) → IsIdle (detach_reply state) → ⊥
detached Open h = h
detached (Ended why) h = h
detached Closed h = h

never : ⊥ → ⊥
never h = h

module _ {X G : Type 0} (rules : X → Rules G) (room : ℕ) where
  session_keeps : (pass : ℕ) (viewer : Viewer) (protocol : Protocol) (r : Room X G) (found : Result (Match X G) RoomReply) → IsIdle (reply_by (λ (m : Match X G). reply.Attached) found)
      → KeepsAll r (with_session rules room pass viewer protocol r found)
  session_keeps pass viewer protocol r (Ok m) h = absurd h
  session_keeps pass viewer protocol r (Err why) h = same_all r

  idle_keeps : (r : Room X G) (pass : ℕ) (call : RoomCall X) → IsIdle (reply_to rules room r pass call) → KeepsAll r (room_after rules room r pass call)
  idle_keeps r pass (Create game seats seed) h = new_keeps r (created_match rules r.serials r.standing game seats seed) h
  idle_keeps r pass (Join serial seat name key) h = match_keeps reply.Joined never r (reseated_match (named_match r.standing serial) (λ roster. join roster seat name key)) h
  idle_keeps r pass (Rename serial seat key name) h = match_keeps reply.Renamed never r (reseated_match (named_match r.standing serial) (λ roster. rename roster seat key name)) h
  idle_keeps r pass (Leave serial seat key) h = left_keeps seat r (reseated_match (named_match r.standing serial) (λ roster. leave roster seat key)) h
  idle_keeps r pass (Look serial) h = same_all r
  idle_keeps r pass (Attach serial viewer protocol) h = session_keeps pass viewer protocol r (attached_match r.standing (latest_state (r.sessions pass)) serial viewer) h
  idle_keeps r pass (Submit s) h = absurd (judged (fate rules room r.standing (r.sessions pass) s) h)
  idle_keeps r pass Take h = absurd (latest_taken (r.sessions pass) h)
  idle_keeps r pass Detach h = absurd (detached (latest_state (r.sessions pass)) h)
  idle_keeps r pass (Clear serial) h = cleared_keeps r (named_match r.standing serial) h

  -- an entry with such a reply has changed nothing
  pub entry_keeps : (h : List (Entry (RoomCall X))) (pass : ℕ) (made : RoomCall X) (b : Bool) → IsIdle (reply rules room h (entry pass made b))
      → KeepsAll (room_of rules room h) (room_of rules room (entry pass made b ∷ h))
  unfolding reply
  entry_keeps h pass made true idle = want_keeps_all rules room h pass made
  entry_keeps h pass made false idle = idle_keeps (room_of rules room h) pass made idle

  pub look_keeps : (h : List (Entry (RoomCall X))) (pass : ℕ) (serial : Option ℕ) (b : Bool) → KeepsAll (room_of rules room h) (room_of rules room (entry pass (Look serial) b ∷ h))
  look_keeps h pass serial true = want_keeps_all rules room h pass (Look serial)
  look_keeps h pass serial false = same_all (room_of rules room h)

-- ---- rooms

module _ {X G : Type 0} (rules : X → Rules G) where
  abbrev pub KeepsRooms : Rooms X → Rooms X → Type 0
  KeepsRooms a b = (room : ℕ) → KeepsAll (room_of rules room (history_of a room)) (room_of rules room (history_of b room))

  pub keeps_none : (rooms : Rooms X) → KeepsRooms rooms rooms
  keeps_none rooms = λ room. same_all (room_of rules room (history_of rooms room))

  pub keeps_both : (a b c : Rooms X) → KeepsRooms a b → KeepsRooms b c → KeepsRooms a c
  keeps_both a b c h k =
      λ room. both_all (room_of rules room (history_of a room)) (room_of rules room (history_of b room)) (room_of rules room (history_of c room)) (h room) (k room)

  pub keeps_one : (rooms : Rooms X) (room : ℕ) (e : Entry (RoomCall X)) → KeepsAll (room_of rules room (history_of rooms room)) (room_of rules room (e ∷ history_of rooms room))
      → KeepsRooms rooms (with_entry rooms room e)
  keeps_one rooms room e k = λ r. by r (one_entry rooms room e r)
    where
      by : (r : ℕ) → (history_of (with_entry rooms room e) r ≡ history_of rooms r) ⊎ ((room ≡ r) × (history_of (with_entry rooms room e) r ≡ e ∷ history_of rooms r))
          → KeepsAll (room_of rules r (history_of rooms r)) (room_of rules r (history_of (with_entry rooms room e) r))
      by r (inl p) = subst (λ h. KeepsAll (room_of rules r (history_of rooms r)) (room_of rules r h)) (sym p) (same_all (room_of rules r (history_of rooms r)))
      by r (inr p) =
          subst (λ h. KeepsAll (room_of rules r (history_of rooms r)) (room_of rules r h)) (sym p.1)
          (subst (λ x. KeepsAll (room_of rules x (history_of rooms x)) (room_of rules x (e ∷ history_of rooms x))) p.0 k)

-- ---- what a request that starves was told

none_some : {A : Type 0} (x : A) → None ≡ Some x → ⊥
none_some x e = cc

same_some : {A : Type 0} (x y : A) → Some x ≡ Some y → x ≡ y
same_some x y e = cc

starves_create : (room : ℕ) (told : RoomReply) (ticket : Option ℕ) → is_busy told ≡ false → created_by room told ≡ Again ticket → told ≡ reply.NoMemory
starves_create room reply.NoMemory ticket e f = refl
starves_create room other ticket e f = cc

module _ {X : Type 0} (named : List ℕ → Option X) where
  -- a request of one call
  abbrev IsOne : Request → Type 0
  IsOne (Creating game seats seed room) = ⊥
  IsOne (Listing game rows room) = ⊥
  IsOne other = Unit {0}

  starves : (rooms : ℕ) (asked : Request) (told : RoomReply) (ticket : Option ℕ) → IsOne asked → next named rooms asked told ≡ Says (Again ticket) → told ≡ reply.NoMemory
  starves rooms (Creating game seats seed room) told ticket one e = absurd one
  starves rooms (Listing game rows room) told ticket one e = absurd one
  starves rooms asked reply.NoMemory ticket one e = refl
  starves rooms Looking other ticket one e = cc
  starves rooms (Joining name seat key) other ticket one e = cc
  starves rooms (Renaming name seat) other ticket one e = cc
  starves rooms (Leaving name seat) other ticket one e = cc
  starves rooms (Syncing room) other ticket one e = cc
  starves rooms (Acting own) other ticket one e = cc

  -- what ends a request
  abbrev IsEnd : Next X → Type 0
  IsEnd (Calls room made asked) = ⊥
  IsEnd other = Unit {0}

  if_ends : (b : Bool) (x y : Next X) → IsEnd x → IsEnd y → IsEnd (if b then x else y)
  if_ends true x y h k = h
  if_ends false x y h k = k

  one_ends : (rooms : ℕ) (asked : Request) (told : RoomReply) → IsOne asked → IsEnd (next named rooms asked told)
  one_ends rooms (Creating game seats seed room) told one = absurd one
  one_ends rooms (Listing game rows room) told one = absurd one
  one_ends rooms Looking told one = tt
  one_ends rooms (Joining name seat key) told one = tt
  one_ends rooms (Renaming name seat) told one = tt
  one_ends rooms (Leaving name seat) told one = tt
  one_ends rooms (Syncing room) told one = if_ends (is_attached told) (Attaches room) (Says (undone None told)) tt tt
  one_ends rooms (Acting ticket) told one = if_ends (is_judged told) Silent (Says (undone (Some ticket) told)) tt tt

  -- a listing looks at rooms
  abbrev Looks : Next X → Type 0
  Looks (Calls room made (Listing game rows at)) = made ≡ Look None
  Looks other = Unit {0}

  if_looks : (b : Bool) (x y : Next X) → Looks x → Looks y → Looks (if b then x else y)
  if_looks true x y h k = h
  if_looks false x y h k = k

  lists_look : (rooms : ℕ) (game : List ℕ) (rows : List MatchRow) (room : ℕ) → Looks (lists rooms game rows room)
  lists_look rooms game rows room = if_looks (nat_lt room rooms) (Calls room (Look None) (Listing game rows room)) (Says _) refl tt

  makes_look : (found : Option X) (game : List ℕ) (seats : ℕ) (seed : List ℕ) (room : ℕ) → Looks (makes found game seats seed room)
  makes_look None game seats seed room = tt
  makes_look (Some x) game seats seed room = tt

  tries_look : (rooms : ℕ) (game : List ℕ) (seats : ℕ) (seed : List ℕ) (room : ℕ) → Looks (tries named rooms game seats seed room)
  tries_look rooms game seats seed room = if_looks (nat_lt room rooms) (makes (named game) game seats seed room) (refuses _) (makes_look (named game) game seats seed room) tt

  next_looks : (rooms : ℕ) (asked : Request) (told : RoomReply) → Looks (next named rooms asked told)
  next_looks rooms (Creating game seats seed room) told = if_looks (is_busy told) (tries named rooms game seats seed (room + 1)) (Says (created_by room told)) (tries_look rooms game seats seed (room + 1)) tt
  next_looks rooms (Listing game rows room) told = if_looks (is_starved told) (Says _) (lists rooms game (with_row game rows told) (room + 1)) tt (lists_look rooms game (with_row game rows told) (room + 1))
  next_looks rooms Looking told = tt
  next_looks rooms (Joining name seat key) told = tt
  next_looks rooms (Renaming name seat) told = tt
  next_looks rooms (Leaving name seat) told = tt
  next_looks rooms (Syncing room) told = if_looks (is_attached told) (Attaches room) (Says (undone None told)) tt tt
  next_looks rooms (Acting ticket) told = if_looks (is_judged told) Silent (Says (undone (Some ticket) told)) tt tt

  listed_look : (rooms : ℕ) (found : Option X) (game : List ℕ) → Looks (lists_of rooms found game)
  listed_look rooms None game = tt
  listed_look rooms (Some x) game = lists_look rooms game [] 0

  asked_look : (rooms room : ℕ) (made : RoomCall X) (asked : Request) → IsOne asked → Looks (in_room rooms room made asked)
  asked_look rooms room made asked one = if_looks (nat_lt room rooms) (Calls room made asked) (refuses _) (one_looks asked one) tt
    where
      one_looks : (asked : Request) → IsOne asked → Looks (Calls room made asked)
      one_looks (Creating game seats seed at) one = absurd one
      one_looks (Listing game rows at) one = absurd one
      one_looks Looking one = tt
      one_looks (Joining name seat key) one = tt
      one_looks (Renaming name seat) one = tt
      one_looks (Leaving name seat) one = tt
      one_looks (Syncing at) one = tt
      one_looks (Acting ticket) one = tt

  sync_looks : (rooms : ℕ) (at : Option ℕ) (room : ℕ) (made : RoomCall X) → Looks (syncs rooms at room made)
  sync_looks rooms None room made = asked_look rooms room made (Syncing room) tt
  sync_looks rooms (Some other) room made = tt

  act_looks : (at : Option ℕ) (made : RoomCall X) (ticket : ℕ) → Looks (acts at made ticket)
  act_looks None made ticket = tt
  act_looks (Some room) made ticket = tt

  line_looks : (rooms : ℕ) (at : Option ℕ) (read : Result ClientMsg Fault) (words : List ℕ) (seed : Option (List ℕ)) → Looks (hears named rooms at read words seed)
  line_looks rooms at (Err fault) words seed = tt
  line_looks rooms at (Ok line.Games) words seed = tt
  line_looks rooms at (Ok (line.Matches game)) words seed = listed_look rooms (named game) game
  line_looks rooms at (Ok (line.Look name)) words seed = asked_look rooms name.room (Look (Some name.serial)) Looking tt
  line_looks rooms at (Ok (line.Create game seats)) words seed = tries_look rooms game seats (seed_of seed words) 0
  line_looks rooms at (Ok (line.Join name player seat)) words seed = asked_look rooms name.room (Join name.serial seat player (key_of words)) (Joining name seat (key_of words)) tt
  line_looks rooms at (Ok (line.Rename key name player seat)) words seed = asked_look rooms name.room (Rename name.serial seat key player) (Renaming name seat) tt
  line_looks rooms at (Ok (line.Leave key name seat)) words seed = asked_look rooms name.room (Leave name.serial seat key) (Leaving name seat) tt
  line_looks rooms at (Ok (line.Sync name viewer protocol)) words seed = sync_looks rooms at name.room (Attach name.serial viewer protocol)
  line_looks rooms at (Ok (line.Act submission)) words seed = act_looks at (Submit submission) submission.ticket
  line_looks rooms at (Ok (line.Takeover name seat)) words seed = tt

-- ---- a request

module _ {X G : Type 0} (named : List ℕ → Option X) (rules : X → Rules G) (pass : ℕ) (ticket : Option ℕ) where
  abbrev ran : ℕ → Core X → Next X → Lucky X → Core X × Lucky X
  ran n c x s = run named (ask_rooms rules pass) n (moved c x) s

  said_so : (n : ℕ) (c : Core X) (a : Answer) (s : Lucky X) → (ran n c (Says a) s).0.said ≡ Some a
  said_so zero c a s = refl
  said_so (suc n) c a s = refl

  -- a request that ends with `again` is answered so
  says_again : (n : ℕ) (c : Core X) (x : Next X) (s : Lucky X) → c.said ≡ None → IsEnd named x → (ran n c x s).0.said ≡ Some (Again ticket) → x ≡ Says (Again ticket)
  says_again n c (Calls room made asked) s none end e = absurd end
  says_again zero c (Says a) s none end e = ap (λ x. Says x) (same_some a (Again ticket) e)
  says_again (suc n) c (Says a) s none end e = ap (λ x. Says x) (same_some a (Again ticket) e)
  says_again zero c (Attaches room) s none end e = absurd (none_some (Again ticket) (sym none ∙ e))
  says_again (suc n) c (Attaches room) s none end e = absurd (none_some (Again ticket) (sym none ∙ e))
  says_again zero c Silent s none end e = absurd (none_some (Again ticket) (sym none ∙ e))
  says_again (suc n) c Silent s none end e = absurd (none_some (Again ticket) (sym none ∙ e))

  module _ (n : ℕ) (c : Core X) (s : Lucky X) (none : c.said ≡ None) (room : ℕ) (made : RoomCall X) where
    abbrev told : RoomReply × Lucky X
    told = ask_rooms rules pass room made s

    abbrev before : List (Entry (RoomCall X))
    before = history_of s.rooms room

    starved_keeps : told.0 ≡ reply.NoMemory → KeepsAll (room_of rules room before) (room_of rules room (entry_by pass made s.luck ∷ before))
    starved_keeps e = entry_keeps rules room before pass made (entry_by pass made s.luck).starved (idle_by (runs_out s.luck) (reply rules room before (entry_by pass made s.luck)) e)

    one_keeps : (asked : Request) → IsOne named asked → (ran n c (next named c.rooms asked told.0) told.1).0.said ≡ Some (Again ticket)
        → KeepsAll (room_of rules room before) (room_of rules room (entry_by pass made s.luck ∷ before))
    one_keeps asked one e =
        starved_keeps (starves named c.rooms asked told.0 ticket one (says_again n c (next named c.rooms asked told.0) told.1 none (one_ends named c.rooms asked told.0 one) e))

    create_keeps : (game : List ℕ) (seats : ℕ) (seed : List ℕ) (at : ℕ) (b : Bool) → is_busy told.0 ≡ b
        → (ran n c (if b then tries named c.rooms game seats seed (at + 1) else Says (created_by at told.0)) told.1).0.said ≡ Some (Again ticket)
        → KeepsAll (room_of rules room before) (room_of rules room (entry_by pass made s.luck ∷ before))
    create_keeps game seats seed at true busy e =
        entry_keeps rules room before pass made (entry_by pass made s.luck).starved (busy_idle (runs_out s.luck) (reply rules room before (entry_by pass made s.luck)) busy)
    create_keeps game seats seed at false busy e =
        starved_keeps (starves_create at told.0 ticket busy (same_some (created_by at told.0) (Again ticket) (sym (said_so n c (created_by at told.0) told.1) ∙ e)))

    called_keeps : (asked : Request) → Looks named (Calls room made asked) → (ran n c (next named c.rooms asked told.0) told.1).0.said ≡ Some (Again ticket)
        → KeepsAll (room_of rules room before) (room_of rules room (entry_by pass made s.luck ∷ before))
    called_keeps (Creating game seats seed at) looks e = create_keeps game seats seed at (is_busy told.0) refl e
    called_keeps (Listing game rows at) looks e =
        subst (λ m. KeepsAll (room_of rules room before) (room_of rules room (entry pass m (entry_by pass made s.luck).starved ∷ before))) (sym looks)
        (look_keeps rules room before pass None (entry_by pass made s.luck).starved)
    called_keeps Looking looks e = one_keeps Looking tt e
    called_keeps (Joining name seat key) looks e = one_keeps (Joining name seat key) tt e
    called_keeps (Renaming name seat) looks e = one_keeps (Renaming name seat) tt e
    called_keeps (Leaving name seat) looks e = one_keeps (Leaving name seat) tt e
    called_keeps (Syncing at) looks e = one_keeps (Syncing at) tt e
    called_keeps (Acting own) looks e = one_keeps (Acting own) tt e

  ran_keeps : (n : ℕ) (c : Core X) (x : Next X) (s : Lucky X) → c.said ≡ None → Looks named x → (ran n c x s).0.said ≡ Some (Again ticket) → KeepsRooms rules s.rooms (ran n c x s).1.rooms
  ran_keeps zero c x s none looks e = keeps_none rules s.rooms
  ran_keeps (suc n) c (Says a) s none looks e = keeps_none rules s.rooms
  ran_keeps (suc n) c (Attaches room) s none looks e = keeps_none rules s.rooms
  ran_keeps (suc n) c Silent s none looks e = keeps_none rules s.rooms
  ran_keeps (suc n) c (Calls room made asked) s none looks e =
      let told = ask_rooms rules pass room made s in
      let y = next named c.rooms asked told.0 in
      let over = moved_over c room made asked y in
      let said : (ran n c y told.1).0.said ≡ Some (Again ticket) = ap (λ d. (run named (ask_rooms rules pass) n d told.1).0.said) (sym over) ∙ e in
      subst (λ d. KeepsRooms rules s.rooms (run named (ask_rooms rules pass) n d told.1).1.rooms) (sym over)
      (keeps_both rules s.rooms told.1.rooms (ran n c y told.1).1.rooms (keeps_one rules s.rooms room (entry_by pass made s.luck) (called_keeps n c s none room made asked looks said))
      (ran_keeps n c y told.1 none (next_looks named c.rooms asked told.0) said))

module _ {X G : Type 0} (named : List ℕ → Option X) (rules : X → Rules G) (tape : ℕ → List ℕ) where
  ran_line : (luck : Luck) (h : Hall X) (pass : ℕ) (read : Result ClientMsg Fault) (ticket : Option ℕ)
      → (run named (ask_rooms rules pass) (length h.rooms + 1) (moved (core_of h pass) (hears named (length h.rooms) (h.at pass) read (tape h.place) h.seed)) (record { rooms = h.rooms; luck = luck })).0.said ≡ Some (Again ticket)
      → KeepsRooms rules h.rooms (run named (ask_rooms rules pass) (length h.rooms + 1) (moved (core_of h pass) (hears named (length h.rooms) (h.at pass) read (tape h.place) h.seed)) (record { rooms = h.rooms; luck = luck })).1.rooms
  ran_line luck h pass read ticket e =
      ran_keeps named rules pass ticket (length h.rooms + 1) (core_of h pass) (hears named (length h.rooms) (h.at pass) read (tape h.place) h.seed) (record { rooms = h.rooms; luck = luck }) refl
      (line_looks named (length h.rooms) (h.at pass) read (tape h.place) h.seed) e

  request_keeps : (mark : Mark) (h : Hall X) (pass : ℕ) (read : Result ClientMsg Fault) (ticket : Option ℕ) → (request named rules tape mark h pass read).0.said ≡ Some (Again ticket)
      → KeepsRooms rules h.rooms (request named rules tape mark h pass read).1.rooms
  request_keeps Served h pass read ticket e = ran_line None h pass read ticket e
  request_keeps Unread h pass read ticket e = keeps_none rules h.rooms
  request_keeps (Starved zero there) h pass read ticket e = keeps_none rules h.rooms
  request_keeps (Starved (suc n) there) h pass read ticket e = ran_line (Some (suc n, there)) h pass read ticket e

  pub rooms_stay : (mark : Mark) (h : Hall X) (pass : ℕ) (line : List ℕ) (ticket : Option ℕ) → (after_line named rules tape mark h pass line).1 ≡ Some (Again ticket)
      → (room : ℕ) → KeepsAll (room_of rules room (history_of h.rooms room)) (room_of rules room (history_of (after_line named rules tape mark h pass line).0.rooms room))
  rooms_stay mark h pass line ticket e = request_keeps mark h pass (client_read line) ticket e
