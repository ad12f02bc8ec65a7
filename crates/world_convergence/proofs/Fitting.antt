-- The calls of a world are of their types: each is made by a message that was read, or by the world's own lines.
use Rattle.std.proofs.Common.{◌≡◌, ℕ, zero, suc, ◌+◌, Bool, true, false, nat_lt, if◌then◌else◌, List, [], ◌∷◌, ◌++◌, length, drop, Option, Some, None, Ok, Err, refl, sym, subst}
use Rattle.std.specs.Prelude.{Result}
use Rattle.game_sheet.specs.MatchName.{Name}
use Rattle.game_sheet.specs.Viewer.{Viewer, seat_of}
use Rattle.game_trait.specs.Rules.{Rules}
use Rattle.room_object.specs.Entry.{Entry, entry}
use Rattle.room_history.specs.declared.call.RoomCall.{RoomCall}
use Rattle.room_history.specs.declared.call.RoomCall.TheVariants as call
use Rattle.room_history.specs.declared.reply.RoomReply.{RoomReply}
use Rattle.sheet_json.specs.Seats.{IsWithin}
use Rattle.wire_json.specs.ClientReading.{client_read}
use Rattle.wire_json.specs.ClientText.{ClientFits, ViewerFits}
use Rattle.wire_json.specs.RefusalText.{refusal_text}
use Rattle.wire_json.specs.Refusals.{Refusal as Fault}
use Rattle.wire_json.specs.declared.client.ClientMsg.{ClientMsg}
use Rattle.wire_json.specs.declared.client.ClientMsg.TheVariants as line
use Rattle.wire_json.specs.declared.match_row.MatchRow.{MatchRow}
use Rattle.wire_json.specs.declared.refusal.Refusal.TheVariants.{Full, NoMatch}
use Rattle.wire_json.proofs.ClientLaws.{read_is}
use Rattle.game_hall.specs.Core.{fresh, moved}
use Rattle.game_hall.specs.Run.{run}
use Rattle.game_hall.specs.Requests.{acts, after_attach, begins, created_by, hears, in_room, is_attached, is_busy, is_judged, is_starved, lists, lists_of, makes, next, refuses, syncs, tries, undone, with_row}
use Rattle.game_hall.specs.Words.{key_of, seed_of}
use Rattle.game_hall.specs.declared.answer.Answer.{Answer}
use Rattle.game_hall.specs.declared.answer.Answer.TheVariants as answer
use Rattle.game_hall.specs.declared.next.Next.{Next}
use Rattle.game_hall.specs.declared.next.Next.TheVariants.{Calls, Says, Attaches as Attached, Silent}
use Rattle.game_hall.specs.declared.request.Request.{Request}
use Rattle.game_hall.specs.declared.request.Request.TheVariants.{Creating, Listing, Looking, Joining, Renaming, Leaving, Syncing, Acting}
use Rattle.convergence.specs.Calls.{CallFits, CallsFit}
use Rattle.hall_history.specs.Adding.{Adds, AreOf}
use Rattle.hall_history.specs.Parts.{frees_at}
use Rattle.hall_history.specs.Hall.{Hall, after_line, core_of}
use Rattle.hall_history.specs.Mark.{Luck, Mark, Served, Unread, Starved, ask_rooms}
use Rattle.hall_history.specs.Opening.{after_open, joins, opening, own_entry, own_pass, seat_key, seated, seated_by}
use Rattle.hall_history.specs.Rooms.{History, Rooms, history_of, with_entry}
use Rattle.hall_history.specs.Script.{first_mark}
use Rattle.world_history.specs.World.{World, Step, Nothing, Seeds, Opens, Attaches, Acts, Arrives, Takes, Reads, Drops, Leaves, Shows, new_world}
use Rattle.world_history.specs.WorldScript.{arrives, does, has_starved, leaves, leaves_by, refused_text, runs_world}
use Rattle.hall_history.proofs.Adds.{adds_both, adds_none, adds_one, run_adds}
use Rattle.hall_history.proofs.Placing.{none_there}
use Rattle.world_history.proofs.WorldPlacing.{acts_hall, reads_hall}
use Rattle.world_convergence.proofs.Taken.{take_made}

-- a call that is no one's own but the lobby's: it attaches nobody, submits nothing, takes nothing and frees nobody
abbrev pub IsLobby : {X : Type 0} → RoomCall X → Type 0
IsLobby (call.Attach serial viewer protocol) = ⊥
IsLobby (call.Submit s) = ⊥
IsLobby call.Take = ⊥
IsLobby call.Detach = ⊥
IsLobby made = Unit {0}

pub lobby_fits : {X : Type 0} (made : RoomCall X) → IsLobby made → CallFits made
lobby_fits (call.Create game seats seed) h = tt
lobby_fits (call.Join serial seat name key) h = tt
lobby_fits (call.Rename serial seat key name) h = tt
lobby_fits (call.Leave serial seat key) h = tt
lobby_fits (call.Clear serial) h = tt
lobby_fits (call.Look serial) h = tt
lobby_fits (call.Attach serial viewer protocol) h = absurd h
lobby_fits (call.Submit s) h = absurd h
lobby_fits call.Take h = absurd h
lobby_fits call.Detach h = absurd h

-- ---- what a request's calls are, where what a message begins with is so, and so is every lobby call

module _ {X : Type 0} (Is : RoomCall X → Type 0) (lobby : (made : RoomCall X) → IsLobby made → Is made) where
  abbrev pub Makes : Next X → Type 0
  Makes (Calls room made request) = Is made
  Makes next = Unit {0}

  if_makes : (b : Bool) (x y : Next X) → Makes x → Makes y → Makes (if b then x else y)
  if_makes true x y h k = h
  if_makes false x y h k = k

  lists_makes : (rooms : ℕ) (game : List ℕ) (rows : List MatchRow) (room : ℕ) → Makes (lists rooms game rows room)
  lists_makes rooms game rows room =
      if_makes (nat_lt room rooms) (Calls room (call.Look None) (Listing game rows room)) (Says (answer.Matches rows)) (lobby (call.Look None) tt) tt

  lists_of_makes : (rooms : ℕ) (found : Option X) (game : List ℕ) → Makes (lists_of rooms found game)
  lists_of_makes rooms None game = tt
  lists_of_makes rooms (Some x) game = lists_makes rooms game [] 0

  makes_makes : (found : Option X) (game : List ℕ) (seats : ℕ) (seed : List ℕ) (room : ℕ) → Makes (makes found game seats seed room)
  makes_makes None game seats seed room = tt
  makes_makes (Some x) game seats seed room = lobby (call.Create x seats seed) tt

  room_makes : (rooms room : ℕ) (made : RoomCall X) (request : Request) → Is made → Makes (in_room rooms room made request)
  room_makes rooms room made request h = if_makes (nat_lt room rooms) (Calls room made request) (refuses NoMatch) h tt

  syncs_makes : (rooms : ℕ) (at : Option ℕ) (room : ℕ) (made : RoomCall X) → Is made → Makes (syncs rooms at room made)
  syncs_makes rooms None room made h = room_makes rooms room made (Syncing room) h
  syncs_makes rooms (Some r) room made h = tt

  acts_makes : (at : Option ℕ) (made : RoomCall X) (ticket : ℕ) → Is made → Makes (acts at made ticket)
  acts_makes None made ticket h = tt
  acts_makes (Some room) made ticket h = h

  attach_makes : (room : ℕ) (told : RoomReply) → Makes (after_attach room told)
  attach_makes room told = if_makes (is_attached told) (Attached room) (Says (undone None told)) tt tt

  module _ (named : List ℕ → Option X) (rooms : ℕ) where
    pub tries_makes : (game : List ℕ) (seats : ℕ) (seed : List ℕ) (room : ℕ) → Makes (tries named rooms game seats seed room)
    tries_makes game seats seed room =
        if_makes (nat_lt room rooms) (makes (named game) game seats seed room) (refuses Full) (makes_makes (named game) game seats seed room) tt

    pub next_makes : (request : Request) (told : RoomReply) → Makes (next named rooms request told)
    next_makes (Creating game seats seed room) told =
        if_makes (is_busy told) (tries named rooms game seats seed (room + 1)) (Says (created_by room told)) (tries_makes game seats seed (room + 1)) tt
    next_makes (Listing game rows room) told =
        if_makes (is_starved told) (Says (answer.Again None)) (lists rooms game (with_row game rows told) (room + 1)) tt (lists_makes rooms game (with_row game rows told) (room + 1))
    next_makes Looking told = tt
    next_makes (Joining name seat key) told = tt
    next_makes (Renaming name seat) told = tt
    next_makes (Leaving name seat) told = tt
    next_makes (Syncing room) told = attach_makes room told
    next_makes (Acting ticket) told = if_makes (is_judged told) Silent (Says (undone (Some ticket) told)) tt tt

    -- the calls that a message may begin with beside those of the lobby
    abbrev pub Begins : ClientMsg → Type 0
    Begins (line.Sync name viewer protocol) = Is (call.Attach name.serial viewer protocol)
    Begins (line.Act s) = Is (call.Submit s)
    Begins message = Unit {0}

    begins_makes : (at : Option ℕ) (message : ClientMsg) (words : List ℕ) (seed : Option (List ℕ)) → Begins message → Makes (begins named rooms at message words seed)
    begins_makes at line.Games words seed h = tt
    begins_makes at (line.Matches game) words seed h = lists_of_makes rooms (named game) game
    begins_makes at (line.Look name) words seed h = room_makes rooms name.room (call.Look (Some name.serial)) Looking (lobby (call.Look (Some name.serial)) tt)
    begins_makes at (line.Create game seats) words seed h = tries_makes game seats (seed_of seed words) 0
    begins_makes at (line.Join name player seat) words seed h =
        room_makes rooms name.room (call.Join name.serial seat player (key_of words)) (Joining name seat (key_of words)) (lobby (call.Join name.serial seat player (key_of words)) tt)
    begins_makes at (line.Rename key name player seat) words seed h =
        room_makes rooms name.room (call.Rename name.serial seat key player) (Renaming name seat) (lobby (call.Rename name.serial seat key player) tt)
    begins_makes at (line.Leave key name seat) words seed h =
        room_makes rooms name.room (call.Leave name.serial seat key) (Leaving name seat) (lobby (call.Leave name.serial seat key) tt)
    begins_makes at (line.Sync name viewer protocol) words seed h = syncs_makes rooms at name.room (call.Attach name.serial viewer protocol) h
    begins_makes at (line.Act s) words seed h = acts_makes at (call.Submit s) s.ticket h
    begins_makes at (line.Takeover name seat) words seed h = tt

    abbrev pub BeginsAs : Result ClientMsg Fault → Type 0
    BeginsAs (Ok message) = Begins message
    BeginsAs (Err fault) = Unit {0}

    pub hears_makes : (at : Option ℕ) (read : Result ClientMsg Fault) (words : List ℕ) (seed : Option (List ℕ)) → BeginsAs read → Makes (hears named rooms at read words seed)
    hears_makes at (Ok message) words seed h = begins_makes at message words seed h
    hears_makes at (Err fault) words seed h = tt

module _ {X G : Type 0} (named : List ℕ → Option X) (rules : X → Rules G) (tape : ℕ → List ℕ) (Is : RoomCall X → Type 0) (lobby : (made : RoomCall X) → IsLobby made → Is made) where
  runs_make : (luck : Luck) (h : Hall X) (pass : ℕ) (x : Next X) → Makes Is lobby x
      → Adds Is pass h.rooms (run named (ask_rooms rules pass) (length h.rooms + 1) (moved (core_of h pass) x) (record { rooms = h.rooms; luck = luck })).1.rooms
  runs_make luck h pass x f =
      run_adds named rules Is pass (λ y. Makes Is lobby y) (length h.rooms)
      (λ room made request g. g)
      (λ room made request told g. next_makes Is lobby named (length h.rooms) request told)
      (length h.rooms + 1) (core_of h pass) x (record { rooms = h.rooms; luck = luck }) refl f

  -- a session's line adds such calls, where its message begins with one
  pub line_makes : (mark : Mark) (h : Hall X) (pass : ℕ) (text : List ℕ) → BeginsAs Is lobby named (length h.rooms) (client_read text)
      → Adds Is pass h.rooms (after_line named rules tape mark h pass text).0.rooms
  line_makes Served h pass text f =
      runs_make None h pass (hears named (length h.rooms) (h.at pass) (client_read text) (tape h.place) h.seed)
      (hears_makes Is lobby named (length h.rooms) (h.at pass) (client_read text) (tape h.place) h.seed f)
  line_makes Unread h pass text f = adds_none Is pass h.rooms
  line_makes (Starved zero there) h pass text f = adds_none Is pass h.rooms
  line_makes (Starved (suc n) there) h pass text f =
      runs_make (Some (suc n, there)) h pass (hears named (length h.rooms) (h.at pass) (client_read text) (tape h.place) h.seed)
      (hears_makes Is lobby named (length h.rooms) (h.at pass) (client_read text) (tape h.place) h.seed f)

-- ---- an open makes calls of the lobby alone

same_call : {X : Type 0} (made : RoomCall X) → IsLobby made → IsLobby made
same_call made h = h

module _ {X : Type 0} where
  seated_adds : (name : Name) (seats : ℕ) (rooms : Rooms X) → Adds IsLobby own_pass rooms (seated name seats rooms)
  seated_adds name zero rooms = adds_none IsLobby own_pass rooms
  seated_adds name (suc seats) rooms =
      adds_both IsLobby own_pass rooms (seated name seats rooms) _ (seated_adds name seats rooms)
      (adds_one IsLobby own_pass (seated name seats rooms) name.room (joins {X = X} name.serial seats).call false tt)

  seated_by_adds : (said : Option Answer) (seats : ℕ) (rooms : Rooms X) → Adds IsLobby own_pass rooms (seated_by said seats rooms)
  seated_by_adds None seats rooms = adds_none IsLobby own_pass rooms
  seated_by_adds (Some answer.Games) seats rooms = adds_none IsLobby own_pass rooms
  seated_by_adds (Some (answer.Matches rows)) seats rooms = adds_none IsLobby own_pass rooms
  seated_by_adds (Some (answer.Match row)) seats rooms = adds_none IsLobby own_pass rooms
  seated_by_adds (Some (answer.Created name)) seats rooms = seated_adds name seats rooms
  seated_by_adds (Some (answer.Joined key name seat)) seats rooms = adds_none IsLobby own_pass rooms
  seated_by_adds (Some (answer.Renamed name seat)) seats rooms = adds_none IsLobby own_pass rooms
  seated_by_adds (Some (answer.Left name seat)) seats rooms = adds_none IsLobby own_pass rooms
  seated_by_adds (Some (answer.Asked name seat)) seats rooms = adds_none IsLobby own_pass rooms
  seated_by_adds (Some (answer.Again ticket)) seats rooms = adds_none IsLobby own_pass rooms
  seated_by_adds (Some (answer.Refused why)) seats rooms = adds_none IsLobby own_pass rooms

module _ {X G : Type 0} (named : List ℕ → Option X) (rules : X → Rules G) (tape : ℕ → List ℕ) where
  pub open_makes : (h : Hall X) (game : List ℕ) (seats : ℕ) → Adds IsLobby own_pass h.rooms (after_open named rules tape h game seats).0.rooms
  open_makes h game seats =
      let done = opening named rules tape h game seats in
      adds_both IsLobby own_pass h.rooms done.1.rooms _
      (run_adds named rules IsLobby own_pass (λ y. Makes IsLobby same_call y) (length h.rooms)
      (λ room made request g. g)
      (λ room made request told g. next_makes IsLobby same_call named (length h.rooms) request told)
      (length h.rooms + 1) (fresh own_pass (length h.rooms)) (tries named (length h.rooms) game seats (seed_of h.seed (tape h.place)) 0) (record { rooms = h.rooms; luck = None })
      refl (tries_makes IsLobby same_call named (length h.rooms) game seats (seed_of h.seed (tape h.place)) 0))
      (seated_by_adds done.0.said seats done.1.rooms)

-- ---- so all calls are of their types

viewer_within : (viewer : Viewer) → ViewerFits viewer → IsWithin 255 (seat_of viewer)
viewer_within None h = tt
viewer_within (Some claim) h = h.0

module _ {X : Type 0} where
  abbrev pub AllFit : Rooms X → Type 0
  AllFit rooms = (room : ℕ) → CallsFit (history_of rooms room)

  message_begins : (named : List ℕ → Option X) (rooms : ℕ) (m : ClientMsg) → ClientFits m → Begins (λ (made : RoomCall X). CallFits made) lobby_fits named rooms m
  message_begins named rooms line.Games h = tt
  message_begins named rooms (line.Matches game) h = tt
  message_begins named rooms (line.Look name) h = tt
  message_begins named rooms (line.Create game seats) h = tt
  message_begins named rooms (line.Join name player seat) h = tt
  message_begins named rooms (line.Rename key name player seat) h = tt
  message_begins named rooms (line.Leave key name seat) h = tt
  message_begins named rooms (line.Sync name viewer protocol) h = viewer_within viewer h.1
  message_begins named rooms (line.Act s) h = (h.0, h.4)
  message_begins named rooms (line.Takeover name seat) h = tt

  read_begins : (named : List ℕ → Option X) (rooms : ℕ) (text : List ℕ) → BeginsAs (λ (made : RoomCall X). CallFits made) lobby_fits named rooms (client_read text)
  read_begins named rooms text = by (client_read text) refl
    where
      by : (read : Result ClientMsg Fault) → client_read text ≡ read → BeginsAs (λ (made : RoomCall X). CallFits made) lobby_fits named rooms read
      by (Ok m) e = message_begins named rooms m (read_is text m e).1
      by (Err fault) e = tt

  added_fit : (pass : ℕ) (entries : List (Entry (RoomCall X))) (h : History X) → AreOf CallFits pass entries → CallsFit h → CallsFit (entries ++ h)
  added_fit pass [] h a f = f
  added_fit pass (e ∷ entries) h a f = (a.1, added_fit pass entries h a.2 f)

  pub adds_fit : (pass : ℕ) (old new : Rooms X) → Adds CallFits pass old new → AllFit old → AllFit new
  adds_fit pass old new a f room = subst CallsFit (sym (a.1 room).1) (added_fit pass (a.1 room).0 (history_of old room) (a.1 room).2 (f room))

  lobby_entries : (pass : ℕ) (entries : List (Entry (RoomCall X))) → AreOf IsLobby pass entries → AreOf CallFits pass entries
  lobby_entries pass [] a = tt
  lobby_entries pass (e ∷ entries) a = (a.0, lobby_fits e.call a.1, lobby_entries pass entries a.2)

  lobby_adds : (pass : ℕ) (old new : Rooms X) → Adds IsLobby pass old new → Adds CallFits pass old new
  lobby_adds pass old new a = (a.0, λ room. ((a.1 room).0, (a.1 room).1, lobby_entries pass (a.1 room).0 (a.1 room).2))

module _ {X G : Type 0} (rules : X → Rules G) where
  frees_fit : (h : Hall X) (pass : ℕ) (made : RoomCall X) (o : Option ℕ) → CallFits made → AllFit h.rooms → AllFit (frees_at rules h pass made o).0.rooms
  frees_fit h pass made None c f = f
  frees_fit h pass made (Some room) c f = adds_fit pass h.rooms (with_entry h.rooms room (entry pass made false)) (adds_one CallFits pass h.rooms room made false c) f

  leaves_fit : (w : World X G) (name : Name) (seat : ℕ) → AllFit w.hall.rooms → AllFit (leaves rules w name seat).0.hall.rooms
  leaves_fit w name seat f = by (nat_lt name.room (length w.hall.rooms))
    where
      by : (b : Bool) → AllFit (if b then leaves_by rules w name.room (own_entry (call.Leave name.serial seat (seat_key seat))) else (w, refused_text (refusal_text NoMatch))).0.hall.rooms
      by true =
          adds_fit own_pass w.hall.rooms (with_entry w.hall.rooms name.room (own_entry (call.Leave name.serial seat (seat_key seat))))
          (adds_one CallFits own_pass w.hall.rooms name.room (call.Leave name.serial seat (seat_key seat)) false tt) f
      by false = f

module _ {X G : Type 0} (named : List ℕ → Option X) (rules : X → Rules G) (tape : ℕ → List ℕ) where
  arrives_fit : (mark : Mark) (w : World X G) (c : ℕ) (waiting : List (List ℕ)) → AllFit w.hall.rooms → AllFit (arrives named rules tape mark w c waiting).0.hall.rooms
  arrives_fit mark w c [] f = f
  arrives_fit mark w c (text ∷ rest) f =
      adds_fit c w.hall.rooms (after_line named rules tape mark w.hall c text).0.rooms
      (line_makes named rules tape (λ (made : RoomCall X). CallFits made) lobby_fits mark w.hall c text (read_begins named (length w.hall.rooms) text)) f

  pub does_fit : (mark : Mark) (step : Step X) (w : World X G) → AllFit w.hall.rooms → AllFit (does named rules tape mark step w).0.hall.rooms
  does_fit mark Nothing w f = f
  does_fit mark (Seeds seed) w f = f
  does_fit mark (Opens game seats) w f =
      adds_fit own_pass w.hall.rooms (after_open named rules tape w.hall game seats).0.rooms
      (lobby_adds own_pass w.hall.rooms (after_open named rules tape w.hall game seats).0.rooms (open_makes named rules tape w.hall game seats)) f
  does_fit mark (Attaches c game name seat protocol) w f = frees_fit rules w.hall c call.Detach (w.hall.at c) tt f
  does_fit mark (Acts c asked) w f = subst (λ (h : Hall X). AllFit h.rooms) (sym (acts_hall rules (has_starved mark) w c (w.clients c) asked)) f
  does_fit mark (Arrives c) w f = arrives_fit mark w c (w.up c) f
  does_fit mark (Takes c) w f = subst (λ (h : Hall X). AllFit h.rooms) (sym (take_made rules w c).new) (frees_fit rules w.hall c call.Take (w.hall.at c) tt f)
  does_fit mark (Reads c) w f = subst (λ (h : Hall X). AllFit h.rooms) (sym (reads_hall rules w c (w.clients c) (w.down c))) f
  does_fit mark (Drops c) w f = frees_fit rules w.hall c call.Detach (w.hall.at c) tt f
  does_fit mark (Leaves name seat) w f = leaves_fit rules w name seat f
  does_fit mark (Shows c) w f = f

  pub world_fits : (marks : List Mark) (steps : List (Step X)) (w : World X G) → AllFit w.hall.rooms → AllFit (runs_world named rules tape marks steps w).0.hall.rooms
  world_fits marks [] w f = f
  world_fits marks (step ∷ steps) w f = world_fits (drop 1 marks) steps (does named rules tape (first_mark marks) step w).0 (does_fit (first_mark marks) step w f)

  pub new_fits : (rooms room : ℕ) → CallsFit (history_of (new_world {X = X} {G = G} rooms).hall.rooms room)
  new_fits rooms room = subst CallsFit (sym (none_there rules rooms room)) tt
