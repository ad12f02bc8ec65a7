-- What a session's line asks of rooms, and what each reply makes of it: the table of lines and the table of replies.
use Rattle.std.specs.Prelude.{ℕ, ◌+◌, Bool, true, false, if◌then◌else◌, nat_lt, List, [], ◌∷◌, ◌++◌, Option, Some, None, Result, Ok, Err, bytes_eq}
use Rattle.game_sheet.specs.MatchName.{Name}
use Rattle.wire_json.specs.RefusalText.{member_from}
use Rattle.wire_json.specs.Refusals.{Refusal as Fault, Line, UnknownMessage, ExtraField, Field}
use Rattle.wire_json.specs.declared.refusal.Member.{Member}
use Rattle.wire_json.specs.declared.refusal.Member.TheVariants.{Kind, Extra}
use Rattle.wire_json.specs.declared.match_row.MatchRow.{MatchRow}
use Rattle.room_history.specs.declared.call.RoomCall.{RoomCall}
use Rattle.room_history.specs.declared.call.RoomCall.TheVariants as call
use Rattle.room_history.specs.declared.reply.RoomReply.{RoomReply}
use Rattle.room_history.specs.declared.reply.RoomReply.TheVariants as reply
use Rattle.wire_json.specs.declared.client.ClientMsg.{ClientMsg}
use Rattle.wire_json.specs.declared.client.ClientMsg.TheVariants as line
use Rattle.wire_json.specs.declared.refusal.Refusal.{Refusal}
use Rattle.wire_json.specs.declared.refusal.Refusal.TheVariants.{BadMessage, NoGame, Full, BadSeats, NoStart, NoMatch, SeatTaken, NoSeat, BadName, Unauthorized, AlreadyAttached, NotAttached, NotABot}
use Rattle.game_hall.specs.declared.answer.Answer.{Answer}
use Rattle.game_hall.specs.declared.answer.Answer.TheVariants as answer
use Rattle.game_hall.specs.declared.next.Next.{Next}
use Rattle.game_hall.specs.declared.next.Next.TheVariants.{Calls, Says, Attaches, Silent}
use Rattle.game_hall.specs.declared.request.Request.{Request}
use Rattle.game_hall.specs.declared.request.Request.TheVariants.{Creating, Listing, Looking, Joining, Renaming, Leaving, Syncing, Acting}
use Rattle.game_hall.specs.Words.{seed_of, key_of}
use Rattle.std.specs.Option.{option_map_or}

abbrev pub refuses : {X : Type 0} → Refusal → Next X
refuses why = Says (answer.Refused why)

-- what a line that is no message is refused by: its first faulty member, or the line itself
abbrev pub member_of : Fault → Option Member
member_of (Line fault) = None
member_of UnknownMessage = Some Kind
member_of ExtraField = Some Extra
member_of (Field name fault) = member_from name

-- ---- the table of replies

-- what a room's refusal is to a session
abbrev pub refusal_by : RoomReply → Refusal
refusal_by reply.Busy = Full
refusal_by reply.BadSeats = BadSeats
refusal_by reply.NoStart = NoStart
refusal_by reply.NoSeat = NoSeat
refusal_by reply.SeatTaken = SeatTaken
refusal_by reply.BadName = BadName
refusal_by reply.AlreadyAttached = AlreadyAttached
refusal_by reply.Unauthorized = Unauthorized
refusal_by reply.NotAttached = NotAttached
refusal_by other = NoMatch

-- the answer to a request that its room didn't do; for want of memory the ticket of an act comes back
abbrev pub undone : Option ℕ → RoomReply → Answer
undone ticket reply.NoMemory = answer.Again ticket
undone ticket other = answer.Refused (refusal_by other)

abbrev pub is_busy : RoomReply → Bool
is_busy reply.Busy = true
is_busy other = false

abbrev pub is_starved : RoomReply → Bool
is_starved reply.NoMemory = true
is_starved other = false

abbrev pub is_attached : RoomReply → Bool
is_attached reply.Attached = true
is_attached other = false

abbrev pub is_judged : RoomReply → Bool
is_judged (reply.Verdict verdict) = true
is_judged other = false

-- the answers to requests of one call
abbrev pub created_by : ℕ → RoomReply → Answer
created_by room (reply.Created serial) = answer.Created (record { room = room; serial = serial })
created_by room other = undone None other

abbrev pub looked_by : RoomReply → Answer
looked_by (reply.Looked row) = answer.Match row
looked_by other = undone None other

abbrev pub joined_by : Name → ℕ → List ℕ → RoomReply → Answer
joined_by name seat key reply.Joined = answer.Joined key name seat
joined_by name seat key other = undone None other

abbrev pub renamed_by : Name → ℕ → RoomReply → Answer
renamed_by name seat reply.Renamed = answer.Renamed name seat
renamed_by name seat other = undone None other

abbrev pub left_by : Name → ℕ → RoomReply → Answer
left_by name seat reply.Left = answer.Left name seat
left_by name seat other = undone None other

abbrev pub after_attach : {X : Type 0} → ℕ → RoomReply → Next X
after_attach room told = if is_attached told then Attaches room else Says (undone None told)

-- the verdict on an act stands in the session's stream
abbrev pub after_submit : {X : Type 0} → ℕ → RoomReply → Next X
after_submit ticket told = if is_judged told then Silent else Says (undone (Some ticket) told)

-- the rows of a game's matches, with the one that a room shows
abbrev pub with_row : List ℕ → List MatchRow → RoomReply → List MatchRow
with_row game rows (reply.Looked row) = if bytes_eq row.game game then rows ++ row ∷ [] else rows
with_row game rows other = rows

-- every room is looked at, one after another
abbrev pub lists : {X : Type 0} → ℕ → List ℕ → List MatchRow → ℕ → Next X
lists rooms game rows room = if nat_lt room rooms then Calls room (call.Look None) (Listing game rows room) else Says (answer.Matches rows)

abbrev pub after_listing : {X : Type 0} → ℕ → List ℕ → List MatchRow → ℕ → RoomReply → Next X
after_listing rooms game rows room told = if is_starved told then Says (answer.Again None) else lists rooms game (with_row game rows told) (room + 1)

abbrev pub makes : {X : Type 0} → Option X → List ℕ → ℕ → List ℕ → ℕ → Next X
makes named game seats seed room = option_map_or (λ x. Calls room (call.Create x seats seed) (Creating game seats seed room)) named (refuses NoGame)

-- a room is asked for a call, if it is there
abbrev pub in_room : {X : Type 0} → ℕ → ℕ → RoomCall X → Request → Next X
in_room rooms room asked request = if nat_lt room rooms then Calls room asked request else refuses NoMatch

-- an attached session has a stream already
abbrev pub syncs : {X : Type 0} → ℕ → Option ℕ → ℕ → RoomCall X → Next X
syncs rooms at room asked = option_map_or (λ at. refuses AlreadyAttached) at (in_room rooms room asked (Syncing room))

-- an act goes to the attached room, whatever match it names
abbrev pub acts : {X : Type 0} → Option ℕ → RoomCall X → ℕ → Next X
acts at asked ticket = option_map_or (λ room. Calls room asked (Acting ticket)) at (refuses NotAttached)

abbrev pub lists_of : {X : Type 0} → ℕ → Option X → List ℕ → Next X
lists_of rooms named game = option_map_or (λ x. lists rooms game [] 0) named (refuses NoGame)

module _ {X : Type 0} (named : List ℕ → Option X) (rooms : ℕ) where
  -- a room is asked for a match, if there is one more
  abbrev pub tries : List ℕ → ℕ → List ℕ → ℕ → Next X
  tries game seats seed room = if nat_lt room rooms then makes (named game) game seats seed room else refuses Full

  -- what a reply makes of the request
  abbrev pub next : Request → RoomReply → Next X
  next (Creating game seats seed room) told = if is_busy told then tries game seats seed (room + 1) else Says (created_by room told)
  next (Listing game rows room) told = after_listing rooms game rows room told
  next Looking told = Says (looked_by told)
  next (Joining name seat key) told = Says (joined_by name seat key told)
  next (Renaming name seat) told = Says (renamed_by name seat told)
  next (Leaving name seat) told = Says (left_by name seat told)
  next (Syncing room) told = after_attach room told
  next (Acting ticket) told = after_submit ticket told

  -- ---- the table of lines

  -- what a line makes in a session that is attached to this room, with these words to draw, and this seed if one stands ready
  abbrev pub begins : Option ℕ → ClientMsg → List ℕ → Option (List ℕ) → Next X
  begins at line.Games words seed = Says answer.Games
  begins at (line.Matches game) words seed = lists_of rooms (named game) game
  begins at (line.Look name) words seed = in_room rooms name.room (call.Look (Some name.serial)) Looking
  begins at (line.Create game seats) words seed = tries game seats (seed_of seed words) 0
  begins at (line.Join name player seat) words seed = in_room rooms name.room (call.Join name.serial seat player (key_of words)) (Joining name seat (key_of words))
  begins at (line.Rename key name player seat) words seed = in_room rooms name.room (call.Rename name.serial seat key player) (Renaming name seat)
  begins at (line.Leave key name seat) words seed = in_room rooms name.room (call.Leave name.serial seat key) (Leaving name seat)
  begins at (line.Sync name viewer protocol) words seed = syncs rooms at name.room (call.Attach name.serial viewer protocol)
  begins at (line.Act submission) words seed = acts at (call.Submit submission) submission.ticket
  -- without a bench no seat is a bot's
  begins at (line.Takeover name seat) words seed = refuses NotABot

  -- ---- lines that are no message

  abbrev pub hears : Option ℕ → Result ClientMsg Fault → List ℕ → Option (List ℕ) → Next X
  hears at (Ok message) words seed = begins at message words seed
  hears at (Err fault) words seed = refuses (BadMessage (member_of fault))
