-- A session's core: a machine from a session's lines and the rooms' replies to calls of rooms and direct answers.
use Rattle.std.specs.Prelude.{◌≡◌, ℕ, List, [], Bool, true, false, Option, Some, None, IsSome, Result}
use Rattle.game_sheet.specs.MatchName.{Name}
use Rattle.wire_json.specs.Refusals.{Refusal as Fault}
use Rattle.room_history.specs.declared.call.RoomCall.{RoomCall}
use Rattle.room_history.specs.declared.reply.RoomReply.{RoomReply}
use Rattle.wire_json.specs.declared.client.ClientMsg.{ClientMsg}
use Rattle.game_hall.specs.declared.answer.Answer.{Answer}
use Rattle.game_hall.specs.declared.answer.Answer.TheVariants.{Again}
use Rattle.game_hall.specs.Answers.{line_of}
use Rattle.game_hall.specs.Bench.{bench_after, bench_answer, or_bench, sought, sought_for}
use Rattle.game_hall.specs.declared.bench.Bench.{Bench}
use Rattle.game_hall.specs.declared.bench.Bench.TheVariants.{Absent, Idle}
use Rattle.game_hall.specs.declared.next.Next.{Next}
use Rattle.game_hall.specs.declared.next.Next.TheVariants.{Calls, Says, Attaches, Silent}
use Rattle.game_hall.specs.declared.request.Request.{Request}
use Rattle.game_hall.specs.declared.request.Request.TheVariants.{Acting}
use Rattle.game_hall.specs.Requests.{hears, next}
use Rattle.std.specs.Option.{option_map_or}

pub record Core (X : Type 0) : Type 0 where
  -- the number by which rooms know the session
  pub pass : ℕ
  -- how many rooms there are
  pub rooms : ℕ
  -- the room that the session is attached to
  pub at : Option ℕ
  -- the next call, with its room, until it is handed out
  pub call : Option (ℕ × RoomCall X)
  -- the open request
  pub request : Option Request
  -- the direct answer, until it is handed out
  pub said : Option Answer
  -- the bench of bots, as far as the session asks for it
  pub bench : Bench
  -- whether a bot of the session has sat down
  pub sat : Bool

abbrev pub fresh : {X : Type 0} → ℕ → ℕ → Core X
fresh pass rooms = record { pass = pass; rooms = rooms; at = None; call = None; request = None; said = None; bench = Absent; sat = false }

-- takeovers are put to a bench
abbrev pub with_bench : {X : Type 0} → Core X → Core X
with_bench c = record c { bench = Idle }

abbrev pub moved : {X : Type 0} → Core X → Next X → Core X
moved c (Calls room asked request) = record c { call = Some (room, asked); request = Some request }
moved c (Says answer) = record c { call = None; request = None; said = Some answer }
moved c (Attaches room) = record c { call = None; request = None; at = Some room }
moved c Silent = record c { call = None; request = None }

-- a request for which there was no memory is closed, and answered so
abbrev pub starved : {X : Type 0} → Core X → Option ℕ → Core X
starved c ticket = moved c (Says (Again ticket))

module _ {X : Type 0} (named : List ℕ → Option X) where
  -- a line was read, with these words to draw, and this seed if one stands ready
  abbrev pub heard : Core X → Result ClientMsg Fault → List ℕ → Option (List ℕ) → Core X
  heard c read words seed = moved (record c { bench = bench_after c.bench read }) (or_bench c.bench read (hears named c.rooms c.at read words seed))

  abbrev pub replied : Core X → Option Request → RoomReply → Core X
  replied c awaited told = option_map_or (λ request. moved c (next named c.rooms request told)) awaited c

  -- the call was replied to
  abbrev pub answered : Core X → RoomReply → Core X
  answered c told = replied c c.request told

-- the takeover was put to the bench
abbrev pub bot_wanted : {X : Type 0} → Core X → Core X
bot_wanted c = record c { bench = sought c.bench }

abbrev pub bot_told : {X : Type 0} → Core X → Option (Name × ℕ) → Bool → Core X
bot_told c None held = c
bot_told c (Some place) held = record c { bench = Idle; said = Some (bench_answer held place) }

-- the bench answered: whether a bot has the seat, and is asked to leave it
abbrev pub bot_answered : {X : Type 0} → Core X → Bool → Core X
bot_answered c held = bot_told c (sought_for c.bench) held

-- a bot of the session has sat down
abbrev pub bot_sat : {X : Type 0} → Core X → Core X
bot_sat c = record c { sat = true }

-- the call was handed out
abbrev pub asked : {X : Type 0} → Core X → Core X
asked c = record c { call = None }

abbrev pub text_said : Option Answer → List ℕ
text_said None = []
text_said (Some answer) = line_of answer

-- a line that met a want of memory is answered so
abbrev pub is_again : Option Answer → Bool
is_again (Some (Again ticket)) = true
is_again said = false

-- the line of the direct answer
abbrev pub written : {X : Type 0} → Core X → List ℕ
written c = text_said c.said

-- it was handed out
abbrev pub plain : {X : Type 0} → Core X → Core X
plain c = record c { said = None }

abbrev pub released : {X : Type 0} → Core X → Core X
released c = record c { at = None }

-- the ticket of an open act
abbrev pub ticket_of : Option Request → Option ℕ
ticket_of (Some (Acting ticket)) = Some ticket
ticket_of other = None

-- a core that has taken a line or a reply: it has a call to make, or its request is closed
abbrev pub IsSettled : {X : Type 0} → Option (ℕ × RoomCall X) → Option Request → Option Answer → Type 0
IsSettled None request said = request ≡ None
IsSettled (Some call) request said = IsSome request × (said ≡ None)
