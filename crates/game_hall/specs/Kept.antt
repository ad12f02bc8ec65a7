-- What a core keeps to: its rooms are there, and so is each room that it speaks of.
use Rattle.std.specs.Prelude.{◌≤◌, ◌<◌, ℕ, Option, IfSome}
use Rattle.room_history.specs.declared.call.RoomCall.{RoomCall}
use Rattle.room_history.specs.declared.reply.RoomReply.{RoomReply}
use Rattle.room_history.specs.declared.reply.RoomReply.TheVariants as reply
use Rattle.game_hall.specs.declared.next.Next.{Next}
use Rattle.game_hall.specs.declared.next.Next.TheVariants.{Calls, Attaches}
use Rattle.game_hall.specs.declared.request.Request.{Request}
use Rattle.game_hall.specs.declared.request.Request.TheVariants.{Creating, Listing, Looking, Syncing}

abbrev pub RequestIn : ℕ → Request → Type 0
RequestIn rooms (Creating game seats seed room) = room < rooms
RequestIn rooms (Listing game rows room) = room < rooms
RequestIn rooms (Syncing room) = room < rooms
RequestIn rooms other = Unit {0}

abbrev pub NextIn : {X : Type 0} → ℕ → Next X → Type 0
NextIn rooms (Calls room call request) = (room < rooms) × RequestIn rooms request
NextIn rooms (Attaches room) = room < rooms
NextIn rooms other = Unit {0}

pub record IsKept {X : Type 0} (rooms : ℕ) (at : Option ℕ) (call : Option (ℕ × RoomCall X)) (request : Option Request) : Type 0 where
  pub least : 1 ≤ rooms
  pub most : rooms ≤ 64
  pub attached : IfSome at (λ room. room < rooms)
  pub called : IfSome call (λ c. c.0 < rooms)
  pub asked : IfSome request (RequestIn rooms)

-- a match that was made has a serial
abbrev pub IsNamed : RoomReply → Type 0
IsNamed (reply.Created serial) = 1 ≤ serial
IsNamed other = Unit {0}

-- the requests and replies that a core takes memory to go on from
abbrev pub MayWantMemory : Request → RoomReply → Type 0
MayWantMemory (Creating game seats seed room) reply.Busy = Unit {0}
MayWantMemory (Listing game rows room) (reply.Looked row) = Unit {0}
MayWantMemory Looking (reply.Looked row) = Unit {0}
MayWantMemory request other = ⊥
