-- A call that a session made in a room, with its reply.
use Rattle.std.specs.Prelude.{ℕ}
use Rattle.any_game.specs.GameKind.{GameKind}
use Rattle.room_history.specs.declared.call.RoomCall.{RoomCall}
use Rattle.room_history.specs.declared.reply.RoomReply.{RoomReply}

-- in which room, what was asked, and the reply
pub record Did : Type 0 where
  pub room : ℕ
  pub call : RoomCall GameKind
  pub reply : RoomReply

abbrev pub did : ℕ → RoomCall GameKind → RoomReply → Did
did room call reply = record { room = room; call = call; reply = reply }
