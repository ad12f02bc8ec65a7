-- A Take, or a Detach, of a session in the room that it is attached to, whatever the rooms are. An end that is handed out, and a Detach,
-- set the session free.
use Rattle.std.specs.Prelude.{◌≡◌, ℕ, true, if◌then◌else◌, Option, Some, None}
use Rattle.any_game.specs.GameKind.{GameKind}
use Rattle.game_hall.specs.Core.{Core, released}
use Rattle.room_history.specs.Presence.{attached_after}
use Rattle.room_history.specs.declared.call.RoomCall.{RoomCall}
use Rattle.room_history.specs.declared.reply.RoomReply.{RoomReply}
use Rattle.session_driver.specs.Calls.{Did, did}
use Rattle.session_driver.specs.Hearing.{Side}

-- the core after the reply to a call of an attached session
abbrev pub freed_by : RoomCall GameKind → RoomReply → Core GameKind → Core GameKind
freed_by made told core = if attached_after true made told then core else released core

-- over rooms whose calls, by a pass, come to this
module _ {S : Type 0} (calls : S → ℕ → Did → S → Type 0) where
  -- the call was made in the room that the session is attached to; nothing was, where it isn't attached
  abbrev pub FreesAt : RoomCall GameKind → Option ℕ → Side S → Option RoomReply → Side S → Type 0
  FreesAt made None s told t = (told ≡ None) × (t ≡ s)
  FreesAt made (Some room) s told t =
      (reply : RoomReply) × (told ≡ Some reply) × calls s.rooms s.core.pass (did room made reply) t.rooms × (t.core ≡ freed_by made reply s.core)

  -- a session's Take or Detach, with its reply
  abbrev pub Frees : RoomCall GameKind → Side S → Option RoomReply → Side S → Type 0
  Frees made s told t = FreesAt made s.core.at s told t
