-- Whether a pass is attached follows from its own calls and their replies. One whose session has ended stays attached until it takes the
-- end or detaches.
use Rattle.std.specs.Prelude.{ℕ, List, Bool, true, false, is_some, Some}
use Rattle.game_trait.specs.Rules.{Rules}
use Rattle.room_object.specs.Entry.{Entry}
use Rattle.room_history.specs.Outbox.{attachment_of}
use Rattle.room_history.specs.Room.{room_of}
use Rattle.room_history.specs.declared.call.RoomCall.{RoomCall}
use Rattle.room_history.specs.declared.call.RoomCall.TheVariants.{Attach, Take, Detach}
use Rattle.room_history.specs.declared.reply.RoomReply.{RoomReply}
use Rattle.room_history.specs.declared.reply.RoomReply.TheVariants as reply

abbrev pub after_attach : Bool → RoomReply → Bool
after_attach before reply.Attached = true
after_attach before other = before

abbrev pub after_end : Bool → RoomReply → Bool
after_end before (reply.Taken bytes (Some why)) = false
after_end before other = before

abbrev pub after_release : Bool → RoomReply → Bool
after_release before reply.Detached = false
after_release before other = before

-- whether a pass is attached after a call of its own and the reply to it
abbrev pub attached_after : {X : Type 0} → Bool → RoomCall X → RoomReply → Bool
attached_after before (Attach serial viewer protocol) answer = after_attach before answer
attached_after before Take answer = after_end before answer
attached_after before Detach answer = after_release before answer
attached_after before call answer = before

module _ {X G : Type 0} (rules : X → Rules G) (room : ℕ) where
  abbrev pub is_attached : List (Entry (RoomCall X)) → ℕ → Bool
  is_attached h pass = is_some (attachment_of ((room_of rules room h).sessions pass))
