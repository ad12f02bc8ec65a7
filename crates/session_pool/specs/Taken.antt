-- A reply to a Take of a pass that is attached: what waited, in whole lines; or a room that has stopped refused it.
use Rattle.room_history.specs.declared.reply.RoomReply.{RoomReply}
use Rattle.room_history.specs.declared.reply.RoomReply.TheVariants as reply
use Rattle.session_pool.specs.Lines.{AreWhole}

abbrev pub IsTaken : RoomReply → Type 0
IsTaken (reply.Taken bytes over) = AreWhole bytes
IsTaken reply.NoMemory = Unit {0}
IsTaken told = ⊥
