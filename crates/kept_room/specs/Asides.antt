-- Which calls ask for no change, whoever makes them.
use Rattle.std.specs.Prelude.{Bool, true, false, not}
use Rattle.any_game.specs.GameKind.{GameKind}
use Rattle.room_history.specs.declared.call.RoomCall.{RoomCall}
use Rattle.room_history.specs.declared.call.RoomCall.TheVariants.{Look, Attach, Take, Detach}

abbrev pub is_aside : RoomCall GameKind → Bool
is_aside (Look serial) = true
is_aside (Attach serial viewer protocol) = true
is_aside Take = true
is_aside Detach = true
is_aside other = false

abbrev pub is_detach : RoomCall GameKind → Bool
is_detach Detach = true
is_detach other = false

-- a room that has stopped refuses every call but a Detach
abbrev pub may_refuse : RoomCall GameKind → Bool
may_refuse call = not (is_detach call)
