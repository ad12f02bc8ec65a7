-- What calls keep by their types: a seat that attaches is a byte, and a submission asks for an action in its form on the wire and has a
-- ticket of 32 bits.
use Rattle.std.specs.Prelude.{◌≤◌, List, [], ◌∷◌}
use Rattle.game_sheet.specs.Viewer.{seat_of}
use Rattle.room_history.specs.declared.call.RoomCall.{RoomCall}
use Rattle.room_history.specs.declared.call.RoomCall.TheVariants.{Attach, Submit}
use Rattle.room_object.specs.Entry.{Entry}
use Rattle.sheet_json.specs.Seats.{IsWithin}
use Rattle.wire_json.specs.Asking.{AskedFits}

abbrev pub CallFits : {X : Type 0} → RoomCall X → Type 0
CallFits (Attach serial viewer protocol) = IsWithin 255 (seat_of viewer)
CallFits (Submit s) = AskedFits s.asked × (s.ticket ≤ 4294967295)
CallFits call = Unit {0}

-- all calls of a history, those too that met a want of memory
abbrev pub CallsFit : {X : Type 0} → List (Entry (RoomCall X)) → Type 0
CallsFit [] = Unit {0}
CallsFit (e ∷ h) = CallFits e.call × CallsFit h
