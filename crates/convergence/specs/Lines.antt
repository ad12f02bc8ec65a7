-- What a client reads in the lines of a stream.
use Rattle.std.specs.Prelude.{◌≡◌, ◌≤◌, List, [], ◌∷◌, Ok}
use Rattle.wire_json.specs.declared.server.ServerMsg.{ServerMsg}
use Rattle.wire_json.specs.ServerText.{server_members, text}
use Rattle.room_history.specs.Piece.{Piece, Line, Mark, End}
use Rattle.serde_json.specs.Data.{object, depth}
use Rattle.serde_json.specs.Read.{max_depth}
use Rattle.wire_json.specs.ServerReading.{server_read}

abbrev pub ReadsBack : ServerMsg → Type 0
ReadsBack message = server_read (text message) ≡ Ok message

-- a message whose line is nested at most 127 deep, as deep as JSON is read
abbrev pub IsShallow : ServerMsg → Type 0
IsShallow message = depth (object (server_members message)) ≤ max_depth

-- something holds of each line of a stream, the bye line aside
abbrev pub AllLines : (ServerMsg → Type 0) → List Piece → Type 0
AllLines Holds [] = Unit {0}
AllLines Holds (Line message ∷ pieces) = Holds message × AllLines Holds pieces
AllLines Holds (Mark ∷ pieces) = AllLines Holds pieces
AllLines Holds (End why ∷ pieces) = AllLines Holds pieces
