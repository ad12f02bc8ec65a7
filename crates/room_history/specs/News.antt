-- What a client reads of a stream, verdicts aside: what its session was shown, each snapshot once and in order.
use Rattle.std.specs.Prelude.{◌≡◌, List, [], ◌∷◌, ◌++◌, Bool, true, false, if◌then◌else◌}
use Rattle.wire_json.specs.declared.server.ServerMsg.{ServerMsg}
use Rattle.wire_json.specs.declared.server.ServerMsg.TheVariants.{Sync, Update, Change, Bye}
use Rattle.room_history.specs.Piece.{Piece, Line, State, Open}
use Rattle.room_history.specs.Session.{Session, stream_of}
use Rattle.room_history.specs.Showing.{Showing, showings}

-- an answer to the one who asked: it tells nothing of what the session is shown. Of those a stream has the verdicts alone
abbrev pub is_answer : ServerMsg → Bool
is_answer (Sync name seat protocol snapshot) = false
is_answer (Update ctx entry g number) = false
is_answer (Change ctx entry gone put number) = false
is_answer (Bye why) = false
is_answer message = true

-- the messages of a stream, the latest first, without the verdicts
abbrev pub news : List Piece → List ServerMsg
news [] = []
news (Line message ∷ pieces) = if is_answer message then news pieces else message ∷ news pieces
news (piece ∷ pieces) = news pieces

abbrev pub messages : List Showing → List ServerMsg
messages [] = []
messages (t ∷ shown) = t.message ∷ messages shown

-- the messages of what a session was shown, the latest first
abbrev pub messages_of : Session → List ServerMsg
messages_of s = messages (showings s.name s.sheet s.viewer s.protocol s.sight)

-- a stream that goes on tells all that its session was shown; else the older part of it
abbrev pub TellsSight : State → Session → Type 0
TellsSight Open s = news (stream_of s) ≡ messages_of s
TellsSight state s = (more : List ServerMsg) × (messages_of s ≡ more ++ news (stream_of s))
