-- The pieces that a stream is made of, the latest first, and what can be read off them: how the stream stands, and its lines.
use Rattle.std.specs.Prelude.{ℕ, ◌+◌, List, [], ◌∷◌, ◌++◌, length}
use Rattle.game_sheet.specs.declared.act.Bye.{Bye}
use Rattle.wire_json.specs.declared.server.ServerMsg.{ServerMsg}
use Rattle.wire_json.specs.declared.server.ServerMsg.TheVariants.{Sync, Bye as Farewell}
use Rattle.wire_json.specs.ServerText.{text}

-- a message, the place at which a Take handed out what was there, or the end
pub data Piece : Type 0 where
  Line : ServerMsg → Piece
  Mark : Piece
  End : Bye → Piece

-- whether a stream goes on, has ended, or its end was handed out
pub data State : Type 0 where
  Open : State
  Ended : Bye → State
  Closed : State

-- a Take hands out the end
abbrev pub state_after_take : State → State
state_after_take Open = Open
state_after_take (Ended why) = Closed
state_after_take Closed = Closed

abbrev pub state_of : List Piece → State
state_of [] = Open
state_of (Line message ∷ pieces) = state_of pieces
state_of (Mark ∷ pieces) = state_after_take (state_of pieces)
state_of (End why ∷ pieces) = Ended why

-- how many bytes of a message's line count as waiting: none of the sync line's
abbrev pub counted_size : ServerMsg → ℕ
counted_size (Sync name seat protocol snapshot) = 0
counted_size message = length (text message)

-- how many bytes wait since the last mark
abbrev pub waiting_size : List Piece → ℕ
waiting_size [] = 0
waiting_size (Line message ∷ pieces) = waiting_size pieces + counted_size message
waiting_size (Mark ∷ pieces) = 0
waiting_size (End why ∷ pieces) = waiting_size pieces

-- the lines since the last mark, in order
abbrev pub waiting_lines : List Piece → List (List ℕ)
waiting_lines [] = []
waiting_lines (Line message ∷ pieces) = waiting_lines pieces ++ text message ∷ []
waiting_lines (Mark ∷ pieces) = []
waiting_lines (End why ∷ pieces) = waiting_lines pieces

-- all lines, in order, and at an end the bye line
abbrev pub all_lines : List Piece → List (List ℕ)
all_lines [] = []
all_lines (Line message ∷ pieces) = all_lines pieces ++ text message ∷ []
all_lines (Mark ∷ pieces) = all_lines pieces
all_lines (End why ∷ pieces) = all_lines pieces ++ text (Farewell why) ∷ []

-- the pieces before the last mark
abbrev pub to_mark : List Piece → List Piece
to_mark [] = []
to_mark (Mark ∷ pieces) = pieces
to_mark (piece ∷ pieces) = to_mark pieces

abbrev pub lines_to_mark : List Piece → List (List ℕ)
lines_to_mark pieces = all_lines (to_mark pieces)

-- the lines without the bye line
abbrev pub message_lines : List Piece → List (List ℕ)
message_lines [] = []
message_lines (Line message ∷ pieces) = message_lines pieces ++ text message ∷ []
message_lines (Mark ∷ pieces) = message_lines pieces
message_lines (End why ∷ pieces) = message_lines pieces

abbrev pub message_lines_to_mark : List Piece → List (List ℕ)
message_lines_to_mark pieces = message_lines (to_mark pieces)

abbrev pub without_marks : List Piece → List Piece
without_marks [] = []
without_marks (Mark ∷ pieces) = without_marks pieces
without_marks (piece ∷ pieces) = piece ∷ without_marks pieces
