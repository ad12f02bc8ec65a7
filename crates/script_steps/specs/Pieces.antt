-- What the lines of a script print, piece by piece, and what of it is told to a session: the lines that its Takes hand out. A session is named
-- by its pass, its room and by which of the pass's attachings there began it, from 0.
use Rattle.std.specs.Prelude.{ℕ, ◌+◌, ◌==◌, Bool, false, ◌&&◌, if◌then◌else◌, List, [], ◌∷◌, ◌++◌, length, map, drop, Option, Some, None}
use Rattle.std.specs.List.{flat_map}
use Rattle.game_sheet.specs.Lines.{lines}
use Rattle.game_trait.specs.Rules.{Rules}
use Rattle.game_hall.specs.Answers.{line_of}
use Rattle.game_hall.specs.Core.{is_again}
use Rattle.game_hall.specs.declared.answer.Answer.{Answer}
use Rattle.game_hall.specs.declared.answer.Answer.TheVariants as answer
use Rattle.room_history.specs.Room.{room_of}
use Rattle.room_history.specs.Session.{bytes_handed_out}
use Rattle.room_history.specs.declared.call.RoomCall.TheVariants.{Take, Detach}
use Rattle.room_history.specs.declared.reply.RoomReply.{RoomReply}
use Rattle.room_history.specs.declared.reply.RoomReply.TheVariants.{NotAttached}
use Rattle.wire_json.specs.declared.refusal.Refusal.TheVariants as refusal
use Rattle.hall_history.specs.Freeing.{frees}
use Rattle.hall_history.specs.Hall.{Hall, after_line}
use Rattle.hall_history.specs.Mark.{Mark}
use Rattle.hall_history.specs.Opening.{after_open, opened_text}
use Rattle.hall_history.specs.Rooms.{history_of}
use Rattle.hall_history.specs.Script.{Step, Nothing, Seeds, Opens, Says, Takes, Detaches, does, first_mark, to_session}
use Rattle.std.specs.Option.{option_map_or}

pub data Print : Type 0 where
  -- which match was opened, or that all rooms are full
  Word : List ℕ → Print
  -- to a pass, the direct answer to its line
  Answered : ℕ → Answer → Print
  -- to a pass, in a room, by so many of its attachings there: a line that its Take hands out
  Told : ℕ → ℕ → ℕ → List ℕ → Print

abbrev pub print_text : Print → List ℕ
print_text (Word text) = text
print_text (Answered pass said) = to_session pass (line_of said)
print_text (Told pass room count line) = to_session pass line

-- the lines that are told to the session, in order
module _ (pass room j : ℕ) where
  abbrev pub told_by : Print → List (List ℕ)
  told_by (Told p r count line) = if (p == pass) && ((r == room) && (count == j + 1)) then line ∷ [] else []
  told_by other = []

  abbrev pub told_to : List Print → List (List ℕ)
  told_to prints = flat_map told_by prints

-- no line was answered that there was no memory for it
abbrev pub says_again : Print → Bool
says_again (Answered pass said) = is_again (Some said)
says_again other = false

-- ---- what each step prints

abbrev pub unattached_pieces : ℕ → List Print
unattached_pieces pass = Answered pass (answer.Refused refusal.NotAttached) ∷ []

abbrev pub handed_pieces : ℕ → ℕ → ℕ → Option RoomReply → List Print
handed_pieces pass room count None = unattached_pieces pass
handed_pieces pass room count (Some NotAttached) = unattached_pieces pass
handed_pieces pass room count (Some told) = map (Told pass room count) (lines (bytes_handed_out told))

module _ {X G : Type 0} (named : List ℕ → Option X) (rules : X → Rules G) (tape : ℕ → List ℕ) where
  -- how many attachings a pass has begun in a room
  abbrev pub attachings : Hall X → ℕ → ℕ → ℕ
  attachings h room pass = length ((room_of rules room (history_of h.rooms room)).sessions pass)

  abbrev pub freed_pieces : Hall X → ℕ → Option ℕ → Option RoomReply → List Print
  freed_pieces h pass at told = option_map_or (λ room. handed_pieces pass room (attachings h room pass) told) at (unattached_pieces pass)

  abbrev pub pieces_of : Mark → Step → Hall X → List Print
  pieces_of mark Nothing h = []
  pieces_of mark (Seeds seed) h = []
  pieces_of mark (Opens game seats) h = Word (opened_text (after_open named rules tape h game seats).1) ∷ []
  pieces_of mark (Says pass line) h = option_map_or (λ said. Answered pass said ∷ []) (after_line named rules tape mark h pass line).1 []
  pieces_of mark (Takes pass) h = freed_pieces h pass (h.at pass) (frees rules h pass Take).1
  pieces_of mark (Detaches pass) h = freed_pieces h pass (h.at pass) (frees rules h pass Detach).1

  -- what steps print, the first one first
  abbrev pub pieces_from : List Mark → List Step → Hall X → List Print
  pieces_from marks [] h = []
  pieces_from marks (step ∷ steps) h =
      pieces_of (first_mark marks) step h ++ pieces_from (drop 1 marks) steps (does named rules tape (first_mark marks) step h).0
