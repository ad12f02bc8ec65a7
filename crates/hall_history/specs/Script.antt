-- What the lines of a script print, one after another, by what they make of a server's hall. The marks say, line by line, how the lines of
-- sessions went.
use Rattle.std.specs.Prelude.{ℕ, List, [], ◌∷◌, ◌++◌, decimal, drop, Option, Some, None}
use Rattle.std.specs.List.{flat_map}
use Rattle.game_sheet.specs.Lines.{lines}
use Rattle.game_trait.specs.Rules.{Rules}
use Rattle.game_hall.specs.Answers.{line_of}
use Rattle.game_hall.specs.declared.answer.Answer.TheVariants as answer
use Rattle.room_history.specs.Session.{bytes_handed_out}
use Rattle.room_history.specs.declared.call.RoomCall.TheVariants.{Take, Detach}
use Rattle.room_history.specs.declared.reply.RoomReply.{RoomReply}
use Rattle.room_history.specs.declared.reply.RoomReply.TheVariants.{NotAttached}
use Rattle.wire_json.specs.declared.refusal.Refusal.TheVariants as refusal
use Rattle.hall_history.specs.Freeing.{frees}
use Rattle.hall_history.specs.Hall.{Hall, after_line, new_hall}
use Rattle.hall_history.specs.Mark.{Mark, Served}
use Rattle.hall_history.specs.Opening.{after_open, opened_text}
use Rattle.std.specs.Option.{option_map_or}

-- what a line of a script in form asks for: nothing, a seed for the next match, a match of a game with so many seats, a line of a session,
-- and a session's Take and Detach
pub data Step : Type 0 where
  Nothing : Step
  Seeds : List ℕ → Step
  Opens : List ℕ → ℕ → Step
  Says : ℕ → List ℕ → Step
  Takes : ℕ → Step
  Detaches : ℕ → Step

-- each line that a session is sent stands behind its number
abbrev pub to_session : ℕ → List ℕ → List ℕ
to_session pass line = decimal pass ++ 32 ∷ line

abbrev pub all_to_session : ℕ → List ℕ → List ℕ
all_to_session pass bytes = flat_map (to_session pass) (lines bytes)

abbrev pub unattached_text : ℕ → List ℕ
unattached_text pass = to_session pass (line_of (answer.Refused refusal.NotAttached))

-- a Take prints what it hands out, the bye line too, and a Detach nothing
abbrev pub freed_text : ℕ → Option RoomReply → List ℕ
freed_text pass None = unattached_text pass
freed_text pass (Some NotAttached) = unattached_text pass
freed_text pass (Some told) = all_to_session pass (bytes_handed_out told)

module _ {X G : Type 0} (named : List ℕ → Option X) (rules : X → Rules G) (tape : ℕ → List ℕ) where
  abbrev pub prints : {A : Type 0} → (A → List ℕ) → Hall X × A → Hall X × List ℕ
  prints text done = (done.0, text done.1)

  -- the hall after a step, and what the step prints
  abbrev pub does : Mark → Step → Hall X → Hall X × List ℕ
  does mark Nothing h = (h, [])
  does mark (Seeds seed) h = (record h { seed = Some seed }, [])
  does mark (Opens game seats) h = prints opened_text (after_open named rules tape h game seats)
  does mark (Says pass line) h = prints (λ said. option_map_or (λ said. to_session pass (line_of said)) said []) (after_line named rules tape mark h pass line)
  does mark (Takes pass) h = prints (freed_text pass) (frees rules h pass Take)
  does mark (Detaches pass) h = prints (freed_text pass) (frees rules h pass Detach)

-- the mark of the first step; where there is none, it was served
abbrev pub first_mark : List Mark → Mark
first_mark [] = Served
first_mark (mark ∷ marks) = mark

module _ {X G : Type 0} (named : List ℕ → Option X) (rules : X → Rules G) (tape : ℕ → List ℕ) where
  -- the hall after these steps, the first one first, and what they print
  abbrev pub runs_script : List Mark → List Step → Hall X → Hall X × List ℕ
  runs_script marks [] h = (h, [])
  runs_script marks (step ∷ steps) h =
      let done = does named rules tape (first_mark marks) step h in let rest = runs_script (drop 1 marks) steps done.0 in (rest.0, done.1 ++ rest.1)

  -- the hall after a script over so many rooms, and the script's transcript
  abbrev pub script_hall : ℕ → List Mark → List Step → Hall X
  script_hall rooms marks steps = (runs_script marks steps (new_hall rooms)).0

  unfoldable pub transcript : ℕ → List Mark → List Step → List ℕ
  transcript rooms marks steps = (runs_script marks steps (new_hall rooms)).1
