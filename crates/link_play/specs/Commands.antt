-- The lines of commands in form, and what each asks for. A line is one word, or `act` and behind one blank an act as the member of a
-- client's line has it, or an act in short. Empty lines and lines that begin with # ask for nothing.
use Rattle.std.specs.Prelude.{ℕ, ◌==◌, ◌+◌, ◌++◌, if◌then◌else◌, List, [], ◌∷◌, take, drop, position, bytes_eq, codes, Option, Some, None, option_map, Result, Ok, Err}
use Rattle.serde_json.specs.Data.{Members, object}
use Rattle.json_tree.specs.Lines.{text_read}
use Rattle.json_tree.specs.declared.lines.LineFault.{LineFault}
use Rattle.wire_json.specs.Acts.{asked_in}
use Rattle.wire_json.specs.declared.asked.Asked.{Asked}
use Rattle.link_play.specs.declared.command.Command.{Command as Read}
use Rattle.link_play.specs.declared.command.Command.TheVariants as read

pub data Command : Type 0 where
  -- what a run begins with; no line asks for it
  Syncs : Command
  Nothing : Command
  Acts : Asked → Command
  Reads : Command
  Waits : Command
  Shows : Command
  Ends : Command

abbrev pub asked_by : Result Members LineFault → Option Asked
asked_by (Ok ms) = asked_in (object ms)
asked_by (Err fault) = None

-- the act that a text is
abbrev pub asked_of : List ℕ → Option Asked
asked_of text = asked_by (text_read text)

-- the act of a move by its name, with arguments as the items of an array
abbrev pub move_text : List ℕ → List ℕ → List ℕ
move_text name args = (((codes "{\"args\":[" ++ args) ++ codes "],\"kind\":\"move\",\"move\":\"") ++ name) ++ codes "\"}"

-- the name stands before the first blank, the arguments behind it
abbrev pub move_at : List ℕ → Option ℕ → List ℕ
move_at text None = move_text text []
move_at text (Some place) = move_text (take place text) (drop (place + 1) text)

abbrev pub move_in_short : List ℕ → Option (List ℕ)
move_in_short line =
    if bytes_eq (take 5 line) (codes "move ") then Some (move_at (drop 5 line) (position (λ b. b == 32) (drop 5 line)))
    else None

-- the act that a line says in short
unfoldable pub act_in_short : List ℕ → Option (List ℕ)
act_in_short line =
    if bytes_eq line (codes "end turn") then Some (codes "{\"event\":\"endTurn\",\"kind\":\"event\",\"to\":null}")
    else if bytes_eq line (codes "end stage") then Some (codes "{\"event\":\"endStage\",\"kind\":\"event\",\"to\":null}")
    else if bytes_eq line (codes "end phase") then Some (codes "{\"event\":\"endPhase\",\"kind\":\"event\",\"to\":null}")
    else if bytes_eq line (codes "undo") then Some (codes "{\"kind\":\"undo\"}")
    else if bytes_eq line (codes "redo") then Some (codes "{\"kind\":\"redo\"}")
    else move_in_short line

abbrev pub acts_in_short : Option (List ℕ) → Option Command
acts_in_short None = None
acts_in_short (Some text) = option_map Acts (asked_of text)

-- what a line asks for that is neither empty nor a comment
abbrev pub by_words : List ℕ → Option Command
by_words line =
    if bytes_eq line (codes "read") then Some Reads
    else if bytes_eq line (codes "wait") then Some Waits
    else if bytes_eq line (codes "show") then Some Shows
    else if bytes_eq line (codes "end") then Some Ends
    else if bytes_eq (take 4 line) (codes "act ") then option_map Acts (asked_of (drop 4 line))
    else acts_in_short (act_in_short line)

-- what a line asks for; none where it is in no form
unfoldable pub command_of : List ℕ → Option Command
command_of [] = Some Nothing
command_of (b ∷ rest) = if b == 35 then Some Nothing else by_words (b ∷ rest)

-- what a command that was read asks for
abbrev pub command_is : Read → Command
command_is read.Nothing = Nothing
command_is (read.Acts asked) = Acts asked
command_is read.Reads = Reads
command_is read.Waits = Waits
command_is read.Shows = Shows
command_is read.Ends = Ends
