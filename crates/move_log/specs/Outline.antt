-- What a viewer sees of an entry besides its arguments, and the entry that it is with some arguments.
use Rattle.std.specs.Prelude.{ℕ, List, [], Option, ◌||◌}
use Rattle.game_sheet.specs.declared.act.Act.{Act}
use Rattle.game_sheet.specs.declared.act.Act.TheVariants as whole
use Rattle.game_sheet.specs.declared.args.Arg.{Arg}
use Rattle.game_sheet.specs.declared.sheet.Sheet.{Sheet}
use Rattle.move_log.specs.Redact.{conceals}
use Rattle.move_log.specs.declared.entry.Entry.{Entry}
use Rattle.move_log.specs.declared.outline.Outline.{Outline}
use Rattle.move_log.specs.declared.outline.Outline.TheVariants.{Move, Event as Asks, Undo, Redo}
use Rattle.move_log.specs.declared.outline.Seen.{Seen}

abbrev pub outline_of : Act → Outline
outline_of (whole.Move id args) = Move id
outline_of (whole.Event event) = Asks event
outline_of whole.Undo = Undo
outline_of whole.Redo = Redo

-- only a move has arguments
abbrev pub args_of : Act → List Arg
args_of (whole.Move id args) = args
args_of (whole.Event event) = []
args_of whole.Undo = []
args_of whole.Redo = []

abbrev pub with_args : Outline → List Arg → Act
with_args (Move id) args = whole.Move id args
with_args (Asks event) args = whole.Event event
with_args Undo args = whole.Undo
with_args Redo args = whole.Redo

abbrev pub seen : Sheet → Option ℕ → Entry → Seen
seen sheet viewer e = record {
  seat = e.seat;
  act = outline_of e.act;
  hidden = e.hidden || conceals sheet viewer e;
  number = e.number;
  turn = e.turn;
  phase = e.phase;
}

abbrev pub entry_with : Seen → List Arg → Entry
entry_with s args = record {
  seat = s.seat;
  act = with_args s.act args;
  hidden = s.hidden;
  number = s.number;
  turn = s.turn;
  phase = s.phase;
  words = 0;
}
