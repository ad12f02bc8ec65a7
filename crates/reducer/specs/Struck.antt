-- Which accepted actions are done and which are undone, by the struck list: an undo and a redo move one, and any other action is done.
use Rattle.std.specs.Prelude.{List, map}
use Rattle.game_sheet.specs.declared.act.Act.{Act}
use Rattle.game_sheet.specs.declared.act.Act.TheVariants.{Move, Event as Asks, Undo, Redo}
use Rattle.undo_redo.specs.StruckList.{Call, advance, undo, redo, Struck, struck}
use Rattle.reducer.specs.Accepted.{Accepted}

abbrev pub called : Act → Accepted → Call Accepted
called (Move id args) a = advance a
called (Asks event) a = advance a
called Undo a = undo
called Redo a = redo

-- what an action does to the two lists
abbrev pub call_of : Accepted → Call Accepted
call_of a = called a.act a

-- the two lists after accepted actions
abbrev pub struck_of : List Accepted → Struck Accepted
struck_of accepted = struck (map call_of accepted)

-- a move or an event, which goes to the end of done
abbrev pub IsDeed : Act → Type 0
IsDeed (Move id args) = Unit {0}
IsDeed (Asks event) = Unit {0}
IsDeed Undo = ⊥
IsDeed Redo = ⊥
