-- The action that is kept, and how many arguments it can have.
use Rattle.std.specs.Prelude.{◌≤◌, length}
use Rattle.game_sheet.specs.declared.act.Act.{Act}
use Rattle.game_sheet.specs.declared.act.Act.TheVariants as whole
use Rattle.move_log.specs.declared.kept_act.Kept.{Kept}
use Rattle.move_log.specs.declared.kept_act.Kept.TheVariants.{Move, Event as Asks, Undo, Redo}

abbrev pub act_kept : Kept → Act
act_kept (Move id args) = whole.Move id args.items
act_kept (Asks event) = whole.Event event
act_kept Undo = whole.Undo
act_kept Redo = whole.Redo

abbrev pub FewArguments : Kept → Type 0
FewArguments (Move id args) = length args.items ≤ 8
FewArguments (Asks event) = Unit {0}
FewArguments Undo = Unit {0}
FewArguments Redo = Unit {0}
