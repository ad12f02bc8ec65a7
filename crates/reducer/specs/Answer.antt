-- What a further action is answered where a match stands: the rule that it breaks, or none where it is accepted. An undo is asked of the
-- last done action, within the turn that it was made in, by its own seat, and of a move that the game gives back as it stands now;
-- a redo is asked of the first undone action, by its own seat; and a move or an event is what one action comes to.
use Rattle.std.specs.Prelude.{ℕ, Bool, false, nat_eq, if◌then◌else◌, List, [], ◌∷◌, Option, Some, None, Result}
use Rattle.game_sheet.specs.declared.act.Act.{Act}
use Rattle.game_sheet.specs.declared.act.Act.TheVariants.{Move, Undo, Redo}
use Rattle.game_sheet.specs.declared.refusal.GameRule.{GameRule}
use Rattle.game_sheet.specs.declared.refusal.GameRule.TheVariants.{NothingToUndo, NothingToRedo, NotYours, NotUndoable}
use Rattle.game_trait.specs.Rules.{Rules}
use Rattle.phase_flow.specs.Action.{once}
use Rattle.phase_flow.specs.Reached.{Reached}
use Rattle.reducer.specs.Accepted.{Accepted}
use Rattle.reducer.specs.Folded.{folded}
use Rattle.reducer.specs.Standing.{Standing}
use Rattle.std.specs.Result.{result_err}

-- no event is taken back, and a move where the game says so of the present state
abbrev pub is_undoable : {G : Type 0} → Rules G → Reached G → Act → Bool
is_undoable rules now (Move id args) = rules.undoable now.g now.ctx id
is_undoable rules now other = false

-- a seat asks that the last action be undone, which was made in a turn of this number
abbrev pub undo_broken : {G : Type 0} → Rules G → Reached G → ℕ → Accepted → ℕ → Option GameRule
undo_broken rules now turn last seat = if nat_eq turn now.ctx.turn
    then (if nat_eq last.seat seat then (if is_undoable rules now last.act then None else Some NotUndoable) else Some NotYours)
    else Some NothingToUndo

-- by what the match began with and what it has come to
abbrev pub undo_answer : {G : Type 0} → Rules G → Reached G → Reached G → List Accepted → ℕ → Option GameRule
undo_answer rules first now [] seat = Some NothingToUndo
undo_answer rules first now (last ∷ done) seat = undo_broken rules now (folded rules first done).ctx.turn last seat

abbrev pub redo_answer : List Accepted → ℕ → Option GameRule
redo_answer [] seat = Some NothingToRedo
redo_answer (next ∷ undone) seat = if nat_eq next.seat seat then None else Some NotYours

-- with the actions that are done and those that are undone
abbrev pub answer_by : {G : Type 0} → Rules G → Reached G → Reached G → List Accepted → List Accepted → ℕ → Act → Option GameRule
answer_by rules first now done undone seat Undo = undo_answer rules first now done seat
answer_by rules first now done undone seat Redo = redo_answer undone seat
answer_by rules first now done undone seat act = result_err (once rules now seat act)

abbrev pub answer_on : {G : Type 0} → Rules G → Standing G → ℕ → Act → Option GameRule
answer_on rules s seat act = answer_by rules s.first s.table s.done s.undone seat act
