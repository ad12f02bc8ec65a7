-- How one action on a state is answered: by the rule that it breaks there, or by the state after it, whose lists it has struck and whose
-- table is the fold over what is then done. Want of memory is free.
use Rattle.std.specs.Prelude.{◌≡◌, ◌+◌, ℕ, Some, None, Result, Ok, Err}
use Rattle.game_sheet.specs.declared.act.Act.{Act}
use Rattle.game_sheet.specs.declared.refusal.GameNo.{GameNo}
use Rattle.game_sheet.specs.declared.refusal.GameNo.TheVariants.{Broken, NoMemory}
use Rattle.game_trait.specs.Rules.{Rules}
use Rattle.undo_redo.specs.StruckList.{Struck, strike}
use Rattle.reducer.specs.Accepted.{Accepted}
use Rattle.reducer.specs.Answer.{answer_on}
use Rattle.reducer.specs.Folded.{came_by, folded, leads_to}
use Rattle.reducer.specs.Standing.{Standing}
use Rattle.reducer.specs.Struck.{call_of}

-- the done and the undone actions of a state
abbrev pub lists_of : {G : Type 0} → Standing G → Struck Accepted
lists_of s = record { done = s.done; undone = s.undone }

-- a state whose lists are these, one action later
abbrev pub with_lists : {G : Type 0} → Rules G → Standing G → Struck Accepted → Standing G
with_lists rules s lists = record {
  number = s.number + 1;
  table = folded rules s.first lists.done;
  first = s.first;
  done = lists.done;
  undone = lists.undone;
  past = came_by rules s.first lists.done;
  ahead = leads_to rules (folded rules s.first lists.done) lists.undone;
}

-- the state after an accepted action
abbrev pub state_after : {G : Type 0} → Rules G → Standing G → Accepted → Standing G
state_after rules s a = with_lists rules s (strike (call_of a) (lists_of s))

abbrev pub Steps : {G : Type 0} → Rules G → Standing G → ℕ → Act → Result (Standing G) GameNo → Type 0
Steps rules before seat act (Ok s) = (answer_on rules before seat act ≡ None) × (s ≡ state_after rules before (record { seat = seat; act = act }))
Steps rules before seat act (Err (Broken rule)) = answer_on rules before seat act ≡ Some rule
Steps rules before seat act (Err NoMemory) = Unit {0}
