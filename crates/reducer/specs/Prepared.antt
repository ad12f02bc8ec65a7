-- An accepted action with what it comes to, before a state takes it in, and when it is ready for that state.
use Rattle.std.specs.Prelude.{◌≡◌, ◌+◌, ◌<◌, ℕ, true, length, Some, None, Result, Ok, Err}
use Rattle.game_sheet.specs.declared.act.Act.{Act}
use Rattle.game_sheet.specs.declared.refusal.GameNo.{GameNo}
use Rattle.game_sheet.specs.declared.refusal.GameNo.TheVariants.{Broken, NoMemory}
use Rattle.game_sheet.specs.declared.ids.TheConstants.{MOST_ACTIONS}
use Rattle.game_trait.specs.InSheet.{ActInSheet}
use Rattle.game_trait.specs.Rules.{Rules}
use Rattle.phase_flow.specs.Reached.{Reached}
use Rattle.stage_map.specs.Moves.{may}
use Rattle.reducer.specs.Accepted.{Accepted}
use Rattle.reducer.specs.Answer.{answer_on}
use Rattle.reducer.specs.Standing.{Standing}
use Rattle.reducer.specs.Steps.{state_after}
use Rattle.reducer.specs.Struck.{IsDeed}
use Rattle.reducer.specs.Walk.{Fits, checkpoint}

pub record Coming (G : Type 0) : Type 0 where
  pub action : Accepted
  -- of the state after it
  pub number : ℕ
  -- how many actions lead to that state
  pub count : ℕ
  pub table : Reached G

-- a move or an event leads one action further
pub record LeadsOn {G : Type 0} (rules : Rules G) (s : Standing G) (p : Coming G) : Type 0 where
  pub count : p.count ≡ length s.done + 1
  pub fits : Fits rules (checkpoint p.count p.table)

pub record IsReady {G : Type 0} (rules : Rules G) (s : Standing G) (p : Coming G) : Type 0 where
  pub room : s.number < MOST_ACTIONS
  pub active : may s.table.ctx p.action.seat ≡ true
  pub act : ActInSheet rules.sheet p.action.act
  pub accepted : answer_on rules s p.action.seat p.action.act ≡ None
  pub number : p.number ≡ s.number + 1
  pub table : p.table ≡ (state_after rules s p.action).table
  pub leads_on : IsDeed p.action.act → LeadsOn rules s p

-- how the preparation of an action on a state is answered: by what it comes to, or by the rule that it breaks. Want of memory is free
abbrev pub Prepares : {G : Type 0} → Rules G → Standing G → ℕ → Act → Result (Coming G) GameNo → Type 0
Prepares rules s seat act (Ok p) = (p.action ≡ record { seat = seat; act = act }) × IsReady rules s p
Prepares rules s seat act (Err (Broken rule)) = answer_on rules s seat act ≡ Some rule
Prepares rules s seat act (Err NoMemory) = Unit {0}
