use Rattle.std.proofs.Common.{◌≡◌, ℕ, List, drop}
use Rattle.any_game.specs.AnyRules.{any_rules, named}
use Rattle.any_game.specs.GameKind.{GameKind}
use Rattle.any_game.specs.declared.any_g.AnyG.{AnyG}
use Rattle.world_history.specs.Workload.{Workload, leavings, go_all}
use Rattle.workload.specs.IsLoad.{IsLoad}
use Rattle.workload.proofs.Rounds.{Underway}
use Rattle.workload.proofs.load.Load.leave_all.Given as goal

-- the seats before this one have left
abbrev pub invariant-loop-place : goal.invariant-loop-place
invariant-loop-place l = record {
  keeps : l.self.places ≡ l.initial.self.places;
  goes : (tape words : ℕ → List ℕ) (lines : ℕ) (w : Workload GameKind AnyG) → IsLoad tape words lines l.initial.self w
      → Underway tape words lines l.self w.places (leavings named any_rules tape (drop l.place w.places)) (go_all named any_rules tape (leavings named any_rules tape w.places) w);
}
