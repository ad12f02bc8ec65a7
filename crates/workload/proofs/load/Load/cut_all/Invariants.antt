use Rattle.std.proofs.Common.{◌≡◌, ℕ, List, drop}
use Rattle.any_game.specs.AnyRules.{any_rules, named}
use Rattle.any_game.specs.GameKind.{GameKind}
use Rattle.any_game.specs.declared.any_g.AnyG.{AnyG}
use Rattle.world_history.specs.Workload.{Workload, drops_all, go_all}
use Rattle.workload.specs.IsLoad.{IsLoad}
use Rattle.workload.proofs.Rounds.{Underway}
use Rattle.workload.proofs.load.Load.cut_all.Given as goal

-- the clients before this one are dropped
abbrev pub invariant-loop-client : goal.invariant-loop-client
invariant-loop-client l = record {
  keeps : l.self.places ≡ l.initial.self.places;
  goes : (tape words : ℕ → List ℕ) (lines : ℕ) (w : Workload GameKind AnyG) → IsLoad tape words lines l.initial.self w
      → Underway tape words lines l.self w.places (drops_all named any_rules tape l.client (drop l.client w.places)) (go_all named any_rules tape (drops_all named any_rules tape 0 w.places) w);
}
