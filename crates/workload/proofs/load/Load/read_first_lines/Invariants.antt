use Rattle.std.proofs.Common.{◌≡◌, ◌≤◌, ◌+◌, ◌*◌, ◌^◌, ℕ, List, drop}
use Rattle.any_game.specs.AnyRules.{any_rules, named}
use Rattle.any_game.specs.GameKind.{GameKind}
use Rattle.any_game.specs.declared.any_g.AnyG.{AnyG}
use Rattle.world_history.specs.Workload.{Workload, first_reads, go_all}
use Rattle.workload.specs.IsLoad.{IsLoad}
use Rattle.workload.proofs.Rounds.{Underway}
use Rattle.workload.proofs.load.Load.read_first_lines.Given as goal

-- the clients before this one have read their first lines
abbrev pub invariant-loop-client : goal.invariant-loop-client
invariant-loop-client l = record {
  keeps : l.self.places ≡ l.initial.self.places;
  goes : (tape words : ℕ → List ℕ) (lines : ℕ) (w : Workload GameKind AnyG) → lines + 42 ≤ 2 ^ 64 → IsLoad tape words lines l.initial.self w
      → Underway tape words (lines + 3 * l.client) l.self w.places (first_reads named any_rules tape l.client (drop l.client w.places)) (go_all named any_rules tape (first_reads named any_rules tape 0 w.places) w);
}
