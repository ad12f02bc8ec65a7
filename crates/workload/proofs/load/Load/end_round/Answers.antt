use Rattle.std.proofs.Common.{subst}
use Rattle.std.specs.Prelude.{OnOk}
use Rattle.any_game.specs.AnyRules.{any_rules, named}
use Rattle.world_history.specs.Workload.{drops_all, leavings}
use Rattle.workload.specs.IsLoad.{IsLoad}
use Rattle.workload.proofs.Rounds.{Go, after_both}
use Rattle.workload.proofs.load.Load.end_round.Goals as goal

pub returns : goal.returns
returns c = λ tape words lines l is.
    let first = drops_all named any_rules tape 0 l.places in
    let is_cut = c.cut_all.ensures tape words lines l is in
    subst (λ x. OnOk c.leave_all.result (IsLoad tape words lines c.leave_all.new.self x)) (after_both tape first (λ places. leavings named any_rules tape places) l)
    (c.leave_all.ensures tape words lines (Go tape first l) is_cut)
