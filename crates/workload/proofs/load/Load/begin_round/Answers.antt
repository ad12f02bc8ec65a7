use Rattle.std.proofs.Common.{◌+◌, [], subst, sym}
use Rattle.std.specs.Prelude.{OnOk}
use Rattle.any_game.specs.AnyRules.{any_rules, named}
use Rattle.any_game.specs.GameKind.{GameKind}
use Rattle.any_game.specs.declared.any_g.AnyG.{AnyG}
use Rattle.world_history.specs.Workload.{Workload, attachings, first_reads, opens_all, round}
use Rattle.workload.specs.IsLoad.{IsLoad}
use Rattle.workload.proofs.Rounds.{Go, after_both}
use Rattle.workload.proofs.load.Load.begin_round.Goals as goal

pub returns : goal.returns
returns c = λ tape words lines l below is.
    let begun : Workload GameKind AnyG = opens_all named any_rules tape round (record l { places = [] }) in
    let first = attachings named any_rules tape 0 begun.places in
    let held = subst (λ x. IsLoad tape words lines x l) (sym c.self.view_is) is in
    let is_open = c.in_ok-open_all.ensures tape words lines (record l { places = [] })
    (record { world = held.world; places = c.clear.ensures.items; drawn = held.drawn; counted = held.counted; few = held.few; held = held.held; read = held.read }) in
    let is_attached = c.in_ok-attach_all.ensures tape words lines begun is_open in
    subst (λ x. OnOk c.read_first_lines.result (IsLoad tape words (lines + 42) c.read_first_lines.new.self x)) (after_both tape first (λ places. first_reads named any_rules tape 0 places) begun)
    (c.read_first_lines.ensures tape words lines (Go tape first begun) below is_attached)
