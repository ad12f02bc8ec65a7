use Rattle.std.proofs.Common.{◌+◌, ◌∙◌, ap, refl, subst, sym}
use Rattle.workload.specs.IsLoad.{HeldLoad, IsLoad}
use Rattle.workload.specs.declared.counts.Counts.{Counts}
use Rattle.workload.proofs.Loads.{arrived}
use Rattle.workload.proofs.load.Load.arrive.Goals as goal

pub returns-clause-goes : goal.returns-clause-goes
returns-clause-goes c = λ tape words lines l below is.
    let old : HeldLoad = record { world = c.self.inside.world; places = c.self.inside.places.items; tape = c.self.inside.tape; counts = c.self.inside.counts } in
    let held = subst (λ x. IsLoad tape words lines x l) (sym c.self.view_is) is in
    let accepted = c.more-self-inside.ensures lines below held.few.accepted in
    let refused = c.more-self-inside-2.ensures lines below held.few.refused in
    let counts : Counts = record c.self.inside.counts { accepted = c.more-self-inside.result; refused = c.more-self-inside-2.result } in
    arrived tape words lines old l held c.arrive_counted.new.self counts c.args.client c.in_ok-tally.tally (c.in_ok-tally.ensures tape l.world held.world)
    (accepted.0 ∙ ap (λ n. c.self.inside.counts.accepted + n) c.from.ensures) (refused.0 ∙ ap (λ n. c.self.inside.counts.refused + n) c.from-2.ensures) refl refl refl accepted.1 refused.1
