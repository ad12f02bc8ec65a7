use Rattle.std.proofs.Common.{refl, subst, sym}
use Rattle.workload.specs.IsLoad.{HeldLoad, IsLoad}
use Rattle.workload.specs.declared.counts.Counts.{Counts}
use Rattle.workload.proofs.Loads.{taken}
use Rattle.workload.proofs.load.Load.take.Goals as goal

pub returns-clause-goes : goal.returns-clause-goes
returns-clause-goes c = λ tape words lines l below is.
    let old : HeldLoad = record { world = c.self.inside.world; places = c.self.inside.places.items; tape = c.self.inside.tape; counts = c.self.inside.counts } in
    let held = subst (λ x. IsLoad tape words lines x l) (sym c.self.view_is) is in
    let sum = c.more-self-inside.ensures lines below held.few.bytes in
    let counts : Counts = record c.self.inside.counts { bytes = c.more-self-inside.result } in
    taken tape words lines old l held c.take_counted.new.self counts c.args.client c.in_ok-bytes.bytes (c.in_ok-bytes.ensures tape l.world held.world) refl refl sum.0 refl refl sum.1
