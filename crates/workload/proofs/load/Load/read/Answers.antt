use Rattle.std.proofs.Common.{◌+◌, ◌∙◌, ap, refl, subst, sym}
use Rattle.workload.specs.IsLoad.{HeldLoad, IsLoad}
use Rattle.workload.specs.declared.counts.Counts.{Counts}
use Rattle.workload.proofs.Loads.{was_read, one_bit}
use Rattle.workload.proofs.load.Load.read.Goals as goal

pub returns-clause-goes : goal.returns-clause-goes
returns-clause-goes c = λ tape words lines l below is.
    let old : HeldLoad = record { world = c.self.inside.world; places = c.self.inside.places.items; tape = c.self.inside.tape; counts = c.self.inside.counts } in
    let held = subst (λ x. IsLoad tape words lines x l) (sym c.self.view_is) is in
    let sum = c.more-self-inside.ensures lines below held.few.read in
    let counts : Counts = record c.self.inside.counts { read = c.more-self-inside.result } in
    was_read tape words lines old l held c.read_counted.new.self counts c.args.client c.in_ok-read.read (c.in_ok-read.ensures tape l.world held.world) refl refl refl refl
    (sum.0 ∙ ap (λ n. c.self.inside.counts.read + n) (c.from.ensures ∙ one_bit c.in_ok-read.read)) sum.1
