use Rattle.std.proofs.Common.{subst, sym}
use Rattle.workload.specs.IsLoad.{HeldLoad, IsLoad}
use Rattle.workload.proofs.Loads.{dropped}
use Rattle.workload.proofs.load.Load.cut.Goals as goal

pub returns-clause-goes : goal.returns-clause-goes
returns-clause-goes c = λ tape words lines l is.
    let old : HeldLoad = record { world = c.self.inside.world; places = c.self.inside.places.items; tape = c.self.inside.tape; counts = c.self.inside.counts } in
    let held = subst (λ x. IsLoad tape words lines x l) (sym c.self.view_is) is in
    dropped tape words lines old l held c.cut-text.new.self c.args.client (c.cut-text.ensures tape l.world held.world).stands
