use Rattle.std.proofs.Common.{◌+◌, subst, sym}
use Rattle.session_hall.proofs.Beginning.{CoresTo, no_cores, push_core}
use Rattle.kept_script.proofs.hall.all_cores.Goals as goal

pub loop-pass-init : goal.loop-pass-init
loop-pass-init c = subst (λ x. CoresTo 0 1 x) (sym c.new-cores.ensures.items) (no_cores 1)

pub loop-pass-preserved : goal.loop-pass-preserved
loop-pass-preserved c =
    subst (λ x. CoresTo (c.loop-pass.pass + 1) 1 x) (sym c.in_ok-push.ensures.items) (push_core c.loop-pass.pass 1 c.loop-pass.cores.items c.new.result c.loop-pass.invariant c.new.ensures)
