use Rattle.line_runner.proofs.EndLaws.{completes_over, ends_told}
use Rattle.kept_script.specs.KeptPlay.{kept_play}
use Rattle.kept_script.proofs.Ends.{has_run, run_completes, run_raises}
use Rattle.kept_script.proofs.KeptLines.{stands_so}
use Rattle.kept_script.proofs.running.run_hall.Goals as goal

pub run_lines-exit-requires : goal.run_lines-exit-requires
run_lines-exit-requires g c =
    let d = g.D.Disk in
    (c.requires.0, stands_so d.is_told d.seen d.may_leave d.moment d.left_since d.faults c.args.hall c.requires.0 c.requires.1)

pub returns-clause-ran : goal.returns-clause-ran
returns-clause-ran g c = λ s k l h.
    let d = g.D.Disk in
    let stands = stands_so d.is_told d.seen d.may_leave d.moment d.left_since d.faults c.args.hall s k in
    has_run d.is_told d.seen d.may_leave d.moment d.left_since d.faults s _ _ _ _ c.run_lines-exit.result c.run_lines-exit.new.interpreter c.close-disk.result.1 c.exit_after.result c.close-disk.result.0
    c.exit_after.ensures c.close-disk.ensures.disk c.close-disk.ensures.stopped (ends_told kept_play s _ _ _ _ c.run_lines-exit.result h (c.run_lines-exit.ensures.ends s stands l)) (c.run_lines-exit.ensures.leaves s stands l h)

pub returns-clause-raises : goal.returns-clause-raises
returns-clause-raises g c = run_raises c.close-disk.result.1 _ _ _ _ c.run_lines-exit.result c.exit_after.result c.exit_after.ensures c.run_lines-exit.ensures.raises

pub returns-clause-completes : goal.returns-clause-completes
returns-clause-completes g c = λ l h f s t.
    let d = g.D.Disk in
    let stands = stands_so d.is_told d.seen d.may_leave d.moment d.left_since d.faults c.args.hall c.requires.0 c.requires.1 in
    run_completes c.close-disk.result.1 _ _ _ _ c.run_lines-exit.result c.exit_after.result c.exit_after.ensures c.run_lines-exit.ensures.raises
    (completes_over kept_play c.requires.0 c.run_lines-exit.result _ _ _ _ _ _ _ _ (c.run_lines-exit.ensures.ends c.requires.0 stands l) c.run_lines-exit.ensures.raises f s t)
