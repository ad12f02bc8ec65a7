use Rattle.std.proofs.Common.{ap, option_map, subst, sym, ◌∙◌}
use Rattle.line_runner.specs.Play.{RunsLine}
use Rattle.script_steps.specs.StepIs.{step_is}
use Rattle.kept_script.specs.KeptDoing.{kept_doing}
use Rattle.kept_script.specs.KeptPlay.{kept_play}
use Rattle.kept_script.proofs.KeptLines.{is_kept, kept_bad, kept_line}
use Rattle.kept_script.proofs.play.KeptHallInterpreter.run_line.Goals as goal

pub do_step-done-requires-clause-first : goal.do_step-done-requires-clause-first
do_step-done-requires-clause-first g c =
    let d = g.D.Disk in
    (is_kept d.is_told d.seen d.may_leave d.moment d.left_since d.faults c.args.self.now c.requires.0 c.requires.1).numbered

pub do_step-done-requires-clause-stands : goal.do_step-done-requires-clause-stands
do_step-done-requires-clause-stands g c =
    let d = g.D.Disk in
    (c.requires.0.hall, (is_kept d.is_told d.seen d.may_leave d.moment d.left_since d.faults c.args.self.now c.requires.0 c.requires.1).stands)

pub returns-in-Some : goal.returns-in-Some
returns-in-Some g c = λ s k.
    let d = g.D.Disk in
    subst (λ told. RunsLine kept_play (kept_doing d.is_told d.seen d.may_leave d.moment d.left_since d.faults) s c.args.line.now c.do_step-done.new.hall c.args.text.now.items c.do_step-done.new.text.items told) (sym c.ended.ensures)
    (kept_line d.is_told d.seen d.may_leave d.moment d.left_since d.faults c.do_step-done.result c.is_some.result c.args.self.now c.do_step-done.new.hall c.args.line.now c.args.text.now.items c.do_step-done.new.text.items (step_is c.in-Some.step)
    (sym c.step_of.ensures.value ∙ ap (option_map step_is) c.in-Some.is) c.do_step-done.ensures.done c.is_some.ensures s k)

pub returns-in-None : goal.returns-in-None
returns-in-None g c =
    let d = g.D.Disk in
    kept_bad d.is_told d.seen d.may_leave d.moment d.left_since d.faults c.args.self.now c.args.line.now (sym c.step_of.ensures.value ∙ ap (option_map step_is) c.in-None.is)
