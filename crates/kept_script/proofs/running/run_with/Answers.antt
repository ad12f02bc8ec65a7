use Rattle.std.proofs.Common.{inl, inr, true, false}
use Rattle.kept_script.specs.KeptPlay.{opened_state}
use Rattle.kept_script.proofs.Ends.{kept_completes, kept_raises, unopened_completes, unopened_raises}
use Rattle.kept_script.proofs.Opened.{kept_hall}
use Rattle.kept_script.proofs.running.run_with.Goals as goal

pub run_hall-requires : goal.run_hall-requires
run_hall-requires g c =
    let d = g.D.Disk in
    let o = c.in-Ok.ensures.opened in (
      opened_state c.args.disk o.0 false,
      kept_hall d.is_told d.seen d.may_leave d.moment d.left_since d.faults c.args.disk o.0 false c.new.result c.in-Ok.room c.args.cores c.new.ensures.room c.new.ensures.cores c.requires c.new.ensures.words c.new.ensures.seed o.1,
    )

pub returns-in-Ok-clause-ran : goal.returns-in-Ok-clause-ran
returns-in-Ok-clause-ran g c l k =
    let d = g.D.Disk in
    let o = c.in-Ok.ensures.opened in
    inr (record {
      first = o.0;
      had = o.1.had;
      reads = o.1.reads;
      follow = o.1.follow;
      run = c.run_hall.ensures.ran (opened_state c.args.disk o.0 false)
          (kept_hall d.is_told d.seen d.may_leave d.moment d.left_since d.faults c.args.disk o.0 false c.new.result c.in-Ok.room c.args.cores c.new.ensures.room c.new.ensures.cores c.requires c.new.ensures.words c.new.ensures.seed o.1) l k;
    })

pub returns-in-Ok-clause-keeps : goal.returns-in-Ok-clause-keeps
returns-in-Ok-clause-keeps g c known l k =
    let d = g.D.Disk in
    let o = c.in-Ok.ensures.keeps known in
    inr (record {
      first = o.0;
      had = o.1.had;
      reads = o.1.reads;
      follow = o.1.follow;
      run = c.run_hall.ensures.ran (opened_state c.args.disk o.0 true)
          (kept_hall d.is_told d.seen d.may_leave d.moment d.left_since d.faults c.args.disk o.0 true c.new.result c.in-Ok.room c.args.cores c.new.ensures.room c.new.ensures.cores c.requires c.new.ensures.words c.new.ensures.seed o.1) l k;
    })

pub returns-in-Err-clause-ran : goal.returns-in-Err-clause-ran
returns-in-Err-clause-ran g c l k = inl (record { no = c.in-Err.refused.0; is = c.exit_of.ensures; refused = c.in-Err.ensures.refused })

pub returns-in-Err-clause-keeps : goal.returns-in-Err-clause-keeps
returns-in-Err-clause-keeps g c known l k = inl (record { no = c.in-Err.refused.0; is = c.exit_of.ensures; refused = c.in-Err.ensures.refused })

pub returns-in-Ok-clause-raises : goal.returns-in-Ok-clause-raises
returns-in-Ok-clause-raises g c = kept_raises _ _ _ _ c.run_hall.result.0 c.run_hall.ensures.raises

pub returns-in-Ok-clause-completes : goal.returns-in-Ok-clause-completes
returns-in-Ok-clause-completes g c l k f s t = kept_completes c.run_hall.result.0 (c.run_hall.ensures.completes l k f s t)

pub returns-in-Err-clause-raises : goal.returns-in-Err-clause-raises
returns-in-Err-clause-raises g c = unopened_raises c.in-Err.refused.0 c.exit_of.result c.exit_of.ensures _ _

pub returns-in-Err-clause-completes : goal.returns-in-Err-clause-completes
returns-in-Err-clause-completes g c l k f s t = unopened_completes c.in-Err.refused.0 c.exit_of.result c.exit_of.ensures
