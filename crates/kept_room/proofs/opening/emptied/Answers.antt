use Rattle.std.proofs.Common.{◌∷◌, arith}
use Rattle.match_master.specs.Held.{is_starved}
use Rattle.room_history.specs.declared.call.RoomCall.TheVariants.{Detach}
use Rattle.room_object.specs.Entry.{entry}
use Rattle.kept_room.proofs.Emptied.{all_fewer, emptied_more, first_emptied}
use Rattle.kept_room.proofs.opening.emptied.Goals as goal

pub loop-pass-init : goal.loop-pass-init
loop-pass-init g c =
    let d = g.D.Disk in
    record { stands = c.requires; opened = λ number disk first o. first_emptied d.is_told d.seen d.may_leave d.moment d.left_since d.faults number disk first c.args.room o }

pub ask_aside-requires-clause-stands : goal.ask_aside-requires-clause-stands
ask_aside-requires-clause-stands g c = c.loop-pass.invariant.stands

pub loop-pass-preserved : goal.loop-pass-preserved
loop-pass-preserved g c =
    let d = g.D.Disk in
    let i = c.loop-pass.invariant in
    let one = c.ask_aside.ensures in
    record {
      stands = (entry c.loop-pass.pass Detach (is_starved c.ask_aside.result) ∷ i.stands.0, one.since.stands i.stands.0 i.stands.1);
      opened = λ number disk first o.
          emptied_more d.is_told d.seen d.may_leave d.moment d.left_since d.faults number disk c.loop-pass.room c.ask_aside.new.self c.loop-pass.pass (is_starved c.ask_aside.result) one.fed one.since one.stopped one.file
          (i.opened number disk first o);
    }

pub returns : goal.returns
returns g c = λ number disk first o.
    let d = g.D.Disk in
    all_fewer d.is_told d.seen d.may_leave d.moment d.left_since d.faults number disk c.loop-pass.room c.loop-pass.pass c.args.passes (omega (arith, c.loop-pass-test.false)) (c.loop-pass.invariant.opened number disk first o)
