use Rattle.std.proofs.Common.{subst}
use Rattle.room_history.specs.declared.call.RoomCall.TheVariants as call
use Rattle.session_driver.proofs.Along.{frees_by}
use Rattle.session_pool.proofs.Freed.{kept_freed}
use Rattle.session_driver.specs.Hearing.{side}
use Rattle.session_pool.proofs.Heeding.{over_desks}
use Rattle.session_pool.proofs.Placing.{has_left}
use Rattle.session_pool.specs.Passes.{Belong}
use Rattle.session_pool.specs.Turn.{Calls}
use Rattle.session_pool.proofs.link.detach_there.Goals as goal

pub returns-clause-detaches : goal.returns-clause-detaches
returns-clause-detaches g c =
    (c.detach.result, frees_by (over_desks g.B.Object.may_starve) (Calls g.B.Object.may_starve) (λ d. d.passes.now) (λ s p made t called. called.0) call.Detach (side c.args.rooms.now c.args.core.now) c.detach.result (side c.detach.new.rooms c.detach.new.core) c.detach.ensures.detaches)

pub returns-clause-same_passes : goal.returns-clause-same_passes
returns-clause-same_passes g c = kept_freed (over_desks g.B.Object.may_starve) (λ d. d.passes.ghost_name) (λ s p made t called. called.2) call.Detach (side c.args.rooms.now c.args.core.now) c.detach.result (side c.detach.new.rooms c.detach.new.core) c.detach.ensures.detaches

pub returns-clause-belong : goal.returns-clause-belong
returns-clause-belong g c =
    let same = kept_freed (over_desks g.B.Object.may_starve) (λ d. d.desks.now) (λ s p made t called. called.1) call.Detach (side c.args.rooms.now c.args.core.now) c.detach.result (side c.detach.new.rooms c.detach.new.core) c.detach.ensures.detaches in
    subst (λ desks. Belong desks c.args.core.now.pass c.detach.new.rooms.passes.now) same c.detach.ensures.serves.1

pub returns-clause-free : goal.returns-clause-free
returns-clause-free g c =
    let left = frees_by (over_desks g.B.Object.may_starve) (Calls g.B.Object.may_starve) (λ d. d.passes.now) (λ s p made t called. called.0) call.Detach (side c.args.rooms.now c.args.core.now) c.detach.result (side c.detach.new.rooms c.detach.new.core) c.detach.ensures.detaches in
    (has_left g.B.Object.may_starve g.met.B.HostedRoom.detaches (side c.args.rooms.now.passes.now c.args.core.now) c.detach.result (side c.detach.new.rooms.passes.now c.detach.new.core) c.requires.attached left).free

pub returns-clause-pass : goal.returns-clause-pass
returns-clause-pass g c =
    let left = frees_by (over_desks g.B.Object.may_starve) (Calls g.B.Object.may_starve) (λ d. d.passes.now) (λ s p made t called. called.0) call.Detach (side c.args.rooms.now c.args.core.now) c.detach.result (side c.detach.new.rooms c.detach.new.core) c.detach.ensures.detaches in
    (has_left g.B.Object.may_starve g.met.B.HostedRoom.detaches (side c.args.rooms.now.passes.now c.args.core.now) c.detach.result (side c.detach.new.rooms.passes.now c.detach.new.core) c.requires.attached left).pass_is

pub returns-clause-sat : goal.returns-clause-sat
returns-clause-sat g c =
    let left = frees_by (over_desks g.B.Object.may_starve) (Calls g.B.Object.may_starve) (λ d. d.passes.now) (λ s p made t called. called.0) call.Detach (side c.args.rooms.now c.args.core.now) c.detach.result (side c.detach.new.rooms c.detach.new.core) c.detach.ensures.detaches in
    (has_left g.B.Object.may_starve g.met.B.HostedRoom.detaches (side c.args.rooms.now.passes.now c.args.core.now) c.detach.result (side c.detach.new.rooms.passes.now c.detach.new.core) c.requires.attached left).sat_is
