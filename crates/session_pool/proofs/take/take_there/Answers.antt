use Rattle.std.proofs.Common.{length, subst, sym}
use Rattle.room_history.specs.declared.call.RoomCall.TheVariants as call
use Rattle.session_driver.proofs.Along.{frees_by}
use Rattle.session_pool.proofs.Freed.{kept_freed}
use Rattle.session_driver.specs.Hearing.{side}
use Rattle.session_pool.proofs.Heeding.{over_desks}
use Rattle.session_pool.proofs.Placing.{has_taken}
use Rattle.session_pool.proofs.Seeing.{frees_go_on}
use Rattle.session_pool.specs.Passes.{Belong}
use Rattle.session_pool.specs.Turn.{Calls}
use Rattle.session_pool.proofs.take.take_there.Goals as goal

pub returns-clause-takes : goal.returns-clause-takes
returns-clause-takes g c = frees_by (over_desks g.B.Object.may_starve) (Calls g.B.Object.may_starve) (λ d. d.passes.now) (λ s p made t called. called.0) call.Take (side c.args.rooms.now c.args.core.now) c.take.result (side c.take.new.rooms c.take.new.core) c.take.ensures.takes

pub returns-clause-same_passes : goal.returns-clause-same_passes
returns-clause-same_passes g c = kept_freed (over_desks g.B.Object.may_starve) (λ d. d.passes.ghost_name) (λ s p made t called. called.2) call.Take (side c.args.rooms.now c.args.core.now) c.take.result (side c.take.new.rooms c.take.new.core) c.take.ensures.takes

pub returns-clause-idle : goal.returns-clause-idle
returns-clause-idle g c =
    let s = c.args.rooms.now in
    let takes = frees_by (over_desks g.B.Object.may_starve) (Calls g.B.Object.may_starve) (λ d. d.passes.now) (λ s p made t called. called.0) call.Take (side c.args.rooms.now c.args.core.now) c.take.result (side c.take.new.rooms c.take.new.core) c.take.ensures.takes in
    (has_taken g.B.Object.may_starve (length s.desks.now) (side s.passes.now c.args.core.now) c.take.result (side c.take.new.rooms.passes.now c.take.new.core) c.requires.idle c.requires.attached takes).idle

pub returns-clause-attached : goal.returns-clause-attached
returns-clause-attached g c =
    let s = c.args.rooms.now in
    let takes = frees_by (over_desks g.B.Object.may_starve) (Calls g.B.Object.may_starve) (λ d. d.passes.now) (λ s p made t called. called.0) call.Take (side c.args.rooms.now c.args.core.now) c.take.result (side c.take.new.rooms c.take.new.core) c.take.ensures.takes in
    (has_taken g.B.Object.may_starve (length s.desks.now) (side s.passes.now c.args.core.now) c.take.result (side c.take.new.rooms.passes.now c.take.new.core) c.requires.idle c.requires.attached takes).attached

pub returns-clause-pass : goal.returns-clause-pass
returns-clause-pass g c =
    let s = c.args.rooms.now in
    let takes = frees_by (over_desks g.B.Object.may_starve) (Calls g.B.Object.may_starve) (λ d. d.passes.now) (λ s p made t called. called.0) call.Take (side c.args.rooms.now c.args.core.now) c.take.result (side c.take.new.rooms c.take.new.core) c.take.ensures.takes in
    (has_taken g.B.Object.may_starve (length s.desks.now) (side s.passes.now c.args.core.now) c.take.result (side c.take.new.rooms.passes.now c.take.new.core) c.requires.idle c.requires.attached takes).pass_is

pub returns-clause-sat : goal.returns-clause-sat
returns-clause-sat g c =
    let s = c.args.rooms.now in
    let takes = frees_by (over_desks g.B.Object.may_starve) (Calls g.B.Object.may_starve) (λ d. d.passes.now) (λ s p made t called. called.0) call.Take (side c.args.rooms.now c.args.core.now) c.take.result (side c.take.new.rooms c.take.new.core) c.take.ensures.takes in
    (has_taken g.B.Object.may_starve (length s.desks.now) (side s.passes.now c.args.core.now) c.take.result (side c.take.new.rooms.passes.now c.take.new.core) c.requires.idle c.requires.attached takes).sat_is

pub returns-clause-taken : goal.returns-clause-taken
returns-clause-taken g c =
    let s = c.args.rooms.now in
    let takes = frees_by (over_desks g.B.Object.may_starve) (Calls g.B.Object.may_starve) (λ d. d.passes.now) (λ s p made t called. called.0) call.Take (side c.args.rooms.now c.args.core.now) c.take.result (side c.take.new.rooms c.take.new.core) c.take.ensures.takes in
    (has_taken g.B.Object.may_starve (length s.desks.now) (side s.passes.now c.args.core.now) c.take.result (side c.take.new.rooms.passes.now c.take.new.core) c.requires.idle c.requires.attached takes).taken

pub returns-clause-belong : goal.returns-clause-belong
returns-clause-belong g c =
    let s = c.args.rooms.now in
    let takes = frees_by (over_desks g.B.Object.may_starve) (Calls g.B.Object.may_starve) (λ d. d.passes.now) (λ s p made t called. called.0) call.Take (side c.args.rooms.now c.args.core.now) c.take.result (side c.take.new.rooms c.take.new.core) c.take.ensures.takes in
    let number = (has_taken g.B.Object.may_starve (length s.desks.now) (side s.passes.now c.args.core.now) c.take.result (side c.take.new.rooms.passes.now c.take.new.core) c.requires.idle c.requires.attached takes).pass_is in
    let same = kept_freed (over_desks g.B.Object.may_starve) (λ d. d.desks.now) (λ s p made t called. called.1) call.Take (side c.args.rooms.now c.args.core.now) c.take.result (side c.take.new.rooms c.take.new.core) c.take.ensures.takes in
    subst (λ n. Belong s.desks.now n c.take.new.rooms.passes.now) (sym number) (subst (λ desks. Belong desks c.args.core.now.pass c.take.new.rooms.passes.now) same c.take.ensures.serves.1)

pub returns-clause-goes_on : goal.returns-clause-goes_on
returns-clause-goes_on g c =
    let s = c.args.rooms.now in
    let takes = frees_by (over_desks g.B.Object.may_starve) (Calls g.B.Object.may_starve) (λ d. d.passes.now) (λ s p made t called. called.0) call.Take (side c.args.rooms.now c.args.core.now) c.take.result (side c.take.new.rooms c.take.new.core) c.take.ensures.takes in
    frees_go_on g.B.Object.may_starve call.Take (side s.passes.now c.args.core.now) c.take.result (side c.take.new.rooms.passes.now c.take.new.core) takes
