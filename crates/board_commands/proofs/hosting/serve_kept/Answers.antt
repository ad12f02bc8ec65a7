use Rattle.std.proofs.Common.{[], ◌∙◌, inr, refl, subst, sym}
use Rattle.kept_room.specs.Asides.{may_refuse}
use Rattle.object_journal.specs.declared.replaying.OpenNo.TheVariants as open_no
use Rattle.session_pool.proofs.Places.{none_served}
use Rattle.session_pool.specs.Sittings.{AreServed}
use Rattle.session_pool.specs.Watched.{StandsIn}
use Rattle.board_commands.specs.Hosting.{Hosts}
use Rattle.board_commands.proofs.Seated.{none_given, same_inside}
use Rattle.board_commands.proofs.hosting.serve_kept.Goals as goal

pub host_asked-requires-clause-readies : goal.host_asked-requires-clause-readies
host_asked-requires-clause-readies g c κs inside = c.requires.workers c.in-Ok.asked c.in-Ok.ensures.asked

pub returns-in-Err-Usage-clause-served : goal.returns-in-Err-Usage-clause-served
returns-in-Err-Usage-clause-served g c asked said = ([], none_served may_refuse c.args.seed asked.links [] (λ s. Unit {0}) (g.P.Door.returned c.args.door) c.requires.none_back)

pub returns-in-Err-NoMemory-clause-served : goal.returns-in-Err-NoMemory-clause-served
returns-in-Err-NoMemory-clause-served g c asked said = ([], none_served may_refuse c.args.seed asked.links [] (λ s. Unit {0}) (g.P.Door.returned c.args.door) c.requires.none_back)

-- what the words ask for is what was asked for
pub returns-in-Ok-clause-hosts : goal.returns-in-Ok-clause-hosts
returns-in-Ok-clause-hosts g c asked said =
    let d = g.S.D.Disk in
    let hosted = c.host_asked in
    subst (λ a. Hosts d.is_told d.seen d.may_leave d.moment d.left_since d.faults a (λ pasts histories. AreServed may_refuse c.args.seed a.links pasts (StandsIn histories) (g.P.Door.returned hosted.result.1)) hosted.result.0
    hosted.result.2.items (g.S.Shelf.given c.args.shelf.now) (g.S.Shelf.given hosted.new.shelf) (g.S.Shelf.faults c.args.shelf.now) (g.S.Shelf.faults hosted.new.shelf) (g.P.Door.faults c.args.door) (g.P.Door.left c.args.door) (g.P.Door.shut hosted.result.1)
    (g.P.Door.faults hosted.result.1) (g.P.Door.given hosted.result.1) (g.K.Sink.faults c.args.sink.now) (g.K.Sink.faults hosted.new.sink))
    (same_inside c.in-Ok.asked asked (sym c.in-Ok.ensures.asked ∙ said)) hosted.ensures.hosts

pub returns-in-Err-NoMemory-clause-hosts : goal.returns-in-Err-NoMemory-clause-hosts
returns-in-Err-NoMemory-clause-hosts g c asked said =
    inr (open_no.NoMemory, none_given g.S.D.Disk.is_told g.S.D.Disk.seen g.S.D.Disk.faults asked.rooms (g.S.Shelf.given c.args.shelf.now) (g.S.Shelf.faults c.args.shelf.now), refl, c.new-in-Err-NoMemory.ensures.items, c.requires.fresh.0, refl, refl)
