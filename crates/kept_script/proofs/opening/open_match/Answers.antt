use Rattle.std.proofs.Common.{◌++◌, ap}
use Rattle.kept_room.proofs.Journals.{since_more}
use Rattle.kept_script.specs.Tries.{tried_as}
use Rattle.kept_script.proofs.Trying.{full_one, has_serial, made_unless, opens_made, opens_none, refused_one, serves_then}
use Rattle.kept_script.proofs.opening.open_match.Goals as goal

pub returns-in-Busy-clause-opened : goal.returns-in-Busy-clause-opened
returns-in-Busy-clause-opened g c = λ rooms a.
    full_one rooms c.args.game.now c.args.seats c.args.seed c.args.room.now.object.book a c.create.new.room.object.book c.create.ensures.same (tried_as c.create.result) c.create.ensures.created (ap tried_as c.in-Busy.is)

pub returns-in-Refused-clause-opened : goal.returns-in-Refused-clause-opened
returns-in-Refused-clause-opened g c = λ rooms a.
    refused_one rooms c.args.game.now c.args.seats c.args.seed c.args.room.now.object.book a c.create.new.room.object.book c.create.ensures.same (tried_as c.create.result) c.create.ensures.created (ap tried_as c.in-Refused.is)

pub seat_match-requires : goal.seat_match-requires
seat_match-requires g c =
    let d = g.D.Disk in
    record {
      serves = serves_then d.is_told d.seen d.may_leave d.moment d.left_since d.faults c.args.room.now c.create.new.room c.create.ensures.since.0 c.requires.serves.0 c.requires.serves.1 c.create.ensures.since.1;
      serial = has_serial c.requires.stands.0 c.args.game.now c.args.seats c.args.seed c.args.room.now.object.book c.requires.stands.1 c.create.new.room.object.book c.create.ensures.same (tried_as c.create.result) c.create.ensures.created
          c.in-Made.serial (ap tried_as c.in-Made.is);
    }

pub returns-in-Made-clause-opened : goal.returns-in-Made-clause-opened
returns-in-Made-clause-opened g c = λ rooms a.
    made_unless rooms c.args.game.now c.args.seats c.args.seed c.args.room.now.object.book a c.create.new.room.object.book c.create.ensures.same (tried_as c.create.result) c.create.ensures.created
    c.seat_match.result c.in-Made.serial (ap tried_as c.in-Made.is) c.seat_match.new.room.object.book c.seat_match.ensures.same c.seat_match.ensures.seated c.seat_match.ensures.named

pub returns-in-Made-clause-since : goal.returns-in-Made-clause-since
returns-in-Made-clause-since g c =
    let d = g.D.Disk in
    let made = c.in-Made.ensures.since in
    let seated = c.seat_match.ensures.since in (
      seated.0 ++ made.0,
      since_more d.is_told d.seen d.may_leave d.moment d.left_since d.faults c.args.room.now c.create.new.room c.seat_match.new.room made.0 seated.0 made.1 seated.1,
      opens_made c.seat_match.result c.args.game.now c.args.seats c.args.seed c.in-Made.serial made.0 seated.0 made.2 c.seat_match.ensures.named seated.2,
    )

pub returns-in-Busy-clause-since : goal.returns-in-Busy-clause-since
returns-in-Busy-clause-since g c =
    let s = c.in-Busy.ensures.since in
    (s.0, s.1, opens_none c.args.game.now c.args.seats c.args.seed s.0 s.2)

pub returns-in-Refused-clause-since : goal.returns-in-Refused-clause-since
returns-in-Refused-clause-since g c =
    let s = c.in-Refused.ensures.since in
    (s.0, s.1, opens_none c.args.game.now c.args.seats c.args.seed s.0 s.2)
