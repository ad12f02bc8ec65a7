use Rattle.std.proofs.Common.{ap, subst}
use Rattle.any_game.specs.GameKind.{GameKind}
use Rattle.game_hall.specs.Core.{Core}
use Rattle.hall_history.specs.Tapes.{hall_tape}
use Rattle.session_driver.specs.Hearing.{draws}
use Rattle.session_hall.proofs.Halls.{line_driven, own_core, own_request, own_rooms, own_said}
use Rattle.kept_room.specs.Journal.{Since}
use Rattle.kept_script.specs.Growing.{line_calls}
use Rattle.kept_script.specs.OneRoom.{books_of}
use Rattle.kept_script.proofs.Moving.{has_one, line_moves}
use Rattle.kept_script.proofs.OneCall.{first_room}
use Rattle.kept_script.proofs.hall.KeptHall.on_line.Goals as goal

pub hear_in-tally-requires : goal.hear_in-tally-requires
hear_in-tally-requires g c =
    let h = c.requires.stands.0 in
    let s = c.requires.stands.1 in
    record {
      first = first_room c.args.self.now h c.requires.first s;
      rooms = own_rooms _ _ h s c.args.pass c.requires.there c.index_mut-core.result.now c.index_mut-core.ensures.value;
      closed = own_request _ _ h s c.args.pass c.requires.there c.index_mut-core.result.now c.index_mut-core.ensures.value;
      written = own_said _ _ h s c.args.pass c.requires.there c.index_mut-core.result.now c.index_mut-core.ensures.value;
      live = s.tape_held.live;
    }

pub returns : goal.returns
returns g c =
    let d = g.D.Disk in
    let n = c.hear_in-tally.new in
    let k = c.hear_in-tally.ensures.hears in
    let core = c.index_mut-core.result.now in
    record {
      heard = record {
        more = line_calls c.args.pass k.hears.runs.makes.all;
        since = subst (λ p. Since d.is_told d.seen d.may_leave d.moment d.left_since d.faults c.args.self.now.room n.room (line_calls p k.hears.runs.makes.all))
            (ap (λ (x : Core GameKind). x.pass) (own_core hall_tape _ c.requires.stands.0 c.requires.stands.1 c.args.pass c.requires.there core c.index_mut-core.ensures.value)) k.since;
        comes = λ h s.
            line_moves c.args.self.now.room n.room c.args.line.now core (draws c.args.self.now.tape c.args.self.now.seed) n.core (draws n.tape n.seed) c.hear_in-tally.result k.hears h (has_one c.args.self.now h s)
            c.args.pass _ c.written.result c.is_again.result
            (line_driven hall_tape _ h s c.args.pass c.requires.there c.args.line.now core c.index_mut-core.ensures.value
            n.core (books_of n.room) (draws n.tape n.seed) c.hear_in-tally.result k.hears c.written.new.self c.written.ensures.plain c.written.result c.written.ensures.line c.is_again.result c.is_again.ensures);
      };
    }
