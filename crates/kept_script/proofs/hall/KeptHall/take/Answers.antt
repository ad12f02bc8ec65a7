use Rattle.std.proofs.Common.{ap, refl, subst}
use Rattle.any_game.specs.GameKind.{GameKind}
use Rattle.game_hall.specs.Core.{Core}
use Rattle.hall_history.specs.Tapes.{hall_tape}
use Rattle.room_history.specs.declared.call.RoomCall.TheVariants as call
use Rattle.session_driver.specs.Hearing.{side}
use Rattle.session_hall.proofs.Halls.{freed_by_driver, own_core, own_room, own_rooms}
use Rattle.kept_room.specs.Journal.{Since}
use Rattle.kept_script.specs.Growing.{freeing_calls}
use Rattle.kept_script.specs.OneRoom.{books_of}
use Rattle.kept_script.proofs.Growing.{freed_grows}
use Rattle.kept_script.proofs.Moving.{has_one}
use Rattle.kept_script.proofs.OneCall.{first_room}
use Rattle.kept_script.proofs.hall.KeptHall.take.Goals as goal

pub take_in-requires : goal.take_in-requires
take_in-requires g c =
    let h = c.requires.stands.0 in
    let s = c.requires.stands.1 in
    record {
      first = first_room c.args.self.now h c.requires.first s;
      rooms = own_rooms _ _ h s c.args.pass c.requires.there c.index_mut.result.now c.index_mut.ensures.value;
    }

pub returns : goal.returns
returns g c =
    let d = g.D.Disk in
    let n = c.take_in.new in
    let core = c.index_mut.result.now in
    record {
      freed = record {
        more = freeing_calls c.args.pass call.Take core.at;
        since = subst (λ p. Since d.is_told d.seen d.may_leave d.moment d.left_since d.faults c.args.self.now.room n.room (freeing_calls p call.Take core.at))
            (ap (λ (x : Core GameKind). x.pass) (own_core hall_tape _ c.requires.stands.0 c.requires.stands.1 c.args.pass c.requires.there core c.index_mut.ensures.value)) c.take_in.ensures.since;
        comes = λ h s. (
          freed_by_driver hall_tape _ h s c.args.pass c.requires.there call.Take refl core c.index_mut.ensures.value c.take_in.result (books_of n.room) n.core c.take_in.ensures.takes,
          freed_grows h (has_one c.args.self.now h s) c.args.pass call.Take (side (books_of c.args.self.now.room) core) c.take_in.result (side (books_of n.room) n.core) refl
              (own_room hall_tape _ h s c.args.pass c.requires.there core c.index_mut.ensures.value) c.take_in.ensures.takes,
        );
      };
    }
