use Rattle.std.proofs.Common.{◌≡◌, [], ◌∷◌, ◌++◌, ◌∙◌, refl, sym, ap, subst, add-one}
use Rattle.any_game.specs.AnyRules.{any_rules}
use Rattle.hall_history.specs.Opening.{joins}
use Rattle.match_master.specs.Held.{StandsFor}
use Rattle.session_hall.specs.Opens.{seated_in}
use Rattle.kept_room.specs.Journal.{Calls}
use Rattle.kept_room.proofs.Journals.{since_more, since_none}
use Rattle.kept_script.proofs.Trying.{serves_then}
use Rattle.kept_script.proofs.opening.seat_players.Goals as goal

pub loop-seat-init : goal.loop-seat-init
loop-seat-init g c =
    let d = g.D.Disk in
    record {
      same = refl;
      so_far = λ h s. s;
      since = ([], since_none d.is_told d.seen d.may_leave d.moment d.left_since d.faults g.met.D.Disk.only_now c.args.room.now, refl);
    }

pub seat_player-requires : goal.seat_player-requires
seat_player-requires g c =
    let d = g.D.Disk in
    let i = c.loop-seat.invariant in
    record { serves = serves_then d.is_told d.seen d.may_leave d.moment d.left_since d.faults c.args.room.now c.loop-seat.room i.since.0 c.requires.serves.0 c.requires.serves.1 i.since.1 }

pub loop-seat-preserved : goal.loop-seat-preserved
loop-seat-preserved g c =
    let d = g.D.Disk in
    let i = c.loop-seat.invariant in
    let one = c.in-Ok.ensures.since in
    record {
      same = c.seat_player.ensures.same ∙ i.same;
      so_far = λ h s. subst (λ n. StandsFor any_rules c.seat_player.new.room.object.book (seated_in c.args.serial n h)) (sym (add-one c.loop-seat.seat))
          (c.in-Ok.ensures.seated (seated_in c.args.serial c.loop-seat.seat h) (i.so_far h s));
      since = (
        one.0 ++ i.since.0,
        since_more d.is_told d.seen d.may_leave d.moment d.left_since d.faults c.args.room.now c.loop-seat.room c.seat_player.new.room i.since.0 one.0 i.since.1 one.1,
        subst (λ n. one.0 ++ i.since.0 ≡ seated_in c.args.serial n []) (sym (add-one c.loop-seat.seat))
            (ap (λ (l : Calls). l ++ i.since.0) one.2 ∙ ap (λ (l : Calls). joins c.args.serial c.loop-seat.seat ∷ l) i.since.2),
      );
    }

pub returns-in-Err-clause-since : goal.returns-in-Err-clause-since
returns-in-Err-clause-since g c =
    let d = g.D.Disk in
    let i = c.loop-seat.invariant in (
      c.seat_player.ensures.since.0 ++ i.since.0,
      since_more d.is_told d.seen d.may_leave d.moment d.left_since d.faults c.args.room.now c.loop-seat.room c.seat_player.new.room i.since.0 c.seat_player.ensures.since.0 i.since.1 c.seat_player.ensures.since.1,
      tt,
    )
