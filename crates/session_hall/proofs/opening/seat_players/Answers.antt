use Rattle.std.proofs.Common.{◌∙◌, sym, subst, add-one}
use Rattle.any_game.specs.AnyRules.{any_rules}
use Rattle.match_master.specs.Held.{StandsFor}
use Rattle.session_hall.specs.Opens.{seated_in}
use Rattle.session_hall.proofs.opening.seat_players.Goals as goal

pub loop-seat-preserved : goal.loop-seat-preserved
loop-seat-preserved c = record {
  room = c.seat_player.ensures.room ∙ c.loop-seat.invariant.room;
  so_far = λ h s. subst (λ n. StandsFor any_rules c.seat_player.new.book (seated_in c.args.serial n h)) (sym (add-one c.loop-seat.seat))
      (c.in_ok-seat_player.ensures.seated (seated_in c.args.serial c.loop-seat.seat h) (c.loop-seat.invariant.so_far h s));
}
