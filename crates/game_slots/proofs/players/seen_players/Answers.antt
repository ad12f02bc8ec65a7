-- One entry more is seen.
use Rattle.std.proofs.Common.{refl}
use Rattle.game_slots.proofs.SeenLemmas.{seen_next}
use Rattle.game_slots.proofs.players.seen_players.Goals as goal

pub loop-seat-preserved : goal.loop-seat-preserved
loop-seat-preserved c =
    rw (c.in_ok-push.ensures.items, c.in_ok-seen.ensures, c.loop-seat.invariant, seen_next c.args.viewer c.args.entries.now c.loop-seat.seat c.index-entries-seat.result c.loop-seat-test.true c.index-entries-seat.is) refl
