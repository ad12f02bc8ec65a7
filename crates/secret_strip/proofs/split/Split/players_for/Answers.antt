use Rattle.std.proofs.Common.{refl}
use Rattle.secret_strip.proofs.PlayersLemmas.{players_next}
use Rattle.secret_strip.proofs.split.Split.players_for.Goals as goal

pub loop-seat-preserved : goal.loop-seat-preserved
loop-seat-preserved g c =
    rw (c.in_ok-push_seen.ensures, c.loop-seat.invariant, players_next c.args.viewer c.as_slice-entries.result.now c.loop-seat.seat c.index-entries-seat.result c.loop-seat-test.true c.index-entries-seat.is) refl
