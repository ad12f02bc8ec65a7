-- A round more is done, or the rounds give up.
use Rattle.std.proofs.lemmas.Result.{err_from_is_err_and}
use Rattle.dice_words.proofs.StripLemmas.{follows_trans}
use Rattle.game_code.proofs.RoundLemmas.{round_more, round_stops}
use Rattle.game_code.proofs.runs.+run.Goals as goal

pub repeat-loop-preserved : goal.repeat-loop-preserved
repeat-loop-preserved t c = record {
  deed = round_more _ _ _ _ _ _ _ c.loop-test.true _ _ _ _ _ c.next-i.ensures c.in_ok-run_at.ensures.deed c.loop.invariant.deed;
  follows = follows_trans _ _ _ c.loop.invariant.follows c.in_ok-run_at.ensures.follows;
}

pub repeat-returns-in_err-run_at-clause-deed : goal.repeat-returns-in_err-run_at-clause-deed
repeat-returns-in_err-run_at-clause-deed t c =
    let p = err_from_is_err_and c.from_residual.result c.from_residual.ensures.1 in
    rw (p.1, p.2) (round_stops _ _ _ _ _ _ _ c.loop-test.true (Unit {0}) (Unit {0}) _ _ _ _ _ c.in_err-run_at.ensures.deed c.loop.invariant.deed)
