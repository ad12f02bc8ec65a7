use Rattle.std.proofs.Common.{◌&&◌, arith}
use Rattle.board_links.specs.Doors.{one_bot, one_other}
use Rattle.link_rounds.proofs.Benches.{none_seated}
use Rattle.link_rounds.proofs.bench.are_free.Goals as goal

pub returns-clause-free : goal.returns-clause-free
returns-clause-free g c is k d low = c.loop-at.invariant k d (omega (arith, low, c.loop-at-test.false, c.loop-at.auto.at-end))

pub returns-clause-others : goal.returns-clause-others
returns-clause-others g c is = none_seated (λ bot. one_other (g.D.Door.has_bots && bot)) g.D.L.Link.is_bot c.args.places.now (λ k d low. c.loop-at.invariant k d (omega (arith, low, c.loop-at-test.false, c.loop-at.auto.at-end)))

pub returns-clause-bots : goal.returns-clause-bots
returns-clause-bots g c is = none_seated (λ bot. one_bot (g.D.Door.has_bots && bot)) g.D.L.Link.is_bot c.args.places.now (λ k d low. c.loop-at.invariant k d (omega (arith, low, c.loop-at-test.false, c.loop-at.auto.at-end)))
