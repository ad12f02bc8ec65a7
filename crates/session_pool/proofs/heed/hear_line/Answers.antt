use Rattle.std.proofs.Common.{subst}
use Rattle.session_pool.proofs.Heeding.{heeds_starved}
use Rattle.session_driver.specs.Hearing.{side}
use Rattle.session_pool.specs.Turn.{Heeds}
use Rattle.session_pool.proofs.heed.hear_line.Goals as goal

pub returns-in-Some-clause-heeds : goal.returns-in-Some-clause-heeds
returns-in-Some-clause-heeds g c =
    subst (λ l. Heeds g.B.Object.may_starve l (side c.args.rooms.now.passes.now c.args.core.now) c.args.words.now
    (side c.hear_bytes.new.rooms.passes.now c.hear_bytes.new.core) c.hear_bytes.new.words) c.in-Some.ensures c.hear_bytes.ensures.heeds

pub returns-in-Err-clause-heeds : goal.returns-in-Err-clause-heeds
returns-in-Err-clause-heeds g c =
    heeds_starved g.B.Object.may_starve c.args.line.now c.args.rooms.now.passes.now c.args.core.now c.starve.new.self c.args.words.now c.begin.new.self c.starve.ensures.starved c.begin.ensures.value
