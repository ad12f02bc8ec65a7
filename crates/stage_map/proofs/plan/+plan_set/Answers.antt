use Rattle.std.proofs.Common.{arith, rules}
use Rattle.std.proofs.lemmas.Grind.{common_steps}
use Rattle.stage_map.proofs.Plans.{set_follower}
use Rattle.stage_map.proofs.plan.+plan_set.Goals as goal

pub returns-in-Ok : goal.returns-in-Ok
returns-in-Ok t c m =
    set_follower c.args.left c.args.sheet.now c.args.current c.args.order.now c.args.spec c.in-Some-next.next c.in-Some.row.now c.in_ok-rows.rows c.in-Ok.later _ m
    (search rules) (search rules) (search rules) (grind (arith, common_steps)) (search rules) c.in-Ok.ensures (c.followed.ensures m)
