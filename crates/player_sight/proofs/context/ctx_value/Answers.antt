use Rattle.std.proofs.Common.{rules}
use Rattle.serde_json.specs.View.{view}
use Rattle.player_sight.proofs.Depths.{ctx_is_shallow}
use Rattle.player_sight.proofs.NoFloat.{ctx_has_none}
use Rattle.player_sight.proofs.context.ctx_value.Goals as goal

pub returns-clause-no_float : goal.returns-clause-no_float
returns-clause-no_float c = ctx_has_none c.args.sheet.now c.args.ctx.now (view c.in_ok-value.value) (search rules)

pub returns-clause-shallow : goal.returns-clause-shallow
returns-clause-shallow c = ctx_is_shallow c.args.sheet.now c.args.ctx.now (view c.in_ok-value.value) (search rules)
