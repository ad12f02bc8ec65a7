use Rattle.std.proofs.Common.{rules}
use Rattle.serde_json.specs.View.{view}
use Rattle.player_sight.proofs.NoFloat.{rows_have_none}
use Rattle.player_sight.proofs.context.rows_value.Goals as goal

pub returns-clause-no_float : goal.returns-clause-no_float
returns-clause-no_float c = rows_have_none c.args.sheet.now c.args.rows.now (view c.in_ok-value.value) (search rules)
