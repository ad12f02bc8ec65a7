use Rattle.serde_json.specs.View.{view}
use Rattle.player_sight.proofs.Depths.{snapshot_is_shallow}
use Rattle.player_sight.proofs.NoFloat.{snapshot_has_none}
use Rattle.player_sight.proofs.snapshots.snapshot_value.Goals as goal

pub returns-clause-no_float : goal.returns-clause-no_float
returns-clause-no_float c =
    snapshot_has_none c.args.sheet.now (record { number = c.args.number; ctx = c.args.ctx.now; g = view c.args.g; log = c.args.log.now }) (view c.in_ok-value.value) c.in_ok-value.ensures c.requires

pub returns-clause-shallow : goal.returns-clause-shallow
returns-clause-shallow c =
    snapshot_is_shallow c.args.sheet.now (record { number = c.args.number; ctx = c.args.ctx.now; g = view c.args.g; log = c.args.log.now }) (view c.in_ok-value.value) c.in_ok-value.ensures
