use Rattle.std.proofs.Common.{◌∙◌}
use Rattle.player_sight.specs.SnapshotData.{snapshot_data}
use Rattle.match_master.specs.Does.{seen_at}
use Rattle.match_master.proofs.line.sync.Goals as goal

pub returns : goal.returns
returns g c =
    let rules = g.X.Game.rules c.args.game.now in
    c.sync_line.ensures (snapshot_data rules.sheet (seen_at rules c.args.state.now c.args.log.now c.args.seat)) (c.as_slice.ensures.value ∙ c.in_ok-snapshot.ensures)
