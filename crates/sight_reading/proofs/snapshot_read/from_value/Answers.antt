use Rattle.serde_json.specs.View.{view}
use Rattle.sight_reading.proofs.SnapshotLaws.{snapshot_found, snapshot_only}
use Rattle.sight_reading.proofs.snapshot_read.from_value.Goals as goal

pub returns-clause-found : goal.returns-clause-found
returns-clause-found g c = λ canonical.
    snapshot_found (g.X.Game.rules c.args.game.now) (view c.args.v.now) c.in_ok-read.read (g.met.X.Game.lawful c.args.game.now) c.in_ok-read.ensures.exact canonical

pub returns-clause-only : goal.returns-clause-only
returns-clause-only g c = λ s plain is.
    snapshot_only (g.X.Game.rules c.args.game.now) (view c.args.v.now) c.in_ok-read.read c.in_ok-read.ensures.fits (g.met.X.Game.lawful c.args.game.now) c.in_ok-read.ensures.exact s plain is
