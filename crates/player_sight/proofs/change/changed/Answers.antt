use Rattle.serde_json.specs.View.{view}
use Rattle.player_sight.proofs.Changes.{put_float_free, gone_float_free}
use Rattle.player_sight.proofs.change.changed.Goals as goal

pub returns-in-Ok-clause-no_float : goal.returns-in-Ok-clause-no_float
returns-in-Ok-clause-no_float c =
    (put_float_free (view c.args.old.now) (view c.args.new.now) (view c.in-Ok.put) c.in-Ok.ensures c.requires.new, gone_float_free (view c.args.old.now) (view c.args.new.now) (view c.in_ok-gone.gone) c.in_ok-gone.ensures)
