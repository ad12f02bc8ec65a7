use Rattle.reducer.proofs.Grounds.{fold_good}
use Rattle.reducer.proofs.laws.matches_stay_sound.Goals as goal

pub returns : goal.returns
returns g c = λ any seats seed first accepted least most e acts.
    fold_good (g.X.Game.rules any) c.bounds_grow.ensures (c.actions_keep_tables_sound.ensures any) seats first accepted
    (c.matches_begin_soundly.ensures any seats seed first least most e) acts
