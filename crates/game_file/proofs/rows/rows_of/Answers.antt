use Rattle.std.proofs.Common.{◌≡◌, [], ◌∷◌, ◌++◌, arith}
use Rattle.std.proofs.lemmas.Grind.{common_steps}
use Rattle.std.proofs.lemmas.List.Elements.{All-push}
use Rattle.game_file.proofs.rows.rows_of.Goals as goal

pub loop-name-preserved : goal.loop-name-preserved
loop-name-preserved g c =
    let pushed : c.push.new.self ≡ c.loop-name.rows ++ c.in_ok-row_of.field-0 ∷ [] = c.in_ok-push.ensures.ok in
    record {
      most = rw pushed (grind (arith, common_steps));
      fits = rw pushed (All-push g.R.Row.fits c.loop-name.rows c.in_ok-row_of.field-0 c.loop-name.invariant.fits c.in_ok-row_of.ensures);
    }
