use Rattle.std.proofs.Common.{◌≡◌, subst, sym}
use Rattle.std.specs.Prelude.{IfOk}
use Rattle.any_game.proofs.any_g.AnyG.copy.Goals as goal

pub returns-in-Pig : goal.returns-in-Pig
returns-in-Pig c = subst (λ g. IfOk c.in_any-in-Pig.result (λ copied. copied ≡ g)) (sym c.in-Pig.is) (c.in_any-in-Pig.ensures c.in-Pig.scores c.copy-in-Pig.ensures)
