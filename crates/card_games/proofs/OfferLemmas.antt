-- The moves that lay one card more.
use Rattle.std.proofs.Common.{◌≡◌, ℕ, suc, ◌+◌, [], ◌∷◌, ◌++◌, ap, arith}
use Rattle.std.specs.Prelude.{pos}
use Rattle.game_sheet.specs.declared.args.Arg.TheVariants.{Whole}
use Rattle.card_games.specs.HighHand.{lays}

pub lays_more : (count : ℕ) → lays (count + 1) ≡ lays count ++ (1, Whole (pos count) ∷ []) ∷ []
lays_more count = let more : count + 1 ≡ suc count = omega arith in ap lays more
