-- Moves of one kind that are offered: one for each argument.
use Rattle.std.specs.Prelude.{ℕ, List, [], ◌∷◌, map}
use Rattle.game_sheet.specs.declared.args.Arg.{Arg}

abbrev pub offers : ℕ → List Arg → List (ℕ × List Arg)
offers id arguments = map (λ argument. (id, argument ∷ [])) arguments
