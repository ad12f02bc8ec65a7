-- What a move was given.
use Rattle.std.specs.Prelude.{ℕ, pos, List, [], ◌∷◌, Option, Some, None}
use Rattle.game_sheet.specs.declared.args.Arg.{Arg}
use Rattle.game_sheet.specs.declared.args.Arg.TheVariants.{Whole}

-- the one argument, where it is one whole number from 0 on
abbrev pub only_natural : List Arg → Option ℕ
only_natural (Whole (pos n) ∷ []) = Some n
only_natural _ = None
