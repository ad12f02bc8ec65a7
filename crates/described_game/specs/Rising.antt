-- Numbers in rising order, as the code of offers finds them.
use Rattle.std.specs.Prelude.{◌≤◌, ◌+◌, ℕ, nat_lt, if◌then◌else◌, pos, negsuc, List, [], ◌∷◌, Option, Some, None}
use Rattle.game_sheet.specs.declared.args.Arg.{Arg}
use Rattle.game_sheet.specs.declared.args.Arg.TheVariants.{Whole, Text}

-- a value as a number below a count
abbrev pub number_below : ℕ → Option Arg → Option ℕ
number_below count None = None
number_below count (Some (Whole (pos n))) = if nat_lt n count then Some n else None
number_below count (Some (Whole (negsuc n))) = None
number_below count (Some (Text text)) = None

-- the numbers rise, from a least one on
abbrev pub Rises : ℕ → List ℕ → Type 0
Rises least [] = Unit {0}
Rises least (n ∷ numbers) = (least ≤ n) × Rises (n + 1) numbers
