-- What the arguments of a move may be.
use Rattle.std.specs.Prelude.{◌==◌, ◌&&◌, ℕ, Bool, true, false, if◌then◌else◌, ℤ, pos, int_le, int_lt, List, [], ◌∷◌, length, Option, Some, None}
use Rattle.std.specs.Option.{option_map_or}
use Rattle.game_sheet.specs.declared.args.Arg.{Arg}
use Rattle.game_sheet.specs.declared.args.Arg.TheVariants.{Whole, Text}
use Rattle.described_game.specs.declared.parts.ArgumentGroup.{ArgumentGroup}
use Rattle.described_game.specs.declared.parts.ArgumentGroup.TheVariants.{One, Listed}
use Rattle.described_game.specs.declared.parts.ArgumentKind.{ArgumentKind}
use Rattle.described_game.specs.declared.parts.ArgumentKind.TheVariants.{Number as NumberKind, Text as TextKind}
use Rattle.described_game.specs.declared.parts.NumberRange.{NumberRange}

-- a number is one of a range; one that is a seat is also a seat of the match
abbrev pub in_range : ℕ → NumberRange → ℤ → Bool
in_range seats range z = int_le range.least z && int_le z range.greatest && (if range.seat then int_le (pos 0) z && int_lt z (pos seats) else true)

abbrev pub argument_fits : ℕ → ArgumentKind → Arg → Bool
argument_fits seats (NumberKind range) (Whole z) = in_range seats range z
argument_fits seats (NumberKind range) (Text text) = false
argument_fits seats TextKind (Whole z) = false
argument_fits seats TextKind (Text text) = true

-- what is left of arguments behind those of some ranges; none where one of them isn't of its range
abbrev pub ranges_rest : ℕ → List NumberRange → List Arg → Option (List Arg)
ranges_rest seats [] args = Some args
ranges_rest seats (range ∷ ranges) [] = None
ranges_rest seats (range ∷ ranges) (arg ∷ args) = if argument_fits seats (NumberKind range) arg then ranges_rest seats ranges args else None

abbrev pub one_rest : ℕ → ArgumentKind → List Arg → Option (List Arg)
one_rest seats kind [] = None
one_rest seats kind (arg ∷ args) = if argument_fits seats kind arg then Some args else None

-- the same for those of a group
abbrev pub group_rest : ℕ → ArgumentGroup → List Arg → Option (List Arg)
group_rest seats (One row) args = one_rest seats row.kind args
group_rest seats (Listed row) args = ranges_rest seats row.ranges args

-- arguments are right in number, kind and range
abbrev pub arguments_fit : ℕ → List ArgumentGroup → List Arg → Bool
arguments_fit seats [] args = length args == 0
arguments_fit seats (group ∷ groups) args = option_map_or (λ left. arguments_fit seats groups left) (group_rest seats group args) false
