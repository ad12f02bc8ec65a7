-- Where there are ranges and no arguments, an argument is missing.
use Rattle.std.proofs.Common.{◌≡◌, ℕ, ◌<◌, ◌≤◌, List, [], ◌∷◌, length, None, refl, arith}
use Rattle.described_game.specs.Arguments.{ranges_rest}
use Rattle.described_game.specs.declared.parts.NumberRange.{NumberRange}
use Rattle.game_sheet.specs.declared.args.Arg.{Arg}
use Rattle.described_game.proofs.arguments.+ranges_rest.Goals as goal

none_left : (seats : ℕ) (ranges : List NumberRange) (args : List Arg) → 1 ≤ length ranges → length args < 1 → None ≡ ranges_rest seats ranges args
none_left seats [] args some none = absurd (omega (arith, some))
none_left seats (range ∷ ranges) [] some none = refl
none_left seats (range ∷ ranges) (arg ∷ args) some none = absurd (omega (arith, none))

pub returns-in-empty-arguments : goal.returns-in-empty-arguments
returns-in-empty-arguments t c = none_left c.args.seats c.args.ranges.now c.args.arguments.now (omega arith) (omega arith)
