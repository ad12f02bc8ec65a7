-- A value of code is a whole number, a text or null. A truth is 1 or 0, and a value is true where it is a number other than 0.
use Rattle.std.specs.Prelude.{Bool, true, false, not, ◌&&◌, ℕ, zero, suc, ℤ, pos, negsuc, int_le, if◌then◌else◌, Option, Some, None, option_and_then, option_map}
use Rattle.std.specs.Str.{bytes_eq}
use Rattle.game_sheet.specs.declared.args.Arg.{Arg}
use Rattle.game_sheet.specs.declared.args.Arg.TheVariants.{Whole, Text}

-- the number that an argument is
abbrev pub number_in : Arg → Option ℤ
number_in (Whole number) = Some number
number_in (Text text) = None

-- the number that a value is; none where it is null or a text
abbrev pub number_of : Option Arg → Option ℤ
number_of value = option_and_then number_in value

-- a number as a value
abbrev pub whole : Option ℤ → Option Arg
whole number = option_map Whole number

abbrev pub truth : Bool → Option Arg
truth holds = if holds then Some (Whole (pos 1)) else Some (Whole (pos 0))

abbrev pub is_true : Option Arg → Bool
is_true None = false
is_true (Some (Whole (pos zero))) = false
is_true (Some (Whole (pos (suc n)))) = true
is_true (Some (Whole (negsuc n))) = true
is_true (Some (Text text)) = false

-- whether two values are the same: null is the same as null
abbrev pub same_values : Option Arg → Option Arg → Bool
same_values None None = true
same_values None (Some y) = false
same_values (Some x) None = false
same_values (Some (Whole x)) (Some (Whole y)) = int_le x y && int_le y x
same_values (Some (Whole x)) (Some (Text y)) = false
same_values (Some (Text x)) (Some (Whole y)) = false
same_values (Some (Text x)) (Some (Text y)) = bytes_eq x y
