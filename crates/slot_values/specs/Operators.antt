-- What is made of two values. A number that isn't of 32 bits is null, and so is what is made of null or of a text.
use Rattle.std.specs.Prelude.{Bool, true, false, ◌&&◌, ℤ, pos, negsuc, ◌+ℤ◌, ◌-ℤ◌, ◌*ℤ◌, int_le, int_lt, if◌then◌else◌, Option, Some, None}
use Rattle.std.specs.Int.{int_div_euclid, int_rem_euclid}
use Rattle.game_sheet.specs.declared.args.Arg.{Arg}
use Rattle.slot_values.specs.Values.{number_of, same_values, truth, whole}
use Rattle.slot_values.specs.declared.value.Operator.{Operator}
use Rattle.slot_values.specs.declared.value.Operator.TheVariants.{Plus, Minus, Times, Over, Rest, Least, Greatest, Less, AtMost, Equal}

-- a number, where it is one of 32 bits
abbrev pub fitted : ℤ → Option ℤ
fitted z = if int_le (negsuc 2147483647) z && int_le z (pos 2147483647) then Some z else None

-- a test of two numbers, which is false where one is missing
abbrev pub both_hold : (ℤ → ℤ → Bool) → Option ℤ → Option ℤ → Bool
both_hold test None b = false
both_hold test (Some x) None = false
both_hold test (Some x) (Some y) = test x y

-- what is made of two numbers; none where one is missing, or where it has more than 32 bits
abbrev pub both_make : (ℤ → ℤ → ℤ) → Option ℤ → Option ℤ → Option ℤ
both_make make None b = None
both_make make (Some x) None = None
both_make make (Some x) (Some y) = fitted (make x y)

-- the same of a division, which is none where the divisor is below 1
abbrev pub divided : (ℤ → ℤ → ℤ) → ℤ → ℤ → Option ℤ
divided make x y = if int_le (pos 1) y then fitted (make x y) else None

abbrev pub both_divide : (ℤ → ℤ → ℤ) → Option ℤ → Option ℤ → Option ℤ
both_divide make None b = None
both_divide make (Some x) None = None
both_divide make (Some x) (Some y) = divided make x y

-- the first of two numbers where a test holds of them, and otherwise the second; none where one is missing
abbrev pub both_choose : (ℤ → ℤ → Bool) → Option ℤ → Option ℤ → Option ℤ
both_choose test None b = None
both_choose test (Some x) None = None
both_choose test (Some x) (Some y) = if test x y then Some x else Some y

abbrev pub is_at_least : ℤ → ℤ → Bool
is_at_least x y = int_le y x

abbrev pub operate : Operator → Option Arg → Option Arg → Option Arg
operate Plus a b = whole (both_make (λ x y. x +ℤ y) (number_of a) (number_of b))
operate Minus a b = whole (both_make (λ x y. x -ℤ y) (number_of a) (number_of b))
operate Times a b = whole (both_make (λ x y. x *ℤ y) (number_of a) (number_of b))
operate Over a b = whole (both_divide int_div_euclid (number_of a) (number_of b))
operate Rest a b = whole (both_divide int_rem_euclid (number_of a) (number_of b))
operate Least a b = whole (both_choose int_le (number_of a) (number_of b))
operate Greatest a b = whole (both_choose is_at_least (number_of a) (number_of b))
operate Less a b = truth (both_hold int_lt (number_of a) (number_of b))
operate AtMost a b = truth (both_hold int_le (number_of a) (number_of b))
operate Equal a b = truth (same_values a b)
