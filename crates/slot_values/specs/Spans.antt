-- Spans of numbers, and what is gathered over one.
use Rattle.std.specs.Prelude.{ℕ, zero, suc, ℤ, pos, negsuc, ◌+ℤ◌, ◌-ℤ◌, min, Bool, if◌then◌else◌, is_some, Option, Some, None, option_map}
use Rattle.game_sheet.specs.declared.args.Arg.{Arg}
use Rattle.slot_values.specs.Operators.{both_make, is_at_least}
use Rattle.slot_values.specs.Values.{is_true, number_of, truth, whole}
use Rattle.slot_values.specs.declared.value.Gather.{Gather}
use Rattle.slot_values.specs.declared.value.Gather.TheVariants.{Any, First, Sum, Greatest}

-- a number from 0 on, and 0 for one below
abbrev pub to_nat : ℤ → ℕ
to_nat (pos n) = n
to_nat (negsuc n) = 0

-- how many numbers there are from one to before another, at most so many; none where one of the two is missing
abbrev pub count_between : ℕ → Option ℤ → Option ℤ → ℕ
count_between most None to = 0
count_between most (Some from) None = 0
count_between most (Some from) (Some to) = min most (to_nat (to -ℤ from))

-- the next number
abbrev pub next : Option ℤ → Option ℤ
next i = both_make (λ x y. x +ℤ y) i (Some (pos 1))

-- a sum with one number more, where there is one
abbrev pub sum_with : Option ℤ → Option ℤ → Option ℤ
sum_with sum None = sum
sum_with sum (Some number) = both_make (λ x y. x +ℤ y) sum (Some number)

-- the greater of two numbers, and where one is missing the other
abbrev pub greatest_with : Option ℤ → Option ℤ → Option ℤ
greatest_with None b = b
greatest_with (Some x) None = Some x
greatest_with (Some x) (Some y) = if is_at_least x y then Some x else Some y

-- the first of so many numbers from one on at which an expression is true
abbrev pub first_over : (Option ℤ → Option Arg) → ℕ → Option ℤ → Option ℤ
first_over body zero i = None
first_over body (suc n) i = if is_true (body i) then i else first_over body n (next i)

-- what is put together of an expression's numbers at so many numbers from one on
abbrev pub put_together : (Option ℤ → Option ℤ → Option ℤ) → (Option ℤ → Option Arg) → ℕ → Option ℤ → Option ℤ → Option ℤ
put_together with body zero i so_far = so_far
put_together with body (suc n) i so_far = put_together with body n (next i) (with so_far (number_of (body i)))

-- what is gathered over so many numbers from one on
abbrev pub gathered : Gather → (Option ℤ → Option Arg) → ℕ → Option ℤ → Option Arg
gathered Any body n i = truth (is_some (first_over body n i))
gathered First body n i = whole (first_over body n i)
gathered Sum body n i = whole (put_together sum_with body n i (Some (pos 0)))
gathered Greatest body n i = whole (put_together greatest_with body n i None)
