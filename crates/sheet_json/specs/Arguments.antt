-- The arguments of a move as JSON values, at most eight: whole numbers of 32 bits with sign, and texts that a `Short` can hold.
use Rattle.std.specs.Prelude.{◌≡◌, ◌≤◌, ℤ, pos, negsuc, List, length, map, Bool, true, ◌&&◌, nat_le, int_le, if◌then◌else◌, Option, Some, None, option_and_then}
use Rattle.std.specs.List.{AllByRecursion}
use Rattle.serde_json.specs.Data.{Data, number, string, Items}
use Rattle.serde_json.specs.Events.{items_len}
use Rattle.serde_json.specs.Find.{of_integer, as_i64}
use Rattle.serde_json.specs.View.{items_of}
use Rattle.game_sheet.specs.Short.{is_short}
use Rattle.game_sheet.specs.declared.args.Arg.{Arg}
use Rattle.game_sheet.specs.declared.args.Arg.TheVariants.{Whole, Text}
use Rattle.json_tree.specs.Fields.{read_each}

abbrev pub argument : Arg → Data
argument (Whole z) = number (of_integer z)
argument (Text s) = string s

abbrev pub arguments : List Arg → Items
arguments args = items_of (map argument args)

-- a whole number of 32 bits with sign, or a short text
abbrev pub is_argument : Arg → Bool
is_argument (Whole z) = int_le (negsuc 2147483647) z && int_le z (pos 2147483647)
is_argument (Text s) = is_short s

abbrev pub AreArguments : List Arg → Type 0
AreArguments args = (length args ≤ 8) × AllByRecursion (λ a. is_argument a ≡ true) args

-- an argument that is one
abbrev pub if_argument : Arg → Option Arg
if_argument a = if is_argument a then Some a else None

-- the argument that a value is; none where it is none
abbrev pub argument_in : Data → Option Arg
argument_in (number n) = option_and_then (λ z. if_argument (Whole z)) (as_i64 n)
argument_in (string s) = if_argument (Text s)
argument_in other = None

-- the arguments that a list of values is; none where it is too long, or has a value that is none
abbrev pub arguments_in : Items → Option (List Arg)
arguments_in ds = if nat_le (items_len ds) 8 then read_each argument_in ds else None
