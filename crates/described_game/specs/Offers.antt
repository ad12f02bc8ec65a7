-- The moves that a seat is offered. Each group of arguments has rows with numbers from 0 on; a row of a move has one of each group.
use Rattle.std.specs.Prelude.{◌==◌, ◌+◌, ◌*◌, ◌/◌, ◌%◌, ℕ, min, Bool, if◌then◌else◌, nat_lt, pos, ◌+ℤ◌, ◌-ℤ◌, List, [], ◌∷◌, ◌++◌, length, map, slice_get, Option, Some, None, unwrap_or}
use Rattle.std.specs.List.{filter, flat_map, list_any, range_with_len}
use Rattle.std.specs.Option.{option_map_or, option_to_list}
use Rattle.game_code.specs.Meaning.{value_of}
use Rattle.game_code.specs.Setting.{Setting}
use Rattle.game_sheet.specs.declared.args.Arg.{Arg}
use Rattle.game_sheet.specs.declared.args.Arg.TheVariants.{Whole}
use Rattle.game_sheet.specs.declared.ctx.Ctx.{Ctx}
use Rattle.game_slots.specs.declared.table.Table.{Table}
use Rattle.slot_values.specs.Operators.{fitted}
use Rattle.slot_values.specs.Spans.{count_between, to_nat}
use Rattle.slot_values.specs.Values.{number_of, same_values, whole}
use Rattle.stage_map.specs.Moves.{moves as moves_of}
use Rattle.described_game.specs.Moves.{allowed, setting_at}
use Rattle.described_game.specs.declared.parts.ArgumentGroup.{ArgumentGroup}
use Rattle.described_game.specs.declared.parts.ArgumentGroup.TheVariants.{One, Listed}
use Rattle.described_game.specs.declared.parts.ArgumentKind.{ArgumentKind}
use Rattle.described_game.specs.declared.parts.ArgumentKind.TheVariants.{Number as NumberKind, Text as TextKind}
use Rattle.described_game.specs.declared.parts.ArgumentRow.{ArgumentRow}
use Rattle.described_game.specs.declared.parts.GameParts.{GameParts}
use Rattle.described_game.specs.declared.parts.ListedRow.{ListedRow}
use Rattle.described_game.specs.declared.parts.MoveCode.{MoveCode}
use Rattle.described_game.specs.declared.parts.NumberRange.{NumberRange}

-- ---- ranges

-- counts are told apart below 2 to the power of 31
abbrev pub capped : ℕ → ℕ
capped n = min n 2147483648

-- how many numbers a range has
abbrev pub range_count : NumberRange → ℕ
range_count range = capped (to_nat ((range.greatest -ℤ range.least) +ℤ pos 1))

-- the number at a place of a range
abbrev pub range_item : NumberRange → ℕ → Option Arg
range_item range n = whole (fitted (range.least +ℤ pos n))

-- how many rows there are of one number of each range
abbrev pub rows_count : List NumberRange → ℕ
rows_count [] = 1
rows_count (range ∷ ranges) = capped (range_count range * rows_count ranges)

-- the row with a number, where the last range goes fastest
abbrev pub range_row : List NumberRange → ℕ → List Arg
range_row [] n = []
range_row (range ∷ ranges) n = option_to_list (range_item range (n / rows_count ranges)) ++ range_row ranges (n % rows_count ranges)

-- all rows of one number of each range, in order, where the last range goes fastest
abbrev pub range_rows : List NumberRange → List (List Arg)
range_rows [] = [] ∷ []
range_rows (range ∷ ranges) = flat_map (λ n. map (λ row. option_to_list (range_item range n) ++ row) (range_rows ranges)) (range_with_len 0 (range_count range))

-- ---- groups

abbrev pub kind_count : ArgumentKind → ℕ
kind_count (NumberKind range) = range_count range
kind_count TextKind = 0

abbrev pub kind_item : ArgumentKind → ℕ → Option Arg
kind_item (NumberKind range) n = range_item range n
kind_item TextKind n = None

-- how many values of an argument are offered, and the one at a place
abbrev pub value_count : ArgumentRow → ℕ
value_count row = option_map_or (λ items. capped (length items)) row.offers (kind_count row.kind)

abbrev pub value_item : ArgumentRow → ℕ → Option Arg
value_item row n = option_map_or (λ items. unwrap_or (slice_get items n) None) row.offers (kind_item row.kind n)

-- how many arguments a group has
abbrev pub group_width : ArgumentGroup → ℕ
group_width (One row) = 1
group_width (Listed row) = length row.ranges

-- the row of a group with a number
abbrev pub group_row : ArgumentGroup → ℕ → List Arg
group_row (One row) n = option_to_list (value_item row n)
group_row (Listed row) n = if nat_lt n (rows_count row.ranges) then range_row row.ranges n else []

-- ---- lists

abbrev pub listed_count : ListedRow → Setting → Table → ℕ
listed_count row s table = count_between row.most (Some (pos 0)) (number_of (value_of row.length s table [] []))

abbrev pub listed_item : ListedRow → Setting → Table → ℕ → Option Arg
listed_item row s table i = value_of row.item s table [] (Some (Whole (pos i)) ∷ [])

-- the items of the list
abbrev pub listed_items : ListedRow → Setting → Table → List (Option Arg)
listed_items row s table = map (listed_item row s table) (range_with_len 0 (listed_count row s table))

abbrev pub has_number : List (Option Arg) → ℕ → Bool
has_number items n = list_any (λ item. same_values item (Some (Whole (pos n)))) items

-- the numbers of the rows that a group offers: of all, or of those whose number is an item of the list
abbrev pub group_numbers : ArgumentGroup → Setting → Table → List ℕ
group_numbers (One row) s table = range_with_len 0 (value_count row)
group_numbers (Listed row) s table = filter (has_number (listed_items row s table)) (range_with_len 0 (rows_count row.ranges))

-- ---- moves

-- the rows of arguments that begin with these, and have then one row of each group, the last group going fastest
abbrev pub rows_after : List Arg → List ArgumentGroup → List (List ℕ) → List (List Arg)
rows_after row [] numbers = row ∷ []
rows_after row (group ∷ groups) [] = []
rows_after row (group ∷ groups) (some ∷ numbers) = flat_map (λ n. rows_after (row ++ group_row group n) groups numbers) some

-- the same setting with these arguments
abbrev pub with_arguments : Setting → List Arg → Setting
with_arguments s args = record s { arguments = args }

-- with which of these rows a move is offered: those with which it is allowed
abbrev pub kept_rows : MoveCode → ℕ → Setting → Table → List (List Arg) → List (ℕ × List Arg)
kept_rows code id s table rows = map (λ row. (id, row)) (filter (λ row. allowed code (with_arguments s row) table) rows)

abbrev pub move_offers : MoveCode → ℕ → Setting → Table → List (ℕ × List Arg)
move_offers code id s table = kept_rows code id s table (rows_after [] code.arguments (map (λ group. group_numbers group s table) code.arguments))

abbrev pub is_among : List ℕ → ℕ → Bool
is_among ids id = list_any (λ known. known == id) ids

-- what is offered of the moves from a place of the sheet on, where a seat has these
abbrev pub offers_from : List ℕ → Setting → Table → ℕ → List MoveCode → List (ℕ × List Arg)
offers_from ids s table id [] = []
offers_from ids s table id (code ∷ codes) = (if is_among ids id then move_offers code id s table else []) ++ offers_from ids s table (id + 1) codes

-- each move that the seat has, in the order of the sheet
abbrev pub all_offers : GameParts → Table → Ctx → ℕ → List (ℕ × List Arg)
all_offers parts table ctx seat = offers_from (moves_of parts.sheet ctx seat) (setting_at parts ctx (Some seat) []) table 0 parts.moves
