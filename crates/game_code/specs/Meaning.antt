-- The value of an expression, by what is given from outside, a state, the slots of work, and the local values, the newest first.
use Rattle.std.specs.Prelude.{ℕ, zero, suc, ◌&&◌, nat_le, not, Bool, ℤ, pos, ◌+ℤ◌, ◌*ℤ◌, int_le, int_lt, if◌then◌else◌, Option, Some, None, option_and_then, option_map, List, [], ◌∷◌, length, map, slice_get, unwrap_or}
use Rattle.std.specs.Option.{option_map_or}
use Rattle.game_sheet.specs.declared.args.Arg.{Arg}
use Rattle.game_sheet.specs.declared.args.Arg.TheVariants.{Whole, Text}
use Rattle.game_slots.specs.Slots.{SlotLists, item_in, length_of}
use Rattle.game_slots.specs.Tables.{items_at}
use Rattle.game_slots.specs.declared.rows.SlotPlace.TheVariants.{Common as AtCommon, Player as AtPlayer, Secret as AtSecret, Work as AtWork}
use Rattle.game_slots.specs.declared.table.Table.{Table}
use Rattle.slot_values.specs.Operators.{both_hold, both_make, operate}
use Rattle.slot_values.specs.Spans.{count_between, gathered}
use Rattle.slot_values.specs.Values.{is_true, number_of, truth, whole}
use Rattle.game_code.specs.Setting.{Setting, setting_of}
use Rattle.game_code.specs.declared.expression.Expression.{Expression}
use Rattle.game_code.specs.declared.expression.Expression.TheVariants.{Literal, Local, Argument, Word, Item', Cell', Length', Size', Not', Operate', If', Let', Gather'}
use Rattle.game_code.specs.declared.expression.ItemList.{ItemList}
use Rattle.game_code.specs.declared.expression.ItemList.TheVariants.{Common, Player, Secret, Work, Constant, Order}
use Rattle.game_code.specs.declared.expression.Locals.{Locals}
use Rattle.game_code.specs.declared.expression.Locals.TheVariants.{Empty, With'}
use Rattle.game_code.specs.declared.expression.Word.{Word as MatchWord}
use Rattle.game_code.specs.declared.expression.Word.TheVariants.{Seat, Seats, Current, Turn, Moves, Place, Phase}

-- ---- locals, arguments and words

abbrev pub values_of : Locals → List (Option Arg)
values_of Empty = []
values_of (With' value p older) = value ∷ values_of older

abbrev pub local_at : List (Option Arg) → ℕ → Option Arg
local_at [] place = None
local_at (value ∷ values) zero = value
local_at (value ∷ values) (suc place) = local_at values place

-- a count; null where it isn't a number of 32 bits
abbrev pub count_value : ℕ → Option Arg
count_value n = if nat_le n 2147483647 then Some (Whole (pos n)) else None

abbrev pub place_value : ℕ → Option Arg
place_value n = Some (Whole (pos n))

abbrev pub word_value : MatchWord → Setting → Option Arg
word_value Seat s = option_and_then place_value s.seat
word_value Seats s = place_value s.context.seats
word_value Current s = place_value s.context.current
word_value Turn s = count_value s.context.turn
word_value Moves s = count_value s.context.moves
word_value Place s = place_value s.context.pos
word_value Phase s = option_and_then place_value s.context.phase

-- ---- lists

-- the items of a list but the play order; none where it isn't there
abbrev pub held_items : ItemList → Option ℤ → Setting → Table → SlotLists → Option (List (Option Arg))
held_items (Common slot) seat s table work = items_at table work (AtCommon slot)
held_items (Player slot) seat s table work = items_at table work (AtPlayer seat slot)
held_items (Secret slot) seat s table work = items_at table work (AtSecret slot)
held_items (Work slot) seat s table work = items_at table work (AtWork slot)
held_items (Constant row) seat s table work = slice_get s.constants row
held_items Order seat s table work = None

-- the items of a list; none where it isn't there
abbrev pub list_items : ItemList → Option ℤ → Setting → Table → SlotLists → Option (List (Option Arg))
list_items Order seat s table work = Some (map place_value s.context.order)
list_items list seat s table work = held_items list seat s table work

abbrev pub list_item : Option (List (Option Arg)) → Option ℤ → Option Arg
list_item items at = option_and_then (λ items. item_in items at) items

abbrev pub list_length : Option (List (Option Arg)) → Option ℤ
list_length items = option_map_or length_of items (Some (pos 0))

-- ---- places in grids, and texts

-- whether a row and a column are of a grid of so many columns
abbrev pub is_cell : ℕ → Option ℤ → Option ℤ → Bool
is_cell columns row column = both_hold int_le (Some (pos 0)) row && both_hold int_le (Some (pos 0)) column && both_hold int_lt column (Some (pos columns))

-- the place of a row and a column in a grid of so many columns: row × columns + column
abbrev pub cell_place : ℕ → Option ℤ → Option ℤ → Option ℤ
cell_place columns row column = if is_cell columns row column then both_make (λ x y. x +ℤ y) (both_make (λ x y. x *ℤ y) row (Some (pos columns))) column else None

-- how many bytes a text has; null of what is no text
abbrev pub size_of_value : Option Arg → Option Arg
size_of_value None = None
size_of_value (Some (Whole number)) = None
size_of_value (Some (Text text)) = place_value (length text)

-- ---- expressions

abbrev pub value_of : Expression → Setting → Table → SlotLists → List (Option Arg) → Option Arg
value_of (Literal value) s table work locals = value
value_of (Local place) s table work locals = local_at locals place
value_of (Argument place) s table work locals = slice_get s.arguments place
value_of (Word word) s table work locals = word_value word s
value_of (Item' list p seat q at) s table work locals =
    list_item (list_items list (number_of (value_of seat s table work locals)) s table work) (number_of (value_of at s table work locals))
value_of (Cell' p row q column columns) s table work locals =
    whole (cell_place columns (number_of (value_of row s table work locals)) (number_of (value_of column s table work locals)))
value_of (Length' list p seat) s table work locals = whole (list_length (list_items list (number_of (value_of seat s table work locals)) s table work))
value_of (Size' p text) s table work locals = size_of_value (value_of text s table work locals)
value_of (Not' p test) s table work locals = truth (not (is_true (value_of test s table work locals)))
value_of (Operate' operator p a q b) s table work locals = operate operator (value_of a s table work locals) (value_of b s table work locals)
value_of (If' p test q a r b) s table work locals = if is_true (value_of test s table work locals) then value_of a s table work locals else value_of b s table work locals
value_of (Let' p value q body) s table work locals = value_of body s table work (value_of value s table work locals ∷ locals)
value_of (Gather' gather most p from q to r body) s table work locals =
    let first = number_of (value_of from s table work locals) in
    gathered gather (λ i. value_of body s table work (whole i ∷ locals)) (count_between most first (number_of (value_of to s table work locals))) first
