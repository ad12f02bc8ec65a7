-- A slot is a list of items, which its row bounds. What doesn't fit the row isn't done.
use Rattle.std.specs.Prelude.{◌&&◌, ◌*◌, ℕ, zero, suc, Bool, true, false, if◌then◌else◌, nat_le, nat_lt, ℤ, pos, negsuc, int_le, List, [], ◌∷◌, ◌++◌, length, map, remove, replicate, slice_get, slice_set, swap, Option, Some, None, option_and_then, unwrap_or}
use Rattle.std.specs.List.{list_all}
use Rattle.std.specs.Option.{option_map_or}
use Rattle.game_sheet.specs.Short.{is_short}
use Rattle.game_sheet.specs.declared.args.Arg.{Arg}
use Rattle.game_sheet.specs.declared.args.Arg.TheVariants.{Whole, Text}
use Rattle.game_slots.specs.declared.rows.Change.{Change}
use Rattle.game_slots.specs.declared.rows.Change.TheVariants.{Set, Push, Remove, Clear, Fill, Swap}
use Rattle.game_slots.specs.declared.rows.Count.{Count}
use Rattle.game_slots.specs.declared.rows.Count.TheVariants.{Fixed, PerSeat}
use Rattle.game_slots.specs.declared.rows.ItemKind.{ItemKind}
use Rattle.game_slots.specs.declared.rows.ItemKind.TheVariants.{Number as NumberKind, Text as TextKind}
use Rattle.game_slots.specs.declared.rows.SlotRow.{SlotRow}

-- a number as a place of so many
abbrev pub place_in : Option ℤ → ℕ → Option ℕ
place_in None count = None
place_in (Some (pos n)) count = if nat_lt n count then Some n else None
place_in (Some (negsuc n)) count = None

-- the item at a place; null where there is no such place
abbrev pub item_in : List (Option Arg) → Option ℤ → Option Arg
item_in items at = option_and_then (λ place. unwrap_or (slice_get items place) None) (place_in at (length items))

-- how many items there are; null where that isn't a number of 32 bits
abbrev pub length_of : List (Option Arg) → Option ℤ
length_of items = if nat_lt (length items) 2147483648 then Some (pos (length items)) else None

-- ---- what fits

abbrev pub argument_fits : ItemKind → Arg → Bool
argument_fits (NumberKind least greatest) (Whole number) = int_le least number && int_le number greatest
argument_fits (NumberKind least greatest) (Text text) = false
argument_fits TextKind (Whole number) = false
argument_fits TextKind (Text text) = is_short text

-- whether a value may stand in a slot
abbrev pub value_fits : SlotRow → Option Arg → Bool
value_fits row None = row.null
value_fits row (Some argument) = argument_fits row.kind argument

-- how many items there must be: one value is never taken out
abbrev pub least_items : SlotRow → ℕ
least_items row = if row.lone then 1 else 0

-- whether these may be the items of a slot
abbrev pub slot_fits : SlotRow → List (Option Arg) → Bool
slot_fits row items = nat_le (least_items row) (length items) && nat_le (length items) row.most && list_all (value_fits row) items

-- ---- what is done

-- two items change places, where there are both
abbrev pub swapped : List (Option Arg) → Option ℕ → Option ℕ → List (Option Arg)
swapped items None other = items
swapped items (Some i) None = items
swapped items (Some i) (Some j) = swap items i j

abbrev pub changed : SlotRow → Change → List (Option Arg) → List (Option Arg)
changed row (Set at value) items = option_map_or (λ place. if value_fits row value then slice_set items place value else items) (place_in at (length items)) items
changed row (Push value) items = if nat_lt (length items) row.most && value_fits row value then items ++ value ∷ [] else items
changed row (Remove at) items = option_map_or (λ place. if nat_lt (least_items row) (length items) then remove items place else items) (place_in at (length items)) items
changed row Clear items = if row.lone then items else []
changed row (Fill value) items = if value_fits row value then replicate (length items) value else items
changed row (Swap one other) items = swapped items (place_in one (length items)) (place_in other (length items))

-- ---- the slots of one part

abbrev pub SlotLists : Type 0
SlotLists = List (List (Option Arg))

-- the slots where one is changed as its row lets it be; where there is no such row or slot, all stay as they were
abbrev pub slots_changed : List SlotRow → ℕ → Change → SlotLists → SlotLists
slots_changed rows slot change slots =
    option_map_or (λ row. option_map_or (λ items. slice_set slots slot (changed row change items)) (slice_get slots slot) slots) (slice_get rows slot) slots

-- each slot holds what its row lets it, and there are as many as rows
abbrev pub slots_fit : List SlotRow → SlotLists → Bool
slots_fit [] [] = true
slots_fit [] (items ∷ slots) = false
slots_fit (row ∷ rows) [] = false
slots_fit (row ∷ rows) (items ∷ slots) = slot_fits row items && slots_fit rows slots

-- ---- how slots begin

-- how many items there are in a match of so many seats
abbrev pub count_in : Count → ℕ → ℕ
count_in (Fixed count) seats = count
count_in (PerSeat count) seats = count * seats

-- so many items of one value
abbrev pub begun_with : Count → ℕ → Option Arg → List (Option Arg)
begun_with count seats value = replicate (count_in count seats) value

-- the slots where one begins anew: so many items of one value, as its row says
abbrev pub slot_begun : List SlotRow → ℕ → ℕ → Option Arg → SlotLists → SlotLists
slot_begun rows slot seats value slots = option_map_or (λ (row : SlotRow). slice_set slots slot (begun_with row.begin seats value)) (slice_get rows slot) slots

abbrev pub slots_started : List SlotRow → ℕ → SlotLists
slots_started rows seats = map (λ (row : SlotRow). begun_with row.begin seats row.start) rows
