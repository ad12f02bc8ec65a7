-- Slots as JSON: an object with a member for each slot, whose names rise. A slot of one value is that value, and a list is an array.
use Rattle.std.specs.Prelude.{◌&&◌, ◌||◌, ◌==◌, ℕ, nat_le, Bool, true, false, if◌then◌else◌, pos, negsuc, int_le, List, [], ◌∷◌, Option, Some, None, option_map, option_and_then}
use Rattle.std.specs.Cmp.Lexicographic.{slice_cmp}
use Rattle.std.specs.List.{list_all}
use Rattle.std.specs.Ordering.{nat_cmp}
use Rattle.std.specs.Str.{bytes_eq}
use Rattle.std.specs.declared.cmp.Ordering.{Ordering}
use Rattle.std.specs.declared.cmp.Ordering.TheVariants.{Less, Equal, Greater}
use Rattle.game_sheet.specs.declared.args.Arg.{Arg}
use Rattle.game_sheet.specs.declared.args.Arg.TheVariants.{Whole, Text}
use Rattle.game_slots.specs.Slots.{SlotLists, slot_fits, slots_fit, value_fits}
use Rattle.game_slots.specs.declared.rows.ItemKind.{ItemKind}
use Rattle.game_slots.specs.declared.rows.ItemKind.TheVariants.{Number as NumberKind, Text as TextKind}
use Rattle.game_slots.specs.declared.rows.SlotRow.{SlotRow}
use Rattle.open_game.specs.Form.{Form}
use Rattle.open_game.specs.Forms.{both, list_read, list_value}
use Rattle.serde_json.specs.Data.{Data, null, boolean, number, string, array, object, Members, no_members, member}
use Rattle.serde_json.specs.Find.{as_i64, of_integer}

-- ---- values

abbrev pub value_json : Option Arg → Data
value_json None = null
value_json (Some (Whole z)) = number (of_integer z)
value_json (Some (Text text)) = string text

-- a value, where it may stand in the slot
abbrev pub fitting : SlotRow → Option Arg → Option (Option Arg)
fitting row value = if value_fits row value then Some value else None

abbrev pub value_read : SlotRow → Data → Option (Option Arg)
value_read row null = fitting row None
value_read row (boolean b) = None
value_read row (number n) = option_and_then (λ z. fitting row (Some (Whole z))) (as_i64 n)
value_read row (string text) = fitting row (Some (Text text))
value_read row (array ds) = None
value_read row (object ms) = None

abbrev pub value_form : SlotRow → Form (Option Arg)
value_form row = record { own = value_fits row; value = value_json; read = value_read row }

-- ---- one slot

-- the first item; null where there is none
abbrev pub first_item : List (Option Arg) → Option Arg
first_item [] = None
first_item (item ∷ items) = item

abbrev pub slot_value : SlotRow → List (Option Arg) → Data
slot_value row items = if row.lone then value_json (first_item items) else list_value value_json items

abbrev pub slot_read : SlotRow → Data → Option (List (Option Arg))
slot_read row v = if row.lone then option_map (λ value. value ∷ []) (value_read row v) else list_read 0 row.most (value_read row) v

abbrev pub slot_form : SlotRow → Form (List (Option Arg))
slot_form row = record { own = slot_fits row; value = slot_value row; read = slot_read row }

-- ---- the slots of a part

abbrev pub members_value : List (List ℕ) → List SlotRow → SlotLists → Members
members_value [] rows slots = no_members
members_value (name ∷ names) [] slots = no_members
members_value (name ∷ names) (row ∷ rows) [] = no_members
members_value (name ∷ names) (row ∷ rows) (items ∷ slots) = member name (slot_value row items) (members_value names rows slots)

-- the slots whose members these are, one after another, with these names
abbrev pub members_read : List (List ℕ) → List SlotRow → Members → Option SlotLists
members_read [] [] no_members = Some []
members_read [] [] (member k d ms) = None
members_read [] (row ∷ rows) ms = None
members_read (name ∷ names) [] ms = None
members_read (name ∷ names) (row ∷ rows) no_members = None
members_read (name ∷ names) (row ∷ rows) (member k d ms) = if bytes_eq k name then both (λ items slots. items ∷ slots) (slot_read row d) (members_read names rows ms) else None

abbrev pub slots_read : List (List ℕ) → List SlotRow → Data → Option SlotLists
slots_read names rows null = None
slots_read names rows (boolean b) = None
slots_read names rows (number n) = None
slots_read names rows (string s) = None
slots_read names rows (array ds) = None
slots_read names rows (object ms) = members_read names rows ms

abbrev pub slots_value : List (List ℕ) → List SlotRow → SlotLists → Data
slots_value names rows slots = object (members_value names rows slots)

abbrev pub slots_form : List (List ℕ) → List SlotRow → Form SlotLists
slots_form names rows = record { own = slots_fit rows; value = slots_value names rows; read = slots_read names rows }

-- ---- which names and rows make such a form

abbrev pub is_less : Ordering → Bool
is_less Less = true
is_less Equal = false
is_less Greater = false

-- a name stands below the first of these, where there is one
abbrev pub below_first : List ℕ → List (List ℕ) → Bool
below_first name [] = true
below_first name (next ∷ names) = is_less (slice_cmp nat_cmp name next)

-- a letter, a digit or `_`
abbrev pub is_name_byte : ℕ → Bool
is_name_byte b = (nat_le 48 b && nat_le b 57) || (nat_le 65 b && nat_le b 90) || b == 95 || (nat_le 97 b && nat_le b 122)

-- numbers have 32 bits
abbrev pub kind_fits : ItemKind → Bool
kind_fits (NumberKind least greatest) = int_le (negsuc 2147483647) least && int_le greatest (pos 2147483647)
kind_fits TextKind = true

-- a slot may hold an item, and a slot of one value holds no more
abbrev pub most_fits : SlotRow → Bool
most_fits row = if row.lone then row.most == 1 else nat_le 1 row.most

abbrev pub row_fits : SlotRow → Bool
row_fits row = kind_fits row.kind && most_fits row

-- as many names as rows, which rise
abbrev pub rows_fit : List (List ℕ) → List SlotRow → Bool
rows_fit [] [] = true
rows_fit [] (row ∷ rows) = false
rows_fit (name ∷ names) [] = false
rows_fit (name ∷ names) (row ∷ rows) = list_all is_name_byte name && below_first name names && row_fits row && rows_fit names rows
