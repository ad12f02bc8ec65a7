-- How many bytes the text of a state may have, by the rows of its slots: a number as the longer end of its range, null 4, a text 130.
use Rattle.std.specs.Prelude.{◌≤◌, ◌+◌, ◌-◌, ◌*◌, ℕ, nat_le, nat_lt, max, if◌then◌else◌, ℤ, pos, negsuc, IsTrue, List, [], ◌∷◌, length, codes, Option, Some, None}
use Rattle.game_slots.specs.declared.rows.ItemKind.{ItemKind}
use Rattle.game_slots.specs.declared.rows.ItemKind.TheVariants.{Number as NumberKind, Text as TextKind}
use Rattle.game_slots.specs.declared.rows.SlotRow.{SlotRow}
use Rattle.game_slots.specs.declared.table.Table.{Table}
use Rattle.game_slots.specs.Tables.{table_fits}
use Rattle.serde_json.specs.Written.{compact_text}
use Rattle.slot_json.specs.TableForms.{has_slots, table_value}
use Rattle.slot_json.specs.declared.layout.Layout.{Layout}

-- how many digits a number of 32 bits has
abbrev pub digits : ℕ → ℕ
digits n =
    if nat_lt n 10 then 1
    else (if nat_lt n 100 then 2
    else (if nat_lt n 1000 then 3
    else (if nat_lt n 10000 then 4
    else (if nat_lt n 100000 then 5
    else (if nat_lt n 1000000 then 6
    else (if nat_lt n 10000000 then 7
    else (if nat_lt n 100000000 then 8
    else (if nat_lt n 1000000000 then 9
    else 10))))))))

-- with the sign
abbrev pub number_bytes : ℤ → ℕ
number_bytes (pos n) = digits n
number_bytes (negsuc n) = digits (n + 1) + 1

abbrev pub kind_bytes : ItemKind → ℕ
kind_bytes (NumberKind least greatest) = max (number_bytes least) (number_bytes greatest)
kind_bytes TextKind = 130

abbrev pub item_bytes : SlotRow → ℕ
item_bytes row = if row.null then max 4 (kind_bytes row.kind) else kind_bytes row.kind

-- a list has its brackets, and a comma between two items
abbrev pub slot_bytes : SlotRow → ℕ
slot_bytes row = if row.lone then item_bytes row else (item_bytes row + 1) * row.most + 1

-- a member has a name in quotation marks, a colon and a comma
abbrev pub member_bytes : List ℕ → ℕ → ℕ
member_bytes name bytes = length name + 4 + bytes

abbrev pub rows_bytes : List (List ℕ) → List SlotRow → ℕ
rows_bytes [] rows = 0
rows_bytes (name ∷ names) [] = 0
rows_bytes (name ∷ names) (row ∷ rows) = member_bytes name (slot_bytes row) + rows_bytes names rows

-- with its brackets
abbrev pub object_bytes : List (List ℕ) → List SlotRow → ℕ
object_bytes names rows = rows_bytes names rows + 2

-- a part, where it has slots
abbrev pub part_bytes : List SlotRow → List ℕ → ℕ → ℕ
part_bytes rows name bytes = if has_slots rows then member_bytes name bytes else 0

abbrev pub most_bytes : Layout → ℕ
most_bytes l =
    part_bytes l.rows.common (codes "common") (object_bytes l.common l.rows.common)
    + part_bytes l.rows.players (codes "players") ((object_bytes l.players l.rows.players + 1) * l.rows.most_seats + 2)
    + part_bytes l.rows.secret (codes "secret") (object_bytes l.secret l.rows.secret)
    + 2

-- what is left of a number of bytes once so many are taken, where there are so many
abbrev pub taken : Option ℕ → ℕ → Option ℕ
taken None bytes = None
taken (Some left) bytes = if nat_le bytes left then Some (left - bytes) else None

-- the greatest length of a state's text
abbrev pub text_limit : ℕ
text_limit = 8192

-- each own state has a text of at most so many bytes
abbrev pub HasShortTexts : Layout → Type 0
HasShortTexts l = (table : Table) → IsTrue (table_fits l.rows table) → length (compact_text (table_value l table)) ≤ text_limit
