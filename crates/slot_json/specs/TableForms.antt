-- States of described games as JSON: an object of those of their three parts that have slots.
use Rattle.std.specs.Prelude.{◌&&◌, ℕ, Bool, true, false, not, if◌then◌else◌, is_some, List, [], ◌∷◌, codes, Option, Some, None, option_map}
use Rattle.game_slots.specs.Slots.{SlotLists}
use Rattle.game_slots.specs.Tables.{entry_fits, table_fits}
use Rattle.game_slots.specs.declared.rows.SlotRow.{SlotRow}
use Rattle.game_slots.specs.declared.table.Table.{Table}
use Rattle.json_tree.specs.Names.{extra_in}
use Rattle.open_game.specs.Form.{Form}
use Rattle.open_game.specs.Forms.{list_of}
use Rattle.serde_json.specs.Data.{Data, null, boolean, number, string, array, object, Members, member, no_members}
use Rattle.serde_json.specs.Find.{as_object, get}
use Rattle.slot_json.specs.SlotForms.{members_read, rows_fit, slots_form, slots_value}
use Rattle.slot_json.specs.declared.layout.Layout.{Layout}

-- ---- slots that may be hidden

abbrev pub entry_value : List (List ℕ) → List SlotRow → Option SlotLists → Data
entry_value names rows None = null
entry_value names rows (Some slots) = slots_value names rows slots

abbrev pub entry_read : List (List ℕ) → List SlotRow → Data → Option (Option SlotLists)
entry_read names rows null = Some None
entry_read names rows (boolean b) = None
entry_read names rows (number n) = None
entry_read names rows (string s) = None
entry_read names rows (array ds) = None
entry_read names rows (object ms) = option_map Some (members_read names rows ms)

abbrev pub entry_form : List (List ℕ) → List SlotRow → Form (Option SlotLists)
entry_form names rows = record { own = entry_fits rows; value = entry_value names rows; read = entry_read names rows }

-- ---- the parts of a state

abbrev pub common_form : Layout → Form SlotLists
common_form l = slots_form l.common l.rows.common

-- one for each seat
abbrev pub players_form : Layout → Form (List (Option SlotLists))
players_form l = list_of 1 l.rows.most_seats (entry_form l.players l.rows.players)

abbrev pub secret_form : Layout → Form (Option SlotLists)
secret_form l = entry_form l.secret l.rows.secret

abbrev pub has_slots : List SlotRow → Bool
has_slots [] = false
has_slots (row ∷ rows) = true

-- a part before others, where there is such a part
abbrev pub with_part : Bool → List ℕ → Data → Members → Members
with_part true name d ms = member name d ms
with_part false name d ms = ms

-- what a part reads as: a part that isn't there has no member
abbrev pub part_read : {A : Type 0} → Bool → (Data → Option A) → A → Option Data → Option A
part_read true read absent None = None
part_read true read absent (Some d) = read d
part_read false read absent None = Some absent
part_read false read absent (Some d) = None

-- ---- a whole state

abbrev pub part_names : List (List ℕ)
part_names = codes "common" ∷ codes "players" ∷ codes "secret" ∷ []

-- whether each part has slots, and what is written of it
abbrev pub parts_value : Bool → Bool → Bool → Data → Data → Data → Members
parts_value has_common has_players has_secret common players secret =
    with_part has_common (codes "common") common (with_part has_players (codes "players") players (with_part has_secret (codes "secret") secret no_members))

abbrev pub table_value : Layout → Table → Data
table_value l table = object (parts_value (has_slots l.rows.common) (has_slots l.rows.players) (has_slots l.rows.secret)
    ((common_form l).value table.common) ((players_form l).value table.players) ((secret_form l).value table.secret))

-- a state of three parts, where all are there
abbrev pub three : Option SlotLists → Option (List (Option SlotLists)) → Option (Option SlotLists) → Option Table
three None players secret = None
three (Some common) None secret = None
three (Some common) (Some players) None = None
three (Some common) (Some players) (Some secret) = Some (record { common = common; players = players; secret = secret })

-- an object that has no members but parts
abbrev pub has_parts_alone : Data → Bool
has_parts_alone v = is_some (as_object v) && not (extra_in part_names v)

abbrev pub table_read : Layout → Data → Option Table
table_read l v = if has_parts_alone v then three
    (part_read (has_slots l.rows.common) (common_form l).read [] (get (codes "common") v))
    (part_read (has_slots l.rows.players) (players_form l).read [] (get (codes "players") v))
    (part_read (has_slots l.rows.secret) (secret_form l).read None (get (codes "secret") v))
    else None

abbrev pub table_form : Layout → Form Table
table_form l = record { own = table_fits l.rows; value = table_value l; read = table_read l }

-- the names and rows of each part make a form
abbrev pub layout_fits : Layout → Bool
layout_fits l = rows_fit l.common l.rows.common && rows_fit l.players l.rows.players && rows_fit l.secret l.rows.secret
