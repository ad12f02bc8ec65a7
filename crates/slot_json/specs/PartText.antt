-- A part of a state among the members of an object: put into it, or appended to its text.
use Rattle.std.specs.Prelude.{ℕ, Bool, if◌then◌else◌, List, [], ◌∷◌, ◌++◌, Option, None}
use Rattle.std.specs.Str.{bytes_eq}
use Rattle.game_sheet.specs.declared.args.Arg.{Arg}
use Rattle.game_slots.specs.declared.rows.SlotRow.{SlotRow}
use Rattle.json.specs.Print.{quoted}
use Rattle.serde_json.specs.Data.{Data, Members, put}
use Rattle.serde_json.specs.Written.{comma_if, compact_text}
use Rattle.slot_json.specs.SlotForms.{slot_read}

-- the members with a part, where there is such a part
abbrev pub put_where : Bool → List ℕ → Data → Members → Members
put_where there name d ms = if there then put name d ms else ms

-- a name in quotation marks and a colon
abbrev pub name_text : Bool → List ℕ → List ℕ
name_text later name = comma_if later ++ (quoted name ++ 58 ∷ [])

-- the text of a part, where there is such a part
abbrev pub part_text : Bool → Bool → List ℕ → Data → List ℕ
part_text later there name d = if there then name_text later name ++ compact_text d else []

-- the slot of the first name and row that a member is
abbrev pub member_slot : List (List ℕ) → List SlotRow → List ℕ → Data → Option (List (Option Arg))
member_slot [] rows k d = None
member_slot (name ∷ names) [] k d = None
member_slot (name ∷ names) (row ∷ rows) k d = if bytes_eq k name then slot_read row d else None
