-- Why a line is no message, the first fault in order: the line itself, its type, a further member, and then the members in byte order of their names.
use Rattle.std.specs.Prelude.{◌≡◌, ℕ, List, [], ◌∷◌, if◌then◌else◌, Option, Result, Ok, Err}
use Rattle.std.specs.Str.{bytes_eq}
use Rattle.serde_json.specs.Data.{Data}
use Rattle.serde_json.specs.Find.{get}
use Rattle.json_tree.specs.Names.{extra_in}
use Rattle.json_tree.specs.declared.lines.LineFault.{LineFault}
use Rattle.json_tree.specs.declared.fields.FieldFault.{FieldFault}
use Rattle.wire_json.specs.declared.wire_no.WireNo.{WireNo}
use Rattle.wire_json.specs.declared.wire_no.WireNo.TheVariants as no
use Rattle.std.specs.Result.{result_map_both}

pub data Refusal : Type 0 where
  Line : LineFault → Refusal
  UnknownMessage : Refusal
  ExtraField : Refusal
  Field : List ℕ → FieldFault → Refusal

-- the refusal is the one that was read; want of memory may stand in place of any answer
abbrev pub Refuses : {A : Type 0} → WireNo → Result A Refusal → Type 0
Refuses (no.Line fault) read = read ≡ Err (Line fault)
Refuses no.UnknownMessage read = read ≡ Err UnknownMessage
Refuses no.ExtraField read = read ≡ Err ExtraField
Refuses (no.Field name fault) read = read ≡ Err (Field name.now fault)
Refuses no.NoMemory read = Unit {0}

-- the answer is the one that was read
abbrev pub Gives : {A : Type 0} → Result A WireNo → Result A Refusal → Type 0
Gives (Ok x) read = read ≡ Ok x
Gives (Err e) read = Refuses e read

abbrev pub at_field : {A : Type 0} → List ℕ → Result A FieldFault → Result A Refusal
at_field name result = result_map_both (λ x. x) (Field name) result

abbrev pub of_line : {A : Type 0} → Result A LineFault → Result A Refusal
of_line result = result_map_both (λ x. x) Line result

-- what the form reads in the member of this name; its fault is the member's
abbrev pub read_at : {A : Type 0} → List ℕ → (Option Data → Result A FieldFault) → Data → Result A Refusal
read_at name form d = at_field name (form (get name d))

-- what was read, where the object has no member but these
abbrev pub of_members : {A : Type 0} → List (List ℕ) → Data → Result A Refusal → Result A Refusal
of_members names d read = if extra_in names d then Err ExtraField else read

-- the row of a table that has this type reads the object; where none has, the answer is the other
abbrev pub by_type : {A : Type 0} → List ℕ → Data → Result A Refusal → List (List ℕ × (Data → Result A Refusal)) → Result A Refusal
by_type kind d other [] = other
by_type kind d other (row ∷ rows) = if bytes_eq kind row.0 then row.1 d else by_type kind d other rows
