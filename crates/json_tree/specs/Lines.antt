-- When a line holds an object of the wire, and else which fault comes first.
use Rattle.std.specs.Prelude.{◌≡◌, ◌≤◌, ℕ, List, [], ◌∷◌, length, false, nat_lt, if◌then◌else◌, Option, Some, Result, Ok, Err, IsUtf8}
use Rattle.std.specs.Str.{is_utf8}
use Rattle.serde_json.specs.Data.{Data, object, Members}
use Rattle.serde_json.specs.Read.{read}
use Rattle.serde_json.specs.View.{view}
use Rattle.serde_json.specs.Written.{members_have_float}
use Rattle.serde_json.specs.declared.value.Value.{Value}
use Rattle.json_tree.specs.declared.lines.LineFault.{LineFault}
use Rattle.json_tree.specs.declared.lines.LineFault.TheVariants.{TooLong, NotJson, NotObject, Float, NoMemory}
use Rattle.std.specs.Option.{option_map_or}

abbrev pub newline : List ℕ
newline = 10 ∷ []

-- `serde_json` reads the text as this object, in which no number is a float
pub record IsTextOf (text : List ℕ) (ms : Members) : Type 0 where
  pub utf8 : IsUtf8 text
  pub is : read text ≡ Some (object ms)
  pub no_float : members_have_float ms ≡ false

-- the same of a line that is within the bound
pub record IsLineOf (bound : ℕ) (line : List ℕ) (ms : Members) : Type 0 where
  pub short : length line ≤ bound
  pub text : IsTextOf line ms

-- the same, of the data
abbrev pub IsText : List ℕ → Data → Type 0
IsText text d = (ms : Members) × (d ≡ object ms) × IsTextOf text ms

abbrev pub IsLine : ℕ → List ℕ → Data → Type 0
IsLine bound line d = (ms : Members) × (d ≡ object ms) × IsLineOf bound line ms

abbrev pub object_in : Data → Result Members LineFault
object_in (object ms) = if members_have_float ms then Err Float else Ok ms
object_in other = Err NotObject

abbrev pub object_read : Option Data → Result Members LineFault
object_read read = option_map_or object_in read (Err NotJson)

-- the members of the object that a text holds, or its first fault
unfoldable pub text_read : List ℕ → Result Members LineFault
text_read text = if is_utf8 text then object_read (read text) else Err NotJson

-- the same of a line, which may be too long
abbrev pub line_read : ℕ → List ℕ → Result Members LineFault
line_read bound line = if nat_lt bound (length line) then Err TooLong else text_read line

abbrev pub IsFaultOf : LineFault → Result Members LineFault → Type 0
IsFaultOf TooLong read = read ≡ Err TooLong
IsFaultOf NotJson read = read ≡ Err NotJson
IsFaultOf NotObject read = read ≡ Err NotObject
IsFaultOf Float read = read ≡ Err Float
IsFaultOf NoMemory read = Unit {0}

-- the answer is the members or the fault that was read, but for want of memory
abbrev pub IsReadAs : Result Value LineFault → Result Members LineFault → Type 0
IsReadAs (Ok v) read = (ms : Members) × (view v ≡ object ms) × (read ≡ Ok ms)
IsReadAs (Err fault) read = IsFaultOf fault read
