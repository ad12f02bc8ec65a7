-- The act that the member `act` holds, in one of its forms; none where it is in no form.
use Rattle.std.specs.Prelude.{ℕ, List, [], ◌∷◌, length, Bool, ◌&&◌, nat_le, if◌then◌else◌, codes, Option, Some, None, is_some, option_map, option_and_then, Result, Ok, Err}
use Rattle.std.specs.Result.{result_ok}
use Rattle.std.specs.Str.{bytes_eq}
use Rattle.serde_json.specs.Data.{Data}
use Rattle.serde_json.specs.Find.{get, as_object}
use Rattle.json_tree.specs.Fields.{text_in, list_in, natural_in}
use Rattle.json_tree.specs.Names.{extra_in}
use Rattle.json_tree.specs.Steps.{◌>>=◌}
use Rattle.json_tree.specs.declared.fields.FieldFault.{FieldFault}
use Rattle.json_tree.specs.declared.fields.FieldFault.TheVariants.{Missing, WrongKind, OutOfRange}
use Rattle.game_sheet.specs.declared.act.EventKind.{EventKind}
use Rattle.game_sheet.specs.declared.act.EventKind.TheVariants.{EndTurn, SetPhase, SetStage}
use Rattle.game_sheet.specs.EventNames.{kind_from}
use Rattle.sheet_json.specs.Arguments.{arguments_in}
use Rattle.sheet_json.specs.Seats.{is_null_in}
use Rattle.wire_json.specs.declared.asked.Asked.{Asked}
use Rattle.wire_json.specs.declared.asked.Asked.TheVariants.{Move, Event, Undo, Redo}
use Rattle.wire_json.specs.declared.asked.AskedTo.{AskedTo}
use Rattle.wire_json.specs.declared.asked.AskedTo.TheVariants.{Nothing, Seat, Name}
use Rattle.std.specs.Option.{option_map_or}

-- a text of lo to hi bytes
abbrev pub text_within : ℕ → ℕ → Option Data → Result (List ℕ) FieldFault
text_within lo hi found = text_in found >>= λ s. if nat_le lo (length s) && nat_le (length s) hi then Ok s else Err OutOfRange

abbrev pub word_in : Option Data → Option (List ℕ)
word_in found = result_ok (text_within 1 32 found)

unfoldable pub move_in : Data → Option Asked
move_in d = if extra_in (codes "args" ∷ codes "kind" ∷ codes "move" ∷ []) d then None
    else option_and_then (λ args. option_map (λ name. Move name args) (word_in (get (codes "move") d))) (option_and_then arguments_in (result_ok (list_in (get (codes "args") d))))

abbrev pub nothing_in : Option Data → Option AskedTo
nothing_in found = if is_null_in found then Some Nothing else None

abbrev pub seat_or_nothing_in : Option Data → Option AskedTo
seat_or_nothing_in found = if is_null_in found then Some Nothing else option_map Seat (result_ok (natural_in 255 found))

-- what an event of the kind is aimed at
abbrev pub aim_in : EventKind → Option Data → Option AskedTo
aim_in EndTurn found = seat_or_nothing_in found
aim_in SetPhase found = option_map Name (word_in found)
aim_in SetStage found = option_map Name (word_in found)
aim_in other found = nothing_in found

unfoldable pub event_in : Data → Option Asked
event_in d = if extra_in (codes "event" ∷ codes "kind" ∷ codes "to" ∷ []) d then None
    else option_and_then (λ kind. option_map (λ to. Event kind to) (aim_in kind (get (codes "to") d))) (option_and_then kind_from (result_ok (text_in (get (codes "event") d))))

-- undo and redo have nothing but their kind
abbrev pub alone_in : Asked → Data → Option Asked
alone_in act d = if extra_in (codes "kind" ∷ []) d then None else Some act

abbrev pub asked_as : Option (List ℕ) → Data → Option Asked
asked_as None d = None
asked_as (Some kind) d = if bytes_eq kind (codes "move") then move_in d
    else if bytes_eq kind (codes "event") then event_in d
    else if bytes_eq kind (codes "undo") then alone_in Undo d
    else if bytes_eq kind (codes "redo") then alone_in Redo d else None

unfoldable pub asked_in : Data → Option Asked
asked_in d = asked_as (result_ok (text_in (get (codes "kind") d))) d

-- a value of the right kind that is in no form is out of range
abbrev pub in_form : {A : Type 0} → Option A → Result A FieldFault
in_form formed = option_map_or Ok formed (Err OutOfRange)

abbrev pub is_object : Data → Bool
is_object d = is_some (as_object d)

abbrev pub object_member_in : Option Data → Result Data FieldFault
object_member_in found = option_map_or (λ d. if is_object d then Ok d else Err WrongKind) found (Err Missing)

abbrev pub act_in : Option Data → Result Asked FieldFault
act_in found = object_member_in found >>= λ d. in_form (asked_in d)
