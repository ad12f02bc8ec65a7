-- An act that is read is one that a line can ask for, and its names are UTF-8.
use Rattle.std.proofs.Common.{◌≡◌, true, if◌then◌else◌, Option, Some, None, option_and_then, refl, sym, ap, subst, ◌∙◌}
use Rattle.std.specs.Prelude.{IfSome}
use Rattle.std.proofs.lemmas.Str.{is_utf8-from_IsUtf8}
use Rattle.serde_json.specs.Data.{Data, Members, object}
use Rattle.json_tree.specs.Canonical.{IsCanonical}
use Rattle.wire_json.proofs.ActLaws.{asked_is}
use Rattle.wire_json.specs.Acts.{asked_in}
use Rattle.wire_json.specs.Asking.{AskedFits, AskedIsUtf8, IsAskable}
use Rattle.wire_json.specs.declared.asked.Asked.{Asked}
use Rattle.wire_json.specs.declared.asked.Asked.TheVariants.{Move, Event, Undo, Redo}
use Rattle.wire_json.specs.declared.asked.AskedTo.TheVariants.{Nothing, Seat, Name}
use Rattle.client_world.specs.Reading.{asked_is_utf8}

fits_askable : (a : Asked) → AskedFits a → IsAskable a
fits_askable (Move name args) h = h.0
fits_askable (Event kind to) h = h
fits_askable Undo h = tt
fits_askable Redo h = tt

pub askable : (ms : Members) (d : Data) (o : Option Asked) → IsCanonical d → d ≡ object ms → o ≡ asked_in d → IfSome o IsAskable
askable ms d None c e is = tt
askable ms d (Some a) c e is = fits_askable a (asked_is ms a (subst IsCanonical e c) (sym (is ∙ ap asked_in e))).1

asks : (a : Asked) → AskedIsUtf8 a → asked_is_utf8 a ≡ true
asks (Move name args) h = is_utf8-from_IsUtf8 name h
asks (Event kind Nothing) h = refl
asks (Event kind (Seat seat)) h = refl
asks (Event kind (Name name)) h = is_utf8-from_IsUtf8 name h
asks Undo h = refl
asks Redo h = refl

abbrev pub in_utf8 : Asked → Option Asked
in_utf8 asked = if asked_is_utf8 asked then Some asked else None

-- an act whose names are UTF-8 is what is read
pub kept : (d : Data) (a : Asked) → Some a ≡ asked_in d → AskedIsUtf8 a → Some a ≡ option_and_then in_utf8 (asked_in d)
kept d a is h = sym (ap (option_and_then in_utf8) (sym is) ∙ ap (λ b. if b then Some a else None) (asks a h))
