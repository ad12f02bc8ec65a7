-- An act that is read is one that a line can ask for.
use Rattle.std.proofs.Common.{◌≡◌, Option, Some, None, sym, ap, subst, ◌∙◌}
use Rattle.std.specs.Prelude.{IfSome}
use Rattle.serde_json.specs.Data.{Data, Members, object}
use Rattle.json_tree.specs.Canonical.{IsCanonical}
use Rattle.wire_json.proofs.ActLaws.{asked_is}
use Rattle.wire_json.specs.Acts.{asked_in}
use Rattle.wire_json.specs.Asking.{AskedFits, IsAskable}
use Rattle.wire_json.specs.declared.asked.Asked.{Asked}
use Rattle.wire_json.specs.declared.asked.Asked.TheVariants.{Move, Event, Undo, Redo}

fits_askable : (a : Asked) → AskedFits a → IsAskable a
fits_askable (Move name args) h = h.0
fits_askable (Event kind to) h = h
fits_askable Undo h = tt
fits_askable Redo h = tt

pub askable : (ms : Members) (d : Data) (o : Option Asked) → IsCanonical d → d ≡ object ms → o ≡ asked_in d → IfSome o IsAskable
askable ms d None c e is = tt
askable ms d (Some a) c e is = fits_askable a (asked_is ms a (subst IsCanonical e c) (sym (is ∙ ap asked_in e))).1
