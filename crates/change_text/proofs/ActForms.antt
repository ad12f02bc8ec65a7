-- What reads as an act inside an object that was read is in a form of the wire.
use Rattle.std.proofs.Common.{◌≡◌, ℕ, List, Some}
use Rattle.serde_json.specs.Data.{Data, null, boolean, number, string, array, object}
use Rattle.serde_json.specs.Find.{get}
use Rattle.json_tree.specs.Canonical.{IsCanonical}
use Rattle.json_tree.proofs.Rows.{canonical_member}
use Rattle.wire_json.specs.Acts.{asked_in}
use Rattle.wire_json.specs.Asking.{IsAskable, AskedFits}
use Rattle.wire_json.specs.declared.asked.Asked.{Asked}
use Rattle.wire_json.specs.declared.asked.Asked.TheVariants.{Move, Event, Undo, Redo}
use Rattle.wire_json.proofs.ActLaws.{asked_is}

fits_askable : (a : Asked) → AskedFits a → IsAskable a
fits_askable (Move name args) h = h.0
fits_askable (Event kind to) h = h
fits_askable Undo h = tt
fits_askable Redo h = tt

askable_at : (d : Data) (a : Asked) → IsCanonical d → asked_in d ≡ Some a → IsAskable a
unfolding asked_in
askable_at null a c e = absurd (cc)
askable_at (boolean b) a c e = absurd (cc)
askable_at (number n) a c e = absurd (cc)
askable_at (string s) a c e = absurd (cc)
askable_at (array ds) a c e = absurd (cc)
askable_at (object ms) a c e = fits_askable a (asked_is ms a c e).1

pub act_askable : (name : List ℕ) (whole d : Data) (a : Asked) → IsCanonical whole → get name whole ≡ Some d → asked_in d ≡ Some a → IsAskable a
act_askable name null d a c g e = absurd (cc)
act_askable name (boolean b) d a c g e = absurd (cc)
act_askable name (number n) d a c g e = absurd (cc)
act_askable name (string s) d a c g e = absurd (cc)
act_askable name (array ds) d a c g e = absurd (cc)
act_askable name (object ms) d a c g e = askable_at d a (canonical_member name ms d c g) e
