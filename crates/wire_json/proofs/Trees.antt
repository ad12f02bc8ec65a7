-- A part of a value without floats has none, and a part of any value reads as it is.
use Rattle.std.proofs.Common.{◌≡◌, ℕ, List, false, Option, Some, None, Ok, ap}
use Rattle.serde_json.specs.Data.{Data, null, boolean, number, string, array, object}
use Rattle.serde_json.specs.Find.{get}
use Rattle.serde_json.specs.Written.{has_float}
use Rattle.json_tree.proofs.Rows.{float_free_member}
use Rattle.wire_json.specs.ServerReading.{tree_in}

pub float_free_part : (d e : Data) (name : List ℕ) → get name d ≡ Some e → has_float d ≡ false → has_float e ≡ false
float_free_part null e name h f = absurd (cc)
float_free_part (boolean b) e name h f = absurd (cc)
float_free_part (number n) e name h f = absurd (cc)
float_free_part (string s) e name h f = absurd (cc)
float_free_part (array ds) e name h f = absurd (cc)
float_free_part (object ms) e name h f = float_free_member name ms e f h

pub tree_is : (o : Option Data) (d : Data) → tree_in o ≡ Ok d → o ≡ Some d
tree_is None d e = absurd (cc)
tree_is (Some f) d e = let same : f ≡ d = cc in ap Some same
