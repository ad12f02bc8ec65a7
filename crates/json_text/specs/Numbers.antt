-- Numbers as JSON.
use Rattle.std.specs.Prelude.{ℕ, ℤ, List, map}
use Rattle.serde_json.specs.Data.{Data, number, array, unsigned}
use Rattle.serde_json.specs.Find.{of_integer}
use Rattle.serde_json.specs.View.{items_of}

abbrev pub natural : ℕ → Data
natural n = number (unsigned n)

abbrev pub integer : ℤ → Data
integer z = number (of_integer z)

abbrev pub naturals : List ℕ → Data
naturals ns = array (items_of (map natural ns))
