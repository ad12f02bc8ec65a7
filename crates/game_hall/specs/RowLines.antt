-- What a line of rows is made of.
use Rattle.std.specs.Prelude.{ℕ, List, codes}

abbrev pub ending : List ℕ
ending = codes "],\"type\":\"matches\"}\n"
