-- The texts that stand between quotation marks as they are.
use Rattle.std.specs.Prelude.{ℕ, List, Bool, not, ◌&&◌, ◌==◌, nat_le}
use Rattle.std.specs.List.{list_all}

abbrev pub is_plain : ℕ → Bool
is_plain byte = nat_le 32 byte && not (byte == 34) && not (byte == 92)

abbrev pub needs_no_escape : List ℕ → Bool
needs_no_escape text = list_all is_plain text
