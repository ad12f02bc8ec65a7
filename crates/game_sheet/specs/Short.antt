-- What a short text can hold: at most 64 bytes of UTF-8, none of them below 32.
use Rattle.std.specs.Prelude.{ℕ, ◌&&◌, Bool, nat_le, List, [], ◌∷◌, ◌++◌, length, drop}
use Rattle.std.specs.List.{list_all, repeat}
use Rattle.std.specs.Str.{is_utf8}

-- no byte is below 32
abbrev pub is_plain : List ℕ → Bool
is_plain bytes = list_all (nat_le 32) bytes

abbrev pub is_short : List ℕ → Bool
is_short bytes = nat_le (length bytes) 64 && is_plain bytes && is_utf8 bytes

-- the bytes in an array of 64, with zeros behind them
abbrev pub padded : List ℕ → List ℕ
padded text = text ++ drop (length text) (repeat 64 (0 ∷ []))
