-- The texts of keys and of names of matches are UTF-8.
use Rattle.std.proofs.Common.{◌≡◌, ℕ, ◌∷◌, List, [], true, decimal, IsUtf8, refl, arith}
use Rattle.std.proofs.lemmas.Bool.{and_parts, ltb-true}
use Rattle.std.proofs.lemmas.Fmt.{IsAscii-decimal}
use Rattle.std.proofs.lemmas.Str.{IsUtf8-from_ascii, IsAscii-append}
use Rattle.std.proofs.lemmas.Str.Ascii.{IsAscii-nil, IsAscii-cons}
use Rattle.std.specs.Prelude.{nat_lt}
use Rattle.std.specs.Str.{IsAscii}
use Rattle.json.proofs.Printed.Utf8.{are_ascii}
use Rattle.hex.specs.Hex.{encode_lower, lower_digits}
use Rattle.hex.proofs.HexLemmas.{IsAscii-encode_with}
use Rattle.game_sheet.specs.MatchName.{Name}
use Rattle.wire_json.specs.MatchText.{match_text, IsName}

all_ascii : (s : List ℕ) → are_ascii s ≡ true → IsAscii s
all_ascii [] h = IsAscii-nil
all_ascii (c ∷ cs) h = let both = and_parts (nat_lt c 128) (are_ascii cs) h in IsAscii-cons c cs (ltb-true c 128 both.0) (all_ascii cs both.1)

pub key_utf8 : (key : List ℕ) → IsUtf8 (encode_lower key)
key_utf8 key = IsUtf8-from_ascii (encode_lower key) (IsAscii-encode_with lower_digits key (all_ascii lower_digits refl))

pub match_utf8 : (name : Name) → IsName name → IsUtf8 (match_text name)
match_utf8 name h =
    IsUtf8-from_ascii (match_text name)
    (IsAscii-append (decimal name.room) (45 ∷ decimal name.serial) (IsAscii-decimal name.room (omega arith)) (IsAscii-cons 45 (decimal name.serial) (omega arith) (IsAscii-decimal name.serial h.2)))
