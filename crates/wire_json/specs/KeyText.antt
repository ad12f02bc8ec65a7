-- Bytes in hexadecimal digits of lower case, and the text of a key: its sixteen bytes so written.
use Rattle.std.specs.Prelude.{◌≡◌, ℕ, List, length, if◌then◌else◌, Option, Some, None, Result, Ok, Err}
use Rattle.std.specs.Str.{bytes_eq}
use Rattle.hex.specs.Hex.{encode_lower, decode_sized, IsBytes}
use Rattle.hex.specs.declared.error.FromHexError.{FromHexError}

-- what every key keeps
abbrev pub IsKey : List ℕ → Type 0
IsKey key = (length key ≡ 16) × IsBytes key

-- the bytes, where the text is theirs in lower case
abbrev pub if_written_so : List ℕ → Result (List ℕ) FromHexError → Option (List ℕ)
if_written_so s (Ok key) = if bytes_eq (encode_lower key) s then Some key else None
if_written_so s (Err e) = None

-- the n bytes that a text writes in hexadecimal digits of lower case
unfoldable pub lower_hex : ℕ → List ℕ → Option (List ℕ)
lower_hex n s = if_written_so s (decode_sized s n)

-- the key that the text is
abbrev pub key_from : List ℕ → Option (List ℕ)
key_from s = lower_hex 16 s
