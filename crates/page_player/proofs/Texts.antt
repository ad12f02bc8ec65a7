-- Bytes that are a text.
use Rattle.std.proofs.Common.{◌≡◌, ℕ, List, Some, length, IsUtf8, refl}
use Rattle.std.proofs.lemmas.Bool.{eq-eqb}
use Rattle.std.proofs.lemmas.Str.{utf8_valid_len-IsUtf8}
use Rattle.std.specs.Str.Lossy.{utf8_valid_len}
use Rattle.page_player.specs.PageLines.{text_of}

pub is_text : (word : List ℕ) → IsUtf8 word → Some word ≡ text_of word
is_text word h = rw (eq-eqb (utf8_valid_len word) (length word) (utf8_valid_len-IsUtf8 word h)) refl
