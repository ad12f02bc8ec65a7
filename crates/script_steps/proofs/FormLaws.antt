-- A text is one that is read to its end.
use Rattle.std.proofs.Common.{◌≡◌, ℕ, List, Some, length, IsUtf8, refl}
use Rattle.std.proofs.lemmas.Bool.{eq-eqb}
use Rattle.std.proofs.lemmas.Str.{utf8_valid_len-IsUtf8}
use Rattle.std.specs.Str.Lossy.{utf8_valid_len}
use Rattle.script_steps.specs.Forms.{text_of}

pub is_text : (word : List ℕ) → IsUtf8 word → Some word ≡ text_of word
is_text word h = rw (eq-eqb (utf8_valid_len word) (length word) (utf8_valid_len-IsUtf8 word h)) refl
