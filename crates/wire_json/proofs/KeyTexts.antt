-- The text of a key reads as the key, and no other text does.
use Rattle.std.proofs.Common.{◌≡◌, ℕ, ◌*◌, List, length, Bool, true, false, cond, Some, None, Ok, Err, refl, sym, ap, ◌∙◌, subst, bytes_eq, arith}
use Rattle.std.proofs.lemmas.Slice.Eq.{bytes_eq-Decides}
use Rattle.std.specs.Prelude.{Result}
use Rattle.hex.specs.Hex.{encode_lower, decode_sized}
use Rattle.hex.specs.declared.error.FromHexError.{FromHexError}
use Rattle.hex.proofs.HexLemmas.{decode_of-ok, decode_sized-twice, decode_sized-ok, decode_sized-encode_lower}
use Rattle.wire_json.specs.KeyText.{IsKey, if_written_so, lower_hex, key_from}

chosen : (b : Bool) (x key : List ℕ) → cond b (Some x) None ≡ Some key → (b ≡ true) × (x ≡ key)
chosen true x key e = (refl, cc)
chosen false x key e = absurd (cc)

pub key_again : (key : List ℕ) → IsKey key → key_from (encode_lower key) ≡ Some key
unfolding lower_hex
key_again key h = rw (decode_sized-encode_lower key 16 h.0 h.1, (bytes_eq-Decides (encode_lower key) (encode_lower key)).1 refl) refl

key_at : (r : Result (List ℕ) FromHexError) (s key : List ℕ) → decode_sized s 16 ≡ r → if_written_so s r ≡ Some key → (s ≡ encode_lower key) × IsKey key
key_at (Err e) s key is h = absurd (cc)
key_at (Ok k) s key is h =
    let found = chosen (bytes_eq (encode_lower k) s) k key h in
    let text : s ≡ encode_lower k = sym ((bytes_eq-Decides (encode_lower k) s).0 found.0) in
    let long : length s ≡ 2 * 16 = decode_sized-ok s 16 k is in
    let bytes = decode_of-ok s k (sym (decode_sized-twice s 16 long) ∙ is) in
    let len : length s ≡ 2 * length k = bytes.2 in
    let sixteen : length k ≡ 16 = omega arith in
    (text ∙ ap encode_lower found.1, subst IsKey found.1 (sixteen, bytes.3))

pub key_is : (s key : List ℕ) → key_from s ≡ Some key → (s ≡ encode_lower key) × IsKey key
unfolding lower_hex
key_is s key h = key_at (decode_sized s 16) s key refl h
