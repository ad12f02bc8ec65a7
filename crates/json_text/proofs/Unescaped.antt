-- A text whose bytes are all plain is its own escape.
use Rattle.std.proofs.Common.{◌≡◌, ℕ, List, [], ◌∷◌, ◌++◌, true, refl, sym, ap, ◌∙◌, append_assoc}
use Rattle.std.proofs.lemmas.Bool.{and_parts, leb-true, not-true, eqb-false}
use Rattle.json.proofs.Printed.Strings.{escape_byte_plain}
use Rattle.json.specs.Print.{escape, escape_byte}
use Rattle.serde_json.specs.Data.{string}
use Rattle.serde_json.specs.Written.{compact_text}
use Rattle.json_text.specs.Unescaped.{is_plain, needs_no_escape}

plain_byte : (byte : ℕ) → is_plain byte ≡ true → escape_byte byte ≡ byte ∷ []
plain_byte byte h =
    let parts = and_parts _ _ h in
    let two = and_parts _ _ parts.0 in
    escape_byte_plain byte (eqb-false byte 34 (not-true _ two.1)) (eqb-false byte 92 (not-true _ parts.1)) (leb-true 32 byte two.0)

unescaped : (text : List ℕ) → needs_no_escape text ≡ true → escape text ≡ text
unescaped [] h = refl
unescaped (byte ∷ text) h =
    let parts = and_parts _ _ h in
    ap (λ l. l ++ escape text) (plain_byte byte parts.0) ∙ ap (λ l. byte ∷ l) (unescaped text parts.1)

-- what three writes append: the quotation marks, and the text between them
pub plain_text : (old opened copied closed bytes text : List ℕ) → opened ≡ old ++ 34 ∷ [] → bytes ≡ text → copied ≡ opened ++ bytes → closed ≡ copied ++ 34 ∷ [] → needs_no_escape text ≡ true
    → closed ≡ old ++ compact_text (string text)
plain_text old opened copied closed bytes text o b c d h =
    d
    ∙ ap (λ l. l ++ 34 ∷ []) (c ∙ ap (λ l. opened ++ l) b ∙ ap (λ l. l ++ text) o)
    ∙ append_assoc (old ++ 34 ∷ []) text (34 ∷ [])
    ∙ append_assoc old (34 ∷ []) (text ++ 34 ∷ [])
    ∙ ap (λ l. old ++ 34 ∷ (l ++ 34 ∷ [])) (sym (unescaped text h))
