-- The text of a match's name needs no escape, so its parts are written between quotation marks as they are.
use Rattle.std.proofs.Common.{◌≡◌, ◌<◌, ◌^◌, ◌++◌, ℕ, List, [], ◌∷◌, true, refl, sym, ap, ◌∙◌, append_assoc, arith}
use Rattle.std.proofs.lemmas.Bool.{and_parts, leb-true}
use Rattle.std.specs.Char.{is_ascii_digit}
use Rattle.std.specs.Fmt.{decimal}
use Rattle.std.specs.List.{list_all}
use Rattle.json.proofs.Printed.Strings.{escape_byte_plain}
use Rattle.json.specs.Print.{escape, escape_byte}
use Rattle.serde_json.specs.Data.{string}
use Rattle.serde_json.specs.Written.{compact_text}
use Rattle.game_sheet.specs.MatchName.{Name}
use Rattle.wire_json.specs.MatchText.{match_text}
use Rattle.wire_json.proofs.MatchTexts.{decimal_digits}

digit : (c : ℕ) → is_ascii_digit c ≡ true → escape_byte c ≡ c ∷ []
digit c h =
    let parts = and_parts _ _ h in
    let low = leb-true 48 c parts.0 in
    let high = leb-true c 57 parts.1 in
    escape_byte_plain c (λ e. absurd (omega (arith, low, e))) (λ e. absurd (omega (arith, high, e))) (omega (arith, low))

-- digits, and any text behind them
digits : (ds rest : List ℕ) → list_all is_ascii_digit ds ≡ true → escape (ds ++ rest) ≡ ds ++ escape rest
digits [] rest h = refl
digits (c ∷ ds) rest h =
    let parts = and_parts _ _ h in
    ap (λ l. l ++ escape (ds ++ rest)) (digit c parts.0) ∙ ap (λ l. c ∷ l) (digits ds rest parts.1)

dash : (rest : List ℕ) → escape (45 ∷ rest) ≡ 45 ∷ escape rest
unfolding escape_byte
dash rest = refl

escape_match : (name : Name) → name.room < 2 ^ 64 → name.serial < 2 ^ 64 → escape (match_text name) ≡ match_text name
escape_match name room serial =
    digits (decimal name.room) (45 ∷ decimal name.serial) (decimal_digits name.room room)
    ∙ ap (λ l. decimal name.room ++ l) (dash (decimal name.serial) ∙ ap (λ l. 45 ∷ l) (alone (decimal name.serial) (decimal_digits name.serial serial)))
  where
    alone : (ds : List ℕ) → list_all is_ascii_digit ds ≡ true → escape ds ≡ ds
    alone [] h = refl
    alone (c ∷ ds) h = let parts = and_parts _ _ h in ap (λ l. l ++ escape ds) (digit c parts.0) ∙ ap (λ l. c ∷ l) (alone ds parts.1)

-- what five writes append
pub match_put : (old opened roomed dashed served closed : List ℕ) (name : Name) → name.room < 2 ^ 64 → name.serial < 2 ^ 64
    → opened ≡ old ++ 34 ∷ [] → roomed ≡ opened ++ decimal name.room → dashed ≡ roomed ++ 45 ∷ [] → served ≡ dashed ++ decimal name.serial → closed ≡ served ++ 34 ∷ []
    → closed ≡ old ++ compact_text (string (match_text name))
match_put old opened roomed dashed served closed name room serial a b c d e =
    let r = decimal name.room in
    let s = decimal name.serial in
    e
    ∙ ap (λ l. l ++ 34 ∷ []) (d ∙ ap (λ l. l ++ s) (c ∙ ap (λ l. l ++ 45 ∷ []) (b ∙ ap (λ l. l ++ r) a)))
    ∙ append_assoc (((old ++ 34 ∷ []) ++ r) ++ 45 ∷ []) s (34 ∷ [])
    ∙ append_assoc ((old ++ 34 ∷ []) ++ r) (45 ∷ []) (s ++ 34 ∷ [])
    ∙ append_assoc (old ++ 34 ∷ []) r (45 ∷ (s ++ 34 ∷ []))
    ∙ append_assoc old (34 ∷ []) (r ++ 45 ∷ (s ++ 34 ∷ []))
    ∙ ap (λ l. old ++ 34 ∷ l) (sym (append_assoc r (45 ∷ s) (34 ∷ [])))
    ∙ ap (λ l. old ++ 34 ∷ (l ++ 34 ∷ [])) (sym (escape_match name room serial))
