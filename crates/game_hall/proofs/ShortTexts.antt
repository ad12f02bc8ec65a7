-- The short lines are the texts of their messages.
use Rattle.std.proofs.Common.{◌≡◌, ◌≤◌, ◌<◌, ◌^◌, ℕ, zero, suc, ◌/◌, ◌%◌, Bool, true, false, ◌&&◌, ◌==◌, inl, inr, List, [], ◌∷◌, ◌++◌, Option, Some, None, codes, refl, sym, ap, ◌∙◌, append_assoc, arith}
use Rattle.std.specs.Prelude.{decimal, nat_le, not, slice_index}
use Rattle.std.specs.Char.{digit_value}
use Rattle.std.specs.Str.Parse.{AllDigits}
use Rattle.std.proofs.lemmas.Bool.{cases_eq}
use Rattle.std.proofs.lemmas.Bool.Decides.{nat_tests}
use Rattle.std.proofs.lemmas.Fmt.{decimal_is_IsNumeral}
use Rattle.std.proofs.lemmas.Str.Parse.{digit_from_value}
use Rattle.hex.specs.Hex.{encode_lower, encode_with, lower_digits, IsBytes}
use Rattle.json.specs.Print.{escape, escape_byte}
use Rattle.json.proofs.Printed.Strings.{escape_byte_plain}
use Rattle.game_sheet.specs.MatchName.{Name}
use Rattle.wire_json.specs.MatchText.{match_text, IsName}
use Rattle.wire_json.specs.RefusalText.{refusal_field, refusal_text}
use Rattle.wire_json.specs.declared.refusal.Member.TheVariants as at
use Rattle.wire_json.specs.declared.refusal.Refusal.{Refusal}
use Rattle.wire_json.specs.declared.refusal.Refusal.TheVariants as why
use Rattle.wire_json.specs.ServerText.{text}
use Rattle.game_hall.specs.ShortText.{field_text, place_text, ticket_text}
use Rattle.wire_json.specs.declared.server.ServerMsg.TheVariants as message

-- ---- texts that need no escape

-- each byte stands for itself
abbrev AreOwn : List ℕ → Type 0
AreOwn [] = Unit {0}
AreOwn (x ∷ xs) = (escape_byte x ≡ x ∷ []) × AreOwn xs

own_text : (s : List ℕ) → AreOwn s → escape s ≡ s
own_text [] h = refl
own_text (x ∷ xs) h = ap (λ front. front ++ escape xs) h.0 ∙ ap (λ rest. x ∷ rest) (own_text xs h.1)

own_append : (s t : List ℕ) → AreOwn s → AreOwn t → AreOwn (s ++ t)
own_append [] t h k = k
own_append (x ∷ xs) t h k = (h.0, own_append xs t h.1 k)

own_digit : (x : ℕ) → digit_value x < 10 → escape_byte x ≡ x ∷ []
own_digit x h =
    let range = digit_from_value x h in
    escape_byte_plain x (λ e. omega (arith, e, range.0)) (λ e. omega (arith, e, range.1)) (omega (arith, range.0))

own_digits : (s : List ℕ) → AllDigits 10 s → AreOwn s
own_digits [] h = tt
own_digits (x ∷ xs) h = (own_digit x h.0, own_digits xs h.1)

own_decimal : (n : ℕ) → n < 2 ^ 64 → AreOwn (decimal n)
own_decimal n h = own_digits (decimal n) (decimal_is_IsNumeral n h).0.1

own_dash : escape_byte 45 ≡ 45 ∷ []
unfolding escape_byte
own_dash = refl

own_name : (name : Name) → IsName name → AreOwn (match_text name)
own_name name h = own_append (decimal name.room) (45 ∷ decimal name.serial) (own_decimal name.room (omega (arith, h.0))) (own_dash, own_decimal name.serial h.2)

-- the sixteen digits of keys, by computing
abbrev are_plain : ℕ → Bool
are_plain zero = true
are_plain (suc n) = nat_le 35 (slice_index lower_digits n) && not (slice_index lower_digits n == 92) && are_plain n

sixteen : are_plain 16 ≡ true
sixteen = refl

plain_parts : (a b c : Bool) → (a && not b && c) ≡ true → (a ≡ true) × (b ≡ false) × (c ≡ true)
plain_parts true false true h = (refl, refl, refl)
plain_parts true false false h = absurd (cc)
plain_parts true true c h = absurd (cc)
plain_parts false b c h = absurd (cc)

plain_below : (n : ℕ) → are_plain n ≡ true → (m : ℕ) → m < n → (35 ≤ slice_index lower_digits m) × (slice_index lower_digits m ≡ 92 → ⊥)
plain_below zero h m l = absurd (omega arith)
plain_below (suc n) h m l =
    let parts = plain_parts (nat_le 35 (slice_index lower_digits n)) (slice_index lower_digits n == 92) (are_plain n) h in
    elim (cases_eq m n) [ inl same ↦ rw same (least (slice_index lower_digits n) parts.0, other (slice_index lower_digits n) parts.1) | inr differs ↦ plain_below n parts.2 m (omega arith) ]
  where
    least : (x : ℕ) → nat_le 35 x ≡ true → 35 ≤ x
    least x e = grind (arith, nat_tests)

    other : (x : ℕ) → (x == 92) ≡ false → x ≡ 92 → ⊥
    other x e same = grind (arith, nat_tests)

own_hex_digit : (m : ℕ) → m < 16 → escape_byte (slice_index lower_digits m) ≡ slice_index lower_digits m ∷ []
own_hex_digit m l =
    let plain = plain_below 16 sixteen m l in
    escape_byte_plain (slice_index lower_digits m) (λ e. omega (arith, e, plain.0)) plain.1 (omega (arith, plain.0))

own_key : (key : List ℕ) → IsBytes key → AreOwn (encode_lower key)
unfolding encode_with
own_key [] h = tt
own_key (b ∷ key) h = (own_hex_digit (b / 16) (omega (arith, h 0)), (own_hex_digit (b % 16) (omega arith), own_key key (λ i. h (suc i))))

-- ---- the lines

-- a quoted text that needs no escape, and what follows it to the end of the line
quoted_then : (s rest : List ℕ) → escape s ≡ s → ((escape s ++ 34 ∷ []) ++ rest) ++ 10 ∷ [] ≡ s ++ (34 ∷ rest ++ 10 ∷ [])
quoted_then s rest e = ap (λ t. ((t ++ 34 ∷ []) ++ rest) ++ 10 ∷ []) e ∙ append_assoc (s ++ 34 ∷ []) rest (10 ∷ []) ∙ append_assoc s (34 ∷ []) (rest ++ 10 ∷ [])

place_is : (name : Name) (seat : ℕ) (rest : List ℕ) → IsName name
    → ((escape (match_text name) ++ 34 ∷ []) ++ (codes ",\"seat\":" ++ (decimal seat ++ rest))) ++ 10 ∷ [] ≡ place_text name seat (rest ++ 10 ∷ [])
place_is name seat rest h =
    quoted_then (match_text name) (codes ",\"seat\":" ++ (decimal seat ++ rest)) (own_text (match_text name) (own_name name h))
    ∙ ap (λ x. match_text name ++ (codes "\",\"seat\":" ++ x)) (append_assoc (decimal seat) rest (10 ∷ []))
    ∙ sym (append_assoc (match_text name ++ codes "\",\"seat\":") (decimal seat) (rest ++ 10 ∷ []) ∙ append_assoc (match_text name) (codes "\",\"seat\":") (decimal seat ++ (rest ++ 10 ∷ [])))

pub again_is : (ticket : Option ℕ) → codes "{\"ticket\":" ++ ticket_text ticket ++ codes ",\"type\":\"again\"}\n" ≡ text (message.Again ticket)
unfolding text escape_byte
again_is None = refl
again_is (Some ticket) = ap (λ x. codes "{\"ticket\":" ++ x) (sym (append_assoc (decimal ticket) (codes ",\"type\":\"again\"}") (10 ∷ [])))

pub created_is : (name : Name) → IsName name → codes "{\"match\":\"" ++ match_text name ++ codes "\",\"type\":\"created\"}\n" ≡ text (message.Created name)
unfolding text escape_byte
created_is name h = ap (λ x. codes "{\"match\":\"" ++ x) (sym (quoted_then (match_text name) (codes ",\"type\":\"created\"}") (own_text (match_text name) (own_name name h))))

pub renamed_is : (name : Name) (seat : ℕ) → IsName name → codes "{\"match\":\"" ++ place_text name seat (codes ",\"type\":\"renamed\"}\n") ≡ text (message.Renamed name seat)
unfolding text escape_byte
renamed_is name seat h = ap (λ x. codes "{\"match\":\"" ++ x) (sym (place_is name seat (codes ",\"type\":\"renamed\"}") h))

pub left_is : (name : Name) (seat : ℕ) → IsName name → codes "{\"match\":\"" ++ place_text name seat (codes ",\"type\":\"left\"}\n") ≡ text (message.Left name seat)
unfolding text escape_byte
left_is name seat h = ap (λ x. codes "{\"match\":\"" ++ x) (sym (place_is name seat (codes ",\"type\":\"left\"}") h))

pub asked_is : (name : Name) (seat : ℕ) → IsName name → codes "{\"match\":\"" ++ place_text name seat (codes ",\"type\":\"asked\"}\n") ≡ text (message.Asked name seat)
unfolding text escape_byte
asked_is name seat h = ap (λ x. codes "{\"match\":\"" ++ x) (sym (place_is name seat (codes ",\"type\":\"asked\"}") h))

pub joined_is : (key : List ℕ) (name : Name) (seat : ℕ) → IsBytes key → IsName name
    → codes "{\"key\":\"" ++ encode_lower key ++ codes "\",\"match\":\"" ++ place_text name seat (codes ",\"type\":\"joined\"}\n") ≡ text (message.Joined key name seat)
unfolding text escape_byte
joined_is key name seat k h =
    let seated = codes ",\"match\":\"" ++ ((escape (match_text name) ++ 34 ∷ []) ++ (codes ",\"seat\":" ++ (decimal seat ++ codes ",\"type\":\"joined\"}"))) in
    let place = place_text name seat (codes ",\"type\":\"joined\"}\n") in
    ap (λ x. codes "{\"key\":\"" ++ x)
    (append_assoc (encode_lower key) (codes "\",\"match\":\"") place
    ∙ ap (λ x. encode_lower key ++ (codes "\",\"match\":\"" ++ x)) (sym (place_is name seat (codes ",\"type\":\"joined\"}") h))
    ∙ sym (quoted_then (encode_lower key) seated (own_text (encode_lower key) (own_key key k))))

pub refused_is : (refusal : Refusal) → codes "{\"field\":" ++ field_text (refusal_field refusal) ++ codes ",\"reason\":\"" ++ refusal_text refusal ++ codes "\",\"type\":\"refused\"}\n" ≡ text (message.Refused refusal)
unfolding text escape_byte
refused_is (why.BadMessage None) = refl
refused_is (why.BadMessage (Some at.Extra)) = refl
refused_is (why.BadMessage (Some at.Kind)) = refl
refused_is (why.BadMessage (Some at.Act)) = refl
refused_is (why.BadMessage (Some at.Game)) = refl
refused_is (why.BadMessage (Some at.Key)) = refl
refused_is (why.BadMessage (Some at.Match)) = refl
refused_is (why.BadMessage (Some at.Name)) = refl
refused_is (why.BadMessage (Some at.Number)) = refl
refused_is (why.BadMessage (Some at.Protocol)) = refl
refused_is (why.BadMessage (Some at.Seat)) = refl
refused_is (why.BadMessage (Some at.Seats)) = refl
refused_is (why.BadMessage (Some at.Ticket)) = refl
refused_is why.NoGame = refl
refused_is why.Full = refl
refused_is why.BadSeats = refl
refused_is why.NoStart = refl
refused_is why.NoMatch = refl
refused_is why.SeatTaken = refl
refused_is why.NoSeat = refl
refused_is why.BadName = refl
refused_is why.Unauthorized = refl
refused_is why.AlreadyAttached = refl
refused_is why.NotAttached = refl
refused_is why.NotABot = refl
