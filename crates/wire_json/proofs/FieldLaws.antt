-- What each form of a member says of it, and that the form's own value has it.
use Rattle.std.proofs.Common.{◌≡◌, ℕ, ◌≤◌, List, length, Bool, true, false, cond, ◌&&◌, Option, Some, None, Ok, Err, refl, ap, ◌∙◌, subst}
use Rattle.std.proofs.lemmas.Bool.{and_parts, le-leb, leb-true}
use Rattle.std.specs.Prelude.{nat_le, Result}
use Rattle.serde_json.specs.Data.{Data, null, boolean, number, string, array, object, Items}
use Rattle.hex.specs.Hex.{encode_lower}
use Rattle.json_tree.specs.Fields.{text_in, list_in}
use Rattle.json_tree.specs.Steps.{◌>>=◌}
use Rattle.json_tree.specs.declared.fields.FieldFault.{FieldFault}
use Rattle.json_tree.specs.declared.fields.FieldFault.TheVariants.{OutOfRange}
use Rattle.game_sheet.specs.MatchName.{Name}
use Rattle.wire_json.specs.MatchText.{match_text, IsName, match_from}
use Rattle.wire_json.specs.KeyText.{IsKey, key_from}
use Rattle.sheet_json.specs.Seats.{or_null}
use Rattle.sheet_json.proofs.SeatLaws.{bound, tested, Holds, or_null_is}
use Rattle.wire_json.specs.Acts.{in_form, text_within}
use Rattle.wire_json.specs.ClientReading.{match_in, key_in, both_or_neither, key_beside, key_of_seat_in}
use Rattle.wire_json.specs.Refusals.{Refusal, at_field}
use Rattle.wire_json.proofs.MatchTexts.{match_is, match_again}
use Rattle.wire_json.proofs.KeyTexts.{key_is, key_again}

-- ---- steps

pub step : {A B : Type 0} (name : List ℕ) (r : Result A FieldFault) (next : A → Result B Refusal) (y : B) → (at_field name r >>= next) ≡ Ok y → (x : A) × (r ≡ Ok x) × (next x ≡ Ok y)
step name (Ok x) next y e = (x, refl, e)
step name (Err fault) next y e = absurd (cc)

pub past : {B : Type 0} (b : Bool) (refusal : Refusal) (rest : Result B Refusal) (y : B) → cond b (Err refusal) rest ≡ Ok y → (b ≡ false) × (rest ≡ Ok y)
past true refusal rest y e = absurd (cc)
past false refusal rest y e = (refl, e)

pub formed : {A : Type 0} (o : Option A) (x : A) → in_form o ≡ Ok x → o ≡ Some x
formed None x e = absurd (cc)
formed (Some y) x e = let same : y ≡ x = cc in ap Some same

-- ---- forms

pub text_is : (o : Option Data) (s : List ℕ) → text_in o ≡ Ok s → o ≡ Some (string s)
text_is None s e = absurd (cc)
text_is (Some null) s e = absurd (cc)
text_is (Some (boolean b)) s e = absurd (cc)
text_is (Some (number n)) s e = absurd (cc)
text_is (Some (string t)) s e = let same : t ≡ s = cc in ap (λ x. Some (string x)) same
text_is (Some (array ds)) s e = absurd (cc)
text_is (Some (object ms)) s e = absurd (cc)

pub list_is : (o : Option Data) (ds : Items) → list_in o ≡ Ok ds → o ≡ Some (array ds)
list_is None ds e = absurd (cc)
list_is (Some null) ds e = absurd (cc)
list_is (Some (boolean b)) ds e = absurd (cc)
list_is (Some (number n)) ds e = absurd (cc)
list_is (Some (string t)) ds e = absurd (cc)
list_is (Some (array es)) ds e = let same : es ≡ ds = cc in ap (λ x. Some (array x)) same
list_is (Some (object ms)) ds e = absurd (cc)

pub short_text_is : (lo hi : ℕ) (o : Option Data) (s : List ℕ) → text_within lo hi o ≡ Ok s → (o ≡ Some (string s)) × (lo ≤ length s) × (length s ≤ hi)
short_text_is lo hi o s e =
    let t = bound (text_in o) _ s e in
    let within = tested (nat_le lo (length t.0) && nat_le (length t.0) hi) t.0 s OutOfRange t.2 in
    let both = and_parts (nat_le lo (length t.0)) (nat_le (length t.0) hi) within.0 in (
      text_is o t.0 t.1 ∙ ap (λ x. Some (string x)) within.1,
      subst (λ x. lo ≤ length x) within.1 (leb-true lo (length t.0) both.0),
      subst (λ x. length x ≤ hi) within.1 (leb-true (length t.0) hi both.1),
    )

pub short_text_again : (lo hi : ℕ) (s : List ℕ) → lo ≤ length s → length s ≤ hi → text_within lo hi (Some (string s)) ≡ Ok s
short_text_again lo hi s low high = rw (le-leb lo (length s) low, le-leb (length s) hi high) refl

pub match_member_is : (o : Option Data) (name : Name) → match_in o ≡ Ok name → (o ≡ Some (string (match_text name))) × IsName name
match_member_is o name e =
    let t = bound (text_in o) _ name e in
    let m = match_is t.0 name (formed (match_from t.0) name t.2) in
    (text_is o t.0 t.1 ∙ ap (λ x. Some (string x)) m.0, m.1)

pub match_member_again : (name : Name) → IsName name → match_in (Some (string (match_text name))) ≡ Ok name
match_member_again name h = rw (match_again name h) refl

pub key_member_is : (o : Option Data) (key : List ℕ) → key_in o ≡ Ok key → (o ≡ Some (string (encode_lower key))) × IsKey key
key_member_is o key e =
    let t = bound (text_in o) _ key e in
    let k = key_is t.0 key (formed (key_from t.0) key t.2) in
    (text_is o t.0 t.1 ∙ ap (λ x. Some (string x)) k.0, k.1)

pub key_member_again : (key : List ℕ) → IsKey key → key_in (Some (string (encode_lower key))) ≡ Ok key
key_member_again key h = rw (key_again key h) refl

beside : (seat : Result (Option ℕ) FieldFault) (key found : Option (List ℕ)) (s : Option ℕ) → key_beside seat key ≡ Ok found → seat ≡ Ok s → (key ≡ found) × (both_or_neither found s ≡ true)
beside (Err fault) key found s e is = absurd (cc)
beside (Ok t) key found s e is =
    let fits = tested (both_or_neither key t) key found OutOfRange e in
    let same : t ≡ s = cc in
    (fits.1, subst (λ x. both_or_neither found x ≡ true) same (subst (λ x. both_or_neither x t ≡ true) fits.1 fits.0))

pub seat_key_is : (seat : Result (Option ℕ) FieldFault) (o : Option Data) (key : Option (List ℕ)) (s : Option ℕ) → key_of_seat_in seat o ≡ Ok key → seat ≡ Ok s
    → Holds key_in o key × (both_or_neither key s ≡ true)
seat_key_is seat o key s e is =
    let k = bound (or_null key_in o) _ key e in
    let fits = beside seat k.0 key s k.2 is in
    (or_null_is key_in o key (k.1 ∙ ap (λ x. Ok x) fits.0), fits.1)
