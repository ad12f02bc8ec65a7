-- What `line_read` is in each case, and what it says of the line.
use Rattle.std.proofs.Common.{◌≡◌, ℕ, ◌≤◌, List, [], ◌∷◌, ◌++◌, length, lit<, Bool, true, false, cond, Option, Some, None, Ok, Err, is_some, refl, ap, ◌∙◌, subst}
use Rattle.std.proofs.lemmas.Bool.{ltb-false, le-ltb, true≢false, false≢true}
use Rattle.std.proofs.lemmas.Str.{encode_ascii, IsUtf8-from_is_utf8, is_utf8-from_IsUtf8}
use Rattle.std.specs.Prelude.{nat_lt, IsUtf8, Result}
use Rattle.std.specs.Str.{is_utf8}
use Rattle.serde_json.specs.Data.{Data, null, boolean, number, string, array, object, Members}
use Rattle.serde_json.specs.Find.{as_object}
use Rattle.serde_json.specs.Read.{read}
use Rattle.serde_json.specs.Written.{has_float, members_have_float}
use Rattle.json_tree.specs.declared.lines.LineFault.{LineFault}
use Rattle.json_tree.specs.declared.lines.LineFault.TheVariants.{TooLong, NotJson, NotObject, Float}
use Rattle.json_tree.specs.Canonical.{MembersAreCanonical}
use Rattle.json_tree.specs.Lines.{newline, IsLineOf, IsTextOf, IsText, IsLine, object_in, object_read, line_read, text_read}
use Rattle.json_tree.proofs.Canonicals.{canonical_read}

-- ---- from the line to the answer

pub newline_utf8 : IsUtf8 newline
newline_utf8 = (10 ∷ [], (refl, ap (λ (l : List ℕ). l ++ []) (encode_ascii 10 (lit< tt))))

utf8_read : (text : List ℕ) → IsUtf8 text → text_read text ≡ object_read (read text)
unfolding text_read
utf8_read text u = rw (is_utf8-from_IsUtf8 text u) refl

unread : (b : Bool) (text : List ℕ) → is_utf8 text ≡ b → (IsUtf8 text → read text ≡ None) → cond b (object_read (read text)) (Err NotJson) ≡ Err NotJson
unread true text is h = ap object_read (h (IsUtf8-from_is_utf8 text is))
unread false text is h = refl

pub is_not_json : (text : List ℕ) → (IsUtf8 text → read text ≡ None) → text_read text ≡ Err NotJson
unfolding text_read
is_not_json text none = unread (is_utf8 text) text refl none

no_object : (d : Data) → is_some (as_object d) ≡ false → object_in d ≡ Err NotObject
no_object null h = refl
no_object (boolean b) h = refl
no_object (number n) h = refl
no_object (string s) h = refl
no_object (array ds) h = refl
no_object (object ms) h = absurd (true≢false h)

pub is_no_object : (text : List ℕ) (d : Data) → IsUtf8 text → read text ≡ Some d → is_some (as_object d) ≡ false → text_read text ≡ Err NotObject
is_no_object text d u r o = utf8_read text u ∙ ap object_read r ∙ no_object d o

float_object : (d : Data) → is_some (as_object d) ≡ true → has_float d ≡ true → object_in d ≡ Err Float
float_object null h f = absurd (false≢true h)
float_object (boolean b) h f = absurd (false≢true h)
float_object (number n) h f = absurd (false≢true h)
float_object (string s) h f = absurd (false≢true h)
float_object (array ds) h f = absurd (false≢true h)
float_object (object ms) h f = rw (f) refl

pub has_a_float : (text : List ℕ) (d : Data) → IsUtf8 text → read text ≡ Some d → is_some (as_object d) ≡ true → has_float d ≡ true → text_read text ≡ Err Float
has_a_float text d u r o f = utf8_read text u ∙ ap object_read r ∙ float_object d o f

whole_object : (d : Data) → is_some (as_object d) ≡ true → has_float d ≡ false → (ms : Members) × (d ≡ object ms) × (object_in d ≡ Ok ms)
whole_object null h f = absurd (false≢true h)
whole_object (boolean b) h f = absurd (false≢true h)
whole_object (number n) h f = absurd (false≢true h)
whole_object (string s) h f = absurd (false≢true h)
whole_object (array ds) h f = absurd (false≢true h)
whole_object (object ms) h f = (ms, refl, rw (f) refl)

pub is_object : (text : List ℕ) (d : Data) → IsUtf8 text → read text ≡ Some d → is_some (as_object d) ≡ true → has_float d ≡ false
    → (ms : Members) × (d ≡ object ms) × (text_read text ≡ Ok ms)
is_object text d u r o f = let whole = whole_object d o f in (whole.0, whole.1, utf8_read text u ∙ ap object_read r ∙ whole.2)

-- ---- from the answer to the line

within : (b : Bool) (bound : ℕ) (line : List ℕ) (other : Result Members LineFault) (ms : Members) → nat_lt bound (length line) ≡ b → cond b (Err TooLong) other ≡ Ok ms → (length line ≤ bound) × (other ≡ Ok ms)
within true bound line other ms is e = absurd (cc)
within false bound line other ms is e = (ltb-false bound (length line) is, e)

in_utf8 : (b : Bool) (text : List ℕ) (ms : Members) → is_utf8 text ≡ b → cond b (object_read (read text)) (Err NotJson) ≡ Ok ms → IsUtf8 text × (object_read (read text) ≡ Ok ms)
in_utf8 true text ms is e = (IsUtf8-from_is_utf8 text is, e)
in_utf8 false text ms is e = absurd (cc)

abbrev unless : Bool → Members → Result Members LineFault
unless b ns = cond b (Err Float) (Ok ns)

good : (b : Bool) (ns ms : Members) → members_have_float ns ≡ b → unless b ns ≡ Ok ms → (ns ≡ ms) × (members_have_float ms ≡ false)
good true ns ms is e = absurd (cc)
good false ns ms is e = let same : ns ≡ ms = cc in (same, subst (λ x. members_have_float x ≡ false) same is)

object_is : (o : Option Data) (ms : Members) → object_read o ≡ Ok ms → (o ≡ Some (object ms)) × (members_have_float ms ≡ false)
object_is None ms e = absurd (cc)
object_is (Some null) ms e = absurd (cc)
object_is (Some (boolean b)) ms e = absurd (cc)
object_is (Some (number n)) ms e = absurd (cc)
object_is (Some (string s)) ms e = absurd (cc)
object_is (Some (array ds)) ms e = absurd (cc)
object_is (Some (object ns)) ms e = let both = good (members_have_float ns) ns ms refl e in (ap (λ x. Some (object x)) both.0, both.1)

-- what is read of a text it holds, and what a text holds is read of it
pub text_is : (text : List ℕ) (ms : Members) → text_read text ≡ Ok ms → IsTextOf text ms
unfolding text_read
text_is text ms e =
    let t = in_utf8 (is_utf8 text) text ms refl e in
    let o = object_is (read text) ms t.1 in
    record { utf8 = t.0; is = o.0; no_float = o.1 }

pub text_again : (text : List ℕ) (ms : Members) → IsTextOf text ms → text_read text ≡ Ok ms
text_again text ms h = utf8_read text h.utf8 ∙ ap object_read h.is ∙ rw (h.no_float) refl

pub canonical_text : (text : List ℕ) (ms : Members) → IsTextOf text ms → MembersAreCanonical ms
canonical_text text ms h = canonical_read text (object ms) h.is

-- the same of a line
pub line_is : (bound : ℕ) (line : List ℕ) (ms : Members) → line_read bound line ≡ Ok ms → IsLineOf bound line ms
line_is bound line ms e =
    let w = within (nat_lt bound (length line)) bound line (text_read line) ms refl e in
    record { short = w.0; text = text_is line ms w.1 }

pub line_again : (bound : ℕ) (line : List ℕ) (ms : Members) → IsLineOf bound line ms → line_read bound line ≡ Ok ms
line_again bound line ms h = rw (le-ltb bound (length line) h.short) (text_again line ms h.text)

pub canonical_line : (bound : ℕ) (line : List ℕ) (ms : Members) → IsLineOf bound line ms → MembersAreCanonical ms
canonical_line bound line ms h = canonical_text line ms h.text

-- of the data: a line within the bound is one where its text is
pub within_bound : (bound : ℕ) (line : List ℕ) (d : Data) → length line ≤ bound → IsText line d → IsLine bound line d
within_bound bound line d h t = (t.0, t.1, record { short = h; text = t.2 })
