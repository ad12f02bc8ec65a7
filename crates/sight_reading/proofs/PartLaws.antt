-- The small parts: what is read is what has that value, and its value reads as it.
use Rattle.std.proofs.Common.{◌≡◌, ℕ, zero, suc, ◌<◌, ◌≤◌, List, [], ◌∷◌, length, get_or, Bool, true, false, cond, Option, Some, None, option_map, Ok, bytes_eq, refl, sym, ap, ◌∙◌, subst, arith}
use Rattle.std.proofs.lemmas.Bool.{lt-ltb}
use Rattle.std.proofs.lemmas.List.Quantifiers.{position-Some}
use Rattle.std.proofs.lemmas.List.Sums.{position_or_len_is}
use Rattle.std.proofs.lemmas.Option.{slice_get-get_or, get_or_from_slice_get, slice_get_within}
use Rattle.std.proofs.lemmas.Slice.Eq.{bytes_eq-Decides}
use Rattle.std.specs.Prelude.{slice_get, option_and_then, map}
use Rattle.std.specs.List.{AllByRecursion}
use Rattle.serde_json.specs.Data.{Data, null, boolean, number, string, array, object, Items, no_items, item}
use Rattle.serde_json.specs.View.{items_of}
use Rattle.game_sheet.specs.SheetFits.{NamesFit}
use Rattle.json_tree.specs.Fields.{text_in}
use Rattle.game_sheet.specs.SheetNames.{place_of}
use Rattle.sheet_json.specs.Seats.{natural, text_or_null}
use Rattle.player_sight.specs.Plain.{IsIn}
use Rattle.sight_reading.proofs.NumberLaws.{good, natural_is, natural_again}
use Rattle.sight_reading.specs.Reading.{◌>>=◌, natural_at, text_at, naturals_from, id_or_null}

-- ---- steps

pub step : {A B : Type 0} (o : Option A) (next : A → Option B) (y : B) → (o >>= next) ≡ Some y → (x : A) × (o ≡ Some x) × (next x ≡ Some y)
step (Some x) next y e = (x, refl, e)
step None next y e = absurd (cc)

pub chained : {A B : Type 0} (f : A → Option B) (o : Option A) (y : B) → option_and_then f o ≡ Some y → (x : A) × (o ≡ Some x) × (f x ≡ Some y)
chained f (Some x) y e = (x, refl, e)
chained f None y e = absurd (cc)

pub mapped : {A B : Type 0} (f : A → B) (o : Option A) (y : B) → option_map f o ≡ Some y → (x : A) × (o ≡ Some x) × (f x ≡ y)
mapped f (Some x) y e = (x, refl, cc)
mapped f None y e = absurd (cc)

pub past : {B : Type 0} (b : Bool) (rest : Option B) (y : B) → cond b None rest ≡ Some y → (b ≡ false) × (rest ≡ Some y)
past true rest y e = absurd (cc)
past false rest y e = (refl, e)

pub tested : {A : Type 0} (b : Bool) (x y : A) → cond b (Some x) None ≡ Some y → (b ≡ true) × (x ≡ y)
tested true x y e = (refl, cc)
tested false x y e = absurd (cc)

-- ---- numbers and texts

in_text : (o : Option Data) (s : List ℕ) → text_in o ≡ Ok s → o ≡ Some (string s)
in_text None s e = absurd (cc)
in_text (Some null) s e = absurd (cc)
in_text (Some (boolean b)) s e = absurd (cc)
in_text (Some (number n)) s e = absurd (cc)
in_text (Some (string t)) s e = let same : t ≡ s = cc in ap (λ x. Some (string x)) same
in_text (Some (array ds)) s e = absurd (cc)
in_text (Some (object ms)) s e = absurd (cc)

pub text_is : (o : Option Data) (s : List ℕ) → text_at o ≡ Some s → o ≡ Some (string s)
text_is o s e = in_text o s (good (text_in o) s e)

pub naturals_is : (ds : Items) (ns : List ℕ) → naturals_from ds ≡ Some ns → (ds ≡ items_of (map natural ns)) × AllByRecursion (λ n. n ≤ 255) ns
naturals_is no_items [] e = (refl, tt)
naturals_is no_items (n ∷ ns) e = absurd (cc)
naturals_is (item d ds) ns e =
    let first = chained (λ n. option_map (λ rest. n ∷ rest) (naturals_from ds)) (natural_at 255 (Some d)) ns e in
    let more = mapped (λ rest. first.0 ∷ rest) (naturals_from ds) ns first.2 in
    let is = natural_is 255 (Some d) first.0 first.1 in
    let later = naturals_is ds more.0 more.1 in
    let same : d ≡ natural first.0 = cc (is.0) in
    subst (λ x. (item d ds ≡ items_of (map natural x)) × AllByRecursion (λ n. n ≤ 255) x) more.2 (ap (λ x. item x ds) same ∙ ap (item (natural first.0)) later.0, (is.1, later.1))

pub naturals_again : (ns : List ℕ) → AllByRecursion (λ n. n ≤ 255) ns → naturals_from (items_of (map natural ns)) ≡ Some ns
naturals_again [] h = refl
naturals_again (n ∷ ns) h = rw (natural_again 255 n h.0, naturals_again ns h.1) refl

-- ---- names

named : {Row : Type 0} (name : Row → List ℕ) (rows : List Row) (row : Row) (s : List ℕ) (id : ℕ) → id < length rows → bytes_eq (name (get_or rows id row)) s ≡ true → option_map name (slice_get rows id) ≡ Some s
named name rows row s id h e = rw (slice_get-get_or rows id row h) (ap (λ x. Some x) ((bytes_eq-Decides (name (get_or rows id row)) s).0 e))

pub place_is : {Row : Type 0} (name : Row → List ℕ) (rows : List Row) (s : List ℕ) (id : ℕ) → place_of name rows s ≡ Some id → (option_map name (slice_get rows id) ≡ Some s) × (id < length rows)
place_is name [] s id e = absurd (cc)
place_is name (row ∷ rows) s id e = let at = position-Some (λ r. bytes_eq (name r) s) (row ∷ rows) id row e in (named name (row ∷ rows) row s id at.0 at.1, at.0)

not_true : (b : Bool) → (b ≡ true → ⊥) → b ≡ false
not_true true h = absurd (h refl)
not_true false h = refl

differs : {Row : Type 0} (name : Row → List ℕ) (rows : List Row) (row : Row) (id k : ℕ) → NamesFit name rows → slice_get rows id ≡ Some row → k < id → bytes_eq (name (get_or rows k row)) (name row) ≡ false
differs name rows row id k fit at less =
    not_true (bytes_eq (name (get_or rows k row)) (name row)) (λ same.
    let within = slice_get_within rows id row at in
    let before : k < length rows = omega arith in
    let equal = fit.distinct k id (get_or rows k row) row (slice_get-get_or rows k row before) at ((bytes_eq-Decides (name (get_or rows k row)) (name row)).0 same) in
    omega arith)

itself : (s t : List ℕ) → s ≡ t → bytes_eq s t ≡ true
itself s t e = (bytes_eq-Decides s t).1 e

pub place_again : {Row : Type 0} (name : Row → List ℕ) (rows : List Row) (row : Row) (id : ℕ) → NamesFit name rows → slice_get rows id ≡ Some row → place_of name rows (name row) ≡ Some id
place_again name rows row id fit at =
    let within = slice_get_within rows id row at in
    let inside : id ≤ length rows = omega arith in
    let here = itself (name (get_or rows id row)) (name row) (ap name (get_or_from_slice_get rows id row row at)) in
    let first = position_or_len_is (λ r. bytes_eq (name r) (name row)) rows id row inside (λ k less. differs name rows row id k fit at less) (λ h. here) in
    rw (first, lt-ltb id (length rows) within) refl

-- a name of the sheet, or null
abbrev pub name_or_null : {Row : Type 0} → (Row → List ℕ) → List Row → Option ℕ → Data
name_or_null name rows None = null
name_or_null name rows (Some id) = text_or_null (option_map name (slice_get rows id))

pub id_is : {Row : Type 0} (name : Row → List ℕ) (rows : List Row) (d : Data) (o : Option ℕ) → id_or_null (place_of name rows) d ≡ Some o → (d ≡ name_or_null name rows o) × IsIn (length rows) o
id_is name rows null None e = (refl, tt)
id_is name rows null (Some id) e = absurd (cc)
id_is name rows (boolean b) o e = absurd (cc)
id_is name rows (number n) o e = absurd (cc)
id_is name rows (string s) o e =
    let found = mapped (λ x. Some x) (place_of name rows s) o e in
    let is = place_is name rows s found.0 found.1 in
    subst (λ x. (string s ≡ name_or_null name rows x) × IsIn (length rows) x) found.2 (sym (ap text_or_null is.0), is.1)
id_is name rows (array ds) o e = absurd (cc)
id_is name rows (object ms) o e = absurd (cc)

there : {Row : Type 0} (rows : List Row) (id : ℕ) → id < length rows → (row : Row) × (slice_get rows id ≡ Some row)
there [] id h = absurd (omega arith)
there (row ∷ rows) zero h = (row, refl)
there (row ∷ rows) (suc id) h = there rows id (omega arith)

id_at : {Row : Type 0} (name : Row → List ℕ) (rows : List Row) (row : Row) (id : ℕ) → NamesFit name rows → slice_get rows id ≡ Some row → id_or_null (place_of name rows) (name_or_null name rows (Some id)) ≡ Some (Some id)
id_at name rows row id fit at = let found = place_again name rows row id fit at in rw at (ap (λ o. option_map (λ x. Some x) o) found)

pub id_again : {Row : Type 0} (name : Row → List ℕ) (rows : List Row) (o : Option ℕ) → NamesFit name rows → IsIn (length rows) o → id_or_null (place_of name rows) (name_or_null name rows o) ≡ Some o
id_again name rows None fit h = refl
id_again name rows (Some id) fit h = let row = there rows id h in id_at name rows row.0 id fit row.1

-- the same where null doesn't stand for none
pub name_again : {Row : Type 0} (name : Row → List ℕ) (rows : List Row) (id : ℕ) → NamesFit name rows → id < length rows
    → option_and_then (place_of name rows) (text_at (Some (text_or_null (option_map name (slice_get rows id))))) ≡ Some id
name_again name rows id fit h = let row = there rows id h in rw (row.1) (place_again name rows row.0 id fit row.1)

pub name_is : {Row : Type 0} (name : Row → List ℕ) (rows : List Row) (o : Option Data) (id : ℕ) → option_and_then (place_of name rows) (text_at o) ≡ Some id
    → (o ≡ Some (text_or_null (option_map name (slice_get rows id)))) × (id < length rows)
name_is name rows o id e =
    let text = chained (place_of name rows) (text_at o) id e in
    let is = place_is name rows text.0 id text.2 in
    (text_is o text.0 text.1 ∙ ap (λ x. Some x) (sym (ap text_or_null is.0)), is.1)
