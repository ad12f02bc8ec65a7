-- A member that is null or in a form: what is read is what it holds, and what is written reads back.
use Rattle.std.proofs.Common.{◌≡◌, ℕ, ◌≤◌, Bool, true, false, cond, Option, Some, None, Ok, Err, refl, ap, ◌∙◌, subst, if◌then◌else◌}
use Rattle.std.proofs.lemmas.Bool.{le-leb, leb-true}
use Rattle.std.specs.Prelude.{nat_le, Result}
use Rattle.serde_json.specs.Data.{Num, unsigned, negative, float, Data, null, boolean, number, string, array, object}
use Rattle.serde_json.specs.Find.{as_u64}
use Rattle.json_tree.specs.Fields.{whole_number, number_in, natural_in}
use Rattle.json_tree.specs.Steps.{◌>>=◌}
use Rattle.json_tree.specs.declared.fields.FieldFault.{FieldFault}
use Rattle.json_tree.specs.declared.fields.FieldFault.TheVariants.{OutOfRange}
use Rattle.sheet_json.specs.Seats.{natural, is_null_in, or_null}
use Rattle.std.specs.Option.{option_map_or}

pub bound : {A B E : Type 0} (r : Result A E) (next : A → Result B E) (y : B) → (r >>= next) ≡ Ok y → (x : A) × (r ≡ Ok x) × (next x ≡ Ok y)
bound (Ok x) next y e = (x, refl, e)
bound (Err fault) next y e = absurd (cc)

pub tested : {A E : Type 0} (b : Bool) (x y : A) (fault : E) → cond b (Ok x) (Err fault) ≡ Ok y → (b ≡ true) × (x ≡ y)
tested true x y fault e = (refl, cc)
tested false x y fault e = absurd (cc)

-- ---- numbers from 0

whole_is : (n m : Num) → whole_number n ≡ Ok m → n ≡ m
whole_is (unsigned n) m e = cc
whole_is (negative z) m e = cc
whole_is (float x) m e = absurd (cc)

number_is : (o : Option Data) (n : Num) → number_in o ≡ Ok n → o ≡ Some (number n)
number_is None n e = absurd (cc)
number_is (Some null) n e = absurd (cc)
number_is (Some (boolean b)) n e = absurd (cc)
number_is (Some (number m)) n e = ap (λ x. Some (number x)) (whole_is m n e)
number_is (Some (string s)) n e = absurd (cc)
number_is (Some (array ds)) n e = absurd (cc)
number_is (Some (object ms)) n e = absurd (cc)

natural_at : (most : ℕ) (m : Num) (n : ℕ) → option_map_or (λ n. if nat_le n most then Ok n else Err OutOfRange) (as_u64 m) (Err OutOfRange) ≡ Ok n → (m ≡ unsigned n) × (n ≤ most)
natural_at most (unsigned m) n e =
    let within = tested (nat_le m most) m n OutOfRange e in
    (ap unsigned within.1, subst (λ x. x ≤ most) within.1 (leb-true m most within.0))
natural_at most (negative z) n e = absurd (cc)
natural_at most (float x) n e = absurd (cc)

pub natural_is : (most : ℕ) (o : Option Data) (n : ℕ) → natural_in most o ≡ Ok n → (o ≡ Some (natural n)) × (n ≤ most)
natural_is most o n e =
    let m = bound (number_in o) _ n e in
    let is = natural_at most m.0 n m.2 in
    (number_is o m.0 m.1 ∙ ap (λ x. Some (number x)) is.0, is.1)

pub natural_again : (most n : ℕ) → n ≤ most → natural_in most (Some (natural n)) ≡ Ok n
natural_again most n h = rw (le-leb n most h) refl

-- ---- null or a form

pub null_is : (o : Option Data) → is_null_in o ≡ true → o ≡ Some null
null_is None e = absurd (cc)
null_is (Some null) e = refl
null_is (Some (boolean b)) e = absurd (cc)
null_is (Some (number n)) e = absurd (cc)
null_is (Some (string s)) e = absurd (cc)
null_is (Some (array ds)) e = absurd (cc)
null_is (Some (object ms)) e = absurd (cc)

-- which of the two a member is
abbrev pub Holds : {A : Type 0} → (Option Data → Result A FieldFault) → Option Data → Option A → Type 0
Holds form o None = o ≡ Some null
Holds form o (Some x) = form o ≡ Ok x

held : {A : Type 0} (form : Option Data → Result A FieldFault) (b : Bool) (o : Option Data) (x : Option A) → is_null_in o ≡ b → cond b (Ok None) (form o >>= λ y. Ok (Some y)) ≡ Ok x → Holds form o x
held form true o None is e = null_is o is
held form true o (Some x) is e = absurd (cc)
held form false o None is e = let y = bound (form o) _ None e in absurd (cc (y.2))
held form false o (Some x) is e = let y = bound (form o) _ (Some x) e in let same : y.0 ≡ x = cc (y.2) in y.1 ∙ ap (λ z. Ok z) same

pub or_null_is : {A : Type 0} (form : Option Data → Result A FieldFault) (o : Option Data) (x : Option A) → or_null form o ≡ Ok x → Holds form o x
or_null_is form o x e = held form (is_null_in o) o x refl e
