-- How the steps of a reader move it along the bytes of its source.
use Rattle.std.proofs.Common.{◌≡◌, ℕ, Bool, true, false, List, [], ◌∷◌, ◌++◌, Option, None, refl, sym, ap, ◌∙◌, subst, append_assoc}
use Rattle.line_runner.specs.Reader.{Reader, to_come, whole_to_come}
use Rattle.line_runner.specs.Reading.{Steps, Moves}
use Rattle.line_runner.specs.declared.next.Next.{Next}

none_left : (xs ys : List ℕ) → xs ++ ys ≡ [] → ys ≡ []
none_left [] ys e = e
none_left (x ∷ xs) ys e = cc

-- where the end was told before, nothing is left later
pub stays_none : (answer : Option Next) (line : List ℕ) (old new : Reader) (before after : List ℕ) → Moves answer line old new before after → before ≡ [] → after ≡ []
stays_none answer line old new before after m e = none_left m.read after (sym m.first_part ∙ e)

-- the end is told before a step or in it
pub none_after : (answer : Option Next) (line : List ℕ) (old new : Reader) (before after : List ℕ) (b : Bool) → old.ended ≡ b → Moves answer line old new before after → (old.ended ≡ true → before ≡ []) → new.ended ≡ true → after ≡ []
none_after answer line old new before after true e m f h = stays_none answer line old new before after m (f e)
none_after answer line old new before after false e m f h = m.at_end h e

-- a step after others that gave no answer
pub moves_on : (answer : Option Next) (silent line : List ℕ) (a b c : Reader) (x y z : List ℕ) → Moves None silent a b x y → Moves answer line b c y z → Moves answer line a c x z
moves_on answer silent line a b c x y z m n = record {
  read = m.read ++ n.read;
  first_part = m.first_part ∙ ap (λ l. m.read ++ l) n.first_part ∙ sym (append_assoc m.read n.read z);
  lines = subst (λ s. Steps answer line s (to_come c z)) m.lines n.lines;
  not_yet = λ h. m.not_yet (n.not_yet h);
  at_end = λ h e. none_after answer line b c y z b.ended refl n (λ f. m.at_end f e) h;
  whole = λ h more. subst (λ s. Steps answer line s (whole_to_come c more))
      (m.whole (n.not_yet h) (n.read ++ more) ∙ ap (whole_to_come a) (sym (append_assoc m.read n.read more))) (n.whole h more);
}
