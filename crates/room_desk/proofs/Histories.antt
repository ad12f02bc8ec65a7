-- Histories that begin with one another, and the entries of one pass in them.
use Rattle.std.proofs.Common.{◌≡◌, ◌≢◌, ℕ, cond, List, [], ◌∷◌, ◌++◌, length, refl, ap, sym, ◌∙◌, arith, eqb, eq-eqb, ne_eqb, length-append}
use Rattle.std.proofs.lemmas.List.Elements.{filter-append}
use Rattle.room_object.specs.Entry.{Entry}
use Rattle.room_desk.specs.History.{of_pass, Begins}

module _ {C : Type 0} where
  nothing : (l m : List (Entry C)) → l ++ m ≡ m → l ≡ []
  nothing [] m e = refl
  nothing (x ∷ xs) m e = let long : length (x ∷ xs ++ m) ≡ length m = ap length e in let sum = length-append (x ∷ xs) m in absurd (omega arith)

  -- what came on top of all that a pass has seen is none of its own, if none of its own is missing
  pub none_own : (p : ℕ) (log newer seen : List (Entry C)) → log ≡ newer ++ seen → of_pass p log ≡ of_pass p seen → of_pass p newer ≡ []
  none_own p log newer seen begins own =
      nothing (of_pass p newer) (of_pass p seen) (sym (filter-append (λ (e : Entry C). eqb e.pass p) newer seen) ∙ sym (ap (λ (l : List (Entry C)). of_pass p l) begins) ∙ own)

  pub own_entry : (p : ℕ) (e : Entry C) (log : List (Entry C)) → e.pass ≡ p → of_pass p (e ∷ log) ≡ e ∷ of_pass p log
  own_entry p e log is = ap (λ b. cond b (e ∷ of_pass p log) (of_pass p log)) (eq-eqb e.pass p is)

  pub other_entry : (p : ℕ) (e : Entry C) (log : List (Entry C)) → e.pass ≢ p → of_pass p (e ∷ log) ≡ of_pass p log
  other_entry p e log not = ap (λ b. cond b (e ∷ of_pass p log) (of_pass p log)) (ne_eqb e.pass p not)

  pub begins_more : (e : Entry C) (log seen : List (Entry C)) → Begins log seen → Begins (e ∷ log) seen
  begins_more e log seen b = (e ∷ b.0, ap (λ (l : List (Entry C)). e ∷ l) b.1)

  -- a call of a pass on top of others' entries is one more of its own
  pub one_more : (e : Entry C) (newer seen : List (Entry C)) → of_pass e.pass newer ≡ [] → of_pass e.pass (e ∷ (newer ++ seen)) ≡ e ∷ of_pass e.pass seen
  one_more e newer seen others =
      own_entry e.pass e (newer ++ seen) refl
      ∙ ap (λ (l : List (Entry C)). e ∷ l) (filter-append (λ (x : Entry C). eqb x.pass e.pass) newer seen ∙ ap (λ (l : List (Entry C)). l ++ of_pass e.pass seen) others)
