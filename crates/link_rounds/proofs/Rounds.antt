-- One step more in a round.
use Rattle.std.proofs.Common.{◌≡◌, ◌≢◌, ◌+◌, ◌<◌, ◌≤◌, ◌==◌, ℕ, suc, cond, List, length, take, set, slice_index_or, Option, subst, sym, ap, ◌∙◌, arith, length-set, get_or-set_same, get_or-set_other, subst₂}
use Rattle.std.proofs.lemmas.List.{get_or_default}
use Rattle.std.proofs.lemmas.List.Sums.{sum_by_more}
use Rattle.std.proofs.lemmas.Bool.{eq-eqb, ne_eqb}
use mathlib.Core.Logic.{dite}
use native.Mathlib.Decide.{ℕ_discrete}
use Rattle.board_links.specs.declared.link.Came.{Came}
use Rattle.board_links.specs.declared.link.SessionEnd.{SessionEnd}
use Rattle.link_rounds.specs.Places.{About, Round, Seat, Step, Steps, times}

one_more : (k : ℕ) (numbers : List ℕ) (i n : ℕ) → i < length numbers → slice_index_or numbers i 0 ≡ n → times k (take (i + 1) numbers) ≡ times k (take i numbers) + cond (n == k) 1 0
one_more k numbers i n low is = sum_by_more (λ x. cond (x == k) 1 0) numbers i 0 low ∙ ap (λ m. times k (take i numbers) + cond (m == k) 1 0) is

named : (k : ℕ) (numbers : List ℕ) (i n : ℕ) → i < length numbers → slice_index_or numbers i 0 ≡ n → n ≡ k → times k (take (i + 1) numbers) ≡ suc (times k (take i numbers))
named k numbers i n low is e = let m = one_more k numbers i n low is in let one = ap {B = ℕ} (λ b. cond b 1 0) (eq-eqb n k e) in omega (arith, m, one)

unnamed : (k : ℕ) (numbers : List ℕ) (i n : ℕ) → i < length numbers → slice_index_or numbers i 0 ≡ n → n ≢ k → times k (take (i + 1) numbers) ≡ times k (take i numbers)
unnamed k numbers i n low is e = let m = one_more k numbers i n low is in let none = ap {B = ℕ} (λ b. cond b 1 0) (ne_eqb n k e) in omega (arith, m, none)

-- what holds of an item that was read holds of it whatever the default is
pub at_any : {X : Type 0} (P : X → Type 0) (xs : List X) (n : ℕ) (x d : X) → n < length xs → P (slice_index_or xs n x) → P (slice_index_or xs n d)
at_any P xs n x d low p = subst P (get_or_default xs n x d low) p

module _ {S L : Type 0} (turn : S → List Came → List ℕ → Option SessionEnd → S → Option (List Came) → Option (List ℕ) → Type 0) (leave : S → S → Type 0) (a : About L) where
  pub round_past : (numbers : List ℕ) (i n : ℕ) (places mid : List (Seat S L)) → i < length numbers → slice_index_or numbers i 0 ≡ n → length mid ≤ n
      → Round turn leave a (take i numbers) places mid → Round turn leave a (take (i + 1) numbers) places mid
  round_past numbers i n places mid low is past so =
      (so.0, λ k d here. subst (λ m. Steps turn leave a m (slice_index_or places k d) (slice_index_or mid k d)) (sym (unnamed k numbers i n low is (λ e. absurd (omega (arith, e, past, here, so.0))))) (so.1 k d here))

  pub round_more : (numbers : List ℕ) (i n : ℕ) (places mid after : List (Seat S L)) (q : Seat S L) → i < length numbers → slice_index_or numbers i 0 ≡ n → n < length mid
      → after ≡ set mid n q → ((d : Seat S L) → Step turn leave a (slice_index_or mid n d) q)
      → Round turn leave a (take i numbers) places mid → Round turn leave a (take (i + 1) numbers) places after
  round_more numbers i n places mid after q low is inside e step so =
      let at : (k : ℕ) (d : Seat S L) → k < length places → Steps turn leave a (times k (take (i + 1) numbers)) (slice_index_or places k d) (slice_index_or after k d) =
      λ k d here. dite (ℕ_discrete n k)
      (λ same.
      let q_is : slice_index_or after k d ≡ q = ap (λ l. slice_index_or l k d) e ∙ (ap (λ j. slice_index_or (set mid n q) j d) (sym same) ∙ get_or-set_same mid n q d inside) in
      subst (λ m. Steps turn leave a m (slice_index_or places k d) (slice_index_or after k d)) (sym (named k numbers i n low is same))
      (slice_index_or mid k d, so.1 k d here, subst₂ (λ j r. Step turn leave a (slice_index_or mid j d) r) same (sym q_is) (step d)))
      (λ other.
      let kept : slice_index_or after k d ≡ slice_index_or mid k d = ap (λ l. slice_index_or l k d) e ∙ get_or-set_other mid n k q d (λ f. other (sym f)) in
      subst₂ (λ m r. Steps turn leave a m (slice_index_or places k d) r) (sym (unnamed k numbers i n low is other)) (sym kept) (so.1 k d here))
      in (ap length e ∙ (length-set mid n q ∙ so.0), λ k d here. at k d here)
