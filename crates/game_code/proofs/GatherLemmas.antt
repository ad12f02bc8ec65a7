-- One number more of a span.
use Rattle.std.proofs.Common.{◌≡◌, ℕ, suc, ◌+◌, ◌-◌, ◌<◌, ℤ, Bool, true, false, if◌then◌else◌, Option, Some, sym, ap, ◌∙◌, arith}
use Rattle.game_sheet.specs.declared.args.Arg.{Arg}
use Rattle.slot_values.specs.Spans.{first_over, next, put_together}
use Rattle.slot_values.specs.Values.{is_true, number_of}

module _ (body : Option ℤ → Option Arg) (n k : ℕ) (i : Option ℤ) (below : k < n) where
  one_more : n - k ≡ suc (n - (k + 1))
  one_more = omega (arith, below)

  -- it isn't true at this number
  pub first_more : (j : Option ℤ) (value : Option Arg) (holds : Bool) (end : Option ℤ) → j ≡ next i → value ≡ body i → holds ≡ is_true value → holds ≡ false
      → first_over body (n - k) i ≡ end → first_over body (n - (k + 1)) j ≡ end
  first_more j value holds end is_next is_value is_holds isnt known =
      let here : is_true (body i) ≡ false = ap is_true (sym is_value) ∙ sym is_holds ∙ isnt in
      ap (first_over body (n - (k + 1))) is_next ∙ sym (ap (λ b. if b then i else first_over body (n - (k + 1)) (next i)) here) ∙ sym (ap (λ m. first_over body m i) one_more) ∙ known

  -- it is true at this number
  pub first_here : (value : Option Arg) (holds : Bool) (end : Option ℤ) → value ≡ body i → holds ≡ is_true value → holds ≡ true → first_over body (n - k) i ≡ end → i ≡ end
  first_here value holds end is_value is_holds does known =
      let here : is_true (body i) ≡ true = ap is_true (sym is_value) ∙ sym is_holds ∙ does in
      sym (ap (λ b. if b then i else first_over body (n - (k + 1)) (next i)) here) ∙ sym (ap (λ m. first_over body m i) one_more) ∙ known

  -- one number more is put to what there is so far
  pub together_more : (with : Option ℤ → Option ℤ → Option ℤ) (j so_far more : Option ℤ) (value : Option ℤ) (end : Option ℤ) → j ≡ next i → value ≡ number_of (body i) → more ≡ with so_far value
      → put_together with body (n - k) i so_far ≡ end → put_together with body (n - (k + 1)) j more ≡ end
  together_more with j so_far more value end is_next is_value is_more known =
      ap (λ z. put_together with body (n - (k + 1)) z more) is_next ∙ ap (put_together with body (n - (k + 1)) (next i)) (is_more ∙ ap (with so_far) is_value)
      ∙ sym (ap (λ m. put_together with body m i so_far) one_more) ∙ known
