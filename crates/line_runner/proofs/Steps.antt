-- What the lines of a script are from a byte on, and at the end.
use Rattle.std.proofs.Common.{◌≡◌, ◌≢◌, ◌≤◌, ◌<◌, ℕ, zero, suc, ◌+◌, List, [], ◌∷◌, ◌++◌, length, take, drop, slice_index, false, eqb, inl, inr, refl, sym, ap, ◌∙◌, arith, append_assoc, append-nil, length-append}
use Rattle.std.proofs.lemmas.Bool.{eq-eqb}
use Rattle.std.proofs.lemmas.Bool.Decides.{eqb_tells}
use Rattle.line_runner.specs.ScriptLines.{Script, Ended, TooLong, TooMany, no_lines, first_line, last_line, lines_from, without_return, most_bytes, most_lines}

differ : (a b : ℕ) → a ≢ b → eqb a b ≡ false
differ a b ne = elim (eqb_tells a b) [ inl p ↦ absurd (ne p.1) | inr p ↦ p.0 ]

module _ (last : List ℕ → Script) where
  full : (n : ℕ) (begun rest : List ℕ) (b : ℕ) → n ≡ most_lines → lines_from last n begun (b ∷ rest) ≡ no_lines TooMany
  unfolding lines_from
  full n begun rest b e = rw (eq-eqb n most_lines e) refl

  newline : (n : ℕ) (begun rest : List ℕ) (b : ℕ) → n ≢ most_lines → b ≡ 10
      → lines_from last n begun (b ∷ rest) ≡ first_line (without_return begun) (lines_from last (n + 1) [] rest)
  unfolding lines_from
  newline n begun rest b ne e = rw (differ n most_lines ne, eq-eqb b 10 e) refl

  long : (n : ℕ) (begun rest : List ℕ) (b : ℕ) → n ≢ most_lines → b ≢ 10 → length begun ≡ most_bytes
      → lines_from last n begun (b ∷ rest) ≡ no_lines TooLong
  unfolding lines_from
  long n begun rest b ne other e = rw (differ n most_lines ne, differ b 10 other, eq-eqb (length begun) most_bytes e) refl

  byte : (n : ℕ) (begun rest : List ℕ) (b : ℕ) → n ≢ most_lines → b ≢ 10 → length begun ≢ most_bytes
      → lines_from last n begun (b ∷ rest) ≡ lines_from last n (begun ++ b ∷ []) rest
  unfolding lines_from
  byte n begun rest b ne other short = rw (differ n most_lines ne, differ b 10 other, differ (length begun) most_bytes short) refl

  pub ending : (n : ℕ) (begun : List ℕ) → lines_from last n begun [] ≡ last begun
  unfolding lines_from
  ending n begun = refl

  split : (n : ℕ) (begun waiting left : List ℕ) (b : ℕ) → waiting ≡ b ∷ drop 1 waiting
      → lines_from last n begun (waiting ++ left) ≡ lines_from last n begun (b ∷ (drop 1 waiting ++ left))
  split n begun waiting left b shown = ap (λ w. lines_from last n begun (w ++ left)) shown

  pub after_all : (n : ℕ) (begun waiting left : List ℕ) (b : ℕ) → waiting ≡ b ∷ drop 1 waiting → n ≡ most_lines
      → lines_from last n begun (waiting ++ left) ≡ no_lines TooMany
  after_all n begun waiting left b shown e = split n begun waiting left b shown ∙ full n begun (drop 1 waiting ++ left) b e

  pub after_newline : (n : ℕ) (begun waiting left : List ℕ) (b : ℕ) → waiting ≡ b ∷ drop 1 waiting → n ≢ most_lines → b ≡ 10
      → lines_from last n begun (waiting ++ left) ≡ first_line (without_return begun) (lines_from last (n + 1) [] (drop 1 waiting ++ left))
  after_newline n begun waiting left b shown ne e =
      split n begun waiting left b shown ∙ newline n begun (drop 1 waiting ++ left) b ne e

  pub after_too_long : (n : ℕ) (begun waiting left : List ℕ) (b : ℕ) → waiting ≡ b ∷ drop 1 waiting → n ≢ most_lines → b ≢ 10
      → length begun ≡ most_bytes → lines_from last n begun (waiting ++ left) ≡ no_lines TooLong
  after_too_long n begun waiting left b shown ne other e =
      split n begun waiting left b shown ∙ long n begun (drop 1 waiting ++ left) b ne other e

  pub after_byte : (n : ℕ) (begun waiting left : List ℕ) (b : ℕ) → waiting ≡ b ∷ drop 1 waiting → n ≢ most_lines → b ≢ 10
      → length begun ≢ most_bytes → lines_from last n begun (waiting ++ left) ≡ lines_from last n (begun ++ b ∷ []) (drop 1 waiting ++ left)
  after_byte n begun waiting left b shown ne other short =
      split n begun waiting left b shown ∙ byte n begun (drop 1 waiting ++ left) b ne other short

  -- bytes that are no newline and fit become part of the line
  pub after_run : (n : ℕ) (begun waiting left : List ℕ) (k : ℕ) → n ≢ most_lines → k ≤ length waiting → ((place : ℕ) → place < k → slice_index waiting place ≢ 10)
      → length begun + k ≤ most_bytes → lines_from last n begun (waiting ++ left) ≡ lines_from last n (begun ++ take k waiting) (drop k waiting ++ left)
  after_run n begun waiting left zero ne inside plain fits = ap (λ l. lines_from last n l (waiting ++ left)) (sym (append-nil begun))
  after_run n begun [] left (suc k) ne inside plain fits = absurd (omega arith)
  after_run n begun (b ∷ waiting) left (suc k) ne inside plain fits =
      let short : length begun ≢ most_bytes = λ e. omega (arith, fits, e) in
      let longer : length (begun ++ b ∷ []) + k ≤ most_bytes = rw (length-append begun (b ∷ [])) (omega (arith, fits)) in
      byte n begun (waiting ++ left) b ne (plain 0 (omega arith)) short
      ∙ after_run n (begun ++ b ∷ []) waiting left k ne (omega arith) (λ place low. plain (suc place) (omega arith)) longer
      ∙ ap (λ l. lines_from last n l (drop k waiting ++ left)) (append_assoc begun (b ∷ []) (take k waiting))

-- with nothing left and nothing begun, no line comes
pub at_end : (n : ℕ) (begun waiting : List ℕ) → waiting ≡ [] → length begun ≡ 0 → lines_from last_line n begun (waiting ++ []) ≡ no_lines Ended
at_end n [] waiting none empty = ap (λ w. lines_from last_line n [] (w ++ [])) none ∙ ending last_line n []
at_end n (b ∷ begun) waiting none empty = absurd (omega arith)

-- with nothing left, what has begun is the last line
pub at_last : (n : ℕ) (begun waiting : List ℕ) → waiting ≡ [] → length begun ≢ 0
    → lines_from last_line n begun (waiting ++ []) ≡ first_line begun (no_lines Ended)
at_last n [] waiting none some = absurd (some refl)
at_last n (b ∷ begun) waiting none some = ap (λ w. lines_from last_line n (b ∷ begun) (w ++ [])) none ∙ ending last_line n (b ∷ begun)
