-- What lines print, one after another.
use Rattle.std.proofs.Common.{◌≡◌, ℕ, List, [], ◌∷◌, ◌++◌, Some, None, ap, ◌∙◌}
use Rattle.line_runner.specs.Play.{Doing, IsPlay, Play, printed, steps_of}
use Rattle.std.specs.Option.{option_map_or}

module _ {Mark Step State Held : Type 0} (p : Play Mark Step State) (d : Doing Mark Step State Held) (ok : IsPlay p d) where
  pub nothing_printed : (marks : List Mark) (s : State) → printed p marks [] s ≡ []
  unfolding printed
  nothing_printed marks s = ok.none marks s

  pub line_printed : (mark : Mark) (marks : List Mark) (line : List ℕ) (lines : List (List ℕ)) (step : Step) (s : State) → p.form line ≡ Some step
      → printed p (mark ∷ marks) (line ∷ lines) s ≡ (d.does mark step s).1 ++ printed p marks lines (d.does mark step s).0
  unfolding printed
  line_printed mark marks line lines step s e =
      ap (λ o. (p.runs (mark ∷ marks) (option_map_or (λ step. step ∷ steps_of p.form lines) o []) s).1) e ∙ ok.more mark marks step (steps_of p.form lines) s

  pub bad_printed : (marks : List Mark) (line : List ℕ) (lines : List (List ℕ)) (s : State) → p.form line ≡ None → printed p marks (line ∷ lines) s ≡ []
  unfolding printed
  bad_printed marks line lines s e = ap (λ o. (p.runs marks (option_map_or (λ step. step ∷ steps_of p.form lines) o []) s).1) e ∙ ok.none marks s
