-- One more answer that is kept.
use Rattle.std.proofs.Common.{◌≡◌, ◌+◌, ◌++◌, ℕ, List, [], ◌∷◌, ap, refl, sym, ◌∙◌, append_assoc, OnOk, Result, Ok, Err}
use Rattle.std.proofs.lemmas.Grind.{replicate_next}
use Rattle.board_links.specs.declared.link.Came.{Came}
use Rattle.board_links.specs.declared.link.Came.TheVariants as came
use Rattle.board_bots.specs.Runs.{answers_of, came_of, silences, told_of}
use Rattle.board_bots.specs.declared.answers.Run.{Run}

onto : (ones more : List Came) (a : Came) (both rest : List Came) → both ≡ rest ++ more → ones ++ a ∷ both ≡ (ones ++ a ∷ rest) ++ more
onto ones more a both rest e = ap (λ l. ones ++ a ∷ l) e ∙ sym (append_assoc ones (a ∷ rest) more)

runs_more : (runs : List Run) (run : Run) → answers_of (runs ++ run ∷ []) ≡ answers_of runs ++ (silences run.quiet ++ came_of run.spoken ∷ [])
runs_more [] run = refl
runs_more (first ∷ runs) run = onto (silences first.quiet) (silences run.quiet ++ came_of run.spoken ∷ []) (came_of first.spoken) (answers_of (runs ++ run ∷ [])) (answers_of runs) (runs_more runs run)

no_more : (l : List Came) → l ++ [] ≡ l
no_more [] = refl
no_more (x ∷ l) = ap (λ m. x ∷ m) (no_more l)

pub told_more : (runs after : List Run) (run : Run) → after ≡ runs ++ run ∷ [] → told_of after 0 ≡ told_of runs run.quiet ++ came_of run.spoken ∷ []
told_more runs after run e =
    no_more (answers_of after) ∙ ap answers_of e ∙ runs_more runs run ∙ sym (append_assoc (answers_of runs) (silences run.quiet) (came_of run.spoken ∷ []))

pub one_silence : (runs : List Run) (quiet : ℕ) → told_of runs (quiet + 1) ≡ told_of runs quiet ++ came.Quiet ∷ []
one_silence runs quiet = ap (λ l. answers_of runs ++ l) (replicate_next quiet came.Quiet) ∙ sym (append_assoc (answers_of runs) (silences quiet) (came.Quiet ∷ []))

pub on_ok : {A E : Type 0} (P Q : Type 0) (r : Result A E) → (P → Q) → OnOk r P → OnOk r Q
on_ok P Q (Ok x) f h = f h
on_ok P Q (Err e) f h = h
