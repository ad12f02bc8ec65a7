-- What a line comes to, by what its step comes to.
use Rattle.std.proofs.Common.{◌≡◌, ℕ, List, ◌++◌, Option, Some, None, Result, Ok, Err, OnOk, ap, sym, subst, ◌∙◌}
use Rattle.line_runner.specs.Play.{RunsLine, ended_by}
use Rattle.line_runner.specs.declared.interpreter.LineNo.{LineNo}
use Rattle.line_runner.specs.declared.interpreter.LineNo.TheVariants.{BadLine, NoMemory}
use Rattle.page_player.specs.Page.{BeganBy, Ran, Sits, does, page_doing, page_play}
use Rattle.page_player.specs.PageLines.{PageStep, step_of}

module _ {A E : Type 0} (told : Result A E) (old new : Sits) (line before after : List ℕ) where
  pub page_line : (step : PageStep) → step_of line ≡ Some step → OnOk told (Ran step old new before after)
      → (s : Sits) → page_doing.Stands old s → RunsLine page_play page_doing s line new before after (ended_by told)
  unfolding page_play page_doing
  page_line step e f s stands = by told f
    where
      by : (r : Result A E) → OnOk r (Ran step old new before after) → RunsLine page_play page_doing s line new before after (ended_by r)
      by (Ok x) d = record {
        step = step;
        in_form = e;
        does = record { mark = tt; stands = d.0 ∙ ap (λ o. (does step o).0) stands; added = d.1 ∙ ap (λ o. before ++ (does step o).1) stands };
      }
      by (Err x) d = tt

-- a line that begins at a match, by what its form comes to
module _ {A : Type 0} (old new : Sits) (line before after : List ℕ) where
  pub began_line : (told : Result A LineNo) (form : Option PageStep) → step_of line ≡ form → BeganBy form told old new before after
      → (s : Sits) → page_doing.Stands old s → RunsLine page_play page_doing s line new before after told
  unfolding page_play page_doing
  began_line (Ok x) form e b s stands = record {
    step = b.0;
    in_form = e ∙ b.1;
    does = record { mark = tt; stands = b.2.0 ∙ ap (λ o. (does b.0 o).0) stands; added = b.2.1 ∙ ap (λ o. before ++ (does b.0 o).1) stands };
  }
  began_line (Err BadLine) form e b s stands = (e ∙ b.0, b.1 ∙ stands)
  began_line (Err NoMemory) form e b s stands = tt

-- a page on which no line has begun
pub stands_first : (page : Sits) → page ≡ None → page_doing.Stands page None
unfolding page_doing
stands_first page e = e
