use Rattle.std.proofs.Common.{ap, sym, ◌∙◌, Some}
use Rattle.std.specs.Prelude.{slice_get}
use Rattle.dice_words.proofs.StripLemmas.{none_left, next_left}
use Rattle.dice_words.proofs.tape.Tape.peek.Goals as goal

pub returns-then-self-eq-MOST_WORDS-clause-spent : goal.returns-then-self-eq-MOST_WORDS-clause-spent
returns-then-self-eq-MOST_WORDS-clause-spent c =
    ap (λ s. s.left) (sym c.self.view_is) ∙ none_left c.self.inside.stream c.self.inside.start c.self.inside.used c.if-self-eq-MOST_WORDS.true

pub returns-clause-next : goal.returns-clause-next
returns-clause-next c =
    let next = next_left c.self.inside.stream c.in-Some.stream c.self.inside.start c.self.inside.used c.in-Some.is c.self.invariant c.if-self-eq-MOST_WORDS.false in
    rw (c.next-word.ensures.word) (ap (λ s. slice_get s.left 0) (sym c.self.view_is) ∙ ap (λ left. slice_get left 0) next)
