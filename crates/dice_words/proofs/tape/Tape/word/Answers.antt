use Rattle.std.proofs.Common.{ap, sym, ◌∙◌, subst, Some, ◌+◌}
use Rattle.dice_words.specs.Reading.{strip_of}
use Rattle.dice_words.specs.Strip.{Follows}
use Rattle.dice_words.proofs.StripLemmas.{none_left, next_left, drew_next}
use Rattle.dice_words.proofs.tape.Tape.word.Goals as goal

pub returns-then-self-eq-MOST_WORDS-clause-spent :
    goal.returns-then-self-eq-MOST_WORDS-clause-spent
returns-then-self-eq-MOST_WORDS-clause-spent c =
    ap (λ s. s.left) (sym c.self.view_is) ∙ none_left c.self.inside.stream c.self.inside.start c.self.inside.used c.if-self-eq-MOST_WORDS.true

pub returns-clause-drawn : goal.returns-clause-drawn
returns-clause-drawn c =
    let next = next_left c.self.inside.stream c.in-Some.stream c.self.inside.start c.self.inside.used c.in-Some.is c.self.invariant c.if-self-eq-MOST_WORDS.false in
    rw (c.next.ensures.word, c.next.ensures.moved) (ap (λ s. s.left) (sym c.self.view_is) ∙ next)

pub returns-clause-follows : goal.returns-clause-follows
returns-clause-follows c =
    subst (λ s. Follows s (strip_of (Some c.next.new.self) c.self.inside.start (c.self.inside.used + 1))) c.self.view_is
    (drew_next c.self.inside.stream c.in-Some.stream c.next.new.self c.self.inside.start c.self.inside.used c.in-Some.is c.if-self-eq-MOST_WORDS.false c.self.invariant (ap (λ r. r.source) c.next.ensures.moved))
