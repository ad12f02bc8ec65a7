use Rattle.std.proofs.Common.{◌-◌, sym, ◌∙◌, arith}
use Rattle.std.proofs.lemmas.List.Sorted.{IsPermutation-trans}
use Rattle.dice_words.proofs.ShuffleLemmas.{shuffled_done, shuffled_out, shuffled_step, shuffled_some, shuffled_none, at_any}
use Rattle.dice_words.proofs.StripLemmas.{follows_trans}
use Rattle.dice_words.proofs.tape.Tape.shuffle.Goals as goal

pub returns-in_err-face-clause-spent : goal.returns-in_err-face-clause-spent
returns-in_err-face-clause-spent c =
    at_any c.from_residual.result (sym c.loop-place.invariant.same ∙ shuffled_out _ _ _ (omega arith) c.in_err-face.ensures.spent)

pub loop-place-preserved : goal.loop-place-preserved
loop-place-preserved c =
    let rolled = c.in_ok-face.ensures.rolled in
    let step = shuffled_step (c.loop-place.place - 1) (c.loop-place.place - 1 - 1) rolled.word c.loop-place.list c.loop-place.self.left c.die.new.self.left (omega arith) rolled.drawn in
    record {
      same = rw (c.swap.ensures.after, rolled.shown) (sym step ∙ c.loop-place.invariant.same);
      permuted = IsPermutation-trans _ _ _ c.loop-place.invariant.permuted c.swap.ensures.permutation;
      follows = follows_trans _ _ _ c.loop-place.invariant.follows c.die.ensures.follows;
    }

pub returns-clause-shuffled : goal.returns-clause-shuffled
returns-clause-shuffled c = sym c.loop-place.invariant.same ∙ shuffled_done _ _ _ (omega arith)

pub returns-in_err-face-clause-short : goal.returns-in_err-face-clause-short
returns-in_err-face-clause-short c =
    let few = shuffled_none _ _ _ (sym c.loop-place.invariant.same ∙ shuffled_out _ _ _ (omega arith) c.in_err-face.ensures.spent) in
    at_any c.from_residual.result (omega arith)

pub returns-clause-counted : goal.returns-clause-counted
returns-clause-counted c =
    let drawn = shuffled_some _ _ _ _ _ (sym c.loop-place.invariant.same ∙ shuffled_done _ _ _ (omega arith)) in
    omega (arith, drawn, c.loop-place.invariant.follows.same_total)
