-- One exchange more.
use Rattle.std.proofs.Common.{◌-◌, sym, ap, ◌∙◌, arith}
use Rattle.dice_words.proofs.StripLemmas.{follows_trans}
use Rattle.game_slots.specs.declared.work_table.WorkTable.{WorkTable}
use Rattle.game_code.proofs.ShuffleLemmas.{down_step}
use Rattle.game_code.specs.Runs.{shuffled_down, swapped_at}
use Rattle.game_code.specs.Setting.{setting_of}
use Rattle.game_code.proofs.changes.shuffle.Goals as goal

pub loop-last-preserved : goal.loop-last-preserved
loop-last-preserved c =
    let swap = swapped_at (setting_of c.args.scene.now) c.args.place in
    let last = c.loop-last.last - 1 in
    let rolled = c.in_ok-face.ensures.rolled in
    let held = c.loop-last.play.held in
    let step = down_step swap last (last - 1) rolled.word held c.loop-last.play.tape.left c.die.new.self.left c.loop-last.play.events (omega (arith, c.loop-last-test.true)) rolled.drawn in
    record {
      deed = ap (λ (h : WorkTable). shuffled_down swap (last - 1) h c.die.new.self.left c.loop-last.play.events) (c.in_ok-swap.ensures ∙ ap (λ f. swap last (f - 1) held) rolled.shown) ∙ sym step ∙ c.loop-last.invariant.deed;
      follows = follows_trans _ _ _ c.loop-last.invariant.follows c.die.ensures.follows;
    }
