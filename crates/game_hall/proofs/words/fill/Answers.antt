use Rattle.std.proofs.Common.{◌∙◌}
use Rattle.game_hall.proofs.Filling.{goes_on, one_more}
use Rattle.game_hall.proofs.words.fill.Goals as goal

pub loop-place-preserved : goal.loop-place-preserved
loop-place-preserved c = record {
  drawn = one_more c.loop-place.place c.in-Ok.word c.args.tape.now c.loop-place.tape c.word.new.self c.loop-place.invariant.drawn c.in-Ok.ensures.drawn c.in-Ok.ensures.counted c.in-Ok.ensures.follows;
  whole = c.write_word.auto.bytes ∙ c.loop-place.invariant.whole;
  so_far = goes_on c.args.words c.loop-place.place c.in-Ok.word c.loop-place.bytes c.write_word.new.bytes c.loop-place.tape.left c.word.new.self.left _ c.loop-place-test.true c.loop-place.invariant.whole c.in-Ok.ensures.drawn c.write_word.ensures c.loop-place.invariant.so_far;
}
