use Rattle.std.proofs.Common.{◌≡◌, ◌-◌, length, IsPermutation}
use Rattle.dice_words.specs.Dice.{shuffled_from}
use Rattle.dice_words.specs.Strip.{Follows}
use Rattle.dice_words.proofs.tape.Tape.shuffle.Given as goal

abbrev pub invariant-loop-place : goal.invariant-loop-place
invariant-loop-place l = record {
  same : shuffled_from (l.place - 1) l.list l.self.left ≡ shuffled_from (length l.initial.list - 1) l.initial.list l.initial.self.left;
  permuted : IsPermutation l.initial.list l.list;
  follows : Follows l.initial.self l.self;
}
