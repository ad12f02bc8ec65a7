-- What is left to be shuffled from here is all that was to be.
use Rattle.std.proofs.Common.{◌≡◌, ◌-◌}
use Rattle.dice_words.specs.Strip.{Follows}
use Rattle.game_code.specs.Runs.{shuffled_down, swapped_at}
use Rattle.game_code.specs.Setting.{setting_of}
use Rattle.game_code.proofs.changes.shuffle.Given as goal

abbrev pub invariant-loop-last : goal.invariant-loop-last
invariant-loop-last l =
    let swap = swapped_at (setting_of l.scene) l.place in
    record {
      deed : shuffled_down swap (l.last - 1) l.play.held l.play.tape.left l.play.events ≡ shuffled_down swap (l.count - 1) l.initial.play.held l.initial.play.tape.left l.initial.play.events;
      follows : Follows l.initial.play.tape l.play.tape;
    }
