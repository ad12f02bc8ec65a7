-- What the rounds that are left do from here is what all do from the beginning.
use Rattle.std.proofs.Common.{◌≡◌, ◌∷◌, ◌-◌, ℤ, Option}
use Rattle.dice_words.specs.Strip.{Follows}
use Rattle.game_code.specs.Meaning.{values_of}
use Rattle.game_code.specs.Runs.{rounds, run}
use Rattle.game_code.specs.Setting.{setting_of}
use Rattle.slot_values.specs.Values.{whole}
use Rattle.game_code.proofs.runs.+run.Given as goal

abbrev pub invariant-repeat-loop : goal.invariant-repeat-loop
invariant-repeat-loop l =
    let body = λ (i : Option ℤ). run l.body (setting_of l.scene) (whole i ∷ values_of l.locals) in
    record {
      deed : rounds body (l.count - l.counter) l.i l.play.held l.play.tape.left l.play.events ≡ rounds body l.count l.fn.first l.initial.play.held l.initial.play.tape.left l.initial.play.events;
      follows : Follows l.initial.play.tape l.play.tape;
    }
