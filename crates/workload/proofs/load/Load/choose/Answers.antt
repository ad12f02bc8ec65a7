use Rattle.std.proofs.Common.{◌≡◌, ◌+◌, Some, subst, sym}
use Rattle.std.specs.Prelude.{OnOk, slice_get}
use Rattle.any_game.specs.AnyRules.{any_rules, named}
use Rattle.world_history.specs.Workload.{choice_words, goes}
use Rattle.world_history.specs.World.{Acts}
use Rattle.workload.specs.IsLoad.{HeldLoad, IsLoad, draws}
use Rattle.workload.proofs.Stepping.{drawn_more}
use Rattle.workload.proofs.load.Load.choose.Goals as goal

pub returns : goal.returns
returns c = λ tape words lines l word below is first.
    let old : HeldLoad = record { world = c.self.inside.world; places = c.self.inside.places.items; tape = c.self.inside.tape; counts = c.self.inside.counts } in
    let held = subst (λ x. IsLoad tape words lines x l) (sym c.self.view_is) is in
    let first_inside = subst (λ (x : HeldLoad). slice_get x.tape.left 0 ≡ Some word) (sym c.self.view_is) first in
    let n = choice_words any_rules (l.world.clients c.args.client) in
    let follows = c.in_ok-asked.ensures.follows in
    let drawn = drawn_more tape words lines old c.choose.new.tape l n held follows.same_source follows.same_start (c.in_ok-asked.ensures.drawn tape l.world held.world) in
    subst (λ asked. OnOk c.act_as.result (IsLoad tape words (lines + 1) c.act_as.new.self (goes named any_rules tape (Acts c.args.client asked) (draws n l))))
    (c.in_ok-asked.ensures.asked tape l.world word held.world first_inside) (c.act_as.ensures tape words lines (draws n l) below drawn)
