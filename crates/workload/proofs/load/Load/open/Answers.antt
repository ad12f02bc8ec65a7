use Rattle.std.proofs.Common.{◌++◌, ◌∙◌, length, ap, subst, sym, arith}
use Rattle.std.proofs.lemmas.List.{append-nil}
use Rattle.std.proofs.lemmas.Result.{on_ok_weaker}
use Rattle.any_game.specs.AnyRules.{any_rules, named}
use Rattle.hall_history.specs.Opening.{after_open}
use Rattle.world_history.specs.Workload.{places_from, with_match}
use Rattle.workload.specs.IsLoad.{HeldLoad, IsLoad}
use Rattle.workload.proofs.Loads.{none_made, opened, seats_opened, unknown_game}
use Rattle.workload.proofs.Rounds.{count_with}
use Rattle.workload.proofs.load.Load.open.Goals as goal

-- no match was made
pub returns-in_default-clause-opened : goal.returns-in_default-clause-opened
returns-in_default-clause-opened c = λ tape words lines l is.
    let old : HeldLoad = record { world = c.self.inside.world; places = c.self.inside.places.items; tape = c.self.inside.tape; counts = c.self.inside.counts } in
    let held = subst (λ x. IsLoad tape words lines x l) (sym c.self.view_is) is in
    let made = c.in_ok-made.ensures tape l.world held.world in
    let said = (after_open named any_rules tape l.world.hall c.args.game.now c.args.seats).1 in
    opened tape words lines old l held c.open_match.new.self c.args.game.now c.args.seats c.in_ok-made.made old.places made
    (sym (ap (λ places. old.places ++ places) (none_made (named c.args.game.now) said c.args.seats (sym c.in_default.is ∙ made.is)) ∙ append-nil old.places))

-- there is no such game
pub returns-in-None-clause-opened : goal.returns-in-None-clause-opened
returns-in-None-clause-opened c = λ tape words lines l is.
    let old : HeldLoad = record { world = c.self.inside.world; places = c.self.inside.places.items; tape = c.self.inside.tape; counts = c.self.inside.counts } in
    let held = subst (λ x. IsLoad tape words lines x l) (sym c.self.view_is) is in
    let made = c.in_ok-made.ensures tape l.world held.world in
    let said = (after_open named any_rules tape l.world.hall c.args.game.now c.args.seats).1 in
    opened tape words lines old l held c.open_match.new.self c.args.game.now c.args.seats c.in_ok-made.made old.places made
    (sym (ap (λ places. old.places ++ places) (unknown_game (named c.args.game.now) said c.args.seats (sym c.in-None.is ∙ c.in_ok-game.ensures)) ∙ append-nil old.places))

pub returns-in-Some-2-clause-opened : goal.returns-in-Some-2-clause-opened
returns-in-Some-2-clause-opened c = λ tape words lines l is.
    let old : HeldLoad = record { world = c.self.inside.world; places = c.self.inside.places.items; tape = c.self.inside.tape; counts = c.self.inside.counts } in
    let held = subst (λ x. IsLoad tape words lines x l) (sym c.self.view_is) is in
    let made = c.in_ok-made.ensures tape l.world held.world in
    let done = after_open named any_rules tape l.world.hall c.args.game.now c.args.seats in
    let seats = seats_opened (named c.args.game.now) c.in-Some-2.game c.in-Some.name done.1 c.args.seats (sym c.in-Some-2.is ∙ c.in_ok-game.ensures) (sym c.in-Some.is ∙ made.is) in
    on_ok_weaker c.add_match.result
    (λ e. subst (λ x. IsLoad tape words lines x (with_match named any_rules tape l (named c.args.game.now) c.args.seats done)) (sym e)
    (opened tape words lines old l held c.open_match.new.self c.args.game.now c.args.seats c.in_ok-made.made (old.places ++ places_from c.in-Some-2.game c.in-Some.name 0 c.args.seats) made
    (ap (λ places. old.places ++ places) (sym seats))))
    c.add_match.ensures

pub returns-in-Some-2-clause-few : goal.returns-in-Some-2-clause-few
returns-in-Some-2-clause-few c =
    on_ok_weaker c.add_match.result
    (λ e. omega (arith, ap (λ (x : HeldLoad). length x.places) e, count_with c.self.inside.places.items c.in-Some-2.game c.in-Some.name c.args.seats, ap (λ (x : HeldLoad). length x.places) c.self.view_is))
    c.add_match.ensures
