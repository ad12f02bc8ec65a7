use Rattle.std.proofs.Common.{◌≡◌, ◌<◌, ◌+◌, ◌∷◌, ◌∙◌, List, ℕ, length, refl, sym, ap, subst, arith}
use Rattle.std.proofs.lemmas.Result.{on_ok_weaker}
use Rattle.session_hall.proofs.Tapes.{next_words}
use Rattle.workload.specs.IsLoad.{HeldLoad, IsLoad, draws}
use Rattle.workload.proofs.Stepping.{begins, drawn_more, first_is, of_some, some_first, steps_by, with_tape}
use Rattle.workload.proofs.load.Load.take_step.Goals as goal

pub returns : goal.returns
returns c = λ tape words lines l below is.
    let old : HeldLoad = record { world = c.self.inside.world; places = c.self.inside.places.items; tape = c.self.inside.tape; counts = c.self.inside.counts } in
    let held = subst (λ x. IsLoad tape words lines x l) (sym c.self.view_is) is in
    let client = c.face-client.ensures in
    let deed = c.face-deed.ensures in
    let begun = subst (λ strip. IsLoad tape words lines (with_tape tape words old strip) l) (sym c.begin.ensures.value) (begins tape words lines old l held) in
    let one = drawn_more tape words lines (with_tape tape words old c.begin.new.self) c.face-client.new.tape l 1 begun client.follows.same_source client.follows.same_start client.counted in
    let two = drawn_more tape words lines (with_tape tape words old c.face-client.new.tape) c.face-deed.new.tape (draws 1 l) 1 one deed.follows.same_source deed.follows.same_start deed.counted in
    let many = of_some old.tape.source (length c.begin.new.self.left ≡ 256) held.drawn.live c.begin.ensures.whole in
    let there : 0 < length c.face-deed.new.tape.left = omega (arith, many, ap (λ (ws : List ℕ). length ws) client.rolled.drawn, ap (λ (ws : List ℕ). length ws) deed.rolled.drawn) in
    let third = some_first c.face-deed.new.tape.left there in
    let rest = first_is c.face-deed.new.tape.left third.0 third.1 in
    let whole : words l.drawn ≡ c.begin.new.self.left = sym (next_words words l.drawn old.tape held.drawn) ∙ sym (ap (λ (s : _). s.left) c.begin.ensures.value) in
    on_ok_weaker c.go.result
    (λ done. steps_by tape words l (lines + 1) c.face-client.result c.face-deed.result client.rolled.word deed.rolled.word third.0 _ _ c.begin.new.self.left c.face-client.new.tape.left rest.0 c.go.new.self
    whole client.rolled.drawn (deed.rolled.drawn ∙ ap (λ ws. deed.rolled.word ∷ ws) rest.1) client.rolled.shown deed.rolled.shown refl refl done)
    (c.go.ensures tape words lines (draws 1 (draws 1 l)) third.0 below two third.1)
