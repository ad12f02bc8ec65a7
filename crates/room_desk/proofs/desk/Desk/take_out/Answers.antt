use Rattle.std.proofs.Common.{◌≡◌, ◌<◌, IsSome, refl, ap, sym, subst, ◌∙◌}
use Rattle.room_desk.specs.History.{SetUp}
use Rattle.room_desk.proofs.Closing.{closed_with}
use Rattle.room_desk.proofs.desk.Desk.take_out.Goals as goal

pub unwrap-object-requires : goal.unwrap-object-requires
unwrap-object-requires g c =
    let same : c.self.inside.passes ≡ c.args.self.passes = ap (λ (d : SetUp). d.passes) c.self.view_is in
    let some_pass : 0 < c.args.self.passes = subst (λ n. 0 < n) same c.self.invariant.3 in
    let closed = closed_with g.O.Object.number g.O.Object.stands_for _ _ c.args.self.desk.object c.args.self.passes c.args.seat.me _ _ c.take.result (c.self.invariant.2 ∙ same) some_pass c.requires.all c.requires.rests
    c.close_with-closed.ensures.values.2 c.take.ensures.value in
    subst IsSome (sym closed.1) refl

pub returns-clause-united : goal.returns-clause-united
returns-clause-united g c =
    let same : c.self.inside.passes ≡ c.args.self.passes = ap (λ (d : SetUp). d.passes) c.self.view_is in
    let some_pass : 0 < c.args.self.passes = subst (λ n. 0 < n) same c.self.invariant.3 in
    let closed = closed_with g.O.Object.number g.O.Object.stands_for _ _ c.args.self.desk.object c.args.self.passes c.args.seat.me _ _ c.take.result (c.self.invariant.2 ∙ same) some_pass c.requires.all c.requires.rests
    c.close_with-closed.ensures.values.2 c.take.ensures.value in
    let object : closed.0 ≡ c.unwrap-object.result = cc (closed.1, c.unwrap-object.ensures) in
    (closed.3.0, subst (λ o. g.O.Object.stands_for o closed.3.0) object closed.3.1, closed.3.2)

pub returns-clause-number : goal.returns-clause-number
returns-clause-number g c =
    let same : c.self.inside.passes ≡ c.args.self.passes = ap (λ (d : SetUp). d.passes) c.self.view_is in
    let some_pass : 0 < c.args.self.passes = subst (λ n. 0 < n) same c.self.invariant.3 in
    let closed = closed_with g.O.Object.number g.O.Object.stands_for _ _ c.args.self.desk.object c.args.self.passes c.args.seat.me _ _ c.take.result (c.self.invariant.2 ∙ same) some_pass c.requires.all c.requires.rests
    c.close_with-closed.ensures.values.2 c.take.ensures.value in
    let object : closed.0 ≡ c.unwrap-object.result = cc (closed.1, c.unwrap-object.ensures) in
    sym (ap g.O.Object.number object) ∙ closed.2
