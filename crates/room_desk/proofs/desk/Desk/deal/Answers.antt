use Rattle.std.proofs.Common.{◌≡◌, ◌<◌, ◌+◌, ◌-◌, ◌∷◌, ◌++◌, List, [], None, Some, false, Option, refl, ap, sym, subst, ◌∙◌, arith}
use Rattle.atomic_table.specs.Table.{Me}
use Rattle.room_desk.specs.History.{SetUp, Held, held}
use Rattle.room_desk.specs.Turns.{Past, View, fresh, past, view, before_in, seen_in}
use Rattle.room_desk.specs.Plays.{Rests, noted, left_of, right_of}
use Rattle.room_desk.proofs.Ends.{fresh_next, dealt_next}
use Rattle.room_desk.proofs.Parts.{splits}
use Rattle.room_desk.proofs.desk.Desk.deal.Goals as goal

pub split_seat-seat-requires : goal.split_seat-seat-requires
split_seat-seat-requires g c =
    let k = c.loop-number.number in
    let seen = seen_in c.args.seat.me.0.pasts in
    let n = c.args.self.now.passes in
    let kept = c.loop-number.invariant in
    let same : c.self.inside.passes ≡ n = ap (λ (d : SetUp). d.passes) c.self.view_is in
    let lt : k < c.self.inside.passes = c.loop-number-test.true in
    let first : c.loop-number.seat.me.0.pasts ≡ past k seen seen ∷ fresh seen (k + 1) (n - (k + 1)) =
    ap (λ x. x.0.pasts) kept.1 ∙ fresh_next seen k n (omega arith) in (
      kept.0 ∙ sym (ap (λ (d : SetUp). d.desk.table) c.self.view_is),
      let two = c.self.invariant.0 in omega arith,
      splits g.O.Object.number g.O.Object.stands_for _ _ _ k seen seen (fresh seen (k + 1) (n - (k + 1))) c.loop-number.seat.me.0 (ap (λ x. x.0.object) kept.1) (ap (λ x. x.0.ticket) kept.1) (ap (λ x. x.0.turn) kept.1) first,
    )

pub invariant_of-push : goal.invariant_of-push
invariant_of-push g c =
    let k = c.loop-number.number in
    let seen = seen_in c.args.seat.me.0.pasts in
    let n = c.args.self.now.passes in
    let kept = c.loop-number.invariant in
    let same : c.self.inside.passes ≡ n = ap (λ (d : SetUp). d.passes) c.self.view_is in
    let lt : k < c.self.inside.passes = c.loop-number-test.true in
    let object = c.args.self.now.desk.object in
    let is : c.split_seat-seat.result.me ≡ (view (Some object) (past k seen seen ∷ []) None false, []) =
    c.split_seat-seat.ensures.4 ∙ (ap (λ (x : Me (Option g.row.O.Denot) (View g.row.O-Call.Denot)). (right_of x.0, [])) kept.1
    ∙ ap (λ (l : List (Past g.row.O-Call.Denot)). (right_of (view (Some object) l None false), [])) (fresh_next seen k n (omega arith))) in
    subst (λ (x : Me (Option g.row.O.Denot) (View g.row.O-Call.Denot)). Rests k x) (sym is) refl

pub loop-number-preserved : goal.loop-number-preserved
loop-number-preserved g c =
    let k = c.loop-number.number in
    let seen = seen_in c.args.seat.me.0.pasts in
    let n = c.args.self.now.passes in
    let kept = c.loop-number.invariant in
    let same : c.self.inside.passes ≡ n = ap (λ (d : SetUp). d.passes) c.self.view_is in
    let lt : k < c.self.inside.passes = c.loop-number-test.true in
    let object = c.args.self.now.desk.object in
    let next = fresh_next seen k n (omega arith) in
    let is : c.split_seat-seat.result.me ≡ (view (Some object) (past k seen seen ∷ []) None false, []) =
    c.split_seat-seat.ensures.4 ∙ (ap (λ (x : Me (Option g.row.O.Denot) (View g.row.O-Call.Denot)). (right_of x.0, [])) kept.1
    ∙ ap (λ (l : List (Past g.row.O-Call.Denot)). (right_of (view (Some object) l None false), [])) next) in
    let pass : held (record { table = c.split_seat-seat.result.table_id; object = noted c.split_seat-seat.result.me.0.object }) k (before_in c.split_seat-seat.result.me.0.pasts) (seen_in c.split_seat-seat.result.me.0.pasts)
    ≡ held c.args.self.now.desk k seen seen =
    λ i. held (record { table = (c.split_seat-seat.ensures.3 ∙ kept.0) i; object = noted (is i).0.object }) k
    (before_in (is i).0.pasts) (seen_in (is i).0.pasts) in (
      c.split_seat-seat.ensures.0 ∙ kept.0,
      c.split_seat-seat.ensures.2 ∙ (ap (λ (x : Me (Option g.row.O.Denot) (View g.row.O-Call.Denot)). (left_of x.0, x.1)) kept.1
          ∙ ap (λ (l : List (Past g.row.O-Call.Denot)). (left_of (view (Some object) l None false), [])) next),
      c.in_ok-push.ensures.items
          ∙ (ap (λ (p : Held g.row.O-Call.Denot). c.loop-number.passes.items ++ p ∷ []) pass
          ∙ (ap (λ (l : List (Held g.row.O-Call.Denot)). l ++ held c.args.self.now.desk k seen seen ∷ []) kept.2 ∙ sym (dealt_next seen c.args.self.now.desk k))),
    )
