use Rattle.std.proofs.Common.{◌≡◌, ◌++◌, ◌∷◌, [], None, Some, false, length, map, All, List, Option, ap, sym, subst, ◌∙◌, arith}
use Rattle.atomic_table.specs.Table.{Me}
use Rattle.room_desk.specs.History.{SetUp, DeskId, Held}
use Rattle.room_desk.specs.Turns.{Past, View, view}
use Rattle.room_desk.specs.Plays.{past_of}
use Rattle.room_desk.proofs.Closing.{all_first, all_last, moved_over, emptied}
use Rattle.room_desk.proofs.Parts.{joins}
use Rattle.room_desk.proofs.desk.Desk.unite.Goals as goal

pub join_seat-requires : goal.join_seat-requires
join_seat-requires g c =
    let kept = c.loop-pass.invariant in
    let table = ap (λ (d : SetUp). d.desk.table) c.self.view_is in
    let own = all_last (λ (p : Held g.row.O-Call.Denot). p.desk ≡ c.args.self.now.desk) c.pop.new.self.items c.in-Some.pass (subst (λ (l : List (Held g.row.O-Call.Denot)). All (λ (p : Held g.row.O-Call.Denot). p.desk ≡ c.args.self.now.desk) l) c.in-Some.ensures.items kept.4) in
    let rests = c.into_seat.ensures.rests in (
      kept.0 ∙ (c.requires.table ∙ sym table),
      c.into_seat.ensures.table ∙ (ap (λ (d : DeskId). d.table) own ∙ sym table),
      ap (λ x. x.1) rests,
      let two = c.self.invariant.0 in omega arith,
      joins g.O.Object.number g.O.Object.stands_for _ _ c.args.self.now.desk.object _ c.loop-pass.seat.me.0 c.into_seat.result.me.0 (ap (λ x. x.0.object) kept.1) kept.2 (ap (λ x. x.0.ticket) kept.1) (ap (λ x. x.0.turn) kept.1)
          (ap (λ x. x.0.ticket) rests) (ap (λ x. x.0.turn) rests),
    )

pub loop-pass-preserved : goal.loop-pass-preserved
loop-pass-preserved g c =
    let kept = c.loop-pass.invariant in
    let all = subst (λ (l : List (Held g.row.O-Call.Denot)). All (λ (p : Held g.row.O-Call.Denot). p.desk ≡ c.args.self.now.desk) l) c.in-Some.ensures.items kept.4 in
    let m = c.loop-pass.seat.me in
    let pass = c.in-Some.pass in
    let object = c.args.self.now.desk.object in
    let rests = c.into_seat.ensures.rests in
    let pasts : c.join_seat.new.seat.me.0.pasts ≡ past_of pass ∷ m.0.pasts =
    ap (λ x. x.0.pasts) c.join_seat.ensures.2 ∙ ap (λ (x : Me (Option g.row.O.Denot) (View g.row.O-Call.Denot)). x.0.pasts ++ m.0.pasts) rests in
    let is : c.join_seat.new.seat.me ≡ (view (Some object) c.join_seat.new.seat.me.0.pasts None false, []) =
    c.join_seat.ensures.2 ∙ (λ i. (view (kept.1 i).0.object ((ap (λ x. x.0.pasts) (sym c.join_seat.ensures.2)) i) (kept.1 i).0.ticket (kept.1 i).0.turn, (kept.1 i).1)) in
    let long : length c.join_seat.new.seat.me.0.pasts ≡ length (past_of pass ∷ m.0.pasts) = ap length pasts in (
      c.join_seat.ensures.0 ∙ kept.0,
      is,
      omega arith,
      ap (λ (l : List (Past g.row.O-Call.Denot)). map past_of c.pop.new.self.items ++ l) pasts ∙ (sym (moved_over past_of c.pop.new.self.items pass m.0.pasts)
          ∙ (ap (λ (l : List (Held g.row.O-Call.Denot)). map past_of l ++ m.0.pasts) (sym c.in-Some.ensures.items) ∙ kept.3)),
      all_first (λ (p : Held g.row.O-Call.Denot). p.desk ≡ c.args.self.now.desk) c.pop.new.self.items pass all,
    )

pub returns-clause-united : goal.returns-clause-united
returns-clause-united g c =
    let kept = c.loop-pass.invariant in
    let last = c.in_default.ensures in
    let none_left = emptied c.loop-pass.passes.items c.pop.new.self.items _ last.items last.rest last.cases.0 in
    let all = sym (ap (λ (l : List (Held g.row.O-Call.Denot)). map past_of l ++ c.loop-pass.seat.me.0.pasts) none_left) ∙ kept.3 in
    kept.1 ∙ ap (λ (l : List (Past g.row.O-Call.Denot)). (view (Some c.args.self.now.desk.object) l None false, [])) all
