use Rattle.std.proofs.Common.{ap, ◌∙◌, map, ◌≡◌, ◌∷◌, ◌++◌, refl, List, ℕ}
use Rattle.room_object.specs.Entry.{Entry, entry}
use Rattle.room_desk.specs.Turns.{before_in, seen_in}
use Rattle.room_desk.proofs.Calling.{tells}
use Rattle.room_desk.proofs.Histories.{one_more}
use Rattle.room_desk.proofs.desk.Desk.turn.Goals as goal

pub leave-requires-clause-tells : goal.leave-requires-clause-tells
leave-requires-clause-tells g c =
    let entered = c.enter-object.ensures.entered in
    let e = entry c.args.number c.args.call (g.O.Object.is_starved c.apply-reply.result) in
    let history = entered.0 ++ seen_in c.args.seat.now.me.0.pasts in (
      c.args.call,
      ap (λ asked. map (λ call. entry c.args.number call (g.O.Object.is_starved c.apply-reply.result)) asked) c.requires.asked,
      tells g.O.Object.number g.O.Object.stands_for c.enter-object.new.seat.me _ _ _ _ _ c.apply-reply.new.self e entered refl c.apply-reply.ensures.number (c.apply-reply.ensures.stands history entered.3),
    )

pub returns-clause-called : goal.returns-clause-called
returns-clause-called g c =
    let entered = c.enter-object.ensures.entered in
    let seen = seen_in c.args.seat.now.me.0.pasts in
    let e = entry c.args.number c.args.call (g.O.Object.is_starved c.apply-reply.result) in
    let history = entered.0 ++ seen in
    let ends : seen_in c.leave.new.seat.me.0.pasts ≡ e ∷ history =
    ap (λ x. seen_in x.0.pasts) c.leave.ensures.told
    ∙ (ap (λ asked. map (λ call. entry c.args.number call (g.O.Object.is_starved c.apply-reply.result)) asked ++ seen_in c.enter-object.new.seat.me.0.pasts) c.requires.asked
    ∙ ap (λ x. e ∷ seen_in x.0.pasts) entered.4.1) in
    record {
      between = entered.0;
      ends = ends;
      own = ap (λ (l : List (Entry g.row.O-Call.Denot)). Rattle.room_desk.specs.History.of_pass c.args.number l) ends ∙ one_more e entered.0 seen entered.2;
      answered = c.apply-reply.ensures.answered history entered.3 ∙ ap (λ (k : ℕ). g.O.Object.reply k history e) entered.1;
    }

pub returns-clause-before : goal.returns-clause-before
returns-clause-before g c = ap (λ x. before_in x.0.pasts) c.leave.ensures.told ∙ ap (λ x. before_in x.0.pasts) c.enter-object.ensures.entered.4.1
