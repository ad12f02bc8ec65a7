use Rattle.std.proofs.Common.{◌≡◌, ◌++◌, ◌∷◌, [], map, List, ap, sym, subst, ◌∙◌, append-nil}
use Rattle.room_desk.specs.History.{Held}
use Rattle.room_desk.specs.Turns.{Past}
use Rattle.room_desk.specs.Plays.{United, past_of}
use Rattle.room_desk.proofs.Closing.{moved_over, unites}
use Rattle.room_desk.proofs.desk.Desk.close.Goals as goal

pub returns-clause-ok : goal.returns-clause-ok
returns-clause-ok g c =
    let united = c.take_out.ensures.united in
    let rest = c.pop.new.self.items in
    let last = c.in-Some.last in
    let pasts : c.unite-seat.result.me.0.pasts ≡ map past_of c.args.passes.items =
    ap (λ x. x.0.pasts) c.unite-seat.ensures.united
    ∙ (ap (λ (l : List (Past g.row.O-Call.Denot)). map past_of rest ++ l) (ap (λ x. x.0.pasts) c.into_seat.ensures.rests)
    ∙ (sym (moved_over past_of rest last []) ∙ (append-nil (map past_of (rest ++ last ∷ [])) ∙ ap (λ (l : List (Held g.row.O-Call.Denot)). map past_of l) (sym c.in-Some.ensures.items)))) in
    (united.0, united.1, unites c.args.passes.items united.0 (subst (λ (l : List (Past g.row.O-Call.Denot)). United l united.0) pasts united.2))
