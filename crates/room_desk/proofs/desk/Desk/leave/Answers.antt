use Rattle.std.proofs.Common.{refl, ap, sym, ◌∙◌, arith, subst, List, ◌∷◌, [], ◌+◌, ◌++◌, ◌%◌, ◌^◌, Some, None, Option, false}
use mathlib.Core.Option.{none}
use Rattle.atomic_table.specs.Table.{Me, Allows, step}
use Rattle.room_object.specs.Entry.{Entry, entry}
use Rattle.room_desk.specs.History.{SetUp}
use Rattle.room_desk.specs.Turns.{View, Desked, view, past, number_in, before_in, seen_in}
use Rattle.room_desk.specs.Plays.{Passes}
use Rattle.room_desk.proofs.Calling.{alone, put_in}
use Rattle.room_desk.proofs.PassOn.{passes}
use Rattle.room_desk.proofs.desk.Desk.leave.Goals as goal

pub exchange-requires : goal.exchange-requires
exchange-requires g c =
    let tells = c.requires.tells.2 in (
      c.requires.table ∙ sym (ap (λ (d : SetUp). d.desk.table) c.self.view_is),
      (None, alone c.args.seat.now.me.1 (0, None) tells.3),
    )

pub fetch_add-turn-requires : goal.fetch_add-turn-requires
fetch_add-turn-requires g c =
    let told = c.requires.tells in
    let tells = told.2 in
    let m = c.args.seat.now.me in
    let seat = c.exchange.new.seat in
    let table = c.self.inside.table.shared in
    let e = entry c.args.number told.0 (g.O.Object.is_starved c.args.reply.now) in
    let Rule = Desked g.O.Object.number g.O.Object.stands_for table.key.passes in
    let Step = λ (said : List (Entry g.row.O-Call.Denot)) (x : Me (Option g.row.O.Denot) (View g.row.O-Call.Denot)). Allows Rule table.table_id.slots seat.id x 1 (λ n. (n + 1) % 2 ^ 64) (Passes said (step table.table_id.slots 1 1 0 none) x) in
    let put = put_in g.O.Object.number g.O.Object.stands_for m seat.me c.args.object tells.3 c.exchange.ensures.3 in (
      c.exchange.ensures.0 ∙ (c.requires.table ∙ sym (ap (λ (d : SetUp). d.desk.table) c.self.view_is)),
      let two = c.self.invariant.0 in omega arith,
      subst (λ said. Step said seat.me) (sym told.1)
          (subst (λ x. Step (e ∷ []) x) (sym put)
          (passes g.O.Object.number g.O.Object.stands_for table.key.passes table.table_id.slots seat.id (m.0, (0, Some c.args.object) ∷ []) c.args.object e tells.0 (sym tells.1) tells.2 refl tells.4)),
    )

pub returns-clause-told : goal.returns-clause-told
returns-clause-told g c =
    let tells = c.requires.tells.2 in
    let said = g.J.Said.said in
    c.fetch_add-turn.ensures.2
    ∙ (ap (λ (x : Me (Option g.row.O.Denot) (View g.row.O-Call.Denot)). (view x.0.object (past (number_in x.0.pasts) (before_in x.0.pasts) (said ++ seen_in x.0.pasts) ∷ []) None false, [])) c.exchange.ensures.3
    ∙ ap (λ number. (view c.args.seat.now.me.0.object (past number (before_in c.args.seat.now.me.0.pasts) (said ++ seen_in c.args.seat.now.me.0.pasts) ∷ []) None false, [])) tells.1)
