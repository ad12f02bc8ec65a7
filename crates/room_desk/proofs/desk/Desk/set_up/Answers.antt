use Rattle.std.proofs.Common.{◌≡◌, subst}
use Rattle.room_desk.specs.History.{dealt}
use Rattle.room_desk.specs.Turns.{seen_in}
use Rattle.room_desk.proofs.Closing.{all_dealt}
use Rattle.room_desk.proofs.desk.Desk.set_up.Goals as goal

pub returns-clause-passes : goal.returns-clause-passes
returns-clause-passes g c =
    let past = seen_in c.in_ok-desk.seat.me.0.pasts in
    let opened = c.in_ok-desk.ensures in
    (past, opened.stands, subst (λ n. c.in_ok-passes.passes.items ≡ dealt past c.in_ok-desk.desk.desk n) opened.desk.0 c.in_ok-passes.ensures)

pub returns-clause-own : goal.returns-clause-own
returns-clause-own g c = all_dealt (seen_in c.in_ok-desk.seat.me.0.pasts) c.in_ok-desk.desk.desk c.in_ok-desk.desk.passes c.in_ok-passes.passes.items c.in_ok-passes.ensures
