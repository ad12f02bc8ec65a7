use Rattle.std.proofs.Common.{◌≡◌, subst, sym}
use Rattle.std.proofs.lemmas.Result.{IfOk-weaker}
use Rattle.any_game.specs.AnyRules.{any_rules, named}
use Rattle.hall_history.specs.Hall.{after_line}
use Rattle.world_history.specs.World.{with_hall, with_up}
use Rattle.session_hall.specs.Answered.{HearsLine}
use Rattle.session_hall.specs.Requests.{Tallies}
use Rattle.client_world.specs.Counted.{HasAnswered, HasArrived}
use Rattle.client_world.specs.IsWorld.{IsWorld}
use Rattle.client_world.proofs.Counted.{line_arrived}
use Rattle.client_world.proofs.world.ClientWorld.arrive_counted.Goals as goal

pub returns : goal.returns
returns c = λ tape w is.
    let held = subst (λ x. IsWorld tape x w) (sym c.self.view_is) is in
    let some = c.in-Some.ensures w held.peers in
    let said = c.on_line-said.result in
    let heard = subst (λ line. HearsLine tape w.hall c.args.client line c.on_line-said.new.self said.line said.again said.tally) c.as_slice.ensures.value (c.on_line-said.ensures tape w.hall held.hall) in
    let done = after_line named any_rules tape heard.mark w.hall c.args.client c.in-Some.line.items in
    let before = with_up (with_hall w done.0) c.args.client some.0 in
    IfOk-weaker c.answer_counted.result (λ tally. HasAnswered tape before c.args.client done.1 c.answer_counted.new.self × (tally ≡ said.tally))
    (λ tally. HasArrived tape w c.args.client tally c.answer_counted.new.self)
    (λ tally a. line_arrived tape w c.args.client c.answer_counted.new.self heard.mark c.in-Some.line.items some.0 tally some.1 a.0.served a.0.stands
    (subst (λ t. Tallies w.hall.rooms t done.0.rooms) (sym a.1) heard.tallies))
    (c.answer_counted.ensures tape before done.1 (record { hall = heard.stands; peers = some.2 }) heard.text heard.want)
