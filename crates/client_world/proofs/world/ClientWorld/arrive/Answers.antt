use Rattle.std.proofs.Common.{◌≡◌, codes, subst, sym}
use Rattle.std.proofs.lemmas.Result.{IfOk-weaker}
use Rattle.any_game.specs.AnyRules.{any_rules, named}
use Rattle.hall_history.specs.Hall.{after_line}
use Rattle.world_history.specs.Words.{of_client}
use Rattle.world_history.specs.World.{Arrives, with_hall, with_up}
use Rattle.session_hall.specs.Answered.{HearsLine}
use Rattle.client_world.specs.IsWorld.{HasDone, HeldWorld, IsWorld}
use Rattle.client_world.proofs.Doing.{arrived_line, quiet_link}
use Rattle.client_world.proofs.world.ClientWorld.arrive.Goals as goal

pub returns-in_default : goal.returns-in_default
returns-in_default c = λ tape w is.
    let held = subst (λ x. IsWorld tape x w) (sym c.self.view_is) is in
    let new : HeldWorld = record { hall = c.self.inside.hall; peers = c.pop_up.new.self } in
    let none = c.in_default.ensures w held.peers in
    IfOk-weaker c.told.result (λ text. text.items ≡ of_client c.args.client (codes "quiet")) (λ text. HasDone tape w (Arrives c.args.client) new text.items)
    (λ text told. quiet_link tape w c.args.client new text.items none.0 (record { hall = held.hall; peers = none.1 }) told) c.told.ensures

pub returns : goal.returns
returns c = λ tape w is.
    let held = subst (λ x. IsWorld tape x w) (sym c.self.view_is) is in
    let some = c.in-Some.ensures w held.peers in
    let said = c.on_line-said.result in
    let heard = subst (λ line. HearsLine tape w.hall c.args.client line c.on_line-said.new.self said.line said.again said.tally) c.as_slice.ensures.value (c.on_line-said.ensures tape w.hall held.hall) in
    let done = after_line named any_rules tape heard.mark w.hall c.args.client c.in-Some.line.items in
    let answered = c.answer.ensures tape (with_up (with_hall w done.0) c.args.client some.0) done.1 (record { hall = heard.stands; peers = some.2 }) heard.text heard.want in
    IfOk-weaker c.answer.result _ (λ text. HasDone tape w (Arrives c.args.client) c.answer.new.self text.items)
    (λ text told. arrived_line tape w c.args.client c.answer.new.self text.items heard.mark c.in-Some.line.items some.0 some.1 told.0 told.1) answered
