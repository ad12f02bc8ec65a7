use Rattle.std.proofs.Common.{◌≡◌, codes, false, subst, sym}
use Rattle.std.proofs.lemmas.Result.{IfOk-weaker}
use Rattle.client_predict.specs.Reading.{is_starved}
use Rattle.world_history.specs.Words.{heard_word, of_client}
use Rattle.world_history.specs.World.{Reads}
use Rattle.client_world.specs.IsWorld.{HasDone, HeldWorld, IsWorld}
use Rattle.client_world.proofs.Doing.{both, line_read, read_nothing}
use Rattle.client_world.proofs.world.ClientWorld.read.Goals as goal

pub returns-in_default : goal.returns-in_default
returns-in_default c = λ tape w is.
    let held = subst (λ x. IsWorld tape x w) (sym c.self.view_is) is in
    let new : HeldWorld = record { hall = c.self.inside.hall; peers = c.read_next.new.self } in
    let none = c.in_default.ensures w held.peers in
    IfOk-weaker c.told.result (λ text. text.items ≡ of_client c.args.client (codes "quiet")) (λ text. HasDone tape w (Reads c.args.client) new text.items)
    (λ text told. read_nothing tape w c.args.client new text.items none.0 (record { hall = held.hall; peers = none.1 }) told) c.told.ensures

pub returns : goal.returns
returns c = λ tape w is.
    let held = subst (λ x. IsWorld tape x w) (sym c.self.view_is) is in
    let new : HeldWorld = record { hall = c.self.inside.hall; peers = c.read_next.new.self } in
    both c.heard_text.result (λ text. text.items ≡ of_client c.args.client (heard_word c.in-Some.heard)) (is_starved c.in-Some.heard ≡ false) (λ text. HasDone tape w (Reads c.args.client) new text.items)
    (λ text told fed. line_read tape w c.args.client new text.items c.in-Some.heard (c.in-Some.ensures w held.peers fed) held.hall told) c.heard_text.ensures.text c.heard_text.ensures.fed
