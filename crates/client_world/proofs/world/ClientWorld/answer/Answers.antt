use Rattle.std.proofs.Common.{◌≡◌, ◌++◌, ◌∙◌, [], ap, codes, if◌then◌else◌, sym}
use Rattle.std.proofs.lemmas.Result.{IfOk-weaker}
use Rattle.game_hall.specs.Core.{is_again}
use Rattle.world_history.specs.Words.{of_client}
use Rattle.world_history.specs.World.{with_down}
use Rattle.world_history.specs.WorldScript.{answer_lines}
use Rattle.client_world.specs.IsWorld.{IsWorld}
use Rattle.client_world.proofs.world.ClientWorld.answer.Goals as goal

pub returns-then-again : goal.returns-then-again
returns-then-again c = λ tape w answer is said want.
    let stands = c.in_ok-put_answer.ensures tape w answer is (c.in_ok-answer.ensures ∙ said) in
    IfOk-weaker c.told.result (λ text. text.items ≡ of_client c.args.client (codes "again"))
    (λ text. IsWorld tape c.put_answer.new.self (with_down w c.args.client (w.down c.args.client ++ answer_lines answer)) × (text.items ≡ (if is_again answer then of_client c.args.client (codes "again") else [])))
    (λ text told. (stands, told ∙ ap (λ b. if b then of_client c.args.client (codes "again") else []) (sym c.if-again.true ∙ want))) c.told.ensures

pub returns : goal.returns
returns c = λ tape w answer is said want.
    (c.in_ok-put_answer.ensures tape w answer is (c.in_ok-answer.ensures ∙ said), c.new.ensures.items ∙ ap (λ b. if b then of_client c.args.client (codes "again") else []) (sym c.if-again.false ∙ want))
