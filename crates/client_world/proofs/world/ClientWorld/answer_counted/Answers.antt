use Rattle.std.proofs.Common.{◌∙◌, refl, sym}
use Rattle.client_world.proofs.world.ClientWorld.answer_counted.Goals as goal

pub returns : goal.returns
returns c = λ tape w answer is said want.
    (record { stands = c.in_ok-put_answer.ensures tape w answer is (c.in_ok-answer.ensures ∙ said); served = sym want ∙ c.if-again.false }, refl)
