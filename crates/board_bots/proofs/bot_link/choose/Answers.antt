use Rattle.std.proofs.Common.{refl}
use Rattle.board_bots.proofs.Asked.{chosen_at, ends_as}
use Rattle.board_bots.proofs.bot_link.choose.Goals as goal

pub returns-clause-chooses : goal.returns-clause-chooses
returns-clause-chooses g c =
    chosen_at c.args.settled.now c.args.options.now c.args.settled.now.number c.in_ok-place.place c.choice_at.result _ _ _ _ c.choice_at.ensures refl
    (ends_as _ _ _ _ c.in_ok-place.ensures.saw c.in_ok-glance.ensures) c.in_ok-place.ensures.answered
