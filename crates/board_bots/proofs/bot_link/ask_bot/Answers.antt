use Rattle.std.proofs.Common.{sym, ap, ◌∙◌}
use Rattle.std.specs.Option.{option_copied}
use Rattle.board_bots.proofs.Asked.{chooses_of, if_ok, sight_of}
use Rattle.board_bots.proofs.bot_link.ask_bot.Goals as goal

pub returns-clause-chooses : goal.returns-clause-chooses
returns-clause-chooses g c =
    if_ok _ _ c.choose-chosen.result (λ choice h. chooses_of c.args.sitter.now c.in-Some.settled.now c.as_slice.result.now choice _ _ _ _
    (sym c.settled.ensures.value ∙ ap option_copied c.in-Some.is) (c.as_slice.ensures ∙ c.in_ok-options.ensures) h) c.choose-chosen.ensures.chooses

pub returns-clause-sight : goal.returns-clause-sight
returns-clause-sight g c =
    let e = sym c.settled.ensures.value ∙ ap option_copied c.in-Some.is in
    if_ok _ _ c.choose-chosen.result (λ choice h opening sees. sight_of c.args.sitter.now c.in-Some.settled.now _ choice opening _ _ _ _ h
    (c.settled.ensures.shown c.requires.asked.0 c.requires.asked.1 _ e) (c.settled.ensures.above c.requires.asked.1 _ e) sees) c.choose-chosen.ensures.chooses
