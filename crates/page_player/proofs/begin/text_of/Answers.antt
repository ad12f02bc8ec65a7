use Rattle.std.proofs.Common.{Some, ap, ◌∙◌}
use Rattle.page_player.proofs.Texts.{is_text}
use Rattle.page_player.proofs.begin.text_of.Goals as goal

pub returns-in-Ok : goal.returns-in-Ok
returns-in-Ok c = ap Some c.in-Ok.ensures.cases.0 ∙ is_text c.args.word.now c.in-Ok.ensures.cases.1
