use Rattle.std.proofs.Common.{◌∙◌}
use Rattle.bot_sitter.proofs.SentLines.{line_ends}
use Rattle.bot_sitter.proofs.ear.act_of.Goals as goal

pub cut_newline-requires : goal.cut_newline-requires
cut_newline-requires g c = let a = c.in-Ok.ensures.acted in line_ends _ _ a.sent

pub returns-clause-acted : goal.returns-clause-acted
returns-clause-acted g c = let a = c.in-Ok.ensures.acted in record { p = a.p; playing = a.playing; line_is = c.cut_newline.ensures ∙ a.sent; after = a.waits }
