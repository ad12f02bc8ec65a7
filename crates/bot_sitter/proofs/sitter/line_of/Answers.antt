use Rattle.bot_sitter.proofs.SentLines.{line_ends}
use Rattle.bot_sitter.proofs.sitter.line_of.Goals as goal

pub cut_newline-requires : goal.cut_newline-requires
cut_newline-requires c = line_ends c.in_ok-line.line.items c.args.message c.in_ok-line.ensures.text
