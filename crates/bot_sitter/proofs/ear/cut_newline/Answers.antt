use Rattle.std.proofs.Common.{arith}
use Rattle.bot_sitter.proofs.SentLines.{cut_last, some_bytes}
use Rattle.bot_sitter.proofs.ear.cut_newline.Goals as goal

pub returns : goal.returns
returns c =
    let some = some_bytes c.args.line.now.items c.requires in
    cut_last c.args.line.now.items c.pop-newline.new.self.items c.pop-newline.result c.requires c.pop-newline.ensures.items (c.pop-newline.ensures.variant.1 (omega arith))
