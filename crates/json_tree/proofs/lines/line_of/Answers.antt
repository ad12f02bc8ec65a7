use Rattle.std.proofs.Common.{◌∙◌}
use Rattle.std.proofs.lemmas.Str.{IsUtf8-append}
use Rattle.json_tree.proofs.LineLaws.{newline_utf8}
use Rattle.json_tree.proofs.Newlines.{read_newline}
use Rattle.json_tree.proofs.lines.line_of.Goals as goal

pub returns-in-Ok-push-clause-line_utf8 : goal.returns-in-Ok-push-clause-line_utf8
returns-in-Ok-push-clause-line_utf8 c = rw c.in-Ok-push.ensures.items (IsUtf8-append _ _ c.in-Ok.ensures.utf8 newline_utf8)

pub returns-in-Ok-push-clause-line_reads_back : goal.returns-in-Ok-push-clause-line_reads_back
returns-in-Ok-push-clause-line_reads_back c = λ shallow. rw c.in-Ok-push.ensures.items (read_newline _ ∙ c.in-Ok.ensures.reads_back shallow)
