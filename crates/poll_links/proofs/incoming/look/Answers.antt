use Rattle.std.proofs.Common.{[], subst, sym}
use Rattle.std.proofs.lemmas.List.{append-nil}
use Rattle.tcp_links.specs.Cuts.{Cuts}
use Rattle.tcp_links.specs.declared.line_buffer.Cut.TheVariants as cut
use Rattle.poll_links.proofs.incoming.look.Goals as goal

-- no byte came in this call
pub returns-in-Line-clause-comes : goal.returns-in-Line-clause-comes
returns-in-Line-clause-comes g c =
    ([], subst (λ b. Cuts c.args.limit (cut.Line c.in-Line.line) b c.cut.new.self) (sym (append-nil c.args.lines.now)) c.in-Line.ensures)
