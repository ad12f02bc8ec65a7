use Rattle.std.proofs.Common.{arith, ap, drop-drop, length, sym, ◌∙◌}
use Rattle.std.proofs.lemmas.Slice.{between_to_end}
use Rattle.page_files.specs.Heads.{begins, holds}
use Rattle.page_files.proofs.Words.{anywhere_at, anywhere_behind, anywhere_past}
use Rattle.page_files.proofs.head.holds.Goals as goal

pub loop-at-preserved : goal.loop-at-preserved
loop-at-preserved c =
    let bytes = c.args.bytes.now in
    let word = c.args.word.now in
    sym (ap (holds word) (drop-drop 1 c.loop-at.at bytes))
    ∙ anywhere_behind (begins word) bytes c.loop-at.at (omega arith)
    (sym (ap (begins word) (between_to_end bytes c.loop-at.at (length bytes) (omega arith))) ∙ sym c.begins.ensures ∙ c.if-begins.false)
    ∙ c.loop-at.invariant

pub returns-then-begins : goal.returns-then-begins
returns-then-begins c =
    let bytes = c.args.bytes.now in
    let word = c.args.word.now in
    sym (anywhere_at (begins word) bytes c.loop-at.at (omega arith)
    (sym (ap (begins word) (between_to_end bytes c.loop-at.at (length bytes) (omega arith))) ∙ sym c.begins.ensures ∙ c.if-begins.true))
    ∙ c.loop-at.invariant

pub returns : goal.returns
returns c = sym (anywhere_past (begins c.args.word.now) c.args.bytes.now c.loop-at.at (omega arith)) ∙ c.loop-at.invariant
