use Rattle.std.proofs.Common.{◌≡◌, ◌<◌, ℕ, zero, suc, List, [], ◌∷◌, length, get_or, sym, ap, ◌∙◌, subst, arith}
use Rattle.match_master.specs.Attached.{Lines}
use Rattle.match_master.specs.UpdateText.{AreMade}
use Rattle.match_master.specs.declared.made_lines.MadeLine.{MadeLine}
use Rattle.match_master.proofs.made_lines.find.Goals as goal

-- of the line at a place
made_at : (lines : Lines) (es : List MadeLine) (i : ℕ) (m : MadeLine) → i < length es → m ≡ get_or es i m → AreMade lines es → m.line.value.items ≡ lines m.seat m.protocol
made_at lines [] i m h e a = absurd (omega arith)
made_at lines (x ∷ es) zero m h e a = subst (λ (y : MadeLine). y.line.value.items ≡ lines y.seat y.protocol) (sym e) a.0
made_at lines (x ∷ es) (suc i) m h e a = made_at lines es i m (omega arith) e a.1

pub returns-then-is_for : goal.returns-then-is_for
returns-then-is_for c = λ lines made.
    let same = c.is_for.ensures c.if-is_for.true in
    made_at lines c.args.made.now c.loop-one.one-index c.one-item.result (omega arith) c.one-item.is made ∙ ap (λ s. lines s c.one-item.result.protocol) same.0 ∙ ap (lines c.args.seat) same.1
