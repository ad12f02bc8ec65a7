use Rattle.std.proofs.Common.{◌≡◌, List, [], ◌∷◌, ◌++◌, sym, ap, ◌∙◌, subst}
use Rattle.match_master.specs.Attached.{Lines}
use Rattle.match_master.specs.UpdateText.{AreMade, action_line}
use Rattle.match_master.specs.declared.made_lines.MadeLine.{MadeLine}
use Rattle.match_master.proofs.made_lines.line_for.Goals as goal

one_more : (lines : Lines) (made : List MadeLine) (m : MadeLine) → AreMade lines made → m.line.value.items ≡ lines m.seat m.protocol → AreMade lines (made ++ m ∷ [])
one_more lines [] m a e = (e, tt)
one_more lines (x ∷ made) m a e = (a.0, one_more lines made m a.1 e)

pub returns-in-Some-clause-line : goal.returns-in-Some-clause-line
returns-in-Some-clause-line g c =
    ap (λ v. v.items) c.in_ok-shared.ensures
    ∙ c.in-Some.ensures (action_line (g.X.Game.rules c.args.action.now.game.now) c.args.action.now.state.now c.args.action.now.prepared.now c.args.action.now.entry.now) (rw c.as_slice.ensures.value c.requires)

pub returns-clause-made : goal.returns-clause-made
returns-clause-made g c =
    let lines : Lines = action_line (g.X.Game.rules c.args.action.now.game.now) c.args.action.now.state.now c.args.action.now.prepared.now c.args.action.now.entry.now in
    subst (AreMade lines) (sym c.in_ok-push.ensures.items)
    (one_more lines c.args.made.now.items (record { seat = c.args.seat; protocol = c.args.protocol; line = c.in_ok-shared-2.shared }) c.requires
    (ap (λ v. v.items) (c.in_ok-shared-2.ensures ∙ c.in_ok-line.ensures.ok) ∙ c.in_ok-update.ensures))
