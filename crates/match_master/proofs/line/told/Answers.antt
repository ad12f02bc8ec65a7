use Rattle.std.proofs.Common.{◌≡◌, IfOk, sym, subst}
use Rattle.move_log.specs.Redact.{redact}
use Rattle.player_sight.specs.EntryData.{entry_data}
use Rattle.match_master.specs.UpdateText.{action_line}
use Rattle.match_master.proofs.line.told.Goals as goal

pub returns-in-One : goal.returns-in-One
returns-in-One g c = λ told.
    let rules = g.X.Game.rules c.args.action.now.game.now in
    let after = c.args.action.now.prepared.now in
    let entry = c.args.action.now.entry.now in
    subst (λ p. IfOk c.whole.result (λ l. l.items ≡ action_line rules c.args.action.now.state.now after entry c.args.seat p)) (sym c.in-One.is)
    (c.whole.ensures (entry_data rules.sheet (redact rules.sheet c.args.seat entry)) told)

pub returns-in-Two : goal.returns-in-Two
returns-in-Two g c = λ told.
    let rules = g.X.Game.rules c.args.action.now.game.now in
    let after = c.args.action.now.prepared.now in
    let entry = c.args.action.now.entry.now in
    subst (λ p. IfOk c.change.result (λ l. l.items ≡ action_line rules c.args.action.now.state.now after entry c.args.seat p)) (sym c.in-Two.is)
    (c.change.ensures (entry_data rules.sheet (redact rules.sheet c.args.seat entry)) told)
