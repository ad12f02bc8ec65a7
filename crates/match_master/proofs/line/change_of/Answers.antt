use Rattle.std.proofs.Common.{◌≡◌, IfOk, ◌∙◌, subst}
use Rattle.player_sight.specs.Change.{gone_part, put_part}
use Rattle.wire_json.specs.declared.server.ServerMsg.TheVariants.{Change}
use Rattle.wire_json.specs.ServerText.{text}
use Rattle.match_master.specs.UpdateText.{value_seen}
use Rattle.match_master.proofs.line.change_of.Goals as goal

pub returns : goal.returns
returns g c = λ ctx entry changed told.
    let rules = g.X.Game.rules c.args.action.now.game.now in
    let before = c.args.action.now.state.now in
    let after = c.args.action.now.prepared.now in
    let gone = gone_part (value_seen rules before.table c.args.seat) (value_seen rules after.table c.args.seat) in
    let put = put_part (value_seen rules before.table c.args.seat) (value_seen rules after.table c.args.seat) in
    subst (λ n. IfOk c.change_line.result (λ l. l.items ≡ text (Change ctx entry gone put n))) c.number.ensures
    (c.change_line.ensures ctx entry gone put changed told (c.as_slice.ensures.value ∙ c.in_ok-g.ensures.gone) (c.as_slice-2.ensures.value ∙ c.in_ok-g.ensures.put))
