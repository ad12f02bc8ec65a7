use Rattle.std.proofs.Common.{◌++◌, ap, ◌∙◌}
use Rattle.wire_json.specs.ServerText.{text}
use Rattle.wire_json.specs.declared.server.ServerMsg.TheVariants.{Change}
use Rattle.match_master.proofs.line.change_line.Goals as goal

pub returns : goal.returns
returns c = λ x e gone put p q r s.
    c.in_ok-put_change.ensures x e gone put p q r s
    ∙ ap (λ l. l ++ text (Change x e gone put c.args.number)) c.in_ok-line.ensures.items
