use Rattle.std.proofs.Common.{◌++◌, ap, ◌∙◌}
use Rattle.wire_json.specs.ServerText.{text}
use Rattle.wire_json.specs.declared.server.ServerMsg.TheVariants.{Update}
use Rattle.match_master.proofs.line.update_line.Goals as goal

pub returns : goal.returns
returns c = λ x e s p q r.
    c.in_ok-put_update.ensures x e s p q r ∙ ap (λ l. l ++ text (Update x e s c.args.number)) c.in_ok-line.ensures.items
