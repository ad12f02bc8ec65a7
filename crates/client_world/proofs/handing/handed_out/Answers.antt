use Rattle.std.proofs.Common.{◌++◌, ◌∙◌, ap, sym}
use Rattle.std.specs.List.{concat}
use Rattle.room_history.specs.Session.{bye_lines}
use Rattle.wire_json.specs.ServerText.{text as server_text}
use Rattle.wire_json.specs.declared.server.ServerMsg.TheVariants as message
use Rattle.client_world.proofs.Joining.{ended}
use Rattle.client_world.proofs.handing.handed_out.Goals as goal

pub returns : goal.returns
returns c =
    c.in_ok-extend_from_slice.ensures.items ∙ ap (λ l. c.in_ok-all.all.items ++ l) c.bye_line.ensures ∙ ap (λ l. l ++ server_text (message.Bye c.in-Some.why)) c.in_ok-all.ensures
    ∙ ended c.args.bytes.now c.in-Some.why ∙ ap (λ end. c.args.bytes.now ++ concat (bye_lines end)) (sym c.in-Some.is)
