use Rattle.std.proofs.Common.{ap, refl}
use Rattle.websocket.specs.Content.{text}
use Rattle.websocket.proofs.TextLemmas.{is_utf8-false, is_utf8-true}
use Rattle.ws_link.proofs.framing.message.Goals as goal

pub returns-in-Ok : goal.returns-in-Ok
returns-in-Ok c = rw (is_utf8-true c.args.line.now c.in-Ok.ensures.cases.1) (ap text c.in-Ok.ensures.cases.0)

pub returns-in-Err : goal.returns-in-Err
returns-in-Err c = rw (is_utf8-false c.args.line.now c.in-Err.ensures.cases.0) refl
