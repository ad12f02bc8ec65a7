use Rattle.std.proofs.Common.{◌≡◌, length}
use Rattle.websocket.specs.declared.protocol.config.Role.TheVariants.{Server}
use Rattle.ws_link.proofs.Said.{Saying}
use Rattle.ws_link.proofs.framing.Framing.say.Given as goal

abbrev pub invariant-loop-rest : goal.invariant-loop-rest
invariant-loop-rest g l =
    (l.self ≡ record l.fn.self { conn = l.self.conn })
    × (l.fn.self.conn.role ≡ Server → Saying l.fn.self.conn l.self.conn l.frames.items l.bytes l.rest)

abbrev pub decreases-loop-rest : goal.decreases-loop-rest
decreases-loop-rest g l = length l.rest
