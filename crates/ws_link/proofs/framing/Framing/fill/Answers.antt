use Rattle.std.proofs.Common.{rules, ◌∙◌, ◌++◌, ap, refl, take}
use Rattle.ws_link.proofs.Heard.{at_end, filled}
use Rattle.ws_link.proofs.framing.Framing.fill.Goals as goal

pub returns-in-Ok-eq0-clause-hears : goal.returns-in-Ok-eq0-clause-hears
returns-in-Ok-eq0-clause-hears g c =
    at_end g.T.Read.remaining c.args.self.now _ (c.in-Ok-eq0.ensures.bytes.1 (search rules) (search rules))

pub returns-in-Ok-clause-hears : goal.returns-in-Ok-clause-hears
returns-in-Ok-clause-hears g c =
    let got = take c.in-Ok.count c.read.new.buf in
    rw (← c.self.view_is) (filled g.T.Read.remaining _ _ got c.in-Ok.ensures.bytes.0 refl (c.add.ensures ∙ ap (λ z. z ++ got) c.reserve.ensures.items) refl)
