use Rattle.std.proofs.Common.{sym, subst}
use Rattle.bot_sitter.specs.Hearing.{IsHeard}
use Rattle.bot_sitter.proofs.HeardOn.{heard_on, kept_by, starved_on}
use Rattle.bot_sitter.proofs.sitter.Sitter.hear.Goals as goal

pub invariant_of-self-in-Ok : goal.invariant_of-self-in-Ok
invariant_of-self-in-Ok g c =
    subst (λ x. IsHeard (g.X.Game.rules x) c.self.inside.starved c.extend_from_slice.new.self.items c.hear_all.new.self.told c.hear_all.new.self.client) (sym c.in-Ok.ensures.game)
    (heard_on (g.X.Game.rules c.self.inside.ear.game) c.self.inside.starved c.self.inside.sent.items c.args.bytes.now c.extend_from_slice.new.self.items
    c.self.inside.ear.told c.hear_all.new.self.told c.self.inside.ear.client c.hear_all.new.self.client c.if-self.false c.self.invariant c.requires
    (kept_by _ _ _ _ _ c.extend_from_slice.ensures.items c.is_err.ensures.negation c.if-is_err.false) c.in-Ok.ensures.told c.in-Ok.ensures.client)

pub invariant_of-self-in-Err : goal.invariant_of-self-in-Err
invariant_of-self-in-Err g c =
    starved_on (g.X.Game.rules c.hear_all.new.self.game) c.self.inside.sent.items c.args.bytes.now c.extend_from_slice.new.self.items c.hear_all.new.self.told c.hear_all.new.self.client
    c.self.invariant.cut c.requires (kept_by _ _ _ _ _ c.extend_from_slice.ensures.items c.is_err.ensures.negation c.if-is_err.false)
