use Rattle.std.proofs.Common.{rules, arith}
use Rattle.std.proofs.lemmas.Grind.{common_steps}
use Rattle.link_rounds.specs.Gate.{WereServed}
use Rattle.link_rounds.proofs.gate.Gate.accept.Goals.{then-is_bot, else-is_bot}
use Rattle.link_rounds.proofs.gate.Gate.accept.Goals as goal

pub invariant_of-self : goal.invariant_of-self
invariant_of-self g c =
    let i = c.if-is_bot.self-inside in
    let kept : g.S.Service.attends i.witness × WereServed g.S.Service.turn g.S.Service.leave g.S.Service.rests (g.S.Service.knows i.witness) (g.D.Door.returned i.door) = elim c.if-is_bot.branch [
      | then-is_bot w ↦ rw w.self-inside-is (c.self.invariant.1, rw c.accept.ensures.returned c.self.invariant.2)
      | else-is_bot w ↦ rw w.self-inside-is (c.self.invariant.1, rw c.accept.ensures.returned c.self.invariant.2)
    ] in
    (first_of (search rules, grind (arith, common_steps)), kept.0, kept.1)
