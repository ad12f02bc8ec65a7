use Rattle.std.proofs.Common.{rules, arith, subst}
use Rattle.std.proofs.lemmas.Grind.{common_steps}
use Rattle.link_rounds.specs.Gate.{WereServed}
use Rattle.link_rounds.proofs.Returns.{were_shown}
use Rattle.link_rounds.proofs.gate.Gate.back.Goals.{then-is_bot, else-is_bot}
use Rattle.link_rounds.proofs.gate.Gate.back.Goals as goal

pub invariant_of-self : goal.invariant_of-self
invariant_of-self g c =
    let i = c.if-is_bot.self-inside in
    let before : WereServed g.S.Service.turn g.S.Service.leave g.S.Service.rests (g.S.Service.knows i.witness) (g.D.Door.returned i.door) = elim c.if-is_bot.branch [
      | then-is_bot w ↦ rw w.self-inside-is c.self.invariant.2
      | else-is_bot w ↦ rw w.self-inside-is c.self.invariant.2
    ] in (
      first_of (search rules, grind (arith, common_steps)),
      c.show.ensures.attends,
      rw c.back.ensures.returned
          (were_shown g.S.Service.turn g.S.Service.leave g.S.Service.rests (g.S.Service.knows i.witness) (g.S.Service.knows c.show.new.witness) (g.D.Door.returned i.door) c.args.end (g.D.L.Link.answers c.args.link) (g.D.L.Link.sent c.args.link)
          c.args.service.now c.show.ensures.keeps (subst (g.S.Service.knows c.show.new.witness) c.show.ensures.same c.show.ensures.knows) before c.requires.served),
    )
