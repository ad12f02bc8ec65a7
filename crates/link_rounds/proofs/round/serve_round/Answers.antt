use Rattle.std.proofs.Common.{rules, ◌<◌, ◌∙◌, length, slice_index_or, refl}
use Rattle.std.proofs.Math.Seq.{map-set_same}
use Rattle.std.proofs.lemmas.List.Elements.{All-set}
use Rattle.link_rounds.specs.Places.{Sits, Step, about}
use Rattle.link_rounds.proofs.Rounds.{at_any, round_more, round_past}
use Rattle.link_rounds.proofs.round.serve_round.Goals.{then-number-places, else-number-places}
use Rattle.link_rounds.proofs.round.serve_round.Goals as goal

pub loop-at-preserved : goal.loop-at-preserved
loop-at-preserved g c =
    let a = about g.L.Link.answers g.L.Link.sent g.L.Link.faults g.L.Link.stage g.L.Link.clear g.L.Link.is_bot in
    let i = c.loop-at.invariant in
    let n = slice_index_or c.args.numbers.now c.loop-at.at 0 in
    let low : c.loop-at.at < length c.args.numbers.now = search rules in
    elim c.if-number-places.branch [
      | then-number-places w ↦
          let q = w.step.new.self in
          rw w.places-is (
            All-set (λ p. g.S.Service.fits c.args.hall.now p.service) c.loop-at.places n q w.step.ensures.fits i.0,
            All-set (λ p. Sits g.S.Service.turn g.S.Service.leave a g.S.Service.rests p) c.loop-at.places n q w.step.ensures.sits i.1,
            round_more g.S.Service.turn g.S.Service.leave a c.args.numbers.now c.loop-at.at n c.args.places.now c.loop-at.places _ q low refl w.if-number-places.true refl
                (λ d. at_any (λ p. Step g.S.Service.turn g.S.Service.leave a p q) c.loop-at.places n w.index-places-number.result d w.if-number-places.true w.step.ensures.step) i.2,
            map-set_same (λ p. g.S.Service.number p.service) c.loop-at.places n q w.index-places-number.result w.step.ensures.number ∙ i.3,
          )
      | else-number-places w ↦ rw w.places-is (i.0, i.1, round_past g.S.Service.turn g.S.Service.leave a c.args.numbers.now c.loop-at.at n c.args.places.now c.loop-at.places low refl (search rules) i.2, i.3)
    ]
