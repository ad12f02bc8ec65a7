use Rattle.std.proofs.Common.{◌∙◌, arith, ap, map}
use Rattle.link_rounds.specs.Places.{seated_bots, seated_others}
use Rattle.link_rounds.proofs.Benches.{written}
use Rattle.link_rounds.proofs.bench.admit.Goals as goal

pub loop-preserved : goal.loop-preserved
loop-preserved g c =
    let i = c.loop.invariant in
    let others = ap (seated_others g.D.Door.has_bots g.D.L.Link.is_bot) c.as_mut_slice.ensures.value in
    let bots = ap (seated_bots g.D.Door.has_bots g.D.L.Link.is_bot) c.as_mut_slice.ensures.value in
    rw (written c.loop.bench.places.len c.loop.bench.places.items c.sit.new.places (c.sit.auto.places ∙ c.as_mut_slice.ensures.len)) (
      tt,
      tt,
      c.sit.ensures.fit,
      c.sit.ensures.sit,
      c.in-Came.ensures.parts.0,
      c.in-Came.ensures.parts.1,
      omega (arith, c.in-Came.ensures.others, c.sit.ensures.others, others, i.6),
      omega (arith, c.in-Came.ensures.bots, c.sit.ensures.bots, bots, i.7),
      c.sit.ensures.numbers ∙ (ap (map (λ p. g.S.Service.number p.service)) c.as_mut_slice.ensures.value ∙ i.8),
    )
