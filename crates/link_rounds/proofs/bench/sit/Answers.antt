use Rattle.std.proofs.Common.{ap}
use Rattle.std.proofs.Math.Seq.{map-set_same}
use Rattle.link_rounds.proofs.bench.sit.Goals as goal

pub returns-clause-numbers : goal.returns-clause-numbers
returns-clause-numbers g c =
    map-set_same (λ p. g.S.Service.number p.service) c.args.places.now c.args.number c.take_in.new.self c.index-places-number.result (ap (λ p. g.S.Service.number p.service) c.take_in.ensures.place)
