use Rattle.std.proofs.Common.{◌≡◌, ◌∙◌, ◌&&◌, false, is_some, map, slice_index_or, sym}
use Rattle.std.specs.Prelude.{All}
use Rattle.link_rounds.specs.Places.{Sits, about}
use Rattle.board_links.specs.Doors.{one_bot, one_other}
use Rattle.link_rounds.proofs.Benches.{none_seated}
use Rattle.link_rounds.proofs.Workers.{all_of_map, map_through}
use Rattle.link_rounds.proofs.serving.run.Goals as goal

pub serve_by-requires-clause-fit : goal.serve_by-requires-clause-fit
serve_by-requires-clause-fit g c κs within = all_of_map (λ b. All (λ p. g.S.Service.fits c.args.hall.now p.service) b.places.items) (λ w. w.bench) c.in-Ok-hire.workers.items c.args.benches.items c.in-Ok-hire.ensures.benches c.requires.fit

pub serve_by-requires-clause-sit : goal.serve_by-requires-clause-sit
serve_by-requires-clause-sit g c κs within = all_of_map (λ b. All (Sits g.S.Service.turn g.S.Service.leave (about g.D.L.Link.answers g.D.L.Link.sent g.D.L.Link.faults g.D.L.Link.stage g.D.L.Link.clear g.D.L.Link.is_bot) g.S.Service.rests) b.places.items) (λ w. w.bench) c.in-Ok-hire.workers.items c.args.benches.items c.in-Ok-hire.ensures.benches c.requires.sit

pub serve_by-requires-clause-others : goal.serve_by-requires-clause-others
serve_by-requires-clause-others g c κs within k d low =
    (c.in-Ok-hire.ensures.none_out k d low).0
    ∙ sym (none_seated (λ bot. one_other (g.D.Door.has_bots && bot)) g.D.L.Link.is_bot (slice_index_or c.in-Ok-hire.workers.items k d).bench.places.items
    (all_of_map (λ b. All (λ p. is_some p.link ≡ false) b.places.items) (λ w. w.bench) c.in-Ok-hire.workers.items c.args.benches.items c.in-Ok-hire.ensures.benches c.requires.free k d low))

pub serve_by-requires-clause-bots : goal.serve_by-requires-clause-bots
serve_by-requires-clause-bots g c κs within k d low =
    (c.in-Ok-hire.ensures.none_out k d low).1
    ∙ sym (none_seated (λ bot. one_bot (g.D.Door.has_bots && bot)) g.D.L.Link.is_bot (slice_index_or c.in-Ok-hire.workers.items k d).bench.places.items
    (all_of_map (λ b. All (λ p. is_some p.link ≡ false) b.places.items) (λ w. w.bench) c.in-Ok-hire.workers.items c.args.benches.items c.in-Ok-hire.ensures.benches c.requires.free k d low))

pub returns-in-Ok-hire-clause-numbers : goal.returns-in-Ok-hire-clause-numbers
returns-in-Ok-hire-clause-numbers g c =
    c.serve_by.ensures.numbers ∙ map_through (λ b. map (λ p. g.S.Service.number p.service) b.places.items) (λ w. w.bench) c.in-Ok-hire.workers.items c.args.benches.items c.in-Ok-hire.ensures.benches
