use Rattle.std.proofs.Common.{◌≡◌, ◌∙◌, ap, false, is_some, map}
use Rattle.std.specs.Prelude.{All}
use Rattle.link_rounds.specs.Places.{Sits, about}
use Rattle.link_rounds.proofs.Workers.{handed, handed_map, written_all}
use Rattle.link_rounds.proofs.serving.serve_by.Goals as goal

pub dismiss-requires-clause-parts : goal.dismiss-requires-clause-parts
dismiss-requires-clause-parts g c = written_all (λ w. (w.share.parts ≡ 1) × (w.bots.parts ≡ 1)) c.args.workers.len c.args.workers.items c.run_all.new.workers (c.run_all.ensures.many ∙ c.as_mut_slice.ensures.len) c.run_all.ensures.parts

pub returns-clause-fit : goal.returns-clause-fit
returns-clause-fit g c = handed (λ b. All (λ p. g.S.Service.fits c.args.hall.now p.service) b.places.items) (λ w. w.bench) c.args.workers.len c.args.workers.items c.run_all.new.workers _ (c.run_all.ensures.many ∙ c.as_mut_slice.ensures.len) c.run_all.ensures.fit c.dismiss.ensures.back

pub returns-clause-sit : goal.returns-clause-sit
returns-clause-sit g c = handed (λ b. All (Sits g.S.Service.turn g.S.Service.leave (about g.D.L.Link.answers g.D.L.Link.sent g.D.L.Link.faults g.D.L.Link.stage g.D.L.Link.clear g.D.L.Link.is_bot) g.S.Service.rests) b.places.items) (λ w. w.bench) c.args.workers.len c.args.workers.items c.run_all.new.workers _ (c.run_all.ensures.many ∙ c.as_mut_slice.ensures.len) c.run_all.ensures.sit c.dismiss.ensures.back

pub returns-clause-free : goal.returns-clause-free
returns-clause-free g c = handed (λ b. All (λ p. is_some p.link ≡ false) b.places.items) (λ w. w.bench) c.args.workers.len c.args.workers.items c.run_all.new.workers _ (c.run_all.ensures.many ∙ c.as_mut_slice.ensures.len) c.run_all.ensures.free c.dismiss.ensures.back

pub returns-clause-numbers : goal.returns-clause-numbers
returns-clause-numbers g c =
    handed_map (λ b. map (λ p. g.S.Service.number p.service) b.places.items) (λ w. w.bench) c.args.workers.len c.args.workers.items c.run_all.new.workers _ (c.run_all.ensures.many ∙ c.as_mut_slice.ensures.len) c.dismiss.ensures.back
    ∙ (c.run_all.ensures.numbers ∙ ap (map (λ w. map (λ p. g.S.Service.number p.service) w.bench.places.items)) c.as_mut_slice.ensures.value)
