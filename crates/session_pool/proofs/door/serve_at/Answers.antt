use Rattle.std.proofs.Common.{◌∙◌, arith, map, subst, sym}
use Rattle.session_pool.specs.Passes.{number_of, unseen}
use Rattle.session_pool.specs.Watched.{AllKnow, StandsIn, seen_of}
use Rattle.session_pool.proofs.Places.{all_at_bench, all_free, as_many_mapped, same_passes, served_as, through}
use Rattle.session_pool.proofs.Watching.{all_begin, desks_back}
use Rattle.session_pool.proofs.door.serve_at.Goals as goal

pub dismiss-requires-clause-room : goal.dismiss-requires-clause-room
dismiss-requires-clause-room g c =
    let after = c.serve_places-end.result.2 in
    let many = as_many_mapped (λ s. number_of s.passes) (λ s. number_of s.passes) after.items c.args.sittings.items c.serve_places-end.ensures.numbers in (
      omega (arith, many, c.requires.room.0, after.ok, c.args.sittings.ok),
      omega (arith, many, c.requires.room.1, after.ok, c.args.sittings.ok),
    )

pub returns-clause-handed : goal.returns-clause-handed
returns-clause-handed g c =
    let after = c.serve_places-end.result.2.items in
    through (λ p. p.items) (λ s. s.passes) (λ passes. map unseen passes) c.dismiss.new.back.items after c.dismiss.ensures.back
    ∙ same_passes c.args.desks.now c.args.bench.now.desk g.K.Seeded.seed g.K.Seeded.places g.K.Seeded.pasts c.args.sittings.items after c.serve_places-end.ensures.numbers c.requires.fit c.serve_places-end.ensures.fit

pub returns-clause-free : goal.returns-clause-free
returns-clause-free g c =
    all_free (λ p. p.items) c.args.desks.now c.args.bench.now.desk g.K.Seeded.seed g.K.Seeded.places g.K.Seeded.pasts c.serve_places-end.result.2.items c.dismiss.new.back.items c.dismiss.ensures.back c.serve_places-end.ensures.fit c.serve_places-end.ensures.rest

pub returns-clause-benched : goal.returns-clause-benched
returns-clause-benched g c =
    let after = c.serve_places-end.result.2 in
    let back = c.dismiss.new.bench_back in
    let many = as_many_mapped (λ s. number_of s.passes) (λ s. number_of s.passes) after.items c.args.sittings.items c.serve_places-end.ensures.numbers in
    let handed = as_many_mapped (λ p. p.desk) (λ s. s.bench.desk) back.items after.items c.dismiss.ensures.bench_back in (
      omega (arith, many, handed, after.ok, back.ok, c.args.sittings.ok),
      all_at_bench (λ p. p.desk) c.args.desks.now c.args.bench.now.desk g.K.Seeded.seed g.K.Seeded.places g.K.Seeded.pasts after.items back.items c.dismiss.ensures.bench_back c.serve_places-end.ensures.fit,
    )

pub returns-clause-watch : goal.returns-clause-watch
returns-clause-watch g c =
    desks_back c.take_back.new.passes.items c.serve_places-end.result.3.items g.K.Seeded.desks c.take_back.ensures c.serve_places-end.ensures.attends ∙ sym c.requires.named

pub returns-clause-served : goal.returns-clause-served
returns-clause-served g c =
    let back = c.take_back.new.passes.items in
    served_as g.B.Object.may_starve g.K.Seeded.seed g.K.Seeded.places g.K.Seeded.pasts (λ s. AllKnow c.serve_places-end.result.3.items s.passes) (StandsIn (seen_of back))
    (λ s known. all_begin back s.passes (subst (λ l. AllKnow l s.passes) (sym c.take_back.ensures) known)) (g.D.Door.returned c.serve_places-end.result.4) c.serve_places-end.ensures.served
