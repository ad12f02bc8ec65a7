use Rattle.std.proofs.Common.{◌∙◌, map, subst, subst₂, sym}
use Rattle.std.specs.Prelude.{All, vec_len}
use Rattle.session_pool.specs.Passes.{unseen}
use Rattle.session_pool.specs.Sittings.{AreServed}
use Rattle.session_pool.specs.Watched.{AllBegin, AllKnow, StandsIn, seen_of}
use Rattle.session_pool.proofs.Places.{none_served, through}
use Rattle.session_pool.proofs.Watching.{out_desks}
use Rattle.session_pool.proofs.door.run.Goals as goal

pub serve_at-requires-clause-served : goal.serve_at-requires-clause-served
serve_at-requires-clause-served g c κs within =
    none_served g.B.Object.may_starve g.K.Seeded.seed g.K.Seeded.places g.K.Seeded.pasts (λ s. AllKnow c.set_out.new.watch.items s.passes) (g.D.Door.returned c.args.door) c.requires.none_back

pub returns-in-Ok-raise-clause-handed : goal.returns-in-Ok-raise-clause-handed
returns-in-Ok-raise-clause-handed g c =
    c.serve_at.ensures.handed ∙ through (λ s. s.passes) (λ p. p.items) (λ passes. map unseen passes) c.in-Ok-raise.sittings.items c.args.passes.items c.in-Ok-raise.ensures.passes

pub serve_at-requires-clause-watch : goal.serve_at-requires-clause-watch
serve_at-requires-clause-watch g c κs within = out_desks c.args.watch.items c.set_out.new.watch.items g.K.Seeded.desks c.set_out.ensures (c.requires.watch ∙ sym c.requires.seeded.2)

pub returns-in-Ok-raise-clause-served : goal.returns-in-Ok-raise-clause-served
returns-in-Ok-raise-clause-served g c =
    let back = c.serve_at.result in
    let told = g.D.Door.returned back.5 in
    subst (λ pasts. AreServed g.B.Object.may_starve c.args.seed (vec_len c.args.passes) pasts (StandsIn (seen_of back.4.items)) told) c.requires.seeded.3
    (subst₂ (λ seed places. AreServed g.B.Object.may_starve seed places g.K.Seeded.pasts (StandsIn (seen_of back.4.items)) told) c.requires.seeded.0 c.requires.seeded.1 c.serve_at.ensures.served)

pub raise-requires-clause-began : goal.raise-requires-clause-began
raise-requires-clause-began g c = subst (λ pasts. All (λ p. AllBegin (seen_of p.items) pasts) c.args.passes.items) (sym c.requires.seeded.3) c.requires.began
