use Rattle.std.proofs.Common.{List, ap, map, subst, sym, ◌∙◌}
use Rattle.session_pool.specs.Passes.{Pass}
use Rattle.session_pool.specs.Sittings.{Fits}
use Rattle.session_pool.proofs.Watching.{own_desks, some_desks}
use Rattle.session_pool.specs.Watched.{desk_at}
use Rattle.session_pool.proofs.sitting.SittingService.show.Goals as goal

pub show_all-requires-clause-passes : goal.show_all-requires-clause-passes
show_all-requires-clause-passes g c =
    let desks = c.args.hall.now.desks.now in
    let fits = subst (λ s. Fits desks c.args.hall.now.bench.now.desk g.K.Seeded.seed g.K.Seeded.places g.K.Seeded.pasts s) (sym c.self.view_is) c.requires.fits in
    ap (λ (l : List Pass). map (λ (p : Pass). p.desk) l) c.as_mut_slice.ensures.value ∙ own_desks desks c.self.inside.core.pass c.self.inside.passes.items fits.belong

pub show_all-requires-clause-watch : goal.show_all-requires-clause-watch
show_all-requires-clause-watch g c =
    some_desks c.args.hall.now.desks.now g.K.Seeded.desks c.as_mut_slice-2.result.now c.args.hall.now.named (ap (map desk_at) c.as_mut_slice-2.ensures.value ∙ c.requires.attends)
