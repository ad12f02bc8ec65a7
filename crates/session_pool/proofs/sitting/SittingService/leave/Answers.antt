use Rattle.std.proofs.Common.{◌≡◌, ◌<◌, ◌∙◌, ap, length, refl, subst, sym}
use Rattle.game_hall.specs.Core.{fresh, with_bench}
use Rattle.session_bench.specs.Wishing.{Rises}
use Rattle.session_driver.specs.Hearing.{side}
use Rattle.session_pool.specs.Passes.{Belong}
use Rattle.session_pool.specs.Placed.{AttachedBy, IsIdle}
use Rattle.session_pool.specs.Sittings.{Detaches, DrawsFrom, Fits, Leaves}
use Rattle.session_pool.specs.Turn.{stand}
use Rattle.session_pool.proofs.Passes.{number_is}
use Rattle.session_pool.proofs.Benching.{idle_fresh, left_so}
use Rattle.session_pool.proofs.Places.{written}
use Rattle.session_pool.proofs.Seeing.{detaches_go_on, went_since}
use Rattle.session_pool.proofs.sitting.SittingService.leave.Goals as goal

pub returns-clause-rests : goal.returns-clause-rests
returns-clause-rests g c =
    let desks = c.args.hall.now.desks.now in
    let seed = g.K.Seeded.seed in
    let places = g.K.Seeded.places in
    let i = c.self.inside in
    let fits = subst (λ s. Fits desks c.args.hall.now.bench.now.desk seed places g.K.Seeded.pasts s) (sym c.self.view_is) c.requires.fits in
    let core_is = c.with_bench.ensures ∙ ap with_bench c.new.ensures in
    let pass = ap (λ core. core.pass) core_is ∙ (c.pass.ensures ∙ c.detach.ensures.pass) in
    let number = number_is desks i.core.pass c.detach.new.passes fits.some c.detach.ensures.belong in
    rw (written i.passes.len i.passes.items c.detach.new.passes (c.detach.auto.passes ∙ c.as_mut_slice.ensures.len)) (record {
      own = number ∙ sym pass;
      within = subst (λ n. n < places) (sym pass) fits.within;
      fresh_is = subst (λ core. core ≡ with_bench (fresh core.pass core.rooms)) (sym core_is) refl;
      draws = subst (λ n. DrawsFrom seed n i.words) (sym pass) fits.draws;
      since = went_since i.passes.items c.as_mut_slice.result.now c.detach.new.passes g.K.Seeded.pasts c.as_mut_slice.ensures.value
          (detaches_go_on g.B.Object.may_starve (side c.as_mut_slice.result.now i.core) (side c.detach.new.passes c.detach.new.core) c.detach.ensures.detaches) fits.since;
    })

pub returns-clause-fits : goal.returns-clause-fits
returns-clause-fits g c =
    let desks = c.args.hall.now.desks.now in
    let seed = g.K.Seeded.seed in
    let places = g.K.Seeded.places in
    let i = c.self.inside in
    let fits = subst (λ s. Fits desks c.args.hall.now.bench.now.desk seed places g.K.Seeded.pasts s) (sym c.self.view_is) c.requires.fits in
    let core_is = c.with_bench.ensures ∙ ap with_bench c.new.ensures in
    let pass = ap (λ core. core.pass) core_is ∙ (c.pass.ensures ∙ c.detach.ensures.pass) in
    rw (written i.passes.len i.passes.items c.detach.new.passes (c.detach.auto.passes ∙ c.as_mut_slice.ensures.len)) (record {
      some = fits.some;
      few = fits.few;
      belong = subst (λ n. Belong desks n c.detach.new.passes) (sym pass) c.detach.ensures.belong;
      within = subst (λ n. n < places) (sym pass) fits.within;
      idle = subst (IsIdle (length desks)) (sym core_is) (idle_fresh c.pass.result (length desks) fits.few);
      attached = subst (AttachedBy c.detach.new.passes) (sym (ap (λ core. core.at) core_is)) c.detach.ensures.free;
      at_bench = c.rise.ensures.desk ∙ fits.at_bench;
      draws = subst (λ n. DrawsFrom seed n i.words) (sym pass) fits.draws;
      since = went_since i.passes.items c.as_mut_slice.result.now c.detach.new.passes g.K.Seeded.pasts c.as_mut_slice.ensures.value
          (detaches_go_on g.B.Object.may_starve (side c.as_mut_slice.result.now i.core) (side c.detach.new.passes c.detach.new.core) c.detach.ensures.detaches) fits.since;
    })

pub returns-clause-leave : goal.returns-clause-leave
returns-clause-leave g c =
    let i = c.self.inside in
    let desks = c.args.hall.now.desks.now in
    let fits = subst (λ s. Fits desks c.args.hall.now.bench.now.desk g.K.Seeded.seed g.K.Seeded.places g.K.Seeded.pasts s) (sym c.self.view_is) c.requires.fits in
    let core_is = c.with_bench.ensures ∙ (ap with_bench c.new.ensures ∙ ap (λ n. with_bench (fresh n (length desks))) (c.pass.ensures ∙ c.detach.ensures.pass)
    ∙ ap (λ n. with_bench (fresh i.core.pass n)) (sym fits.idle.done.rooms_are)) in
    let detaches = subst (λ passes. Detaches g.B.Object.may_starve (side passes i.core) (side c.detach.new.passes c.detach.new.core)) c.as_mut_slice.ensures.value c.detach.ensures.detaches in
    let rises = subst (λ seat. Rises i.core.sat seat i.bench c.rise.new.pass) c.take.ensures.value
    (subst (λ sat. Rises sat c.take.result i.bench c.rise.new.pass) (c.has_sat.ensures ∙ c.detach.ensures.sat) c.rise.ensures.rises) in
    rw (written i.passes.len i.passes.items c.detach.new.passes (c.detach.auto.passes ∙ c.as_mut_slice.ensures.len))
    (subst (λ s. Leaves g.B.Object.may_starve s (stand c.detach.new.passes c.with_bench.result i.words c.rise.new.pass c.take.new.self)) c.self.view_is
    (left_so g.B.Object.may_starve i.passes.items i.core i.words i.bench i.seat c.detach.new.passes c.detach.new.core c.rise.new.pass c.with_bench.result c.take.new.self
    detaches rises core_is c.take.ensures.after))
