use Rattle.std.proofs.Common.{◌<◌, None, subst, sym, ◌∙◌}
use Rattle.board_links.specs.Pieces.{told_bytes}
use Rattle.link_rounds.specs.Turns.{told_answers}
use Rattle.session_pool.specs.Sittings.{DrawsFrom, Fits}
use Rattle.session_pool.specs.Turn.{Turn, stand}
use Rattle.session_pool.proofs.Places.{written}
use Rattle.session_pool.proofs.Seeing.{went_since}
use Rattle.session_pool.proofs.sitting.SittingService.turn.Goals as goal

pub returns-clause-turn : goal.returns-clause-turn
returns-clause-turn g c told_a told_s =
    let i = c.self.inside in
    let t = c.take_turn.new in
    let heard = told_answers (g.L.Link.answers c.args.link.now) in
    let sent = told_bytes (g.L.Link.sent c.args.link.now) in
    let now = stand t.passes t.core t.words t.bench_pass in
    let here = subst (λ passes. Turn g.B.Object.may_starve (stand passes i.core i.words i.bench None) heard sent c.take_turn.result (now (g.L.Link.bot_seat c.args.link.now)) (g.L.Link.answers t.link) (g.L.Link.sent t.link))
    c.as_mut_slice.ensures.value (c.take_turn.ensures.turn told_a told_s) in
    let seated = subst (λ seat. Turn g.B.Object.may_starve (stand i.passes.items i.core i.words i.bench None) heard sent c.take_turn.result (now seat) (g.L.Link.answers t.link) (g.L.Link.sent t.link))
    (sym c.bot_seat.ensures) here in
    rw (written i.passes.len i.passes.items t.passes (c.take_turn.auto.passes ∙ c.as_mut_slice.ensures.len))
    (subst (λ s. Turn g.B.Object.may_starve s heard sent c.take_turn.result (now c.bot_seat.result) (g.L.Link.answers t.link) (g.L.Link.sent t.link)) c.self.view_is seated)

pub returns-clause-fits : goal.returns-clause-fits
returns-clause-fits g c =
    let desks = c.args.hall.now.desks.now in
    let seed = g.K.Seeded.seed in
    let places = g.K.Seeded.places in
    let i = c.self.inside in
    let t = c.take_turn.new in
    let goes = c.take_turn.ensures in
    let fits = subst (λ s. Fits desks c.args.hall.now.bench.now.desk seed places g.K.Seeded.pasts s) (sym c.self.view_is) c.requires.fits in
    rw (written i.passes.len i.passes.items t.passes (c.take_turn.auto.passes ∙ c.as_mut_slice.ensures.len)) (record {
      some = fits.some;
      few = fits.few;
      belong = goes.belong;
      within = subst (λ n. n < places) (sym goes.pass) fits.within;
      idle = goes.idle;
      attached = goes.attached;
      at_bench = goes.at_bench ∙ fits.at_bench;
      draws = subst (λ n. DrawsFrom seed n t.words) (sym goes.pass) (goes.same_source ∙ fits.draws);
      since = went_since i.passes.items c.as_mut_slice.result.now t.passes g.K.Seeded.pasts c.as_mut_slice.ensures.value goes.goes_on fits.since;
    })
