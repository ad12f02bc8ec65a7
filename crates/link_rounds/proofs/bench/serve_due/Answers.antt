use Rattle.std.proofs.Common.{◌∙◌, ◌&&◌, map, sym, ap}
use Rattle.board_links.specs.Doors.{one_bot, one_other}
use Rattle.link_rounds.specs.Places.{about, seated_bots, seated_others}
use Rattle.link_rounds.proofs.Benches.{round_seated, written}
use Rattle.link_rounds.proofs.bench.serve_due.Goals as goal

pub loop-at-init : goal.loop-at-init
loop-at-init g c =
    let a = about g.D.L.Link.answers g.D.L.Link.sent g.D.L.Link.faults g.D.L.Link.stage g.D.L.Link.clear g.D.L.Link.is_bot in
    let b = c.args.bench.now.places in
    let others = round_seated g.S.Service.turn g.S.Service.leave a (λ bot. one_other (g.D.Door.has_bots && bot)) c.as_slice.result.now c.as_mut_slice.result.now c.serve_round.new.places c.serve_round.ensures.round
    ∙ ap (seated_others g.D.Door.has_bots g.D.L.Link.is_bot) c.as_mut_slice.ensures.value in
    let bots = round_seated g.S.Service.turn g.S.Service.leave a (λ bot. one_bot (g.D.Door.has_bots && bot)) c.as_slice.result.now c.as_mut_slice.result.now c.serve_round.new.places c.serve_round.ensures.round
    ∙ ap (seated_bots g.D.Door.has_bots g.D.L.Link.is_bot) c.as_mut_slice.ensures.value in
    rw (written b.len b.items c.serve_round.new.places (c.serve_round.auto.places ∙ c.as_mut_slice.ensures.len))
    (c.serve_round.ensures.fit, c.serve_round.ensures.sit, c.requires.parts.0, c.requires.parts.1, c.requires.others ∙ sym others, c.requires.bots ∙ sym bots, c.serve_round.ensures.numbers ∙ ap (map (λ p. g.S.Service.number p.service)) c.as_mut_slice.ensures.value)

pub loop-at-preserved : goal.loop-at-preserved
loop-at-preserved g c =
    let b = c.loop-at.places in
    let d = c.dismiss-went_back.ensures in
    rw (written b.len b.items c.dismiss-went_back.new.places (c.dismiss-went_back.auto.places ∙ c.as_mut_slice-in-loop-at.ensures.len))
    (d.fit, d.sit, d.parts.0, d.parts.1, d.others, d.bots, d.numbers ∙ (ap (map (λ p. g.S.Service.number p.service)) c.as_mut_slice-in-loop-at.ensures.value ∙ c.loop-at.invariant.6))
