use Rattle.std.proofs.Common.{None, ap, length, ◌∙◌, subst, sym}
use Rattle.std.specs.Prelude.{suc}
use Rattle.board_links.specs.Pieces.{told_bytes}
use Rattle.game_hall.specs.Core.{fresh, with_bench}
use Rattle.link_rounds.specs.Turns.{told_answers}
use Rattle.session_bench.specs.Wishing.{Rises}
use Rattle.session_driver.specs.Hearing.{side}
use Rattle.session_pool.specs.Sittings.{begins}
use Rattle.session_pool.specs.Turn.{stand}
use Rattle.session_pool.specs.Passes.{Belong, number_of}
use Rattle.session_pool.proofs.Passes.{number_is}
use Rattle.session_pool.proofs.Turns.{runs_more, runs_told}
use Rattle.session_pool.proofs.link.talk.Goals as goal

pub loop-preserved : goal.loop-preserved
loop-preserved g c =
    let turn = c.in_default.ensures in
    let i = c.loop.invariant in (
      tt,
      tt,
      turn.belong,
      turn.idle,
      turn.attached,
      turn.pass ∙ i.5,
      turn.same_source ∙ i.6,
      turn.shows ∙ i.7,
      turn.is_bot ∙ i.8,
      turn.at_bench ∙ i.9,
      λ told_a told_s.
          let before = i.10 told_a told_s in
          let seat = g.L.Link.bot_seat c.loop.link in (
            turn.tells_answers ∙ before.0,
            turn.tells_sent ∙ before.1,
            (
              suc before.2.0,
              seat,
              runs_more g.B.Object.may_starve before.2.0 (begins (length c.args.desks.now) c.args.passes.now c.args.words.now c.args.bench_pass.now)
                  (stand c.loop.passes c.loop.core c.loop.words c.loop.bench_pass before.2.1)
                  (stand c.serve_turn.new.passes c.serve_turn.new.core c.serve_turn.new.words c.serve_turn.new.bench_pass seat)
                  (told_answers (g.L.Link.answers c.args.link.now)) (told_bytes (g.L.Link.sent c.args.link.now))
                  (g.L.Link.answers c.loop.link) (g.L.Link.answers c.serve_turn.new.link) (g.L.Link.sent c.loop.link) (g.L.Link.sent c.serve_turn.new.link)
                  before.0 before.1 before.2.2 (turn.turn before.0 before.1),
            ),
          ),
    )

pub returns-in-Some-serve_turn-clause-session : goal.returns-in-Some-serve_turn-clause-session
returns-in-Some-serve_turn-clause-session g c told_a told_s =
    let before = c.loop.invariant.10 told_a told_s in
    let turn = c.in-Some-serve_turn.ensures in
    let seat = g.L.Link.bot_seat c.loop.link in
    let same = turn.pass ∙ c.loop.invariant.5 in
    let number = number_is c.args.desks.now (number_of c.args.passes.now) c.detach.new.passes c.requires.rooms.0 (subst (λ n. Belong c.args.desks.now n c.detach.new.passes) same c.detach.ensures.belong) in
    let rises : Rises c.serve_turn.new.core.sat seat c.serve_turn.new.bench_pass c.rise.new.pass =
    subst (λ o. Rises c.serve_turn.new.core.sat o c.serve_turn.new.bench_pass c.rise.new.pass) c.bot_seat-seat.ensures
    (subst (λ sat. Rises sat c.bot_seat-seat.result c.serve_turn.new.bench_pass c.rise.new.pass) (c.has_sat.ensures ∙ c.detach.ensures.sat) c.rise.ensures.rises) in (
      before.2.0,
      stand c.loop.passes c.loop.core c.loop.words c.loop.bench_pass before.2.1,
      told_answers (g.L.Link.answers c.loop.link),
      told_bytes (g.L.Link.sent c.loop.link),
      runs_told g.B.Object.may_starve before.2.0 (begins (length c.args.desks.now) c.args.passes.now c.args.words.now c.args.bench_pass.now)
          (stand c.loop.passes c.loop.core c.loop.words c.loop.bench_pass before.2.1)
          (told_answers (g.L.Link.answers c.args.link.now)) (told_bytes (g.L.Link.sent c.args.link.now)) (g.L.Link.answers c.loop.link) (g.L.Link.sent c.loop.link) before.0 before.1 before.2.2,
      (
        stand c.serve_turn.new.passes c.serve_turn.new.core c.serve_turn.new.words c.serve_turn.new.bench_pass seat,
        turn.turn before.0 before.1,
        (
          side c.detach.new.passes c.detach.new.core,
          c.rise.new.pass,
          c.detach.ensures.detaches,
          rises,
          ap (λ n. stand c.detach.new.passes (with_bench (fresh n (length c.args.desks.now))) c.serve_turn.new.words c.rise.new.pass None) (number ∙ sym same)
              ∙ ap (λ n. stand c.detach.new.passes (with_bench (fresh c.serve_turn.new.core.pass n)) c.serve_turn.new.words c.rise.new.pass None) (sym turn.idle.done.rooms_are),
        ),
      ),
    )

pub returns-in-Some-serve_turn-clause-number : goal.returns-in-Some-serve_turn-clause-number
returns-in-Some-serve_turn-clause-number g c =
    let same = c.in-Some-serve_turn.ensures.pass ∙ c.loop.invariant.5 in
    number_is c.args.desks.now (number_of c.args.passes.now) c.detach.new.passes c.requires.rooms.0 (subst (λ n. Belong c.args.desks.now n c.detach.new.passes) same c.detach.ensures.belong)

pub returns-in-Some-serve_turn-clause-belong : goal.returns-in-Some-serve_turn-clause-belong
returns-in-Some-serve_turn-clause-belong g c =
    let same = c.in-Some-serve_turn.ensures.pass ∙ c.loop.invariant.5 in
    let b = subst (λ n. Belong c.args.desks.now n c.detach.new.passes) same c.detach.ensures.belong in
    let number = number_is c.args.desks.now (number_of c.args.passes.now) c.detach.new.passes c.requires.rooms.0 b in
    subst (λ n. Belong c.args.desks.now n c.detach.new.passes) (sym number) b
