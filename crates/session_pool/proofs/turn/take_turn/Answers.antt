use Rattle.std.proofs.Common.{ap, length, subst, sym, ◌∙◌}
use Rattle.link_rounds.specs.Ends.{ShowsEnd}
use Rattle.session_bench.specs.Wishing.{Readies}
use Rattle.session_pool.specs.Passes.{Belong}
use Rattle.session_pool.specs.Placed.{AttachedBy, IsIdle}
use Rattle.session_pool.specs.Turn.{stand}
use Rattle.session_pool.proofs.Benching.{idle_sat}
use Rattle.session_pool.proofs.Saying.{readied_on}
use Rattle.session_pool.proofs.turn.take_turn.Goals as goal

pub go_on-requires : goal.go_on-requires
go_on-requires g c =
    let core = sym c.ready.ensures.core in
    record {
      belong = subst (λ k. Belong c.args.desks.now k.pass c.args.passes.now) core c.requires.belong;
      idle = subst (IsIdle (length c.args.desks.now)) core (idle_sat (length c.args.desks.now) c.args.core.now c.ready.new.core.sat c.requires.idle);
      attached = subst (λ k. AttachedBy c.args.passes.now k.at) core c.requires.attached;
      live = c.requires.live;
      at_bench = c.ready.ensures.desk ∙ c.requires.at_bench;
    }

pub returns-clause-pass : goal.returns-clause-pass
returns-clause-pass g c = c.go_on.ensures.pass ∙ ap (λ k. k.pass) c.ready.ensures.core

pub returns-clause-shows : goal.returns-clause-shows
returns-clause-shows g c =
    subst (λ n. ShowsEnd n (g.L.Link.faults c.go_on.new.link) (g.L.Link.stage c.go_on.new.link) c.go_on.result) c.ready.ensures.faults c.go_on.ensures.shows

pub returns-clause-benched : goal.returns-clause-benched
returns-clause-benched g c = (
  c.ready.new.pass,
  subst (λ now. Readies (g.L.Link.bot_seat c.args.link.now) c.args.bench_pass.now c.args.core.now.sat (g.L.Link.asked_out c.args.link.now) c.ready.new.pass c.go_on.new.core.sat now)
      (sym c.go_on.ensures.asked_out)
      (subst (λ sat. Readies (g.L.Link.bot_seat c.args.link.now) c.args.bench_pass.now c.args.core.now.sat (g.L.Link.asked_out c.args.link.now) c.ready.new.pass sat (g.L.Link.asked_out c.ready.new.link))
      (sym c.go_on.ensures.sat) c.ready.ensures.readies),
  c.go_on.ensures.asks,
)

pub returns-clause-turn : goal.returns-clause-turn
returns-clause-turn g c told_a told_s =
    let seat = g.L.Link.bot_seat c.args.link.now in (
      g.L.Link.asked_out c.args.link.now,
      g.L.Link.asked_out c.ready.new.link,
      c.ready.new.pass,
      c.ready.new.core.sat,
      c.ready.ensures.readies,
      readied_on g.B.Object.may_starve c.args.passes.now c.args.core.now c.ready.new.core c.args.words.now c.ready.new.pass seat
          (stand c.go_on.new.passes c.go_on.new.core c.go_on.new.words c.go_on.new.bench_pass seat)
          (g.L.Link.answers c.args.link.now) (g.L.Link.answers c.ready.new.link) (g.L.Link.answers c.go_on.new.link)
          (g.L.Link.sent c.args.link.now) (g.L.Link.sent c.ready.new.link) (g.L.Link.sent c.go_on.new.link) c.go_on.result
          c.ready.ensures.core c.ready.ensures.answers c.ready.ensures.sent (c.go_on.ensures.goes seat) told_a told_s,
    )
