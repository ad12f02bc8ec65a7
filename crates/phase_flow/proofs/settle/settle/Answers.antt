-- Each answer is one turn of the settling of the present table, by the invariant the same as the whole.
use Rattle.std.proofs.Common.{◌-◌, arith, rules, ◌∙◌, sym}
use Rattle.phase_flow.specs.Settle.{settle}
use Rattle.phase_flow.proofs.Settling.{settle_done, settle_full, settle_begun, fails_on, goes_on}
use Rattle.phase_flow.proofs.settle.settle.Goals as goal

pub returns-in_default-clause-answer : goal.returns-in_default-clause-answer
returns-in_default-clause-answer g c =
    sym c.tasks.invariant.same ∙ settle_done (g.X.Game.rules c.args.game.now) c.tasks.left c.tasks.table c.tasks.tape.left c.tasks.tasks c.tasks.after c.in_default.ensures

pub returns-then-left-eq0-clause-answer : goal.returns-then-left-eq0-clause-answer
returns-then-left-eq0-clause-answer g c =
    sym c.tasks.invariant.same
    ∙ settle_full (g.X.Game.rules c.args.game.now) c.tasks.left c.tasks.table c.tasks.tape.left c.tasks.tasks c.tasks.after _ _ c.if-left-eq0.true c.in-Some.ensures.0 c.in-Some.ensures.1

pub returns-in-Err-clause-answer : goal.returns-in-Err-clause-answer
returns-in-Err-clause-answer g c =
    fails_on c.in-Err.why _ _ (settle (g.X.Game.rules c.args.game.now) (c.tasks.left - 1)) c.in-Err.ensures.ran
    (sym c.tasks.invariant.same
    ∙ settle_begun (g.X.Game.rules c.args.game.now) c.tasks.left (c.tasks.left - 1) c.tasks.table c.tasks.tape.left c.tasks.tasks c.tasks.after c.in-Some.task _ (omega arith) c.in-Some.ensures.0 c.in-Some.ensures.1)

pub tasks-preserved : goal.tasks-preserved
tasks-preserved g c = record {
  same =
      (goes_on _ _ (settle (g.X.Game.rules c.args.game.now) (c.tasks.left - 1)) c.run.new.table c.run.new.tape.left c.run.new.tasks c.in-Ok.put c.in-Ok.ensures.ran
      (settle_begun (g.X.Game.rules c.args.game.now) c.tasks.left (c.tasks.left - 1) c.tasks.table c.tasks.tape.left c.tasks.tasks c.tasks.after c.in-Some.task _ (omega arith) c.in-Some.ensures.0 c.in-Some.ensures.1)
      ∙ c.tasks.invariant.same);
  few = omega arith;
  turn = omega (arith, c.in-Ok.ensures.goes.turn);
  placed = c.in-Ok.ensures.goes.placed;
  follows = search rules;
}
