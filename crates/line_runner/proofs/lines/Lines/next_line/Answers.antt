use Rattle.std.proofs.Common.{Some, None, ◌∙◌}
use Rattle.line_runner.proofs.Moving.{moves_on}
use Rattle.line_runner.proofs.lines.Lines.next_line.Goals as goal

pub returns-in-Some-clause-moves : goal.returns-in-Some-clause-moves
returns-in-Some-clause-moves g c = λ p.
    moves_on (Some c.in-Some.next) _ c.step.new.self.line c.args.self.now c.loop-next.self c.step.new.self _ _ _ (c.loop-next.invariant.moves p) (c.in-Some.ensures.moves (c.loop-next.invariant.tells p))

pub loop-next-preserved : goal.loop-next-preserved
loop-next-preserved g c = record {
  stays = c.in_default.ensures.raises ∙ c.loop-next.invariant.stays;
  given = c.in_default.ensures.given ∙ c.loop-next.invariant.given;
  tells = λ p. c.step.ensures.tells (c.loop-next.invariant.tells p);
  moves = λ p. moves_on None _ c.step.new.self.line c.args.self.now c.loop-next.self c.step.new.self _ _ _ (c.loop-next.invariant.moves p) (c.in_default.ensures.moves (c.loop-next.invariant.tells p));
}
