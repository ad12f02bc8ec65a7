-- What is left to settle is what the whole comes to, and each task takes at most one turn.
use Rattle.std.proofs.Common.{◌≡◌, ◌+◌, ◌≤◌, false}
use Rattle.dice_words.specs.Strip.{Follows}
use Rattle.phase_flow.specs.Placed.{IsPlaced}
use Rattle.phase_flow.specs.Settle.{settle}
use Rattle.phase_flow.proofs.settle.settle.Given as goal

abbrev pub invariant-tasks : goal.invariant-tasks
invariant-tasks g l = record {
  same : settle (g.X.Game.rules l.game) l.left l.table l.tape.left l.tasks l.after ≡ settle (g.X.Game.rules l.game) 64 l.initial.table l.initial.tape.left l.initial.tasks false;
  few : l.left ≤ 64;
  turn : l.table.ctx.turn + l.left ≤ l.initial.table.ctx.turn + 64;
  placed : IsPlaced l.table.ctx;
  follows : Follows l.initial.tape l.tape;
}

abbrev pub decreases-tasks : goal.decreases-tasks
decreases-tasks g l = l.left
