use Rattle.std.proofs.Common.{◌≡◌, ◌≤◌, ◌+◌}
use Rattle.game_hall.specs.Core.{IsSettled}
use Rattle.session_driver.specs.Hearing.{MakesCounted, side}
use Rattle.session_driver.specs.Left.{left}
use Rattle.session_driver.proofs.driver.run.Given as goal

-- the request has run so far, and has fewer calls left
abbrev pub invariant-loop-made : goal.invariant-loop-made
invariant-loop-made g l = record {
  serves : g.M.Rooms.serves l.rooms l.core.pass;
  many : g.M.Rooms.many l.rooms ≡ g.M.Rooms.many l.fn.rooms;
  rooms : l.core.rooms ≡ l.fn.core.rooms;
  pass : l.core.pass ≡ l.fn.core.pass;
  settled : IsSettled l.core.call l.core.request l.core.said;
  so_far : MakesCounted g.M.Rooms.calls (side l.fn.rooms l.fn.core) l.made l.tally (side l.rooms l.core);
  nears : left l.core.rooms l.core.request + l.made ≤ l.fn.core.rooms + 1;
  accepted : l.tally.accepted ≤ l.made;
  refused : l.tally.refused ≤ l.made;
}
