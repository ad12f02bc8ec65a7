use Rattle.std.proofs.Common.{◌≡◌, take}
use Rattle.stage_map.proofs.active.copied.Given as goal

-- the first of the earlier maps are copied
abbrev pub invariant-loop-i : goal.invariant-loop-i
invariant-loop-i l = l.copy.items ≡ take l.i l.stack.items
