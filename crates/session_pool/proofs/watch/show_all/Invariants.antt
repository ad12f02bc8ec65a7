use Rattle.std.proofs.Common.{◌≡◌, map}
use Rattle.session_pool.specs.Watched.{desk_at}
use Rattle.session_pool.proofs.Watching.{Partly}
use Rattle.session_pool.proofs.watch.show_all.Given as goal

abbrev pub invariant-loop-room : goal.invariant-loop-room
invariant-loop-room g l = (l.passes ≡ l.fn.passes) × (map desk_at l.watch ≡ map desk_at l.fn.watch) × Partly l.room l.watch l.fn.watch l.fn.passes
