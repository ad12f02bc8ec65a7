use Rattle.std.specs.Prelude.{map, vec_len}
use Rattle.room_desk.specs.History.{SetUp}
use Rattle.session_pool.specs.Watched.{seen_of}
use Rattle.session_pool.proofs.door.serve_door.Given as goal

abbrev pub ghosts-run : goal.ghosts-run
ghosts-run g a = record { seed = a.seed; places = vec_len a.passes; desks = map (λ (d : SetUp). d.desk) a.desks.now; pasts = seen_of a.watch.items }
