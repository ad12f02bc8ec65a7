use Rattle.kept_serve.specs.Opened.{starts_at}
use Rattle.kept_serve.proofs.serving.serve_opened.Given as goal

-- the disks from which the rooms came
abbrev pub ghosts-serve_hosted : goal.ghosts-serve_hosted
ghosts-serve_hosted g a = record { start = starts_at a.rooms.items }
