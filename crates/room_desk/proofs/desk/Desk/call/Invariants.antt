use Rattle.std.proofs.Common.{[], ◌∷◌}
use Rattle.room_desk.proofs.desk.Desk.call.Given as goal

-- the turn is for this call
abbrev pub ghosts-turn : goal.ghosts-turn
ghosts-turn g a = record { asked = a.call ∷ [] }
