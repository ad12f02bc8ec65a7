use Rattle.std.proofs.Common.{map}
use Rattle.room_object.specs.Entry.{entry}
use Rattle.room_desk.proofs.desk.Desk.turn.Given as goal

-- what is passed on is the call that the turn is for, with its reply's want of memory
abbrev pub ghosts-leave : goal.ghosts-leave
ghosts-leave g a = record { said = map (λ c. entry a.number c (g.O.Object.is_starved a.reply.now)) g.J.Asked.asked }
