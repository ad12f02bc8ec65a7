use Rattle.link_rounds.proofs.serving.serve_door.Given as goal

abbrev pub ghosts-run-J-Ledger : goal.ghosts-run-J-Ledger
ghosts-run-J-Ledger g a = record { name = a.blank.name; parts = a.blank.parts }

abbrev pub ghosts-run-J-Shift : goal.ghosts-run-J-Shift
ghosts-run-J-Shift g a = record { sessions = a.sessions; faults = g.D.Door.faults a.door; held = g.D.Door.left a.door }

abbrev pub ghosts-run-B-Ledger : goal.ghosts-run-B-Ledger
ghosts-run-B-Ledger g a = record { name = a.bots_blank.name; parts = a.bots_blank.parts }
