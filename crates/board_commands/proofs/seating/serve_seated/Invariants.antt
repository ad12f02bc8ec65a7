use Rattle.board_commands.proofs.seating.serve_seated.Given as goal

abbrev pub ghosts-serve_bench : goal.ghosts-serve_bench
ghosts-serve_bench g a = record { seats = a.seats }
