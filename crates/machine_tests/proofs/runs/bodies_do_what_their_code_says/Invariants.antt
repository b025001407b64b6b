use Rattle.machine_tests.proofs.runs.bodies_do_what_their_code_says.Given as goal

abbrev pub ghosts-play : goal.ghosts-play
ghosts-play g a = record { name = a.blank.name; parts = a.blank.parts }
