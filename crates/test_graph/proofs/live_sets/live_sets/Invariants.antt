use Rattle.test_graph.proofs.live_sets.live_sets.Given as goal

abbrev pub ghosts-turns_counted : goal.ghosts-turns_counted
ghosts-turns_counted a = record { name = a.blank.name; parts = a.blank.parts }
