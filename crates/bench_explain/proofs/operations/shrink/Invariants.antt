use Rattle.bench_explain.proofs.operations.shrink.Given as goal

abbrev pub ghosts-shrink_counted : goal.ghosts-shrink_counted
ghosts-shrink_counted a = record { name = a.blank.name; parts = a.blank.parts }
