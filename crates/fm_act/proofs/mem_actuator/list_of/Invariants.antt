use Rattle.std.proofs.Common.{◌≡◌, ◌++◌}
use Rattle.fm_act.proofs.mem_actuator.list_of.Given as goal

abbrev pub invariant-paths : goal.invariant-paths
invariant-paths l = l.list.items ++ l.path-iterator ≡ l.paths.keys
