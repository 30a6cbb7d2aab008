use Rattle.std.proofs.Common.{◌≡◌, ◌+◌, take}
use Rattle.std.specs.List.{sum_by}
use Rattle.ev_graph.specs.Lawful.{links_of}
use Rattle.ev_graph.proofs.checks.are_few.Given as goal

abbrev pub invariant-loop-instance : goal.invariant-loop-instance
invariant-loop-instance l = l.room + sum_by links_of (take l.instance-index l.instances) ≡ 1048576
