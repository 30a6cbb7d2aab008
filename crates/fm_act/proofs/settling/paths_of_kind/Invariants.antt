use Rattle.std.proofs.Common.{◌≡◌, ◌++◌, drop}
use Rattle.std.specs.List.{filter}
use Rattle.fm_act.specs.Reconciled.{is_of_kind}
use Rattle.fm_act.proofs.settling.paths_of_kind.Given as goal

abbrev pub invariant-paths : goal.invariant-paths
invariant-paths l =
    l.found.items ++ filter (is_of_kind l.kind) (drop l.path-index l.paths)
    ≡ filter (is_of_kind l.kind) l.paths
