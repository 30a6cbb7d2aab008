use Rattle.std.proofs.Common.{◌≡◌, ◌++◌, drop}
use Rattle.std.specs.Prelude.{flat_map}
use Rattle.fm_adm.specs.Summary.{retire_line}
use Rattle.fm_adm.proofs.summary.put_retire_lines.Given as goal

abbrev pub invariant-paths : goal.invariant-paths
invariant-paths l = l.out.items ++ flat_map retire_line (drop l.path-index l.paths)
    ≡ l.initial.out.items ++ flat_map retire_line l.paths
