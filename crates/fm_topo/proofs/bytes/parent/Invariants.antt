use Rattle.std.proofs.Common.{◌≡◌, ◌≤◌, ◌++◌, take, drop, length}
use Rattle.std.specs.Prelude.{◌==◌, if◌then◌else◌}
use Rattle.std.specs.List.{list_any}
use Rattle.fm_topo.specs.Fault.{parent_of}
use Rattle.fm_topo.proofs.bytes.parent.Given as goal

abbrev pub invariant-loop-at : goal.invariant-loop-at
invariant-loop-at l = record {
  within : l.last ≤ length l.path;
  same : parent_of l.path
      ≡ (if list_any (λ x. x == 47) (drop l.at l.path) then take l.at l.path
      ++ parent_of (drop l.at l.path) else take l.last l.path);
}
