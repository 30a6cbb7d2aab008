-- What is written, and the spelling of what is left, is the whole.
use Rattle.std.proofs.Common.{◌≡◌, ◌++◌, drop, flat_map}
use Rattle.dx_state.specs.StateBytes.{open_case_bytes}
use Rattle.dx_restore.proofs.saving.put_each_case.Given as goal

abbrev pub invariant-loop-case : goal.invariant-loop-case
invariant-loop-case l =
    l.out.items ++ flat_map (open_case_bytes l.marked) (drop l.case-index l.cases)
    ≡ l.initial.out.items ++ flat_map (open_case_bytes l.marked) l.cases
