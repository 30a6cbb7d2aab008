use Rattle.std.proofs.Common.{◌≡◌, take}
use Rattle.std.specs.List.{filter}
use Rattle.dx_case.specs.Candidates.{is_of_kind}
use Rattle.dx_case.specs.Kinds.{is_asked}
use Rattle.dx_case.proofs.finding.sorted_among.Given as goal

abbrev pub invariant-loop-number : goal.invariant-loop-number
invariant-loop-number l =
    l.list.items ≡ filter (is_of_kind (is_asked l.kind) l.nodes) (take l.number-index l.numbers)
