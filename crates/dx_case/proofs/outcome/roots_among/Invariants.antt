use Rattle.std.proofs.Common.{◌≡◌, take}
use Rattle.std.specs.List.{filter}
use Rattle.dx_case.specs.Kinds.{is_asked}
use Rattle.dx_case.specs.Candidates.{is_of_kind, roots_in}
use Rattle.dx_case.proofs.outcome.roots_among.Given as goal

abbrev pub invariant-loop-candidate : goal.invariant-loop-candidate
invariant-loop-candidate l =
    l.list.items ≡ filter (is_of_kind (is_asked l.kind) l.nodes)
    (take l.candidate-index (roots_in l.candidates))
