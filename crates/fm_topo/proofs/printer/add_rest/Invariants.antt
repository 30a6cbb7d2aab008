use Rattle.std.proofs.Common.{◌≡◌, ◌++◌, drop}
use Rattle.fm_topo.specs.Printed.{rest_text}
use Rattle.fm_topo.proofs.printer.add_rest.Given as goal

abbrev pub invariant-loop-place : goal.invariant-loop-place
invariant-loop-place l = l.out.items ++ rest_text (drop l.place-index l.places)
    ≡ l.initial.out.items ++ rest_text l.places
