use Rattle.std.proofs.Common.{◌≡◌, ◌++◌, drop}
use Rattle.fm_topo.specs.Printed.{properties_text}
use Rattle.fm_topo.proofs.printer.add_pairs.Given as goal

abbrev pub invariant-loop-pair : goal.invariant-loop-pair
invariant-loop-pair l = l.out.items ++ properties_text (drop l.pair-index l.pairs)
    ≡ l.initial.out.items ++ properties_text l.pairs
