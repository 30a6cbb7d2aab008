use Rattle.std.proofs.Common.{◌≡◌, ◌++◌, take}
use Rattle.fm_topo.proofs.keys.add_name.Given as goal

abbrev pub invariant-loop-byte : goal.invariant-loop-byte
invariant-loop-byte l = l.code.items ≡ l.initial.code.items ++ take l.byte-index l.byte-items
