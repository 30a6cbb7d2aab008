use Rattle.std.proofs.Common.{◌≡◌, ◌≤◌, drop}
use Rattle.fm_name.specs.Class.{are_components}
use Rattle.fm_name.proofs.Scanning.{scan}
use Rattle.fm_name.proofs.grammar.joins_components.Given as goal

abbrev pub invariant-loop-byte : goal.invariant-loop-byte
invariant-loop-byte l =
    record {
      small : l.size ≤ 32;
      same : scan l.size l.begun (drop l.byte-index l.bytes)
          ≡ are_components l.bytes;
    }
