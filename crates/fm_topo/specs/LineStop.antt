-- Why the reading of a line stops.
use Rattle.std.specs.Prelude.{◌≡◌, Option, Some}
use Rattle.fm_topo.specs.declared.faults.TopoKind.{TopoKind}
use Rattle.fm_topo.specs.declared.entries.LineStop.{LineStop}
use Rattle.fm_topo.specs.declared.entries.LineStop.TheVariants.{At, Memory}

-- it stops at the line's fault, or for want of memory
abbrev pub IsLineStop : Option TopoKind → LineStop → Type 0
IsLineStop fault (At kind) = fault ≡ Some kind
IsLineStop fault Memory = Unit {0}
