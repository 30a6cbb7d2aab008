use Rattle.std.proofs.Common.{◌≡◌, take, map}
use Rattle.ev_check.specs.Declarations.{name_of}
use Rattle.ev_check.proofs.undeclared.names_of.Given as goal

abbrev pub invariant-loop-part : goal.invariant-loop-part
invariant-loop-part l = l.names.items ≡ map name_of (take l.part-index l.parts)
