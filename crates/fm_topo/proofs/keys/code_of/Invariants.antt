use Rattle.std.proofs.Common.{◌≡◌, ◌++◌, drop}
use Rattle.fm_name.specs.Path.{parts_of}
use Rattle.fm_topo.specs.Code.{parts_code, path_code}
use Rattle.fm_topo.proofs.keys.code_of.Given as goal

abbrev pub invariant-loop-at : goal.invariant-loop-at
invariant-loop-at l = l.code.items ++ parts_code (drop l.at (parts_of l.path)) ≡ path_code l.path
