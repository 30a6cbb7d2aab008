use Rattle.std.proofs.Common.{◌≡◌, ℕ, List, take}
use Rattle.fm_topo.specs.Groups.{numbers_at, text_places}
use Rattle.fm_topo.proofs.groups.Groups.new.Given as goal

abbrev pub invariant-texts : goal.invariant-texts
invariant-texts l = (q : List ℕ) → numbers_at l.map.entries q ≡ text_places q 0 (take l.at l.texts)
