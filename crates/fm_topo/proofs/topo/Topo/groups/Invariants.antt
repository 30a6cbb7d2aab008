use Rattle.std.proofs.Common.{◌≡◌, map, take}
use Rattle.fm_topo.specs.Groups.{names_text}
use Rattle.fm_topo.proofs.topo.Topo.groups.Given as goal

abbrev pub invariant-places : goal.invariant-places
invariant-places l = l.texts.items
    ≡ map (λ place. names_text place.0) (take l.place-index l.place-items)
