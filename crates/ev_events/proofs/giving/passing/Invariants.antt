-- The numbers so far with those of the rows that are left are all.
use Rattle.std.proofs.Common.{◌≡◌, ◌++◌, drop, filter, map}
use Rattle.ev_tree.specs.Pattern.{view_pattern}
use Rattle.ev_events.specs.Giving.{passes_at}
use Rattle.ev_events.proofs.giving.passing.Given as goal

abbrev pub invariant-rows : goal.invariant-rows
invariant-rows l =
    l.places.items ++ filter (passes_at l.binding.topo.now l.binding.names.now
    l.binding.instances.now (view_pattern l.pattern)) (map (λ r. r.path) (drop l.row-index l.rows))
    ≡ filter (passes_at l.binding.topo.now l.binding.names.now l.binding.instances.now
    (view_pattern l.pattern)) (map (λ r. r.path) l.rows)
