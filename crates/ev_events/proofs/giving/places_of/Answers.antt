-- The numbers of the rows at which the condition passes, sorted, are those of the places.
use Rattle.std.proofs.Common.{ap, ◌∙◌, List, map, filter}
use Rattle.ev_tree.specs.Pattern.{view_pattern}
use Rattle.ev_join.specs.declared.table.Row.{Row}
use Rattle.ev_events.specs.Giving.{passes_at}
use Rattle.ev_events.proofs.Placing.{places_are}
use Rattle.ev_events.proofs.giving.places_of.Goals as goal

pub returns : goal.returns
returns c =
    let b = c.args.binding.now in
    places_are b.topo.now b.names.now b.instances.now (view_pattern c.args.pattern.now)
    c.args.table.now c.in_ok-places.places.items c.sort_unstable.new.self.items c.requires.table
    c.requires.full
    (c.in_ok-places.ensures
    ∙ ap (λ (rows : List Row). filter (passes_at b.topo.now b.names.now b.instances.now
    (view_pattern c.args.pattern.now)) (map (λ (r : Row). r.path) rows)) c.rows_at.ensures.rows)
    c.sort_unstable.ensures.permutation c.sort_unstable.ensures.sorted
