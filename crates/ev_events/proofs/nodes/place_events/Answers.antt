-- The nodes and engines of a checked file.
use Rattle.std.proofs.Common.{List, Bor, map, length, sym, ap, ◌∙◌, subst}
use Rattle.fm_name.specs.declared.events.EventName.{EventName}
use Rattle.ev_tree.specs.declared.tree.Declared.{Declared}
use Rattle.ev_events.specs.Nodes.{AreEnginesAt, AreEnginesThere, AreNodesAt, AreNodesThere}
use Rattle.ev_events.specs.Placed.{ArePlaced}
use Rattle.ev_events.proofs.Declaring.{engines_there, nodes_there, placed_events}
use Rattle.ev_events.proofs.Wholeness.{whole_file}
use Rattle.ev_events.proofs.nodes.place_events.Goals as goal

pub nodes_of-requires-clause-there : goal.nodes_of-requires-clause-there
nodes_of-requires-clause-there c =
    let f = c.args.checked.now in
    let topology = c.args.topo.now in
    let events = ap (map (λ (d : Bor Declared). d.now)) c.deref.ensures.value
    ∙ c.in_ok-events.ensures ∙ ap (map (λ e. e.event)) c.events.ensures.items in
    let serds = ap (map (λ (d : Bor Declared). d.now)) c.deref-2.ensures.value
    ∙ c.in_ok-serds.ensures ∙ ap (map (λ e. e.engine)) c.engines.ensures.items in
    let placed = rw c.in-Some.is at c.in_ok-places.ensures in
    let others = rw c.in-Some-2.is at c.in_ok-others.ensures in
    subst (λ (xs : List EventName). AreNodesThere f xs c.in-Some.places.names.items
    c.in-Some.places.numbers.items) (sym c.deref-3.ensures.value)
    (nodes_there f topology (whole_file f c.events.ensures.sound) c.in-Some.places.names.items
    c.in-Some.places.numbers.items c.in-Some-2.others.names.items c.in-Some-2.others.numbers.items
    (subst (λ (ds : List Declared). ArePlaced topology ds c.in-Some.places.names.items
    c.in-Some.places.numbers.items) events placed.0)
    (subst (λ (ds : List Declared). ArePlaced topology ds c.in-Some-2.others.names.items
    c.in-Some-2.others.numbers.items) serds others.0))

pub engines_of-requires-clause-there : goal.engines_of-requires-clause-there
engines_of-requires-clause-there c =
    let f = c.args.checked.now in
    let topology = c.args.topo.now in
    let events = ap (map (λ (d : Bor Declared). d.now)) c.deref.ensures.value
    ∙ c.in_ok-events.ensures ∙ ap (map (λ e. e.event)) c.events.ensures.items in
    let serds = ap (map (λ (d : Bor Declared). d.now)) c.deref-2.ensures.value
    ∙ c.in_ok-serds.ensures ∙ ap (map (λ e. e.engine)) c.engines.ensures.items in
    let placed = rw c.in-Some.is at c.in_ok-places.ensures in
    let others = rw c.in-Some-2.is at c.in_ok-others.ensures in
    subst (λ (xs : List EventName). AreEnginesThere f xs c.in-Some-2.others.names.items
    c.in-Some-2.others.numbers.items) (sym c.deref-4.ensures.value)
    (engines_there f topology (whole_file f c.events.ensures.sound) c.in-Some.places.names.items
    c.in-Some.places.numbers.items c.in-Some-2.others.names.items c.in-Some-2.others.numbers.items
    (subst (λ (ds : List Declared). ArePlaced topology ds c.in-Some.places.names.items
    c.in-Some.places.numbers.items) events placed.0)
    (subst (λ (ds : List Declared). ArePlaced topology ds c.in-Some-2.others.names.items
    c.in-Some-2.others.numbers.items) serds others.0))

pub returns : goal.returns
returns c =
    let f = c.args.checked.now in
    let topology = c.args.topo.now in
    let events = ap (map (λ (d : Bor Declared). d.now)) c.deref.ensures.value
    ∙ c.in_ok-events.ensures ∙ ap (map (λ e. e.event)) c.events.ensures.items in
    let serds = ap (map (λ (d : Bor Declared). d.now)) c.deref-2.ensures.value
    ∙ c.in_ok-serds.ensures ∙ ap (map (λ e. e.engine)) c.engines.ensures.items in
    let placed = rw c.in-Some.is at c.in_ok-places.ensures in
    let others = rw c.in-Some-2.is at c.in_ok-others.ensures in
    placed_events f topology (whole_file f c.events.ensures.sound) c.in-Some.places.names.items
    c.in-Some.places.numbers.items c.in-Some-2.others.names.items c.in-Some-2.others.numbers.items
    (subst (λ (ds : List Declared). ArePlaced topology ds c.in-Some.places.names.items
    c.in-Some.places.numbers.items) events placed.0)
    (subst (λ (ds : List Declared). ArePlaced topology ds c.in-Some-2.others.names.items
    c.in-Some-2.others.numbers.items) serds others.0)
    c.in_ok-nodes.nodes.items c.in_ok-engines.engines.items
    (subst (λ (xs : List EventName). AreNodesAt f xs c.in-Some.places.names.items
    c.in-Some.places.numbers.items (length c.in-Some.places.names.items) c.in_ok-nodes.nodes.items)
    c.deref-3.ensures.value c.in_ok-nodes.ensures)
    (subst (λ (xs : List EventName). AreEnginesAt f xs c.in-Some-2.others.names.items
    c.in-Some-2.others.numbers.items (length c.in-Some-2.others.names.items)
    c.in_ok-engines.engines.items) c.deref-4.ensures.value c.in_ok-engines.ensures)
    placed.1 others.1
