-- The two sides of a candidate.
use Rattle.std.proofs.Common.{map, ap}
use Rattle.ev_tree.specs.Pattern.{view_pattern}
use Rattle.ev_check.specs.CheckedFile.{view_prop}
use Rattle.ev_inst.proofs.Gathering.{few_events, few_links, left_within, side_left, side_right}
use Rattle.ev_inst.proofs.outcomes.outcome_of.Goals as goal

pub split_at-requires : goal.split_at-requires
split_at-requires c =
    left_within c.args.binding.now.topo.now c.args.index.now.nodes.now (view_prop c.args.prop.now)
    c.args.tables.now c.requires.ready c.as_slice-left.result.now
    (ap (map view_pattern) c.as_slice-left.ensures)

pub side_events-requires : goal.side_events-requires
side_events-requires c =
    let b = c.args.binding.now in
    side_left b.topo.now c.args.index.now.nodes.now (view_prop c.args.prop.now) c.args.tables.now
    c.split_at.result.0.now c.requires.ready b.names.now b.instances.now
    c.as_slice-left.result.now c.requires.names c.requires.full
    (ap (map view_pattern) c.as_slice-left.ensures) c.split_at.ensures.front

pub side_events-requires-2 : goal.side_events-requires-2
side_events-requires-2 c =
    let b = c.args.binding.now in
    side_right b.topo.now c.args.index.now.nodes.now (view_prop c.args.prop.now) c.args.tables.now
    c.split_at.result.1.now c.requires.ready b.names.now b.instances.now
    c.as_slice-right.result.now c.as_slice-left.result.now c.requires.names c.requires.full
    (ap (map view_pattern) c.as_slice-right.ensures)
    (ap (map view_pattern) c.as_slice-left.ensures) c.split_at.ensures.back

pub complete-requires-clause-causes : goal.complete-requires-clause-causes
complete-requires-clause-causes c =
    let b = c.args.binding.now in
    let told = rw c.in-Some.is at c.in_ok-causes.ensures in
    few_events b.topo.now c.args.index.now.nodes.now b.names.now b.instances.now
    (map view_pattern c.as_slice-left.result.now) c.in-Some.causes.items
    c.requires.ready.nodes_are.few told.1.0

pub complete-requires-clause-effects : goal.complete-requires-clause-effects
complete-requires-clause-effects c =
    let b = c.args.binding.now in
    let told = rw c.in-Some-2.is at c.in_ok-effects.ensures in
    few_events b.topo.now c.args.index.now.nodes.now b.names.now b.instances.now
    (map view_pattern c.as_slice-right.result.now) c.in-Some-2.effects.items
    c.requires.ready.nodes_are.few told.1.0

pub returns-in-Some-complete-clause-few : goal.returns-in-Some-complete-clause-few
returns-in-Some-complete-clause-few c =
    let b = c.args.binding.now in
    let causes = rw c.in-Some.is at c.in_ok-causes.ensures in
    let effects = rw c.in-Some-2.is at c.in_ok-effects.ensures in
    few_links b.topo.now (view_prop c.args.prop.now) b.names.now b.instances.now
    (map view_pattern c.as_slice-left.result.now) (map view_pattern c.as_slice-right.result.now)
    c.in-Some.causes.items c.in-Some-2.effects.items c.in-Some-complete.instance c.requires.names
    (ap (map view_pattern) c.as_slice-left.ensures)
    (ap (map view_pattern) c.as_slice-right.ensures) causes.1.1 effects.1.1
    (ap (λ i. i.causes) c.in-Some-complete.ensures.1)
    (ap (λ i. i.effects) c.in-Some-complete.ensures.1)
