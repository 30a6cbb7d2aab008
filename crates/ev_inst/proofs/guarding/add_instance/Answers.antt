-- The guards of the right side, or none where no pattern asks.
use Rattle.std.proofs.Common.{◌≡◌, List, length, map, drop, refl, sym, ap, ◌∙◌, arith}
use Rattle.ev_tree.specs.Pattern.{view_pattern}
use Rattle.ev_check.specs.CheckedFile.{view_prop}
use Rattle.ev_inst.specs.Outcomes.{events_of}
use Rattle.ev_guards.specs.declared.guards.GuardedNode.{GuardedNode}
use Rattle.ev_inst.proofs.Collected.{front_only, instance_added, instance_counted}
use Rattle.ev_inst.proofs.Gathering.{left_within, side_right}
use Rattle.ev_inst.proofs.guarding.add_instance.Goals as goal

pub split_at-requires : goal.split_at-requires
split_at-requires c =
    left_within c.args.binding.now.topo.now c.args.index.now.nodes.now (view_prop c.args.prop.now)
    c.args.tables.now c.requires.ready c.as_slice-left.result.now
    (ap (map view_pattern) c.as_slice-left.ensures)

pub events_of_each-requires : goal.events_of_each-requires
events_of_each-requires c =
    let b = c.args.binding.now in
    side_right b.topo.now c.args.index.now.nodes.now (view_prop c.args.prop.now) c.args.tables.now
    c.split_at.result.1.now c.requires.ready b.names.now b.instances.now
    c.as_slice-right.result.now c.as_slice-left.result.now c.requires.names c.requires.full
    (ap (map view_pattern) c.as_slice-right.ensures)
    (ap (map view_pattern) c.as_slice-left.ensures) c.split_at.ensures.back

pub returns-then-not-any_asks : goal.returns-then-not-any_asks
returns-then-not-any_asks c =
    let b = c.args.binding.now in
    instance_counted b.topo.now c.args.index.now.nodes.now (view_prop c.args.prop.now)
    b.instances.now
    (map view_pattern c.as_slice-right.result.now)
    (ap (map view_pattern) c.as_slice-right.ensures)
    (sym c.any_asks.ensures ∙ c.if-not-any_asks.true) c.args.all.now c.count_instance.new.all
    c.in_ok-count_instance.ensures.nodes c.in_ok-count_instance.ensures.count

pub returns : goal.returns
returns c =
    let b = c.args.binding.now in
    let right = ap (map view_pattern) c.as_slice-right.ensures in
    let kept = c.in_ok-add_effects.ensures.long in
    let was = ap (λ (gs : List GuardedNode). length gs) c.deref_mut.ensures.value in
    let whole = c.deref_mut.ensures.len in
    let long : c.args.all.now.nodes.len ≡ length c.add_effects.new.guarded =
    omega (arith, kept, was, whole) in
    instance_added _ (view_prop c.args.prop.now) c.args.effects.now c.requires.names right
    (c.requires.effects ∙ (λ i. events_of b.topo.now c.args.index.now.nodes.now
    (sym c.requires.names i)
    b.instances.now (sym right i)))
    c.args.all.now c.count_instance-2.new.all refl c.deref_mut.result.now
    c.add_effects.new.guarded c.deref_mut.ensures.value
    (c.in_ok-count_instance-2.ensures.nodes
    ∙ front_only c.args.all.now.nodes.len c.add_effects.new.guarded
    (drop (length c.add_effects.new.guarded) c.args.all.now.nodes.items) long)
    c.in_ok-add_effects.ensures c.in_ok-count_instance-2.ensures.count
