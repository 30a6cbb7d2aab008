-- The places of a pattern are paths with its nodes, and what they give are its events.
use Rattle.std.proofs.Common.{sym, ◌∙◌, subst, refl}
use Rattle.ev_tree.specs.Pattern.{view_pattern}
use Rattle.ev_inst.specs.Gathering.{AreOnPaths}
use Rattle.ev_inst.proofs.Numbering.{on_paths}
use Rattle.ev_inst.proofs.Questioning.{events_are}
use Rattle.ev_inst.proofs.asked.pattern_events.Goals as goal

pub add_numbers-requires-clause-there : goal.add_numbers-requires-clause-there
add_numbers-requires-clause-there c =
    let b = c.args.binding.now in
    let q = view_pattern c.args.pattern.now in
    subst (AreOnPaths b.topo.now c.args.index.now.nodes.now q.class)
    (sym (c.deref.ensures.value ∙ c.in_ok-places.ensures))
    (on_paths b.topo.now c.args.index.now.nodes.now c.requires.nodes_are b.names.now
    b.instances.now q 0 _
    refl c.requires.known)

pub returns : goal.returns
returns c =
    let b = c.args.binding.now in
    events_are b.topo.now c.args.index.now.nodes.now b.names.now b.instances.now
    c.requires.nodes_are
    (view_pattern c.args.pattern.now) c.new-numbers.result.items c.deref.result.now
    c.add_numbers.new.found.items c.set_of.result.items c.new-numbers.ensures.items
    (c.deref.ensures.value ∙ c.in_ok-places.ensures) c.in_ok-add_numbers.ensures.members
    c.set_of.ensures.rises c.set_of.ensures.members
