-- The numbers of one pattern more.
use Rattle.std.proofs.Common.{◌&&◌, ◌==◌, List, ℕ, not, length, map, sym, ap, ◌∙◌, subst}
use Rattle.std.proofs.Common.{arith}
use Rattle.ev_tree.specs.Pattern.{view_pattern}
use Rattle.ev_events.proofs.Joining.{pattern_there}
use Rattle.ev_inst.specs.Gathering.{AreOnPaths}
use Rattle.ev_inst.specs.Outcomes.{has_across}
use Rattle.ev_inst.proofs.Gathering.{bare_at, bare_more, gathered_step, table_there, tables_long}
use Rattle.ev_inst.proofs.Gathering.{view_long}
use Rattle.ev_inst.proofs.Numbering.{on_paths}
use Rattle.ev_inst.proofs.numbers.gather.Goals as goal

pub unreachable-requires : goal.unreachable-requires
unreachable-requires c =
    let b = c.args.binding.now in
    let long = tables_long b.topo.now b.names.now (map view_pattern c.args.patterns.now)
    c.args.tables.now c.requires.tables in
    let seen = view_long c.args.patterns.now in
    let less = c.patterns-test.true in omega (arith, long, seen, less)

pub places_of-requires-clause-table : goal.places_of-requires-clause-table
places_of-requires-clause-table c =
    let b = c.args.binding.now in
    table_there b.topo.now b.names.now c.args.patterns.now c.args.tables.now c.patterns.at
    c.index-patterns-at.result c.index-tables-at.result c.requires.tables c.patterns-test.true
    c.index-patterns-at.is (omega arith) c.index-tables-at.is

pub returns-then-is_bare : goal.returns-then-is_bare
returns-then-is_bare c =
    let b = c.args.binding.now in
    let p = c.index-patterns-at.result in
    bare_at b.topo.now c.args.index.now.nodes.now b.names.now b.instances.now c.args.patterns.now
    c.patterns.at p p c.patterns-test.true c.index-patterns-at.is
    (ap (λ (xs : List ℕ). not (has_across (view_pattern p)) && (length xs == 0))
    (sym (c.deref.ensures.value ∙ c.in_ok-places.ensures))
    ∙ sym c.is_bare.ensures ∙ c.if-is_bare.true)

pub add_numbers-requires-clause-there : goal.add_numbers-requires-clause-there
add_numbers-requires-clause-there c =
    let b = c.args.binding.now in
    let p = c.index-patterns-at.result in
    subst (AreOnPaths b.topo.now c.args.index.now.nodes.now p.class)
    (sym (c.deref-in-patterns.ensures.value ∙ c.in_ok-places.ensures))
    (on_paths b.topo.now c.args.index.now.nodes.now c.requires.nodes_are b.names.now b.instances.now
    (view_pattern p) c.patterns.at (map view_pattern c.args.patterns.now)
    (pattern_there c.args.patterns.now c.patterns.at p p c.patterns-test.true
    c.index-patterns-at.is) c.requires.known)

pub patterns-preserved : goal.patterns-preserved
patterns-preserved c =
    let b = c.args.binding.now in
    let p = c.index-patterns-at.result in (
      bare_more b.topo.now c.args.index.now.nodes.now b.names.now b.instances.now
          c.args.patterns.now
          c.patterns.at p p c.patterns-test.true c.index-patterns-at.is c.patterns.invariant.0
          (ap (λ (xs : List ℕ). not (has_across (view_pattern p)) && (length xs == 0))
          (sym (c.deref.ensures.value ∙ c.in_ok-places.ensures))
          ∙ sym c.is_bare.ensures ∙ c.if-is_bare.false),
      gathered_step b.topo.now c.args.index.now.nodes.now b.names.now b.instances.now
          c.args.patterns.now
          c.patterns.at p p c.patterns-test.true c.index-patterns-at.is c.requires.nodes_are
          c.patterns.found.items c.add_numbers.new.found.items c.deref-in-patterns.result.now
          (c.deref-in-patterns.ensures.value ∙ c.in_ok-places.ensures) c.patterns.invariant.1
          c.in_ok-add_numbers.ensures.members c.in_ok-add_numbers.ensures.count,
    )
