-- One pattern more.
use Rattle.std.proofs.Common.{◌++◌, ℕ, List, [], ◌∷◌, map, ap, ◌∙◌, arith}
use Rattle.ev_tree.specs.Pattern.{view_pattern}
use Rattle.ev_inst.proofs.Gathering.{tables_long, view_long}
use Rattle.ev_inst.proofs.Questioning.{given_step, side_one}
use Rattle.ev_inst.proofs.asked.events_of_each.Goals as goal

pub unreachable-requires : goal.unreachable-requires
unreachable-requires c =
    let b = c.args.binding.now in
    let long = tables_long b.topo.now b.names.now (map view_pattern c.args.patterns.now)
    c.args.tables.now c.requires.tables in
    let seen = view_long c.args.patterns.now in
    let less = c.patterns-test.true in omega (arith, long, seen, less)

pub pattern_events-requires : goal.pattern_events-requires
pattern_events-requires c =
    let b = c.args.binding.now in
    side_one b.topo.now c.args.index.now.nodes.now b.names.now b.instances.now c.args.patterns.now
    c.args.tables.now c.patterns.at c.index-patterns-at.result c.index-tables-at.result c.requires
    c.patterns-test.true c.index-patterns-at.is (omega arith) c.index-tables-at.is

pub patterns-preserved : goal.patterns-preserved
patterns-preserved c =
    let b = c.args.binding.now in
    given_step b.topo.now c.args.index.now.nodes.now b.names.now b.instances.now c.args.patterns.now
    c.patterns.at c.index-patterns-at.result c.patterns-test.true c.index-patterns-at.is
    c.patterns.given.items c.push.new.self.items c.in_ok-numbers.numbers.items
    c.patterns.invariant c.in_ok-numbers.ensures
    (c.in_ok-push.ensures.items
    ∙ ap (λ (xs : List ℕ). c.patterns.given.items ++ xs ∷ []) c.new.ensures)
