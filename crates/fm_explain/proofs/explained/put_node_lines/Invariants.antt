use Rattle.std.proofs.Common.{◌≡◌, ◌++◌, drop}
use Rattle.fm_explain.specs.Explained.{node_lines}
use Rattle.fm_explain.proofs.explained.put_node_lines.Given as goal

abbrev pub invariant-events : goal.invariant-events
invariant-events l = l.out.items ++ node_lines l.nodes (drop l.event-index l.story)
    ≡ l.initial.out.items ++ node_lines l.nodes l.story
