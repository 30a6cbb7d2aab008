use Rattle.std.proofs.Common.{◌≡◌, ◌++◌, drop}
use Rattle.fm_config.specs.Reports.{report_names}
use Rattle.fm_config.proofs.reports.put_nodes.Given as goal

abbrev pub invariant-nodes : goal.invariant-nodes
invariant-nodes l =
    l.events.items ++ report_names (drop l.node-index l.nodes)
    ≡ l.initial.events.items ++ report_names l.nodes
