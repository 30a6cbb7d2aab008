use Rattle.std.proofs.Common.{◌∙◌, ap}
use Rattle.dx_rules.specs.ReportIndex.{event_by}
use Rattle.dx_step.specs.Reports.{report_named}
use Rattle.dx_turn.proofs.Names.{is_declared}
use Rattle.dx_turn.proofs.finding.report_named.Goals as goal

pub returns-clause-declared : goal.returns-clause-declared
returns-clause-declared c =
    is_declared c.args.ground.now.graph.now (event_by c.args.name.now) c.report_named.result
    (c.report_named.ensures
    ∙ ap (λ g. report_named g (event_by c.args.name.now)) c.requires.graph)
