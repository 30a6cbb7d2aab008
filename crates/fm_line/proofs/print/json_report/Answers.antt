use Rattle.std.proofs.Common.{◌≤◌, ◌∙◌, ap, arith}
use Rattle.serde_json.specs.Data.{depth}
use Rattle.serde_json.specs.Read.{max_depth}
use Rattle.serde_json.specs.View.{view}
use Rattle.serde_json.specs.Written.{compact_text, has_float}
use Rattle.fm_nv.specs.Data as nv
use Rattle.fm_line.specs.Printed.{report_data, json_report}
use Rattle.fm_line.proofs.Floatless.{report_floatless}
use Rattle.fm_line.proofs.Nesting.{report_depth}
use Rattle.fm_line.proofs.Texts.{json_reads}
use Rattle.fm_line.proofs.print.json_report.Goals as goal

pub returns-clause-text : goal.returns-clause-text
returns-clause-text c =
    c.in_ok-to_vec.ensures.text (ap has_float c.in_ok-report.ensures
    ∙ report_floatless c.args.class.now c.args.path.now c.args.moment c.args.payload.now)
    ∙ ap compact_text c.in_ok-report.ensures

pub returns-clause-reads : goal.returns-clause-reads
returns-clause-reads c =
    let deep : nv.depth c.args.payload.now ≤ 8 =
    omega (arith, c.depth-depth.ensures.deep, c.depth-depth.ensures.bound) in
    let nests : depth (view c.in_ok-report.report) ≤ max_depth =
    omega (
      arith,
      ap depth c.in_ok-report.ensures,
      report_depth c.args.class.now c.args.path.now c.args.moment c.args.payload.now deep,
    ) in
    json_reads c.in_ok-to_vec.field-0.items
    (json_report c.args.class.now c.args.path.now c.args.moment c.args.payload.now)
    (view c.in_ok-report.report)
    (report_data c.args.class.now c.args.path.now c.args.moment c.args.payload.now)
    (returns-clause-text c) c.in_ok-to_vec.ensures.utf8 c.in_ok-report.ensures
    (c.in_ok-to_vec.ensures.reads_back nests)
