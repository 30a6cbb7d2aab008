use Rattle.std.proofs.Common.{◌≡◌, ℕ, [], List, get_or, subst, sym, ap, ◌∙◌}
use Rattle.std.proofs.lemmas.List.{take_all, get_or_default}
use Rattle.ev_graph.specs.Kinds.{is_report_node}
use Rattle.ev_graph.specs.declared.nodes.Node.{Node}
use Rattle.ev_incidence.proofs.Occurrences.{all_in, in_at}
use Rattle.dx_case.specs.Changes.{IsChanged, gone_of, goes}
use Rattle.dx_case.proofs.Changing.{changed_none, changed_report, unchanged_report}
use Rattle.dx_case.proofs.changes.lose_all.Goals as goal
use Rattle.dx_case.proofs.changes.lose_all.Goals.{then-goes, else-goes}

pub loop-report-init : goal.loop-report-init
loop-report-init g c = changed_none c.args.graph.now c.args.live.now c.requires.live

pub loop-report-preserved : goal.loop-report-preserved
loop-report-preserved g c =
    let graph = c.args.graph.now in
    let reports = c.args.reports.now in
    let observed = c.args.observed.now in
    let i = c.loop-report.report-index in
    let x = get_or reports i 0 in
    let l = c.loop-report-test.true in
    let tested : c.goes.result ≡ goes graph.nodes observed c.args.age x =
    c.goes.ensures
    ∙ ap (λ (ns : List Node). goes ns observed c.args.age x) c.nodes.ensures.nodes in
    elim c.if-goes.branch [
      | then-goes w ↦ rw w.live-is (changed_report graph.nodes reports observed c.args.age i x l
          (get_or_default reports i x 0 l) graph [] c.args.live.now c.loop-report.live
          w.shrink.new.self (sym tested ∙ w.if-goes.true) c.loop-report.invariant
          w.shrink.ensures.live w.shrink.ensures.root w.shrink.ensures.best)
      | else-goes w ↦ rw w.live-is (unchanged_report graph.nodes reports observed c.args.age i x l
          (get_or_default reports i x 0 l) graph [] c.args.live.now c.loop-report.live
          (sym tested ∙ w.if-goes.false) c.loop-report.invariant)
    ]

pub shrink-requires : goal.shrink-requires
shrink-requires g c = record {
  live = c.loop-report.invariant.live;
  report = all_in (is_report_node c.args.graph.now.nodes) c.args.reports.now
      (get_or c.args.reports.now c.loop-report.report-index 0) c.requires.reports
      (in_at c.args.reports.now c.loop-report.report-index c.loop-report-test.true);
}

pub returns : goal.returns
returns g c =
    let P : List ℕ → Type 0 = λ rs. IsChanged c.args.graph.now []
    (gone_of c.args.graph.now.nodes rs c.args.observed.now c.args.age) c.args.live.now
    c.loop-report.live in
    subst P (take_all c.loop-report.report-index c.args.reports.now c.loop-report-test.false)
    c.loop-report.invariant
