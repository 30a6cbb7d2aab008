use Rattle.std.proofs.Common.{◌<◌, length, get_or, refl, sym, ◌∙◌, arith}
use Rattle.std.proofs.lemmas.Option.{slice_get-get_or}
use Rattle.dx_case.specs.declared.candidate.Candidate.{Candidate}
use Rattle.dx_case.specs.Changes.{gone_of}
use Rattle.dx_case.proofs.Changing.{below_none, below_more, below_all}
use Rattle.dx_case.proofs.changes.change_counted.Goals as goal

pub loop-at-init : goal.loop-at-init
loop-at-init g c =
    let change = c.args.change.now in
    below_none c.args.graph.now change.links.now
    (gone_of c.args.graph.now.nodes change.reports.now change.observed.now change.age)
    c.args.candidates.now

pub loop-at-preserved : goal.loop-at-preserved
loop-at-preserved g c =
    let change = c.args.change.now in
    let mid = c.loop-at.candidates in
    let at = c.loop-at.at in
    let x = get_or mid at c.index-candidates-at.result in
    let y : Candidate = record { root = x.root; live = c.change_live.new.live } in
    let l : at < length mid = omega (arith, c.loop-at-test.true, c.loop-at.auto.candidates) in
    below_more c.args.graph.now change.links.now
    (gone_of c.args.graph.now.nodes change.reports.now change.observed.now change.age)
    at c.args.candidates.now mid x y l
    (slice_get-get_or mid at c.index-candidates-at.result l) refl c.change_live.ensures
    c.loop-at.invariant

pub change_live-requires : goal.change_live-requires
change_live-requires g c =
    let mid = c.loop-at.candidates in
    let at = c.loop-at.at in
    let x = get_or mid at c.index-candidates-at.result in
    let l : at < length mid = omega (arith, c.loop-at-test.true, c.loop-at.auto.candidates) in
    record {
      live = c.requires.lives.each at x
          (sym (c.loop-at.invariant.left at (omega arith))
          ∙ slice_get-get_or mid at c.index-candidates-at.result l);
      ascend = c.requires.ascend;
      reports = c.requires.reports;
    }

pub returns : goal.returns
returns g c =
    let change = c.args.change.now in
    below_all c.args.graph.now change.links.now
    (gone_of c.args.graph.now.nodes change.reports.now change.observed.now change.age)
    c.loop-at.at c.args.candidates.now c.loop-at.candidates c.loop-at-test.false
    c.loop-at.invariant
