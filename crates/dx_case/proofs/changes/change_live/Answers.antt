use Rattle.dx_case.specs.Changes.{gone_of}
use Rattle.dx_case.proofs.Changing.{changed_both}
use Rattle.dx_case.proofs.changes.change_live.Goals as goal

pub lose_all-requires : goal.lose_all-requires
lose_all-requires g c = record {
  live = c.cut_all.ensures.live;
  ascend = c.requires.ascend;
  reports = c.requires.reports;
}

pub returns : goal.returns
returns g c =
    let change = c.args.change.now in
    changed_both c.args.graph.now change.links.now
    (gone_of c.args.graph.now.nodes change.reports.now change.observed.now change.age)
    c.args.live.now c.cut_all.new.live c.lose_all.new.live c.cut_all.ensures c.lose_all.ensures
