use Rattle.std.proofs.Common.{◌∙◌}
use Rattle.indexmap.proofs.CallerLemmas.{Drains-YieldsInOrder}
use Rattle.fm_status.proofs.WantedPaths.{sorted_ascend, wanted_is}
use Rattle.fm_status.proofs.wanted.sorted_paths.Goals as goal

pub returns-clause-ascend : goal.returns-clause-ascend
returns-clause-ascend c =
    sorted_ascend c.in_ok-paths.paths.items c.sort_unstable.new.self.items
    c.dedup.new.self.items c.sort_unstable.ensures.permutation c.sort_unstable.ensures.sorted
    c.dedup.ensures.filtered

pub returns-clause-wanted : goal.returns-clause-wanted
returns-clause-wanted c rows e =
    let ran = c.in_ok-paths.ensures.ran in
    let last = ran.3.2 tt in
    let all = Drains-YieldsInOrder _ _ ran.0 ran.1 ran.2.2
    (last.0, (ran.3.0, ran.3.1, last.1)) in
    wanted_is rows c.args.met.keys c.in_ok-paths.paths.items c.sort_unstable.new.self.items
    c.dedup.new.self.items e (ran.4.0 ∙ (all ∙ ran.2.0))
    c.sort_unstable.ensures.permutation c.sort_unstable.ensures.sorted c.dedup.ensures.filtered
