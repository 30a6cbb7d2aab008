use Rattle.std.proofs.Common.{◌∙◌, ap}
use Rattle.dx_case.specs.Cases.{open_of}
use Rattle.dx_turn.specs.declared.tracked.Tracked.{Tracked}
use Rattle.dx_turn.specs.Tracking.{opens_of, IsTrackedAt}
use Rattle.dx_turn.proofs.Both.{on_both}
use Rattle.dx_turn.proofs.Gone.{joined_gone}
use Rattle.dx_turn.proofs.Tracking.{kept_set, all_set}
use Rattle.dx_turn.proofs.joining.join_at.Goals as goal

pub returns-clause-kept : goal.returns-clause-kept
returns-clause-kept c =
    kept_set c.args.work.now.cases.items c.args.at c.index_mut.result.now c.settle.new.tracked
    c.requires.place.low
    (c.settle.ensures.kept ∙ ap (λ (x : Tracked). x.kept) c.index_mut.ensures.value)

pub returns-clause-ok : goal.returns-clause-ok
returns-clause-ok c =
    let d = c.args.ground.now in
    let w = c.args.work.now in
    let e = c.index.result.now in
    on_both c.settle.result
    (λ h left. record {
      turn = joined_gone d c.args.incoming.now w.cases.items c.args.at e c.settle.new.tracked
          (open_of c.in_ok-case.case) w.next w.told c.settle.new.told c.requires.ground
          c.requires.place
          (λ o k. c.in_ok-case.ensures.made o (ap opens_of c.index.ensures ∙ k)) left h;
      work = record {
        told = h.told;
        current = all_set (IsTrackedAt d.graph.now d.time) w.cases.items c.args.at
            c.settle.new.tracked c.requires.work.current c.settle.ensures.current;
        starts = c.requires.work.starts;
      };
    })
    c.settle.ensures.turned c.settle.ensures.left
