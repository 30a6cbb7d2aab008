use Rattle.std.proofs.Common.{◌∙◌, ◌+◌, ap, sym, subst, List, arith}
use Rattle.std.specs.List.{All}
use Rattle.dx_case.specs.Cases.{open_of}
use Rattle.dx_turn.specs.declared.tracked.Tracked.{Tracked}
use Rattle.dx_turn.specs.Turning.{turn_at}
use Rattle.dx_turn.specs.Tracking.{opens_in, cases_before, IsTrackedAt}
use Rattle.dx_turn.proofs.Gone.{opened_gone}
use Rattle.dx_turn.proofs.Joins.{unopened_turn}
use Rattle.dx_turn.proofs.Tracking.{kept_push, all_push}
use Rattle.dx_turn.proofs.joining.open_new.Goals as goal

pub returns-then-work-clause-ok : goal.returns-then-work-clause-ok
returns-then-work-clause-ok c = record {
  turn = unopened_turn c.args.ground.now c.args.incoming.now c.requires.ground
      (opens_in c.args.work.now.cases.items) c.args.work.now.next c.args.work.now.told
      c.requires.place (omega arith);
  work = c.requires.work;
}

pub returns-clause-kept : goal.returns-clause-kept
returns-clause-kept c =
    ap cases_before c.in_ok-push.ensures.items
    ∙ kept_push c.args.work.now.cases.items c.settle.new.tracked
    (c.settle.ensures.kept ∙ ap (λ (x : Tracked). x.kept) c.blank-tracked.ensures)

pub returns-clause-ok : goal.returns-clause-ok
returns-clause-ok c =
    let d = c.args.ground.now in
    let w = c.args.work.now in
    let t = c.settle.new.tracked in
    let h = c.in_ok-settle.ensures.turned in
    record {
      turn = ap (λ (ts : List Tracked). turn_at d (w.next + 1) (opens_in ts) c.settle.new.told)
          c.in_ok-push.ensures.items
          ∙ opened_gone d c.args.incoming.now w.cases.items t (open_of c.in_ok-case.case) w.next
          w.told c.settle.new.told c.requires.ground c.requires.place (omega arith)
          c.in_ok-case.ensures.«open» c.in_ok-settle.ensures.left h;
      work = record {
        told = h.told;
        current = subst (All (IsTrackedAt d.graph.now d.time)) (sym c.in_ok-push.ensures.items)
            (all_push (IsTrackedAt d.graph.now d.time) w.cases.items t c.requires.work.current
            c.settle.ensures.current);
        starts = c.start_with.ensures.starts;
      };
    }
