use Rattle.std.proofs.Common.{sym, ◌∙◌, ap, ◌++◌, option_to_list, take}
use Rattle.ev_check.specs.Declarations.{event_in, engine_in, twice_after}
use Rattle.ev_check.proofs.Finding.{again_found, again_none, clean_all, clean_more, found_first}
use Rattle.ev_check.proofs.Finding.{found_more, stands_at}
use Rattle.ev_check.proofs.phases.check_twice.Goals as goal

pub loop-statement-preserved : goal.loop-statement-preserved
loop-statement-preserved c =
    let ss = c.args.statements.now in
    let n = c.loop-statement.statement-index in
    let x = c.statement-item.result in
    record {
      clean = clean_more twice_after ss n x c.loop-statement.invariant.clean
          (stands_at ss n x c.loop-statement-test.true c.statement-item.is)
          (again_none (take n ss) x c.loop-statement.events c.loop-statement.engines _
          c.loop-statement.invariant.events c.loop-statement.invariant.engines
          c.in_ok-again.ensures c.if-again.false);
      events = c.in_ok-note.ensures.events
          ∙ ap (λ y. y ++ option_to_list (event_in x)) c.loop-statement.invariant.events
          ∙ sym (found_more event_in ss n x c.loop-statement-test.true c.statement-item.is);
      engines = c.in_ok-note.ensures.engines
          ∙ ap (λ y. y ++ option_to_list (engine_in x)) c.loop-statement.invariant.engines
          ∙ sym (found_more engine_in ss n x c.loop-statement-test.true c.statement-item.is);
    }

pub returns-then-again-clause-err : goal.returns-then-again-clause-err
returns-then-again-clause-err c =
    let ss = c.args.statements.now in
    let n = c.loop-statement.statement-index in
    let x = c.statement-item.result in
    found_first twice_after ss n x _ _ c.loop-statement.invariant.clean
    (stands_at ss n x c.loop-statement-test.true c.statement-item.is)
    c.place.ensures
    (again_found (take n ss) x c.loop-statement.events c.loop-statement.engines _
    c.loop-statement.invariant.events c.loop-statement.invariant.engines c.in_ok-again.ensures
    c.if-again.true)

pub returns-clause-ok : goal.returns-clause-ok
returns-clause-ok c =
    clean_all twice_after c.args.statements.now c.loop-statement.statement-index
    c.loop-statement-test.false c.loop-statement.invariant.clean
