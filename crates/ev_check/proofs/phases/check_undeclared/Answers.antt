use Rattle.ev_check.specs.Faults.{finds_undeclared}
use Rattle.ev_check.proofs.Finding.{clean_all, clean_more, found_first, lost_found, lost_none}
use Rattle.ev_check.proofs.Finding.{stands_at}
use Rattle.ev_check.proofs.phases.check_undeclared.Goals as goal

pub loop-statement-preserved : goal.loop-statement-preserved
loop-statement-preserved c =
    let ss = c.args.statements.now in
    let n = c.loop-statement.statement-index in
    let x = c.statement-item.result in
    clean_more (finds_undeclared ss) ss n x c.loop-statement.invariant
    (stands_at ss n x c.loop-statement-test.true c.statement-item.is)
    (lost_none ss x c.args.events.now c.args.engines.now _ c.requires.events c.requires.engines
    c.in_ok-undeclared.ensures c.if-undeclared.false)

pub returns-then-undeclared-clause-err : goal.returns-then-undeclared-clause-err
returns-then-undeclared-clause-err c =
    let ss = c.args.statements.now in
    let n = c.loop-statement.statement-index in
    let x = c.statement-item.result in
    found_first (finds_undeclared ss) ss n x _ _ c.loop-statement.invariant
    (stands_at ss n x c.loop-statement-test.true c.statement-item.is)
    c.place.ensures
    (lost_found ss x c.args.events.now c.args.engines.now _ c.requires.events c.requires.engines
    c.in_ok-undeclared.ensures c.if-undeclared.true)

pub returns-clause-ok : goal.returns-clause-ok
returns-clause-ok c =
    clean_all (finds_undeclared c.args.statements.now) c.args.statements.now
    c.loop-statement.statement-index c.loop-statement-test.false c.loop-statement.invariant
