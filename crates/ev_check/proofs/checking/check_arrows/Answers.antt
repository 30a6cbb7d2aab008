use Rattle.std.proofs.lemmas.Result.{err_from_is_err_and}
use Rattle.ev_check.proofs.Answering.{by_cycle, by_trips}
use Rattle.ev_check.proofs.checking.check_arrows.Goals as goal

pub check_trips-requires : goal.check_trips-requires
check_trips-requires c = record {
  events = c.requires;
  nodes = c.in_ok-arrows.ensures.nodes;
  causes = c.in_ok-arrows.ensures.causes;
  effects = c.in_ok-arrows.ensures.effects;
}

pub check_cycle-requires : goal.check_cycle-requires
check_cycle-requires c = record {
  events = c.requires;
  nodes = c.in_ok-arrows.ensures.nodes;
  causes = c.in_ok-arrows.ensures.causes;
  effects = c.in_ok-arrows.ensures.effects;
}

pub returns-in_err-check_trips-clause-err : goal.returns-in_err-check_trips-clause-err
returns-in_err-check_trips-clause-err c =
    let p = err_from_is_err_and c.from_residual-in_err-check_trips.result
    c.from_residual-in_err-check_trips.ensures.1 in
    rw (p.1, p.2) (by_trips c.args.statements.now _ c.in_err-check_trips.ensures.err)

pub returns-in_err-check_cycle-clause-err : goal.returns-in_err-check_cycle-clause-err
returns-in_err-check_cycle-clause-err c =
    let p = err_from_is_err_and c.from_residual-in_err-check_cycle.result
    c.from_residual-in_err-check_cycle.ensures.1 in
    rw (p.1, p.2) (by_cycle c.args.statements.now _ c.in_ok-check_trips.ensures.ok
    c.in_err-check_cycle.ensures.err)
