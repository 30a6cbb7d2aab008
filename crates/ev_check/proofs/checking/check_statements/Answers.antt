use Rattle.std.proofs.lemmas.Result.{err_from_is_err_and}
use Rattle.ev_check.proofs.Answering.{by_arrows, by_undeclared, by_twice, by_words}
use Rattle.ev_check.proofs.checking.check_statements.Goals as goal

pub returns-in_err-check_words-clause-err : goal.returns-in_err-check_words-clause-err
returns-in_err-check_words-clause-err c =
    let p = err_from_is_err_and c.from_residual.result c.from_residual.ensures.1 in
    rw (p.1, p.2) (by_words c.args.statements.now _ c.in_err-check_words.ensures.err)

pub returns-in_err-check_twice-clause-err : goal.returns-in_err-check_twice-clause-err
returns-in_err-check_twice-clause-err c =
    let p = err_from_is_err_and c.from_residual-in_err-check_twice.result
    c.from_residual-in_err-check_twice.ensures.1 in
    rw (p.1, p.2) (by_twice c.args.statements.now _ c.in_ok-check_words.ensures.ok
    c.in_err-check_twice.ensures.err)

pub returns-in_err-check_undeclared-clause-err : goal.returns-in_err-check_undeclared-clause-err
returns-in_err-check_undeclared-clause-err c =
    let p = err_from_is_err_and c.from_residual-in_err-check_undeclared.result
    c.from_residual-in_err-check_undeclared.ensures.1 in
    rw (p.1, p.2) (by_undeclared c.args.statements.now _ c.in_ok-check_words.ensures.ok
    c.in_ok-check_twice.ensures.ok c.in_err-check_undeclared.ensures.err)

pub returns-in_err-check_arrows-clause-err : goal.returns-in_err-check_arrows-clause-err
returns-in_err-check_arrows-clause-err c =
    let p = err_from_is_err_and c.from_residual-in_err-check_arrows.result
    c.from_residual-in_err-check_arrows.ensures.1 in
    rw (p.1, p.2) (by_arrows c.args.statements.now _ c.in_ok-check_words.ensures.ok
    c.in_ok-check_twice.ensures.ok c.in_ok-check_undeclared.ensures.ok
    c.in_err-check_arrows.ensures.err)

pub returns-clause-ok : goal.returns-clause-ok
returns-clause-ok c = record {
  words = c.in_ok-check_words.ensures.ok;
  once = c.in_ok-check_twice.ensures.ok;
  declared = c.in_ok-check_undeclared.ensures.ok;
  trips = c.in_ok-check_arrows.ensures.trips;
  acyclic = c.in_ok-check_arrows.ensures.acyclic;
}
