use Rattle.std.proofs.Common.{sym, ◌∙◌}
use Rattle.ev_check.specs.Faults.{in_itself}
use Rattle.ev_check.proofs.Finding.{clean_all, clean_more, found_first, stands_at}
use Rattle.ev_check.proofs.phases.check_words.Goals as goal

pub loop-statement-preserved : goal.loop-statement-preserved
loop-statement-preserved c =
    clean_more in_itself c.args.statements.now c.loop-statement.statement-index
    c.statement-item.result c.loop-statement.invariant
    (stands_at c.args.statements.now c.loop-statement.statement-index c.statement-item.result
    c.loop-statement-test.true c.statement-item.is)
    (sym c.in_ok-kind.ensures ∙ c.in_default.is)

pub returns-in-Some-clause-err : goal.returns-in-Some-clause-err
returns-in-Some-clause-err c =
    found_first in_itself c.args.statements.now c.loop-statement.statement-index
    c.statement-item.result _ _ c.loop-statement.invariant
    (stands_at c.args.statements.now c.loop-statement.statement-index c.statement-item.result
    c.loop-statement-test.true c.statement-item.is)
    c.place.ensures
    (sym c.in_ok-kind.ensures ∙ c.in-Some.is)

pub returns-clause-ok : goal.returns-clause-ok
returns-clause-ok c =
    clean_all in_itself c.args.statements.now c.loop-statement.statement-index
    c.loop-statement-test.false c.loop-statement.invariant
