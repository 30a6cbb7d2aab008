use Rattle.ev_check.proofs.Excluding.{only_memory}
use Rattle.ev_check.proofs.checking.check.Goals as goal

pub returns-clause-only : goal.returns-clause-only
returns-clause-only c =
    only_memory c.args.tree.now.statements c.as_slice.result.now _ c.as_slice.ensures
    c.check_statements.ensures.err
