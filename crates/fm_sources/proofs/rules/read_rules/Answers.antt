use Rattle.std.proofs.Common.{rules}
use Rattle.std.proofs.lemmas.Result.{err_from_is_err_and}
use Rattle.fm_sources.proofs.Checks.{by_check}
use Rattle.fm_sources.proofs.rules.read_rules.Goals as goal

pub returns-in_err-checked-clause-cause : goal.returns-in_err-checked-clause-cause
returns-in_err-checked-clause-cause c =
    let p = err_from_is_err_and c.from_residual-in_err-checked.result
    c.from_residual-in_err-checked.ensures.1 in
    rw (p.1, p.2)
    (by_check c.args.text.now _ c.in_ok-tree.tree c.in_err-checked.field-0.0 (record {
      has = record { short = search rules; tokens_are = search rules };
      grammar = c.in_ok-tree.ensures.found;
      placed = c.in_ok-tree.ensures.placed;
    }) c.in_err-checked.ensures.err)
