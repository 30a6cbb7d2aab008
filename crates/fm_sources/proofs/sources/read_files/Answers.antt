use Rattle.std.proofs.Common.{◌+◌, arith, subst, sym, set}
use Rattle.std.proofs.lemmas.Result.{err_from_is_err_and}
use Rattle.fm_sources.proofs.Given.{GaveUpTo, gave_next, gave_whole, refused_first}
use Rattle.fm_sources.specs.declared.faults.SourceFault.TheVariants.{NoMemory}
use Rattle.fm_sources.proofs.sources.read_files.Goals as goal

pub returns-in_err-read_file-clause-refused : goal.returns-in_err-read_file-clause-refused
returns-in_err-read_file-clause-refused g c =
    let p = err_from_is_err_and c.from_residual.result c.from_residual.ensures.1 in
    rw (p.1, p.2) (
      c.files.number,
      refused_first g.S.Source c.files.number c.args.rules.now c.files.rules c.files.files.items
          c.read_file.new.source c.index-rules-number.result c.in_err-read_file.field-0.0
          c.files.invariant (omega (arith, c.files-test.true, c.files.auto.rules))
          c.in_err-read_file.ensures.refused,
    )

pub returns-in_err-push-clause-refused : goal.returns-in_err-push-clause-refused
returns-in_err-push-clause-refused g c =
    let p = err_from_is_err_and c.from_residual-in_err-push.result
    c.from_residual-in_err-push.ensures.1 in
    rw (p.1, p.2) (
      c.files.number,
      refused_first g.S.Source c.files.number c.args.rules.now c.files.rules c.files.files.items
          c.read_file.new.source c.index-rules-number.result NoMemory c.files.invariant
          (omega (arith, c.files-test.true, c.files.auto.rules)) tt,
    )

pub files-preserved : goal.files-preserved
files-preserved g c =
    subst (λ fs. GaveUpTo g.S.Source (c.files.number + 1) c.args.rules.now
    (set c.files.rules c.files.number c.read_file.new.source) fs)
    (sym c.in_ok-push.ensures.items)
    (gave_next g.S.Source c.files.number c.args.rules.now c.files.rules c.files.files.items
    c.read_file.new.source c.index-rules-number.result c.in_ok-read_file.field-0
    c.files.invariant (omega (arith, c.files-test.true, c.files.auto.rules))
    c.in_ok-read_file.ensures.gave)

pub returns-clause-gave : goal.returns-clause-gave
returns-clause-gave g c =
    gave_whole g.S.Source c.files.number c.args.rules.now c.files.rules c.files.files.items
    c.files.invariant (omega (arith, c.files-test.false, c.files.auto.rules))
