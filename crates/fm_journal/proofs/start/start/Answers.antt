-- After the empty disk a torn header is no journal with a payload.
use Rattle.std.proofs.Common.{[], ◌∷◌, length, inr, ap, arith, length-append}
use Rattle.fm_journal.specs.Format.{header}
use Rattle.fm_journal.proofs.Records.{length-header}
use Rattle.fm_journal.proofs.Started.{starts_over, at_ok, at_err}
use Rattle.fm_journal.proofs.start.start.Goals as goal

pub returns-clause-two_phases : goal.returns-clause-two_phases
returns-clause-two_phases g c =
    at_ok c.write_through.result _
    (starts_over g.D.Disk c.args.disk.now c.empty.new.disk c.write_through.new.disk
    (length c.empty_journal.result)
    (omega (
      arith,
      ap length c.empty_journal.ensures,
      length-append (header c.args.first) (0 ∷ []),
      length-header c.args.first,
    ))
    c.empty.ensures.any_moment c.in_ok-empty.ensures.emptied c.write_through.ensures.any_moment)

pub returns-clause-phases : goal.returns-clause-phases
returns-clause-phases g c =
    at_err c.write_through.result _
    (inr (starts_over g.D.Disk c.args.disk.now c.empty.new.disk c.write_through.new.disk
    (length c.empty_journal.result)
    (omega (
      arith,
      ap length c.empty_journal.ensures,
      length-append (header c.args.first) (0 ∷ []),
      length-header c.args.first,
    ))
    c.empty.ensures.any_moment c.in_ok-empty.ensures.emptied c.write_through.ensures.any_moment))
