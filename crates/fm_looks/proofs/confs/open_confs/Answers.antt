-- A payload that doesn't fit is the first, or there is none.
use Rattle.std.proofs.Common.{subst, sym, arith}
use Rattle.fm_looks.specs.Looks.{LookCause}
use Rattle.fm_looks.specs.Opening.{LogDamage, ConfsDamage}
use Rattle.fm_looks.proofs.Looks.{confs_missed, confs_stopped}
use Rattle.fm_looks.proofs.confs.open_confs.Goals as goal

pub returns-else-len-gt0-clause-cause : goal.returns-else-len-gt0-clause-cause
returns-else-len-gt0-clause-cause g c =
    subst (λ r. LookCause g.D.Disk (LogDamage ConfsDamage) c.args.disk r.disk r.fault)
    (sym c.refuse.ensures)
    (λ content told.
    confs_missed g.D.Disk (g.D.Disk.seen c.args.disk) c.in_ok-journal.journal
    c.read_payloads.new.journal (record { confs = c.new.result }) c.read_payloads.new.reader
    c.in-Ok-None.field-0 c.new.ensures.items c.in_ok-journal.ensures.found
    c.in_ok-journal.ensures.still.same c.read_payloads.ensures.same c.read_payloads.ensures.still
    c.in-Ok-None.ensures.read c.in-Ok-None.field-0-is
    (omega (arith, c.if-len-gt0.false, c.len.ensures)) content told)

pub returns-in-Ok-Some-clause-cause : goal.returns-in-Ok-Some-clause-cause
returns-in-Ok-Some-clause-cause g c =
    subst (λ r. LookCause g.D.Disk (LogDamage ConfsDamage) c.args.disk r.disk r.fault)
    (sym c.refuse-in-Ok-Some.ensures)
    (λ content told.
    confs_stopped g.D.Disk (g.D.Disk.seen c.args.disk) c.in_ok-journal.journal
    c.read_payloads.new.journal (record { confs = c.new.result }) c.read_payloads.new.reader
    c.in-Ok-Some.field-0 c.new.ensures.items c.in_ok-journal.ensures.found
    c.in_ok-journal.ensures.still.same c.read_payloads.ensures.same c.read_payloads.ensures.still
    c.in-Ok-Some.ensures.read c.in-Ok-Some.place c.in-Ok-Some.field-0-is content told)
