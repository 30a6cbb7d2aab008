-- The entries were read, or the first that doesn't fit was found.
use Rattle.std.proofs.Common.{◌-◌, subst, sym, ap, arith, length}
use Rattle.std.specs.Prelude.{IsTrue}
use Rattle.std.proofs.lemmas.Bool.{false≢true}
use Rattle.fm_journal.specs.JournalOf.{JournalOf}
use Rattle.fm_looks.specs.Entries.{EntryReaderOf, EntriesKept, reader_of}
use Rattle.fm_looks.specs.Looks.{LookCause}
use Rattle.fm_looks.specs.Opening.{LogDamage, EntriesDamage}
use Rattle.fm_looks.proofs.ActiveReads.{began, entries_counted, entries_kept, entries_stopped}
use Rattle.fm_looks.proofs.entries.open_entries.Goals as goal

pub returns-then-has_all-clause-passes : goal.returns-then-has_all-clause-passes
returns-then-has_all-clause-passes g c = λ content told.
    subst (λ r. EntriesKept g.D.Disk content c.args.known c.args.checkpoint.now
    c.read_payloads.new.journal r.entries) (sym c.reader.view_is)
    (entries_kept
    g.D.Disk (g.D.Disk.seen c.args.disk) c.in_ok-journal.journal c.read_payloads.new.journal
    c.args.known c.args.checkpoint.now
    (reader_of c.args.known c.args.checkpoint.now.conf
    (c.args.checkpoint.now.base - c.first.result) (c.args.checkpoint.now.base - c.first.result)
    c.args.checkpoint.now.conf c.new.result.items) c.read_payloads.new.reader c.in-Ok-None.field-0
    c.in_ok-journal.ensures.begins c.in_ok-journal.ensures.reaches
    (began c.args.known c.args.checkpoint.now c.first.result c.in_ok-journal.journal.first
    c.new.result.items c.first.ensures.value c.new.ensures.items)
    c.in_ok-journal.ensures.found c.in_ok-journal.ensures.still.same c.read_payloads.ensures.same
    c.read_payloads.ensures.still c.read_payloads.ensures.rule c.in-Ok-None.ensures.read
    c.in-Ok-None.field-0-is content told)

pub returns-else-has_all-clause-cause : goal.returns-else-has_all-clause-cause
returns-else-has_all-clause-cause g c =
    subst (λ r. LookCause g.D.Disk
    (LogDamage (EntriesDamage c.args.known c.args.checkpoint.now)) c.args.disk r.disk r.fault)
    (sym c.refuse.ensures)
    (λ content told. absurd (entries_counted
    g.D.Disk (g.D.Disk.seen c.args.disk) c.in_ok-journal.journal c.read_payloads.new.journal
    c.args.known c.args.checkpoint.now
    (reader_of c.args.known c.args.checkpoint.now.conf
    (c.args.checkpoint.now.base - c.first.result) (c.args.checkpoint.now.base - c.first.result)
    c.args.checkpoint.now.conf c.new.result.items) c.read_payloads.new.reader c.in-Ok-None.field-0
    c.in_ok-journal.ensures.begins c.in_ok-journal.ensures.reaches
    (began c.args.known c.args.checkpoint.now c.first.result c.in_ok-journal.journal.first
    c.new.result.items c.first.ensures.value c.new.ensures.items)
    c.in_ok-journal.ensures.found c.in_ok-journal.ensures.still.same c.read_payloads.ensures.same
    c.read_payloads.ensures.still c.read_payloads.ensures.rule c.in-Ok-None.ensures.read
    c.in-Ok-None.field-0-is content told
    (λ same.
    false≢true (subst IsTrue c.if-has_all.false
    (c.has_all.ensures.1
    (omega (
      arith,
      same,
      ap (λ (j : JournalOf g.row.D.Denot). j.first) c.read_payloads.ensures.same,
      ap (λ (j : JournalOf g.row.D.Denot). j.count) c.read_payloads.ensures.same,
      c.len.ensures,
      ap (λ (r : EntryReaderOf). length r.entries) c.reader.view_is,
    )))))))

pub returns-in-Ok-Some-clause-cause : goal.returns-in-Ok-Some-clause-cause
returns-in-Ok-Some-clause-cause g c =
    subst (λ r. LookCause g.D.Disk
    (LogDamage (EntriesDamage c.args.known c.args.checkpoint.now)) c.args.disk r.disk r.fault)
    (sym c.refuse-in-Ok-Some.ensures)
    (λ content told. entries_stopped
    g.D.Disk (g.D.Disk.seen c.args.disk) c.in_ok-journal.journal c.read_payloads.new.journal
    c.args.known c.args.checkpoint.now
    (reader_of c.args.known c.args.checkpoint.now.conf
    (c.args.checkpoint.now.base - c.first.result) (c.args.checkpoint.now.base - c.first.result)
    c.args.checkpoint.now.conf c.new.result.items) c.read_payloads.new.reader c.in-Ok-Some.field-0
    c.in_ok-journal.ensures.begins c.in_ok-journal.ensures.reaches
    (began c.args.known c.args.checkpoint.now c.first.result c.in_ok-journal.journal.first
    c.new.result.items c.first.ensures.value c.new.ensures.items)
    c.in_ok-journal.ensures.found c.in_ok-journal.ensures.still.same c.read_payloads.ensures.same
    c.read_payloads.ensures.still c.read_payloads.ensures.rule c.in-Ok-Some.ensures.read
    c.in-Ok-Some.place c.in-Ok-Some.field-0-is content told)
