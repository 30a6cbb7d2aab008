-- Logs of which one was read: they keep what they kept, and the values are what they keep.
use Rattle.std.proofs.Common.{◌≡◌, ◌+◌, ◌∙◌, ◌++◌, List, ℕ, None, Result, Ok, Err, IfOk, IfErr}
use Rattle.std.proofs.Common.{OnOk}
use Rattle.std.proofs.Common.{ap, subst, sym, length}
use Rattle.std.specs.Global.{Vec}
use Rattle.fm_entry.specs.declared.entry.Entry.{Entry}
use Rattle.fm_entry.specs.declared.spoken.Spoken.{Spoken}
use Rattle.fm_journal.specs.JournalOf.{JournalOf}
use Rattle.fm_journal.specs.Keeps.{Keeps}
use Rattle.fm_journal.proofs.Places.{keeps_read}
use Rattle.fm_outer.specs.Moments.{OnlyRead}
use Rattle.fm_outer.specs.declared.disk.Disk.{Ghosts}
use Rattle.fm_logs.specs.LogReads.{AreLogged, AreOrdered, AreSpoken, ReadsLogged, ReadsSpoken}
use Rattle.fm_logs.specs.LogReads.{UnreadLog, ValuesCause}
use Rattle.fm_logs.specs.LogsOf.{LogsOf}
use Rattle.fm_payloads.specs.Spelling.{EachSpells}
use Rattle.fm_logs.specs.ReadsAsBook.{SpellsEntry, SpellsSpoken}
use Rattle.fm_logs.specs.declared.disks.DiskName.{DiskName}
use Rattle.fm_logs.specs.declared.disks.DiskName.TheVariants.{Flt}
use Rattle.fm_logs.specs.declared.fault.StoreFault.{StoreFault}
use Rattle.fm_logs.specs.declared.fault.StoreFault.TheVariants.{Closed, Damaged, Disk, Exists, Full}
use Rattle.fm_logs.specs.declared.fault.StoreFault.TheVariants.{NoMemory}
use Rattle.fm_logs.proofs.SpelledOnce.{each_one, entry_once}

module _ {D : Type 0} (g : Ghosts D) (old : LogsOf D) where
  -- the fault log was only read
  pub reads_spoken : (flt : JournalOf D) → flt ≡ record old.flt { disk = flt.disk }
      → OnlyRead g old.flt.disk flt.disk → ReadsSpoken g old (record old { flt = flt })
  reads_spoken flt same still = record {
    logs_are = ap (λ (j : JournalOf D). record old { flt = j }) same;
    still = still;
    keeps = λ older records keep. record {
      is_open = keep.is_open;
      begins = keep.begins;
      entry_payloads = keep.entry_payloads;
      entries_keep = keep.entries_keep;
      entries_spelled = keep.entries_spelled;
      record_payloads = keep.record_payloads;
      records_keep = subst (λ (j : JournalOf D). Keeps g j keep.record_payloads) (sym same)
          (keeps_read g old.flt keep.record_payloads keep.records_keep flt.disk still);
      records_spelled = keep.records_spelled;
    };
  }

  -- the active error journal was only read
  pub reads_logged : (active : JournalOf D) → active ≡ record old.active { disk = active.disk }
      → OnlyRead g old.active.disk active.disk → ReadsLogged g old (record old { active = active })
  reads_logged active same still = record {
    logs_are = ap (λ (j : JournalOf D). record old { active = j }) same;
    still = still;
    keeps = λ older records keep. record {
      is_open = keep.is_open;
      begins = ap (λ (j : JournalOf D). j.first + length older) same ∙ keep.begins;
      entry_payloads = keep.entry_payloads;
      entries_keep = subst (λ (j : JournalOf D). Keeps g j keep.entry_payloads) (sym same)
          (keeps_read g old.active keep.entry_payloads keep.entries_keep active.disk still);
      entries_spelled = keep.entries_spelled;
      record_payloads = keep.record_payloads;
      records_keep = keep.records_keep;
      records_spelled = keep.records_spelled;
    };
  }

  -- what was read of the fault log are the records that are kept, in order
  pub are_spoken : {E : Type 0} (flt : JournalOf D) (result : Result (Vec Spoken) E)
      → old.closed ≡ None
      → IfOk result (λ found. (payloads : List (List ℕ)) (records : List Spoken)
      → Keeps g old.flt payloads → EachSpells SpellsSpoken payloads records
      → AreOrdered records found.items)
      → OnOk result (g.failures flt.disk ≡ g.failures old.flt.disk)
      → IfOk result (λ found. AreSpoken g old (record old { flt = flt }) found.items)
  are_spoken flt (Ok found) is_open read quiet = record {
    was_open = is_open;
    are = λ older records keep.
        read keep.record_payloads records keep.records_keep keep.records_spelled;
    no_failure = quiet;
  }
  are_spoken flt (Err fault) is_open read quiet = tt

  -- what was read of the active error journal are the entries that are kept
  pub are_logged : {E : Type 0} (active : JournalOf D) (result : Result (Vec Entry) E)
      → old.closed ≡ None
      → IfOk result (λ found. (payloads : List (List ℕ)) → Keeps g old.active payloads
      → EachSpells SpellsEntry payloads found.items)
      → OnOk result (g.failures active.disk ≡ g.failures old.active.disk)
      → IfOk result (λ found. AreLogged g old (record old { active = active }) found.items)
  are_logged active (Ok found) is_open read quiet = record {
    was_open = is_open;
    are = λ older records keep. each_one SpellsEntry entry_once keep.entry_payloads found.items
        (older ++ old.entries) (read keep.entry_payloads keep.entries_keep)
        keep.entries_spelled;
    no_failure = quiet;
  }
  are_logged active (Err fault) is_open read quiet = tt

  flt_cause : (new : LogsOf D) (flt : JournalOf D) (fault : StoreFault) → old.closed ≡ None
      → ValuesCause g SpellsSpoken Flt old.flt flt fault
      → UnreadLog g Flt old new old.flt.disk flt.disk fault
  flt_cause new flt Disk is_open cause = (is_open, cause)
  flt_cause new flt (Damaged disk place) is_open cause = (
    is_open,
    cause.0,
    λ older records keep.
        cause.1 keep.record_payloads records keep.records_keep keep.records_spelled,
  )
  flt_cause new flt NoMemory is_open cause = is_open
  flt_cause new flt (Full kind) is_open cause = absurd cause
  flt_cause new flt (Closed disk failures) is_open cause = absurd cause
  flt_cause new flt Exists is_open cause = absurd cause

  active_cause : (name : DiskName) (new : LogsOf D) (active : JournalOf D) (fault : StoreFault)
      → old.closed ≡ None → ValuesCause g SpellsEntry name old.active active fault
      → UnreadLog g name old new old.active.disk active.disk fault
  active_cause name new active Disk is_open cause = (is_open, cause)
  active_cause name new active (Damaged disk place) is_open cause = (
    is_open,
    cause.0,
    λ older records keep.
        cause.1 keep.entry_payloads (older ++ old.entries) keep.entries_keep keep.entries_spelled,
  )
  active_cause name new active NoMemory is_open cause = is_open
  active_cause name new active (Full kind) is_open cause = absurd cause
  active_cause name new active (Closed disk failures) is_open cause = absurd cause
  active_cause name new active Exists is_open cause = absurd cause

  -- why the fault log was not read
  pub unread_spoken : {X : Type 0} (flt : JournalOf D) (result : Result X StoreFault)
      → old.closed ≡ None → IfErr result (ValuesCause g SpellsSpoken Flt old.flt flt)
      → IfErr result (UnreadLog g Flt old (record old { flt = flt }) old.flt.disk flt.disk)
  unread_spoken flt (Ok found) is_open cause = tt
  unread_spoken flt (Err fault) is_open cause =
      flt_cause (record old { flt = flt }) flt fault is_open cause

  -- why the active error journal was not read
  pub unread_logged : {X : Type 0} (given name : DiskName) (active : JournalOf D)
      (result : Result X StoreFault) → given ≡ name → old.closed ≡ None
      → IfErr result (ValuesCause g SpellsEntry given old.active active)
      → IfErr result (UnreadLog g name old (record old { active = active }) old.active.disk
      active.disk)
  unread_logged given name active (Ok found) is is_open cause = tt
  unread_logged given name active (Err fault) is is_open cause =
      subst (λ (n : DiskName). UnreadLog g n old (record old { active = active }) old.active.disk
      active.disk fault) is
      (active_cause given (record old { active = active }) active fault is_open cause)
