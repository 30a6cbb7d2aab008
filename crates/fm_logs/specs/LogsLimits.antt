-- What holds of the logs of each store.
use Rattle.std.specs.Prelude.{◌≡◌, ℕ, ◌+◌, ◌≤◌, ◌^◌, Bool, List, length, None, All}
use Rattle.std.specs.declared.option.Option.{Option}
use Rattle.fm_entry.specs.Entries.{IsSpelled}
use Rattle.fm_entry.specs.declared.entry.Entry.{Entry}
use Rattle.fm_journal.specs.JournalOf.{JournalOf}
use Rattle.fm_logs.specs.LogsOf.{LogsOf}
use Rattle.fm_logs.specs.declared.disks.DiskName.{DiskName}

-- logs of these
abbrev pub logs_of : {D : Type 0} → JournalOf D → JournalOf D → Bool → ℕ → List Entry → List ℕ
    → Option (DiskName × ℕ) → LogsOf D
logs_of active flt second base entries cursors closed =
    record {
      active = active;
      flt = flt;
      second = second;
      base = base;
      entries = entries;
      cursors = cursors;
      closed = closed;
    }

-- The active journal's next number is that of the next entry, also once it is closed, and is at
-- most 2^46. The entries have spellings. While the logs are open both journals are.
pub record AreLogs {D : Type 0} (logs : LogsOf D) : Type 0 where
  pub numbered : logs.active.first + logs.active.count ≡ logs.base + length logs.entries
  pub few : logs.base + length logs.entries ≤ 2 ^ 46
  pub spelled : All IsSpelled logs.entries
  pub active_open : logs.closed ≡ None → logs.active.closed ≡ None
  pub flt_open : logs.closed ≡ None → logs.flt.closed ≡ None
