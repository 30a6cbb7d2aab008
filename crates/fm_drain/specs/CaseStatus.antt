-- What each case has come to in a drained book: the last word that its module said of it.
use Rattle.std.specs.Prelude.{◌≡◌, List, [], map, flat_map, slice_get, IsTrue}
use Rattle.std.specs.Prelude.{Option, Some, None}
use Rattle.std.specs.List.Sorted.{IsStrictlySortedBy}
use Rattle.fm_core.specs.Book.{Book, is_done}
use Rattle.fm_core.specs.Drained.{Drained, Ended, drained}
use Rattle.fm_entry.specs.declared.case_name.CaseName.{CaseName}
use Rattle.fm_entry.specs.declared.list_event.ListEvent.{ListEvent}
use Rattle.fm_entry.specs.declared.spoken.Spoken.{Spoken}
use Rattle.fm_logs.specs.LogReads.{AreOrdered, AreSpoken}
use Rattle.fm_logs.specs.LogsOf.{LogsOf}
use Rattle.fm_outer.specs.declared.disk.Disk.{Ghosts}
use Rattle.fm_status.specs.Rows.{case_cmp, case_row, last_word, AreRows}

-- the words of records, record by record
abbrev pub words_in : List Spoken → List ListEvent
words_in records = flat_map (λ r. r.events) records

abbrev pub said_by : Option Ended → List ListEvent
said_by None = []
said_by (Some e) = words_in e.words

-- the last word of a case that its module has said in a drained book, if any
abbrev pub last_said : Drained → CaseName → Option ListEvent
last_said d case = last_word case (said_by (slice_get d.modules case.module))

-- The rows of a drained book: in the order of cases, one for each case that its module has spoken
-- of, and that is the last word of it.
pub record IsStatusOf (d : Drained) (rows : List ListEvent) : Type 0 where
  pub ascend : IsStrictlySortedBy case_cmp (map (λ row. row.case) rows)
  pub last : (case : CaseName) → case_row case rows ≡ last_said d case

-- the rows are those of the records of a log, in order
pub record StatusWasRead {D : Type 0} (g : Ghosts D) (old new : LogsOf D) (rows : List ListEvent)
    : Type 0 where
  pub found : List Spoken
  pub are : AreSpoken g old new found
  pub rows_are : AreRows (words_in found) rows

-- The rows are those of the records of a book, in order, and where each module has come to the end,
-- they are the status of the drained book.
pub record IsStatusOfBook (k : Book) (rows : List ListEvent) : Type 0 where
  pub found : List Spoken
  pub ordered : AreOrdered k.records found
  pub rows_are : AreRows (words_in found) rows
  pub drained_status : IsTrue (is_done k) → IsStatusOf (drained k) rows
