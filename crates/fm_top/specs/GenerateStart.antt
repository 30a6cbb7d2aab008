-- The entries that a number generates, by the book that the contents read as.
use Rattle.std.specs.Prelude.{◌≡◌, ℕ, ◌≤◌, ◌<◌, ◌^◌, List, Some, slice_get}
use Rattle.fm_config.specs.Reports.{AreReportsOf}
use Rattle.fm_core.specs.Book.{greatest_of}
use Rattle.fm_entry.specs.declared.entry.Entry.{Entry}
use Rattle.fm_gen.specs.Generated.{generated}
use Rattle.fm_logs.specs.Contents.{Contents}
use Rattle.fm_logs.specs.StoreBook.{force_now}
use Rattle.fm_name.specs.declared.events.EventName.{EventName}
use Rattle.fm_saved.specs.declared.conf.Conf.{Conf}
use Rattle.fm_top.specs.Kept.{BookAt}

-- The entries that a number generates of a configuration from a moment on: of the reports that the
-- configuration comes to.
pub record AreGenerated (number : ℕ) (conf : Conf) (start : ℕ) (entries : List Entry) : Type 0 where
  pub reports : List EventName
  pub reports_are : AreReportsOf conf reports
  pub entries_are : entries ≡ generated number start reports

-- the same, of the configuration that is in force in the book, from the book's greatest moment on,
-- which is below 2^61
pub record AreGeneratedAt (number : ℕ) {told : Contents} (stood : BookAt told)
    (entries : List Entry) : Type 0 where
  pub conf : Conf
  pub in_force : slice_get stood.book.confs (force_now stood.book) ≡ Some conf
  pub early : greatest_of stood.book.book < 2 ^ 61
  pub are : AreGenerated number conf (greatest_of stood.book.book) entries

-- the contents read as a book from whose greatest moment on entries can be generated
pub record BeginsEarly (told : Contents) : Type 0 where
  pub stood : BookAt told
  pub early : greatest_of stood.book.book < 2 ^ 61

-- they read as one from whose greatest moment on none can
pub record BeginsLate (told : Contents) : Type 0 where
  pub stood : BookAt told
  pub late : 2 ^ 61 ≤ greatest_of stood.book.book
