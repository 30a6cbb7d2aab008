-- The texts of the logs of a store that is drained.
use Rattle.std.specs.Prelude.{◌≡◌, ℕ, ◌-◌, List, length}
use Rattle.fm_outer.specs.declared.disk.Disk.{Ghosts}
use Rattle.fm_core.specs.Book.{Book}
use Rattle.fm_dump.specs.Errors.{errors_text}
use Rattle.fm_dump.specs.Faults.{faults_text}
use Rattle.fm_dump.specs.declared.options.DumpOptions.{DumpOptions}
use Rattle.fm_entry.specs.declared.entry.Entry.{Entry}
use Rattle.fm_entry.specs.declared.spoken.Spoken.{Spoken}
use Rattle.fm_logs.specs.LogReads.{AreLogged, AreOrdered, AreSpoken, ReadsLogged}
use Rattle.fm_logs.specs.LogsOf.{LogsOf}
use Rattle.fm_store.specs.StoreCalls.{next_entry}
use Rattle.fm_store.specs.StoreOf.{StoreOf}
use Rattle.fm_store.specs.StoreReading.{HasLogged}
use Rattle.fm_admin.specs.Telling.{WasDrained}

-- the text of the words of records, by number and then by module
pub record IsFaultsText (options : DumpOptions) (namespace : List ℕ) (records : List Spoken)
    (text : List ℕ) : Type 0 where
  pub found : List Spoken
  pub ordered : AreOrdered records found
  pub text_is : text ≡ faults_text options namespace found

-- the text of the records of the fault log
pub record IsFaultsOf {D : Type 0} (g : Ghosts D) (options : DumpOptions) (namespace : List ℕ)
    (old new : LogsOf D) (text : List ℕ) : Type 0 where
  pub found : List Spoken
  pub are : AreSpoken g old new found
  pub text_is : text ≡ faults_text options namespace found

-- The text of entries that are numbered from this one on: older ones up to the base of the book,
-- and those of the book.
pub record IsErrorsText (options : DumpOptions) (first : ℕ) (k : Book) (text : List ℕ) : Type 0
  where
    pub found : List Entry
    pub logged : HasLogged first k found
    pub text_is : text ≡ errors_text options first found

-- the text of the entries of the active error journal, of which the last is the last entry ever
pub record IsErrorsOf {D : Type 0} (g : Ghosts D) (options : DumpOptions) (old new : LogsOf D)
    (text : List ℕ) : Type 0 where
  pub found : List Entry
  pub are : AreLogged g old new found
  pub text_is : text ≡ errors_text options (next_entry old - length found) found

-- The store was drained, up to `between`, and then the active error journal was read, and this is
-- its text.
pub record DumpsErrors {D M : Type 0} (g : Ghosts D) (options : DumpOptions)
    (old new : StoreOf D M) (text : List ℕ) : Type 0 where
  pub between : StoreOf D M
  pub drained : WasDrained g old between
  pub base_same : new.base ≡ between.base
  pub reads : ReadsLogged g between.logs new.logs
  pub is : IsErrorsOf g options between.logs new.logs text
