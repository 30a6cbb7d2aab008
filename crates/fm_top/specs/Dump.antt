-- What `fmdump` puts of a store that was drained: words about cases, or the entries since the last
-- rotation.
use Rattle.std.specs.Prelude.{◌≡◌, ℕ, Bool, true, false, List, ◌++◌}
use Rattle.fm_admin.specs.Dumping.{IsFaultsText}
use Rattle.fm_admin.specs.Telling.{IsDrainedOf}
use Rattle.fm_core.specs.Book.{ModuleState}
use Rattle.fm_dump.specs.Errors.{errors_text}
use Rattle.fm_dump.specs.declared.options.DumpOptions.{DumpOptions}
use Rattle.fm_entry.specs.declared.entry.Entry.{Entry}
use Rattle.fm_logs.specs.Contents.{Contents, active_of_two}
use Rattle.fm_logs.specs.ReadsAsBook.{IsLog, SaysBook, SpellsEntry}
use Rattle.fm_logs.specs.StoreBook.{IsLawfulStore, StoreBook}
use Rattle.fm_store.specs.StoreOf.{StoreOf}

-- the entries of the active error journal, and the number of the first
pub record ErrorLog : Type 0 where
  pub first : ℕ
  pub entries : List Entry

-- that of a store whose active error journal has these entries from before the base
abbrev pub error_log : {D M : Type 0} → StoreOf D M → List Entry → ErrorLog
error_log store older =
    record { first = store.logs.active.first; entries = older ++ store.logs.entries }

-- that of contents which read as a book: the journal on the disk that the slot in force names
pub record IsErrorLogOf (fresh : List ModuleState) (c : Contents) (k : StoreBook) (log : ErrorLog)
    : Type 0 where
  pub second : Bool
  pub says : SaysBook fresh c second k
  pub active : IsLog SpellsEntry (active_of_two second c) log.first log.entries

-- The text of what the modules of a book have said once it is drained: of the records of a lawful
-- book of which each module has come to the end.
pub record IsWordsOf (options : DumpOptions) (namespace : List ℕ) (k : StoreBook) (text : List ℕ)
    : Type 0 where
  pub now : StoreBook
  pub lawful : IsLawfulStore now
  pub drained_is : IsDrainedOf k now
  pub text_is : IsFaultsText options namespace now.book.records text

-- the text of entries, or else of words
abbrev pub IsDump : Bool → DumpOptions → List ℕ → ErrorLog → StoreBook → List ℕ → Type 0
IsDump true options namespace log k text = text ≡ errors_text options log.first log.entries
IsDump false options namespace log k text = IsWordsOf options namespace k text
