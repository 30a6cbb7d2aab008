-- The fault log of a store, read and held against what the modules say.
use Rattle.std.specs.Prelude.{◌≡◌, ℕ, List, [], ◌∷◌, ◌++◌, Some, None, Result, Ok, Err}
use Rattle.std.specs.declared.option.Option.{Option}
use Rattle.fm_outer.specs.declared.disk.Disk.{Ghosts}
use Rattle.fm_core.specs.Book.{Book}
use Rattle.fm_core.specs.declared.module.Module.{Ghosts as ModuleGhosts}
use Rattle.fm_entry.specs.declared.entry.Entry.{Entry}
use Rattle.fm_entry.specs.declared.spoken.Spoken.{Spoken}
use Rattle.fm_journal.specs.Format.{IsJournal}
use Rattle.fm_journal.specs.JournalOf.{JournalOf}
use Rattle.fm_journal.specs.Keeps.{Keeps}
use Rattle.fm_payloads.specs.Spelling.{EachSpells}
use Rattle.fm_logs.specs.ReadsAsBook.{SpellsSpoken}
use Rattle.fm_retrace.specs.Retracing.{IsBookOf, HaveRetraced, SayRecords, AreWithin, meanings_of}
use Rattle.fm_retrace.specs.declared.retraced.Retraced.{Retraced}
use Rattle.fm_looks.specs.Opening.{FirstBad, Good, LogDamage}
use Rattle.fm_looks.specs.declared.fault_log.RecordsRead.{RecordsRead}
use Rattle.fm_looks.specs.declared.look.LookRefused.{LookRefused}

-- the modules are those of the book, which has these entries, at its base
pub record BeginsAt {M : Type 0} (m : ModuleGhosts M) (base : ℕ) (entries : List Entry)
    (modules : List (Retraced M)) (k : Book) : Type 0 where
  pub book_of : IsBookOf base entries k
  pub nothing : SayRecords k []
  pub at_base : HaveRetraced m k [] modules

-- the modules of the book say just what the log has, and have come to their floors
pub record RecordsKept {D M : Type 0} (g : Ghosts D) (m : ModuleGhosts M) (c : List ℕ) (k : Book)
    (journal : JournalOf D) (modules : List (Retraced M)) : Type 0 where
  pub payloads : List (List ℕ)
  pub keeps : Keeps g journal payloads
  pub is : IsJournal c journal.first payloads
  pub records : List Spoken
  pub spelled : EachSpells SpellsSpoken payloads records
  pub fit : SayRecords k records
  pub come : HaveRetraced m k records modules

-- From the first modules to these, the payloads spell records which the modules of a book say, and
-- they have come to their floors: of whatever book the first ones are at its base.
abbrev pub TookRecords : {M : Type 0} → ModuleGhosts M → ℕ → List Entry → List (Retraced M)
    → List (Retraced M) → List (List ℕ) → Type 0
TookRecords m base entries start modules payloads = (k : Book) → BeginsAt m base entries start k
    → (records : List Spoken) × EachSpells SpellsSpoken payloads records × SayRecords k records
    × HaveRetraced m k records modules

-- behind records to whose floors the modules have come, the payload is none that they say next
abbrev pub RefusesRecord : {M : Type 0} → ModuleGhosts M → ℕ → List Entry → List (Retraced M)
    → List ℕ → Type 0
RefusesRecord m base entries modules payload = (k : Book) (payloads : List (List ℕ))
    (records : List Spoken) → IsBookOf base entries k → EachSpells SpellsSpoken payloads records
    → SayRecords k records → HaveRetraced m k records modules
    → Good SpellsSpoken (SayRecords k) (payloads ++ payload ∷ []) → ⊥

-- the modules say just what the payloads spell, and have come to their floors; or the payload at
-- this place is the first that is no record which they say
abbrev pub SaysLog : {M : Type 0} → ModuleGhosts M → Book → List (List ℕ) → List (Retraced M)
    → Option ℕ → Type 0
SaysLog m k payloads modules None =
    (records : List Spoken) × EachSpells SpellsSpoken payloads records × SayRecords k records
    × HaveRetraced m k records modules
SaysLog m k payloads modules (Some place) =
    FirstBad (Good SpellsSpoken (SayRecords k)) payloads place

-- the same modules, none of which has spoken past this number where none had before
abbrev pub AreSameModules : {M : Type 0} → ModuleGhosts M → ℕ → List (Retraced M)
    → List (Retraced M) → Type 0
AreSameModules m end old new =
    (meanings_of m new ≡ meanings_of m old) × (AreWithin end old → AreWithin end new)

-- the log is damaged: it is no journal, or one of its payloads is the first that is no record which
-- the modules say
abbrev pub FaultsDamage : {M : Type 0} → ModuleGhosts M → ℕ → List Entry → List (Retraced M)
    → List ℕ → ℕ → Type 0
FaultsDamage m base entries modules c place = (k : Book) → BeginsAt m base entries modules k
    → LogDamage (λ first payloads at. FirstBad (Good SpellsSpoken (SayRecords k)) payloads at) c
    place

-- the disk that comes back
abbrev pub records_disk : {D M : Type 0} → Result (RecordsRead D M) (LookRefused D) → D
records_disk (Ok read) = read.journal.disk
records_disk (Err refused) = refused.disk
