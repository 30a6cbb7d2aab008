-- What a look at one disk finds.
use Rattle.std.specs.Prelude.{◌≡◌, ℕ, List, [], ◌∷◌, ◌++◌, All, Some, Result, Ok, Err}
use Rattle.fm_outer.specs.Failures.{Rose}
use Rattle.fm_outer.specs.declared.disk.Disk.{Ghosts}
use Rattle.fm_journal.specs.Format.{IsJournal}
use Rattle.fm_journal.specs.JournalOf.{JournalOf}
use Rattle.fm_journal.specs.Keeps.{Keeps}
use Rattle.fm_payloads.specs.Spelling.{EachSpells}
use Rattle.fm_logs.specs.ReadsAsBook.{SpellsConf}
use Rattle.fm_saved.specs.Confs.{IsSpelledConf}
use Rattle.fm_saved.specs.declared.conf.Conf.{Conf}
use Rattle.fm_looks.specs.Opening.{FitConfs, Good}
use Rattle.fm_looks.specs.declared.confs.ConfReader.{ConfReader}
use Rattle.fm_looks.specs.declared.confs.ConfsRead.{ConfsRead}
use Rattle.fm_looks.specs.declared.look.LookFault.{LookFault}
use Rattle.fm_looks.specs.declared.look.LookFault.TheVariants.{Disk, Damaged, NoMemory}
use Rattle.fm_looks.specs.declared.look.LookRefused.{LookRefused}
use Rattle.fm_payloads.specs.declared.fault.ReadingFault.{ReadingFault}
use Rattle.fm_payloads.specs.declared.fault.ReadingFault.TheVariants.{Disk as DiskFailed, Changed}
use Rattle.fm_payloads.specs.declared.fault.ReadingFault.TheVariants.{NoMemory as WantsMemory}

-- Why a look did not pass: Damaged only where the content is damaged so at that place, and Disk
-- only where the disk's count rose.
abbrev pub LookCause : {D : Type 0} → Ghosts D → (List ℕ → ℕ → Type 0) → D → D → LookFault → Type 0
LookCause g IsDamaged old new Disk = Rose (g.failures old) (g.failures new)
LookCause g IsDamaged old new (Damaged place) =
    (c : List ℕ) → g.seen old ≡ Some c → IsDamaged c place
LookCause g IsDamaged old new NoMemory = Unit {0}

-- what a fault of a reading is to a look
abbrev pub fault_seen : ReadingFault → LookFault
fault_seen DiskFailed = Disk
fault_seen (Changed place) = Damaged place
fault_seen WantsMemory = NoMemory

-- the disk that comes back
abbrev pub log_disk : {D : Type 0} → Result (JournalOf D) (LookRefused D) → D
log_disk (Ok journal) = journal.disk
log_disk (Err refused) = refused.disk

abbrev pub confs_disk : {D : Type 0} → Result (ConfsRead D) (LookRefused D) → D
confs_disk (Ok read) = read.journal.disk
confs_disk (Err refused) = refused.disk

-- configurations of one store, each of which has a spelling
pub record AreKeptConfs (confs : List Conf) : Type 0 where
  pub fit : FitConfs confs
  pub spelled : All IsSpelledConf confs

-- what a reader has taken stays such configurations, whatever the disk tells
abbrev pub KeepsConfs : ConfReader → ConfReader → Type 0
KeepsConfs old new = AreKeptConfs old.confs.items → AreKeptConfs new.confs.items

-- the reader has taken the configurations that these payloads spell, and they fit
abbrev pub TookConfs : ConfReader → List (List ℕ) → Type 0
TookConfs reader payloads =
    EachSpells SpellsConf payloads reader.confs.items × FitConfs reader.confs.items

-- it refuses this payload behind what it has taken
abbrev pub RefusesConf : ConfReader → List ℕ → Type 0
RefusesConf reader payload = (payloads : List (List ℕ))
    → EachSpells SpellsConf payloads reader.confs.items
    → Good SpellsConf FitConfs (payloads ++ payload ∷ []) → ⊥

-- the content has these configurations, and the journal keeps them
pub record ConfsKept {D : Type 0} (g : Ghosts D) (c : List ℕ) (journal : JournalOf D)
    (confs : List Conf) : Type 0 where
  pub payloads : List (List ℕ)
  pub keeps : Keeps g journal payloads
  pub is : IsJournal c journal.first payloads
  pub spelled : EachSpells SpellsConf payloads confs
  pub fit : FitConfs confs
