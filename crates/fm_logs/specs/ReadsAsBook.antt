-- What six contents read as.
use Rattle.std.specs.Prelude.{◌≡◌, ℕ, ◌+◌, ◌-◌, ◌≤◌, Bool, false, IsTrue, List, []}
use Rattle.std.specs.Prelude.{◌∷◌, length, drop, Some, None}
use Rattle.std.specs.declared.option.Option.{Option}
use Rattle.fm_entry.specs.declared.entry.Entry.{Entry}
use Rattle.fm_entry.specs.declared.spoken.Spoken.{Spoken}
use Rattle.fm_entry.specs.Entries.{IsSpelled, entry_bytes}
use Rattle.fm_entry.specs.Words.{IsSpelledSpoken}
use Rattle.fm_entry.specs.WordBytes.{spoken_bytes}
use Rattle.fm_journal.specs.Format.{IsJournal}
use Rattle.fm_payloads.specs.Spelling.{EachSpells}
use Rattle.fm_slots.specs.Format.{SlotOf}
use Rattle.fm_slots.specs.InForce.{InForce}
use Rattle.fm_saved.specs.Confs.{IsSpelledConf, conf_bytes}
use Rattle.fm_saved.specs.Checkpoints.{IsSpelledCheckpoint, SpellsCheckpoint}
use Rattle.fm_saved.specs.declared.conf.Conf.{Conf}
use Rattle.fm_saved.specs.declared.checkpoint.Checkpoint.{Checkpoint}
use Rattle.fm_core.specs.Meaning.{holds_of, saved_of}
use Rattle.fm_core.specs.Book.{ModuleState, floored}
use Rattle.fm_logs.specs.Contents.{Contents, active_of_two}
use Rattle.fm_logs.specs.StoreBook.{StoreBook, IsLawfulStore}

abbrev pub SpellsConf : List ℕ → Conf → Type 0
SpellsConf payload conf = IsSpelledConf conf × (payload ≡ conf_bytes conf)

abbrev pub SpellsEntry : List ℕ → Entry → Type 0
SpellsEntry payload entry = IsSpelled entry × (payload ≡ entry_bytes entry)

abbrev pub SpellsSpoken : List ℕ → Spoken → Type 0
SpellsSpoken payload spoken = IsSpelledSpoken spoken × (payload ≡ spoken_bytes spoken)

-- bytes are a journal from a number on, of payloads that spell these values
pub record IsLog {A : Type 0} (spells : List ℕ → A → Type 0) (bytes : List ℕ) (first : ℕ)
    (xs : List A) : Type 0 where
  pub payloads : List (List ℕ)
  pub journal : IsJournal bytes first payloads
  pub spelled : EachSpells spells payloads xs

-- before any slot is open: the first journal is active, and the base, the moment and the number in
-- force are 0
pub record IsFirstBase (checkpoint : Checkpoint) : Type 0 where
  pub in_first : checkpoint.second ≡ false
  pub at_start : checkpoint.base ≡ 0
  pub no_moment : checkpoint.moment ≡ 0
  pub first_conf : checkpoint.conf ≡ 0

-- the modules at the base: made as the fresh ones are, each of a lawful state that is saved so
abbrev pub AreLoaded : List ModuleState → List (List ℕ) → List ModuleState → Type 0
AreLoaded [] [] [] = Unit {0}
AreLoaded (f ∷ fresh) (state ∷ states) (p ∷ loaded) =
    (p.meaning ≡ f.meaning) × IsTrue (holds_of p.meaning p.state)
    × (saved_of p.meaning p.state ≡ state) × AreLoaded fresh states loaded
AreLoaded _ _ _ = ⊥

-- what the slot in force says of the base: without one the first checkpoint, with fresh modules
abbrev pub SaysBase : List ModuleState → Option (Bool × SlotOf) → Checkpoint → List ModuleState
    → Type 0
SaysBase fresh None checkpoint modules = IsFirstBase checkpoint × (modules ≡ fresh)
SaysBase fresh (Some found) checkpoint modules =
    IsSpelledCheckpoint checkpoint × SpellsCheckpoint found.1.payload checkpoint
    × AreLoaded fresh checkpoint.states modules

-- What the configurations and the slots say of a book: its configurations are the payloads of
-- conf, and the slot in force gives which error journal is active, the base, the greatest moment
-- and the number in force there, and the modules. `fresh` are the modules that the configuration
-- makes.
pub record SaysBook (fresh : List ModuleState) (c : Contents) (second : Bool) (k : StoreBook)
    : Type 0 where
  pub conf_first : ℕ
  pub confs : IsLog SpellsConf c.conf conf_first k.confs
  pub found : Option (Bool × SlotOf)
  pub in_force : InForce c.slot_a c.slot_b found
  pub checkpoint : Checkpoint
  pub says : SaysBase fresh found checkpoint k.book.modules
  pub second_is : checkpoint.second ≡ second
  pub base_is : checkpoint.base ≡ k.book.base
  pub moment_is : checkpoint.moment ≡ k.book.moment
  pub force_is : checkpoint.conf ≡ k.in_force

-- The contents read as the book: the active journal begins at or below the base and reaches it, and
-- its payloads are entries, of which those from the base on are the book's; the payloads of the
-- fault log are its records; each cursor is at its floor; and the book is lawful.
pub record ReadsAsBook (fresh : List ModuleState) (c : Contents) (k : StoreBook) : Type 0 where
  pub second : Bool
  pub says : SaysBook fresh c second k
  pub first : ℕ
  pub entries : List Entry
  pub active : IsLog SpellsEntry (active_of_two second c) first entries
  pub begins : first ≤ k.book.base
  pub reaches : k.book.base ≤ first + length entries
  pub entries_are : k.book.entries ≡ drop (k.book.base - first) entries
  pub flt_first : ℕ
  pub records : IsLog SpellsSpoken c.flt flt_first k.book.records
  pub at_floors : floored k.book ≡ k.book
  pub lawful : IsLawfulStore k
