-- What becomes of a store that takes entries.
use Rattle.std.specs.Prelude.{◌≡◌, ℕ, ◌+◌, ◌<◌, ◌^◌, List, [], ◌∷◌, ◌++◌, length, map, Some, None}
use Rattle.std.specs.Prelude.{All}
use Rattle.std.specs.declared.option.Option.{Option}
use Rattle.fm_answers.specs.declared.stops.Stop.{Stop}
use Rattle.fm_answers.specs.declared.stops.Stop.TheVariants.{Disk, Full}
use Rattle.fm_core.specs.Book.{ModuleState, with_entries}
use Rattle.fm_entry.specs.Entries.{IsSpelled, entry_bytes}
use Rattle.fm_entry.specs.declared.entry.Entry.{Entry}
use Rattle.fm_entry.specs.declared.spoken.Spoken.{Spoken}
use Rattle.fm_journal.specs.Causes.{refused}
use Rattle.fm_journal.specs.declared.fault.FullKind.{FullKind}
use Rattle.fm_journal.specs.declared.fault.FullKind.TheVariants.{Records, Numbers, Bytes, Payload}
use Rattle.fm_journal.specs.declared.fault.FullKind.TheVariants.{Input}
use Rattle.fm_journal.specs.declared.fault.JournalFault.TheVariants as fault
use Rattle.fm_logs.specs.LogsOf.{LogsOf, LogsKeep, CannotTake}
use Rattle.fm_logs.specs.StoreBook.{StoreBook, with_book}
use Rattle.fm_logs.specs.declared.disks.DiskName.{DiskName}
use Rattle.fm_outer.specs.Failures.{Rose}
use Rattle.fm_outer.specs.declared.disk.Disk.{Ghosts}
use Rattle.fm_drain.specs.BaseLimits.{figures_of}
use Rattle.fm_store.specs.StoreLeft.{store_disk, EachLeft, ReadsLikeEither}
use Rattle.fm_store.specs.StoreOf.{StoreOf, StoreStandsFor}

-- the payloads that spell these entries
abbrev pub payloads_of : List Entry → List (List ℕ)
payloads_of entries = map entry_bytes entries

-- the book with these entries at its end
abbrev pub store_with : StoreBook → List Entry → StoreBook
store_with k entries = with_book k (with_entries k.book entries)

-- Which limit an open journal with this first number, so many records and this end would pass by
-- one more entry.
abbrev pub FullCause : ℕ → ℕ → ℕ → Entry → FullKind → Type 0
FullCause first count end entry Payload = 2 ^ 28 < length (entry_bytes entry)
FullCause first count end entry Records =
    refused None first count end (5 + length (entry_bytes entry)) ≡ Some (fault.Full Records)
FullCause first count end entry Numbers =
    refused None first count end (5 + length (entry_bytes entry)) ≡ Some (fault.Full Numbers)
FullCause first count end entry Bytes =
    refused None first count end (5 + length (entry_bytes entry)) ≡ Some (fault.Full Bytes)
FullCause first count end entry Input = ⊥

-- how the disks' counts go with what was last refused: only a fault of a disk raises one
abbrev pub LastCounts : {D M : Type 0} → Ghosts D → StoreOf D M → StoreOf D M
    → Option (Stop × Entry) → Type 0
LastCounts g old new (Some (Disk, entry)) =
    (name : DiskName) × Rose (g.failures (store_disk name old)) (g.failures (store_disk name new))
LastCounts g old new _ =
    (name : DiskName) → g.failures (store_disk name new) ≡ g.failures (store_disk name old)

-- what the logs kept beside the entries that they have in memory, they keep still
abbrev pub KeepBehind : {D : Type 0} → Ghosts D → LogsOf D → LogsOf D → Type 0
KeepBehind g old new =
    (older : List Entry) (records : List Spoken) → LogsKeep g old older records
    → LogsKeep g new older records

-- How the logs are left, by what was last refused, if anything was: where a limit is reached, it is
-- that of the active error journal. After a fault of a disk they are closed.
abbrev pub LogsLeft : {D : Type 0} → Ghosts D → LogsOf D → LogsOf D → Option (Stop × Entry)
    → Type 0
LogsLeft g old new None = KeepBehind g old new
LogsLeft g old new (Some (Disk, entry)) = Unit {0}
LogsLeft g old new (Some (Full kind, entry)) =
    KeepBehind g old new × CannotTake new.active (entry_bytes entry) kind
LogsLeft g old new _ = ⊥

-- What the store stands for, once it took these entries; after a fault of a disk, what each crash
-- leaves reads like the book with them, or with the last entry too.
abbrev pub BookLeft : {D M : Type 0} → Ghosts D → List ModuleState → StoreOf D M → StoreBook
    → List Entry → Option (Stop × Entry) → Type 0
BookLeft g fresh new k entries None = StoreStandsFor g fresh new (store_with k entries)
BookLeft g fresh new k entries (Some (Disk, entry)) =
    EachLeft g new
    (ReadsLikeEither fresh (store_with k entries) (store_with k (entries ++ entry ∷ [])))
BookLeft g fresh new k entries (Some (Full kind, entry)) =
    StoreStandsFor g fresh new (store_with k entries)
BookLeft g fresh new k entries _ = ⊥

-- an entry at which a disk failed has a spelling
abbrev pub LastIsSpelled : Option (Stop × Entry) → Type 0
LastIsSpelled (Some (Disk, entry)) = IsSpelled entry
LastIsSpelled _ = Unit {0}

-- These entries were taken by the store, in order, and then perhaps one was refused.
pub record Recorded {D M : Type 0} (g : Ghosts D) (old new : StoreOf D M) (entries : List Entry)
    (last : Option (Stop × Entry)) : Type 0 where
  pub counts : LastCounts g old new last
  pub base_is : new.logs.base ≡ old.logs.base
  pub entries_are : new.logs.entries ≡ old.logs.entries ++ entries
  pub cursors_are : new.logs.cursors ≡ old.logs.cursors
  pub figures_are : figures_of new ≡ figures_of old
  pub spelled : All IsSpelled entries
  pub last_spelled : LastIsSpelled last
  pub logs : LogsLeft g old.logs new.logs last
  pub book : (fresh : List ModuleState) (k : StoreBook) → StoreStandsFor g fresh old k
      → BookLeft g fresh new k entries last
