-- The six disks of a store, and what a crash leaves of them.
use Rattle.std.specs.Prelude.{◌≡◌, ◌≢◌, ◌⊎◌, ℕ, List}
use Rattle.fm_outer.specs.Moments.{LeavesOnly}
use Rattle.fm_outer.specs.declared.disk.Disk.{Ghosts}
use Rattle.fm_core.specs.Book.{ModuleState, based}
use Rattle.fm_logs.specs.Contents.{Contents, content_named, disk_named}
use Rattle.fm_logs.specs.LogsBook.{DrainAlike}
use Rattle.fm_logs.specs.ReadsAsBook.{ReadsAsBook}
use Rattle.fm_logs.specs.StoreBook.{StoreBook, force_now}
use Rattle.fm_logs.specs.declared.disks.DiskName.{DiskName}
use Rattle.fm_logs.specs.declared.disks.DiskName.TheVariants.{Conf, ErrA, ErrB, SlotA, SlotB, Flt}
use Rattle.fm_logs.specs.declared.disks.Disks.{Disks}
use Rattle.fm_store.specs.StoreOf.{StoreOf, of_two}

-- the disk of this name
abbrev pub store_disk : {D M : Type 0} → DiskName → StoreOf D M → D
store_disk Conf store = store.base.conf.disk
store_disk ErrA store = of_two store.logs.second store.logs.active.disk store.base.spare
store_disk ErrB store = of_two store.logs.second store.base.spare store.logs.active.disk
store_disk SlotA store = store.base.slot_a
store_disk SlotB store = store.base.slot_b
store_disk Flt store = store.logs.flt.disk

-- the disks are those of the store
abbrev pub AreDisksOf : {D M : Type 0} → StoreOf D M → Disks D → Type 0
AreDisksOf store disks =
    (name : DiskName) → store_disk name store ≡ disk_named name disks

-- the disks of both are the same ones
abbrev pub AreSameStore : {D M : Type 0} → Ghosts D → StoreOf D M → StoreOf D M → Type 0
AreSameStore g old new =
    (name : DiskName) → g.name (store_disk name new) ≡ g.name (store_disk name old)

-- the contents with this one of the disk of this name
abbrev pub with_content : DiskName → List ℕ → Contents → Contents
with_content Conf image c = record c { conf = image }
with_content ErrA image c = record c { err_a = image }
with_content ErrB image c = record c { err_b = image }
with_content SlotA image c = record c { slot_a = image }
with_content SlotB image c = record c { slot_b = image }
with_content Flt image c = record c { flt = image }

-- a crash now may leave this of the disk of this name
abbrev pub IsLeftOf : {D M : Type 0} → Ghosts D → StoreOf D M → Contents → DiskName → Type 0
IsLeftOf g store c name = g.images (store_disk name store) (content_named name c)

-- a crash now may leave these contents
abbrev pub StoreIsLeft : {D M : Type 0} → Ghosts D → StoreOf D M → Contents → Type 0
StoreIsLeft g store c = (name : DiskName) → IsLeftOf g store c name

-- of all disks but the one of this name
abbrev pub OthersAreLeft : {D M : Type 0} → Ghosts D → StoreOf D M → DiskName → Contents → Type 0
OthersAreLeft g store name c = (other : DiskName) → other ≢ name → IsLeftOf g store c other

-- whatever a crash now leaves has P
abbrev pub EachLeft : {D M : Type 0} → Ghosts D → StoreOf D M → (Contents → Type 0) → Type 0
EachLeft g store P = (c : Contents) → StoreIsLeft g store c → P c

-- The disk of this name alone was worked on: at each moment since `old` a crash left contents that
-- have P, the others being as those of `old`.
abbrev pub MomentsOn : {D M : Type 0} → Ghosts D → DiskName → StoreOf D M → StoreOf D M
    → (Contents → Type 0) → Type 0
MomentsOn g name old new P =
    LeavesOnly g (store_disk name old) (store_disk name new) (λ image. (c : Contents)
    → OthersAreLeft g old name c → P (with_content name image c))

-- The contents read as a book that drains to what the book does, also after more entries, and has
-- its configurations.
pub record ReadsLike (fresh : List ModuleState) (k : StoreBook) (c : Contents) : Type 0 where
  pub read : StoreBook
  pub reads : ReadsAsBook fresh c read
  pub confs_same : read.confs ≡ k.confs
  pub alike : DrainAlike read.book k.book

-- like the one or the other
abbrev pub ReadsLikeEither : List ModuleState → StoreBook → StoreBook → Contents → Type 0
ReadsLikeEither fresh one other c = ReadsLike fresh one c ⊎ ReadsLike fresh other c

-- a new base, where each cursor is at the end
abbrev pub store_based : StoreBook → StoreBook
store_based k = record { book = based k.book; confs = k.confs; in_force = force_now k }
