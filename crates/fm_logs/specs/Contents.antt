-- The bytes of the six disks of a store, and what the disks tell of them.
use Rattle.std.specs.Prelude.{◌≡◌, ℕ, Bool, true, false, List, Some}
use Rattle.fm_outer.specs.Moments.{IsSettled, OnlyRead}
use Rattle.fm_outer.specs.declared.disk.Disk.{Ghosts}
use Rattle.fm_logs.specs.declared.disks.Disks.{Disks}
use Rattle.fm_logs.specs.declared.disks.DiskName.{DiskName}
use Rattle.fm_logs.specs.declared.disks.DiskName.TheVariants.{Conf, ErrA, ErrB, SlotA, SlotB, Flt}

-- six contents
pub record Contents : Type 0 where
  pub conf : List ℕ
  pub err_a : List ℕ
  pub err_b : List ℕ
  pub slot_a : List ℕ
  pub slot_b : List ℕ
  pub flt : List ℕ

-- the disk of this name
abbrev pub disk_named : {D : Type 0} → DiskName → Disks D → D
disk_named Conf disks = disks.conf
disk_named ErrA disks = disks.err_a
disk_named ErrB disks = disks.err_b
disk_named SlotA disks = disks.slot_a
disk_named SlotB disks = disks.slot_b
disk_named Flt disks = disks.flt

-- the content of the disk of this name
abbrev pub content_named : DiskName → Contents → List ℕ
content_named Conf c = c.conf
content_named ErrA c = c.err_a
content_named ErrB c = c.err_b
content_named SlotA c = c.slot_a
content_named SlotB c = c.slot_b
content_named Flt c = c.flt

-- the content of the active error journal's disk, the second of two or the first
abbrev pub active_of_two : Bool → Contents → List ℕ
active_of_two true c = c.err_b
active_of_two false c = c.err_a

-- the contents with this one of the active error journal, and this one of the fault log
abbrev pub with_logs : Contents → Bool → List ℕ → List ℕ → Contents
with_logs c true active flt = record c { err_b = active; flt = flt }
with_logs c false active flt = record c { err_a = active; flt = flt }

-- all six disks tell these contents
abbrev pub AreTold : {D : Type 0} → Ghosts D → Disks D → Contents → Type 0
AreTold g disks c = (name : DiskName) → g.seen (disk_named name disks) ≡ Some (content_named name c)

-- a crash now may leave these contents: each disk's images are told apart from the others'
abbrev pub AreImages : {D : Type 0} → Ghosts D → Disks D → Contents → Type 0
AreImages g disks c = (name : DiskName) → g.images (disk_named name disks) (content_named name c)

-- all six are synced
abbrev pub AreSettled : {D : Type 0} → Ghosts D → Disks D → Type 0
AreSettled g disks = (name : DiskName) → IsSettled g (disk_named name disks)

-- all six were only read
abbrev pub WereOnlyRead : {D : Type 0} → Ghosts D → Disks D → Disks D → Type 0
WereOnlyRead g old new =
    (name : DiskName) → OnlyRead g (disk_named name old) (disk_named name new)

-- they are the same six disks
abbrev pub AreSameDisks : {D : Type 0} → Ghosts D → Disks D → Disks D → Type 0
AreSameDisks g old new =
    (name : DiskName) → g.name (disk_named name new) ≡ g.name (disk_named name old)
