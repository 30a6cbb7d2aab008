-- Six disks, in the words of the disks as they stand.
use Rattle.std.proofs.Common.{◌≡◌, ℕ, [], ◌∷◌, refl}
use Rattle.fm_logs.specs.Contents.{Contents, AreTold, AreImages, WereOnlyRead}
use Rattle.fm_logs.specs.declared.disks.Disks.{Disks}
use Rattle.fm_logs.specs.declared.disks.DiskName.TheVariants.{Conf as ConfDisk, ErrA, ErrB, SlotA}
use Rattle.fm_logs.specs.declared.disks.DiskName.TheVariants.{SlotB, Flt}
use Rattle.fm_outer.specs.Moments.{OnlyRead}
use Rattle.fm_outer.specs.declared.disk.Disk.{Ghosts}
use Rattle.fm_store.specs.Opened.{RoseOnAny, NoneFailed}
use Rattle.fm_top.specs.Init.{IsUnwritten, AreUnwritten}
use Rattle.fm_top.specs.Outside.{disk_at, disks_at, disk_counts, Tells, Leaves, RoseAt}

module _ {D : Type 0} (g : Ghosts D) where
  pub told_all : (disks : Disks D) (c : Contents) → Tells (disks_at g disks) c → AreTold g disks c
  told_all disks c tells ConfDisk = tells ConfDisk
  told_all disks c tells ErrA = tells ErrA
  told_all disks c tells ErrB = tells ErrB
  told_all disks c tells SlotA = tells SlotA
  told_all disks c tells SlotB = tells SlotB
  told_all disks c tells Flt = tells Flt

  pub images_all : (disks : Disks D) (c : Contents) → Leaves (disks_at g disks) c
      → AreImages g disks c
  images_all disks c leaves ConfDisk = leaves ConfDisk
  images_all disks c leaves ErrA = leaves ErrA
  images_all disks c leaves ErrB = leaves ErrB
  images_all disks c leaves SlotA = leaves SlotA
  images_all disks c leaves SlotB = leaves SlotB
  images_all disks c leaves Flt = leaves Flt

  -- a disk that was only read
  only_read : (old new : D) → OnlyRead g old new → IsUnwritten (disk_at g old) (disk_at g new)
  only_read old new read = record { seen = read.same; images = read.no_more }

  -- all six were
  pub all_only_read : (old new : Disks D) → WereOnlyRead g old new
      → AreUnwritten (disks_at g old) (disks_at g new)
  all_only_read old new read ConfDisk = only_read old.conf new.conf (read ConfDisk)
  all_only_read old new read ErrA = only_read old.err_a new.err_a (read ErrA)
  all_only_read old new read ErrB = only_read old.err_b new.err_b (read ErrB)
  all_only_read old new read SlotA = only_read old.slot_a new.slot_a (read SlotA)
  all_only_read old new read SlotB = only_read old.slot_b new.slot_b (read SlotB)
  all_only_read old new read Flt = only_read old.flt new.flt (read Flt)

  -- the count of one of them rose
  pub rose_any : (old new : Disks D) → RoseOnAny g old new → (at : ℕ)
      × RoseAt (disk_counts (disks_at g old)) (disk_counts (disks_at g new)) at
  rose_any old new (ConfDisk, rose) = (0, (_, _, refl, refl, rose))
  rose_any old new (ErrA, rose) = (1, (_, _, refl, refl, rose))
  rose_any old new (ErrB, rose) = (2, (_, _, refl, refl, rose))
  rose_any old new (SlotA, rose) = (3, (_, _, refl, refl, rose))
  rose_any old new (SlotB, rose) = (4, (_, _, refl, refl, rose))
  rose_any old new (Flt, rose) = (5, (_, _, refl, refl, rose))

  -- no call of any of them failed
  pub none_counts : (old new : Disks D) → NoneFailed g old new
      → disk_counts (disks_at g new) ≡ disk_counts (disks_at g old)
  none_counts old new none =
      let conf = none ConfDisk in
      let err_a = none ErrA in
      let err_b = none ErrB in
      let slot_a = none SlotA in
      let slot_b = none SlotB in
      let flt = none Flt in
      λ i. conf i ∷ err_a i ∷ err_b i ∷ slot_a i ∷ slot_b i ∷ flt i ∷ []
