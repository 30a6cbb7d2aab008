-- What is left of all disks, where one of them alone was worked on.
use Rattle.std.proofs.Common.{ℕ, List}
use Rattle.fm_outer.specs.Moments.{OnlyRead}
use Rattle.fm_outer.specs.declared.disk.Disk.{Ghosts}
use Rattle.fm_outer.proofs.Moments.{OnlyNow, leaves-still, leaves-weaker}
use Rattle.fm_logs.specs.Contents.{Contents}
use Rattle.fm_logs.specs.declared.disks.DiskName.{DiskName}
use Rattle.fm_logs.specs.declared.disks.DiskName.TheVariants.{Conf as ConfDisk, ErrA, ErrB, SlotA}
use Rattle.fm_logs.specs.declared.disks.DiskName.TheVariants.{SlotB, Flt}
use Rattle.fm_store.specs.StoreLeft.{EachLeft, MomentsOn, OthersAreLeft, StoreIsLeft, store_disk}
use Rattle.fm_store.specs.StoreLeft.{with_content}
use Rattle.fm_store.specs.StoreOf.{StoreOf}

module _ {D M : Type 0} (g : Ghosts D) where
  -- an image of one disk, and what is left of the others, are left of all
  named_left : (name : DiskName) (store : StoreOf D M) (image : List ℕ) (c : Contents)
      → g.images (store_disk name store) image → OthersAreLeft g store name c
      → StoreIsLeft g store (with_content name image c)
  named_left ConfDisk store image c here left ConfDisk = here
  named_left ConfDisk store image c here left ErrA = left ErrA (λ same. cc same)
  named_left ConfDisk store image c here left ErrB = left ErrB (λ same. cc same)
  named_left ConfDisk store image c here left SlotA = left SlotA (λ same. cc same)
  named_left ConfDisk store image c here left SlotB = left SlotB (λ same. cc same)
  named_left ConfDisk store image c here left Flt = left Flt (λ same. cc same)
  named_left ErrA store image c here left ConfDisk = left ConfDisk (λ same. cc same)
  named_left ErrA store image c here left ErrA = here
  named_left ErrA store image c here left ErrB = left ErrB (λ same. cc same)
  named_left ErrA store image c here left SlotA = left SlotA (λ same. cc same)
  named_left ErrA store image c here left SlotB = left SlotB (λ same. cc same)
  named_left ErrA store image c here left Flt = left Flt (λ same. cc same)
  named_left ErrB store image c here left ConfDisk = left ConfDisk (λ same. cc same)
  named_left ErrB store image c here left ErrA = left ErrA (λ same. cc same)
  named_left ErrB store image c here left ErrB = here
  named_left ErrB store image c here left SlotA = left SlotA (λ same. cc same)
  named_left ErrB store image c here left SlotB = left SlotB (λ same. cc same)
  named_left ErrB store image c here left Flt = left Flt (λ same. cc same)
  named_left SlotA store image c here left ConfDisk = left ConfDisk (λ same. cc same)
  named_left SlotA store image c here left ErrA = left ErrA (λ same. cc same)
  named_left SlotA store image c here left ErrB = left ErrB (λ same. cc same)
  named_left SlotA store image c here left SlotA = here
  named_left SlotA store image c here left SlotB = left SlotB (λ same. cc same)
  named_left SlotA store image c here left Flt = left Flt (λ same. cc same)
  named_left SlotB store image c here left ConfDisk = left ConfDisk (λ same. cc same)
  named_left SlotB store image c here left ErrA = left ErrA (λ same. cc same)
  named_left SlotB store image c here left ErrB = left ErrB (λ same. cc same)
  named_left SlotB store image c here left SlotA = left SlotA (λ same. cc same)
  named_left SlotB store image c here left SlotB = here
  named_left SlotB store image c here left Flt = left Flt (λ same. cc same)
  named_left Flt store image c here left ConfDisk = left ConfDisk (λ same. cc same)
  named_left Flt store image c here left ErrA = left ErrA (λ same. cc same)
  named_left Flt store image c here left ErrB = left ErrB (λ same. cc same)
  named_left Flt store image c here left SlotA = left SlotA (λ same. cc same)
  named_left Flt store image c here left SlotB = left SlotB (λ same. cc same)
  named_left Flt store image c here left Flt = here

  -- the disk was read at most
  pub moments_read : (name : DiskName) (old new : StoreOf D M) (P : Contents → Type 0)
      → OnlyRead g (store_disk name old) (store_disk name new) → EachLeft g old P
      → MomentsOn g name old new P
  moments_read name old new P still left =
      leaves-weaker g (store_disk name old) (store_disk name new)
      (g.images (store_disk name old)) _ still.any_moment (λ image here c others.
      left (with_content name image c) (named_left name old image c here others))

  -- nothing was done to it
  pub moments_still : OnlyNow g → (name : DiskName) (store : StoreOf D M) (P : Contents → Type 0)
      → EachLeft g store P → MomentsOn g name store store P
  moments_still only_now name store P left =
      leaves-still g only_now (store_disk name store) _ (λ image here c others.
      left (with_content name image c) (named_left name store image c here others))
