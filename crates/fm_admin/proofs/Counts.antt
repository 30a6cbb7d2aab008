-- A drain and a rotation that were done leave each disk's count of failures.
use Rattle.std.proofs.Common.{◌≡◌, ◌∙◌, ℕ, Bool, true, false, not, List, Result, Ok, Err}
use Rattle.std.proofs.Common.{OnOk, ap}
use Rattle.fm_outer.specs.declared.disk.Disk.{Ghosts}
use Rattle.fm_core.specs.Hands.{HandOf}
use Rattle.fm_core.specs.declared.module.Module.{Ghosts as ModuleGhosts}
use Rattle.fm_drain.specs.DrainCalls.{DrainDoes, OnlyCommitted, StaysOpen}
use Rattle.fm_logs.specs.LogsOf.{LogsOf}
use Rattle.fm_logs.specs.declared.disks.DiskName.{DiskName}
use Rattle.fm_logs.specs.declared.disks.DiskName.TheVariants.{Conf, ErrA, ErrB, SlotA, SlotB, Flt}
use Rattle.fm_logs.specs.declared.fault.StoreFault.{StoreFault}
use Rattle.fm_store.specs.Rotating.{RotateDoes, Rotates}
use Rattle.fm_store.specs.StoreCalls.{saves_of}
use Rattle.fm_store.specs.StoreLeft.{store_disk}
use Rattle.fm_store.specs.StoreOf.{StoreOf, StoreBaseOf, fills_second, of_two}
use Rattle.fm_admin.proofs.Tellings.{flt_stays}

-- the one slot's disk is as it was, and the other's count is
slots_count : {D : Type 0} (g : Ghosts D) (f : Bool) (a b c d : D)
    → of_two f d c ≡ of_two f b a → g.failures (of_two f c d) ≡ g.failures (of_two f a b)
    → (g.failures c ≡ g.failures a) × (g.failures d ≡ g.failures b)
slots_count g true a b c d kept next = (ap g.failures kept, next)
slots_count g false a b c d kept next = (next, ap g.failures kept)

-- the two error journals' disks change places, and each count is as it was
places_count : {D : Type 0} (g : Ghosts D) (f : Bool) (a b c d : D) → d ≡ a
    → g.failures c ≡ g.failures b
    → (g.failures (of_two (not f) c d) ≡ g.failures (of_two f a b))
    × (g.failures (of_two (not f) d c) ≡ g.failures (of_two f b a))
places_count g true a b c d kept other = (other, ap g.failures kept)
places_count g false a b c d kept other = (ap g.failures kept, other)

module _ {D M : Type 0} (g : Ghosts D) where
  drain_counts : (old new : StoreOf D M) → OnlyCommitted old new → StaysOpen g old new
      → (name : DiskName) → g.failures (store_disk name new) ≡ g.failures (store_disk name old)
  drain_counts old new only stays Conf = ap (λ s. g.failures (store_disk Conf s)) only
  drain_counts old new only stays ErrA = ap (λ s. g.failures (store_disk ErrA s)) only
  drain_counts old new only stays ErrB = ap (λ s. g.failures (store_disk ErrB s)) only
  drain_counts old new only stays SlotA = ap (λ s. g.failures (store_disk SlotA s)) only
  drain_counts old new only stays SlotB = ap (λ s. g.failures (store_disk SlotB s)) only
  drain_counts old new only stays Flt = flt_stays g old new stays

  rotate_counts : (old new : StoreOf D M) (states : List (List ℕ)) (number : ℕ)
      → Rotates g old new states number → (name : DiskName)
      → g.failures (store_disk name new) ≡ g.failures (store_disk name old)
  rotate_counts old new states number rotates Conf =
      ap (λ (b : StoreBaseOf D M). g.failures b.conf.disk) rotates.puts.base_is
  rotate_counts old new states number rotates ErrA =
      ap (λ (l : LogsOf D). g.failures (of_two l.second new.logs.active.disk new.base.spare))
      rotates.logs_are
      ∙ (places_count g old.logs.second old.logs.active.disk old.base.spare
      new.logs.active.disk new.base.spare rotates.spare_is rotates.spare_quiet).0
  rotate_counts old new states number rotates ErrB =
      ap (λ (l : LogsOf D). g.failures (of_two l.second new.base.spare new.logs.active.disk))
      rotates.logs_are
      ∙ (places_count g old.logs.second old.logs.active.disk old.base.spare
      new.logs.active.disk new.base.spare rotates.spare_is rotates.spare_quiet).1
  rotate_counts old new states number rotates SlotA =
      (slots_count g (fills_second old.base.newest) old.base.slot_a old.base.slot_b
      new.base.slot_a new.base.slot_b rotates.puts.kept_same rotates.puts.no_failure).0
  rotate_counts old new states number rotates SlotB =
      (slots_count g (fills_second old.base.newest) old.base.slot_a old.base.slot_b
      new.base.slot_a new.base.slot_b rotates.puts.kept_same rotates.puts.no_failure).1
  rotate_counts old new states number rotates Flt =
      ap (λ (l : LogsOf D). g.failures l.flt.disk) rotates.logs_are

module _ {D M : Type 0} (g : Ghosts D) (m : ModuleGhosts M) where
  pub rotation_counts : (old mid new : StoreOf D M) (hands now : List (HandOf M)) (done : Unit)
      (result : Result ℕ StoreFault) → DrainDoes g m old mid hands now (Ok done)
      → RotateDoes g mid new (saves_of m now) result
      → OnOk result ((name : DiskName)
      → g.failures (store_disk name new) ≡ g.failures (store_disk name old))
  rotation_counts old mid new hands now done (Ok number) drain does = λ name.
      rotate_counts g mid new (saves_of m now) number does name
      ∙ drain_counts g old mid drain.only drain.answer.open_still name
  rotation_counts old mid new hands now done (Err fault) drain does = tt
