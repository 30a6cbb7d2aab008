-- The two slots of a store: which of them is written next, and what its writing leaves.
use Rattle.std.specs.Prelude.{◌≡◌, ℕ, List, Bool, Result, Ok, Err}
use Rattle.std.specs.declared.option.Option.{Option}
use Rattle.fm_outer.specs.Failures.{Rose}
use Rattle.fm_outer.specs.Moments.{LeavesOnly}
use Rattle.fm_outer.specs.declared.disk.Disk.{Ghosts}
use Rattle.fm_slots.specs.Format.{SlotOf, IsOpenSlot}
use Rattle.fm_slots.specs.Filling.{IsOldOrReplaced}
use Rattle.fm_store.specs.StoreOf.{StoreBaseOf, fills_second, of_two}

-- the disk of the slot that the next checkpoint is written into, where this is known of the newest
abbrev pub next_slot : {D M : Type 0} → StoreBaseOf D M → Option (Bool × ℕ) → D
next_slot base newest = of_two (fills_second newest) base.slot_a base.slot_b

-- the disk of the slot that is kept beside it
abbrev pub kept_slot : {D M : Type 0} → StoreBaseOf D M → Option (Bool × ℕ) → D
kept_slot base newest = of_two (fills_second newest) base.slot_b base.slot_a

-- The slot on a disk was replaced: at each moment a crash leaves what it might have left before, a
-- closed slot or the new one, and now only the new one.
pub record FillsSlot {D : Type 0} (g : Ghosts D) (old new : D) (slot : SlotOf) : Type 0 where
  pub leaves : LeavesOnly g old new (IsOldOrReplaced (g.images old) slot)
  pub opened : (c : List ℕ) → g.images new c → IsOpenSlot c slot.sequence slot.payload
  pub same_disk : g.name new ≡ g.name old
  pub no_failure : g.failures new ≡ g.failures old

-- the disk failed meanwhile
pub record FailsSlot {D : Type 0} (g : Ghosts D) (old new : D) (slot : SlotOf) : Type 0 where
  pub leaves : LeavesOnly g old new (IsOldOrReplaced (g.images old) slot)
  pub same_disk : g.name new ≡ g.name old
  pub rose : Rose (g.failures old) (g.failures new)

abbrev pub Replaces : {D E : Type 0} → Ghosts D → D → D → SlotOf → Result Unit E → Type 0
Replaces g old new slot (Ok done) = FillsSlot g old new slot
Replaces g old new slot (Err failed) = FailsSlot g old new slot
