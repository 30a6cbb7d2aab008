-- What the slots say of the base of a store, and why they say nothing.
use Rattle.std.specs.Prelude.{◌≡◌, ◌⊎◌, ℕ, Bool, List, Some}
use Rattle.std.specs.Option.{option_map}
use Rattle.std.specs.declared.option.Option.{Option}
use Rattle.fm_outer.specs.Failures.{Rose}
use Rattle.fm_outer.specs.Moments.{IsSettled}
use Rattle.fm_outer.specs.declared.disk.Disk.{Ghosts}
use Rattle.fm_saved.specs.declared.checkpoint.Checkpoint.{Checkpoint}
use Rattle.fm_slots.specs.Format.{SlotOf, IsSlot, IsDamagedSlot}
use Rattle.fm_slots.specs.InForce.{in_force}
use Rattle.fm_slots.specs.Pair.{NoCallFailed}
use Rattle.fm_slots.specs.declared.fault.SlotFault.{SlotFault}
use Rattle.fm_slots.specs.declared.fault.SlotFault.TheVariants.{Disk as SlotFailed}
use Rattle.fm_slots.specs.declared.fault.SlotFault.TheVariants.{Damaged as SlotDamaged}
use Rattle.fm_slots.specs.declared.fault.SlotFault.TheVariants.{NoMemory as SlotWantsMemory}
use Rattle.fm_logs.specs.declared.disks.DiskName.{DiskName}
use Rattle.fm_logs.specs.declared.disks.DiskName.TheVariants.{SlotA, SlotB}
use Rattle.fm_logs.specs.declared.fault.StoreFault.{StoreFault}
use Rattle.fm_logs.specs.declared.fault.StoreFault.TheVariants.{Disk, Damaged, NoMemory}
use Rattle.fm_looks.specs.Opening.{SaysCheckpoint, slot_disk}
use Rattle.fm_looks.specs.Opening.{slot_name}

-- whether the slot in force is the second, and its sequence
abbrev pub newest_of : Option (Bool × SlotOf) → Option (Bool × ℕ)
newest_of found = option_map (λ f. (f.0, f.1.sequence)) found

-- these bytes are slots, of which the one in force says the checkpoint
pub record SlotsKept (x y : List ℕ) (known : ℕ) (newest : Option (Bool × ℕ))
    (checkpoint : Checkpoint) : Type 0 where
  pub slot_a : Option SlotOf
  pub slot_b : Option SlotOf
  pub a_is : IsSlot x slot_a
  pub b_is : IsSlot y slot_b
  pub newest_is : newest ≡ newest_of (in_force slot_a slot_b)
  pub says : SaysCheckpoint known (in_force slot_a slot_b) checkpoint

-- both slots are synced, and no call of theirs failed
pub record AreSlotsRead {D : Type 0} (g : Ghosts D) (a b new_a new_b : D) : Type 0 where
  pub settled_a : IsSettled g new_a
  pub settled_b : IsSettled g new_b
  pub kept : NoCallFailed g a b new_a new_b

-- the slot in force says no checkpoint
abbrev pub SaysNone : ℕ → Option (Bool × SlotOf) → DiskName → ℕ → Type 0
SaysNone known found disk place = (disk ≡ slot_disk found) × (place ≡ 13)
    × ((said : Checkpoint) → SaysCheckpoint known found said → ⊥)

abbrev pub BaseCause : ℕ → Option (Bool × SlotOf) → StoreFault → Type 0
BaseCause known found (Damaged disk place) = SaysNone known found disk place
BaseCause known found NoMemory = Unit {0}
BaseCause known found _ = ⊥

-- the first slot is damaged, or else the second, or else the one in force says no checkpoint
abbrev pub SlotsDamage : ℕ → List ℕ → List ℕ → DiskName → ℕ → Type 0
SlotsDamage known x y disk place =
    ((disk ≡ SlotA) × (place ≡ 0) × IsDamagedSlot x) ⊎ ((a : Option SlotOf) × IsSlot x a
    × (((disk ≡ SlotB) × (place ≡ 0) × IsDamagedSlot y) ⊎ ((b : Option SlotOf) × IsSlot y b
    × SaysNone known (in_force a b) disk place)))

-- why the slots say nothing: Disk only where the count of one rose
abbrev pub SlotsCause : {D : Type 0} → Ghosts D → ℕ → D → D → D → D → StoreFault → Type 0
SlotsCause g known a b new_a new_b (Damaged disk place) =
    (x y : List ℕ) → g.seen a ≡ Some x → g.seen b ≡ Some y → SlotsDamage known x y disk place
SlotsCause g known a b new_a new_b Disk =
    Rose (g.failures a) (g.failures new_a) ⊎ Rose (g.failures b) (g.failures new_b)
SlotsCause g known a b new_a new_b NoMemory = Unit {0}
SlotsCause g known a b new_a new_b _ = ⊥

-- what a fault of the slots is to the store
abbrev pub fault_of_slots : SlotFault → StoreFault
fault_of_slots SlotFailed = Disk
fault_of_slots (SlotDamaged second place) = Damaged (slot_name second) place
fault_of_slots SlotWantsMemory = NoMemory
