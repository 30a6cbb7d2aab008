-- What a crash leaves of a slot that is cleared or filled.
use Rattle.std.specs.Prelude.{◌⊎◌, ℕ, List}
use Rattle.fm_outer.specs.declared.disk.Disk.{Ghosts}
use Rattle.fm_slots.specs.Format.{SlotOf, IsShut, IsClosedSlot, IsOpenSlot}

-- a crash leaves a gate that isn't open, and no empty disk
abbrev pub AllShut : {D : Type 0} → Ghosts D → D → Type 0
AllShut g disk = (c : List ℕ) → g.images disk c → IsShut c

-- one of these images, or a closed slot
abbrev pub IsOldOrClosed : (List ℕ → Type 0) → List ℕ → Type 0
IsOldOrClosed images c = images c ⊎ IsClosedSlot c

-- a gate that isn't open, or the slot
abbrev pub IsShutOrFilled : SlotOf → List ℕ → Type 0
IsShutOrFilled slot c = IsShut c ⊎ IsOpenSlot c slot.sequence slot.payload

-- one of these images, a closed slot, or the slot
abbrev pub IsOldOrReplaced : (List ℕ → Type 0) → SlotOf → List ℕ → Type 0
IsOldOrReplaced images slot c =
    IsOldOrClosed images c ⊎ IsOpenSlot c slot.sequence slot.payload
