-- Which of two slots is in force.
use Rattle.std.specs.Prelude.{◌≡◌, ◌<◌, ℕ, List, Bool, true, false, not, nat_lt, if◌then◌else◌}
use Rattle.std.specs.Prelude.{Some, None}
use Rattle.std.specs.Option.{option_map}
use Rattle.std.specs.declared.option.Option.{Option}
use Rattle.fm_outer.specs.declared.disk.Disk.{Ghosts}
use Rattle.fm_slots.specs.Format.{SlotOf, IsSlot, IsDamagedSlot}

-- the open slot of the greater sequence, and whether it is the second; of equals the first
abbrev pub in_force : Option SlotOf → Option SlotOf → Option (Bool × SlotOf)
in_force None None = None
in_force None (Some t) = Some (true, t)
in_force (Some s) None = Some (false, s)
in_force (Some s) (Some t) =
    if nat_lt s.sequence t.sequence then Some (true, t) else Some (false, s)

-- of the slots that these bytes are, this one is in force, if any is
abbrev pub InForce : List ℕ → List ℕ → Option (Bool × SlotOf) → Type 0
InForce a b found = (s : Option SlotOf) × (t : Option SlotOf) × IsSlot a s × IsSlot b t
    × (in_force s t ≡ found)

-- the same, where the kept bytes are the first slot or the second: `second` says that the other
-- bytes are the second
abbrev pub InForceBeside : Bool → List ℕ → List ℕ → Option (Bool × SlotOf) → Type 0
InForceBeside true kept other found = InForce kept other found
InForceBeside false kept other found = InForce other kept found

-- the sequence of the slot in force; 0 where none is open
abbrev pub sequence_of : Option (Bool × SlotOf) → ℕ
sequence_of None = 0
sequence_of (Some found) = found.1.sequence

-- the kept bytes are the slot in force, or a closed one where none is
pub record KeepsInForce (second : Bool) (kept : List ℕ) (found : Option (Bool × SlotOf))
    : Type 0 where
  pub slot : Option SlotOf
  pub reads : IsSlot kept slot
  pub is : option_map (λ s. (not second, s)) slot ≡ found

-- the first slot is damaged, or the second beside one that isn't
abbrev pub IsDamagedPair : Bool → List ℕ → List ℕ → Type 0
IsDamagedPair false a b = IsDamagedSlot a
IsDamagedPair true a b = (s : Option SlotOf) × IsSlot a s × IsDamagedSlot b

-- The slot on the disk may be replaced: the other one is kept, of a lower sequence than the new
-- one, and beside each image of the disk it is in force.
pub record IsReplaced {D : Type 0} (g : Ghosts D) (disk : D) (kept : List ℕ) (second : Bool)
    (found : Option (Bool × SlotOf)) (slot : SlotOf) : Type 0 where
  pub keeps : KeepsInForce second kept found
  pub later : sequence_of found < slot.sequence
  pub beside : (c : List ℕ) → g.images disk c → InForceBeside second kept c found
