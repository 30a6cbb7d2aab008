-- Which slot of a pair is the newest, and why none was found.
use Rattle.std.specs.Prelude.{◌≡◌, ◌⊎◌, ℕ, List, Bool, true, false, nat_lt, if◌then◌else◌, Some}
use Rattle.std.specs.Prelude.{None}
use Rattle.std.specs.declared.option.Option.{Option}
use Rattle.fm_outer.specs.Bytes.{range}
use Rattle.fm_outer.specs.Failures.{Rose}
use Rattle.fm_outer.specs.Moments.{IsSettled}
use Rattle.fm_outer.specs.declared.disk.Disk.{Ghosts}
use Rattle.fm_slots.specs.Format.{SlotOf}
use Rattle.fm_slots.specs.InForce.{IsDamagedPair}
use Rattle.fm_slots.specs.declared.fault.SlotFault.{SlotFault}
use Rattle.fm_slots.specs.declared.fault.SlotFault.TheVariants.{Disk, Damaged, NoMemory}
use Rattle.fm_slots.specs.declared.pair.Found.{Found}
use Rattle.fm_slots.specs.declared.pair.Pick.{Pick}
use Rattle.fm_slots.specs.declared.standing.Standing.{Standing}
use Rattle.fm_slots.specs.declared.standing.Standing.TheVariants.{Closed, Open, Bad}

-- the slot that stands on a disk, if any does
abbrev pub slot_in : List ℕ → Standing → Option SlotOf
slot_in bytes (Open sequence count) =
    Some (record { sequence = sequence; payload = range 13 count bytes })
slot_in bytes Closed = None
slot_in bytes Bad = None

-- no damaged slot stands there
abbrev pub IsUndamaged : Standing → Type 0
IsUndamaged Bad = ⊥
IsUndamaged standing = Unit {0}

-- the slot that stands on the first disk or the second
abbrev pub pick_at : Bool → Standing → Option Pick
pick_at second (Open sequence count) =
    Some (record { second = second; sequence = sequence; count = count })
pick_at second Closed = None
pick_at second Bad = None

-- the one of the greater sequence; of equals the first
abbrev pub later_pick : Option Pick → Option Pick → Option Pick
later_pick None t = t
later_pick (Some s) None = Some s
later_pick (Some s) (Some t) = if nat_lt s.sequence t.sequence then Some t else Some s

-- what was picked stands on the disk that it names
abbrev pub IsPicked : Bool → Standing → Standing → Pick → Type 0
IsPicked false first second pick = first ≡ Open pick.sequence pick.count
IsPicked true first second pick = second ≡ Open pick.sequence pick.count

-- one of two, the second where it is so
abbrev pub which : {X : Type 0} → Bool → X → X → X
which second a b = if second then b else a

-- the slot that was picked, of these bytes
abbrev pub picked_slot : List ℕ → List ℕ → Option Pick → Option (Bool × SlotOf)
picked_slot a b None = None
picked_slot a b (Some pick) = Some (
  pick.second,
  record { sequence = pick.sequence; payload = range 13 pick.count (which pick.second a b) },
)

-- the slot that was found
abbrev pub found_slot : Option Found → Option (Bool × SlotOf)
found_slot None = None
found_slot (Some found) =
    Some (found.second, record { sequence = found.sequence; payload = found.payload.items })

-- no call failed
abbrev pub NoCallFailed : {D : Type 0} → Ghosts D → D → D → D → D → Type 0
NoCallFailed g a b new_a new_b =
    (g.failures new_a ≡ g.failures a) × (g.failures new_b ≡ g.failures b)

-- Of the reading of a payload: `Disk` only where the disk's count rose, and else want of memory.
abbrev pub ReadCause : ℕ → ℕ → SlotFault → Type 0
ReadCause before now Disk = Rose before now
ReadCause before now NoMemory = now ≡ before
ReadCause before now (Damaged second place) = ⊥

-- Of the reading of one of two disks, of which the other is as it was.
abbrev pub PickCause : {D : Type 0} → Ghosts D → D → D → D → D → SlotFault → Type 0
PickCause g a b new_a new_b Disk =
    Rose (g.failures a) (g.failures new_a) ⊎ Rose (g.failures b) (g.failures new_b)
PickCause g a b new_a new_b NoMemory = NoCallFailed g a b new_a new_b
PickCause g a b new_a new_b (Damaged second place) = ⊥

-- Of `newest`: `Disk` only where the count of one of the disks rose; `Damaged` at 0 only where both
-- disks were synced and that slot is damaged, the second only beside a first that isn't; and else
-- want of memory.
abbrev pub NewestCause : {D : Type 0} → Ghosts D → D → D → D → D → SlotFault → Type 0
NewestCause g a b new_a new_b (Damaged second place) =
    (place ≡ 0) × NoCallFailed g a b new_a new_b × (IsSettled g new_a × IsSettled g new_b)
    × ((x y : List ℕ) → g.seen a ≡ Some x → g.seen b ≡ Some y → IsDamagedPair second x y)
NewestCause g a b new_a new_b Disk =
    Rose (g.failures a) (g.failures new_a) ⊎ Rose (g.failures b) (g.failures new_b)
NewestCause g a b new_a new_b NoMemory = NoCallFailed g a b new_a new_b
