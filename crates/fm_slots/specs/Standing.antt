-- What the bytes of one slot's disk tell.
use Rattle.std.specs.Prelude.{ℕ, ◌+◌, ◌≤◌, List, length}
use Rattle.fm_outer.specs.Bytes.{range}
use Rattle.fm_slots.specs.Format.{IsOpenSlot, IsClosedSlot, IsDamagedSlot}
use Rattle.fm_slots.specs.declared.standing.Standing.{Standing}
use Rattle.fm_slots.specs.declared.standing.Standing.TheVariants.{Closed, Open, Bad}

-- a closed slot, an open one whose payload lies inside, or a damaged one
abbrev pub TellsSlot : List ℕ → Standing → Type 0
TellsSlot bytes Closed = IsClosedSlot bytes
TellsSlot bytes (Open sequence count) =
    (13 + count ≤ length bytes) × IsOpenSlot bytes sequence (range 13 count bytes)
TellsSlot bytes Bad = IsDamagedSlot bytes
