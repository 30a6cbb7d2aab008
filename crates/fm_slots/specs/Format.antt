-- What bytes are a slot: a gate, a sequence, a length and a payload.
use Rattle.std.specs.Prelude.{◌≡◌, ◌≢◌, ◌⊎◌, ℕ, ◌<◌, ◌≤◌, ◌^◌, List, [], ◌∷◌, ◌++◌, length}
use Rattle.std.specs.Prelude.{Some, None, ◌==◌, if◌then◌else◌}
use Rattle.std.specs.declared.option.Option.{Option}
use Rattle.byteorder.specs.Endian.{big_bytes}

-- a sequence and a payload
pub record SlotOf : Type 0 where
  pub sequence : ℕ
  pub payload : List ℕ

-- what stands behind the gate: the sequence, the length and the payload
unfoldable pub slot_body : ℕ → List ℕ → List ℕ
slot_body sequence payload = big_bytes 8 sequence ++ (big_bytes 4 (length payload) ++ payload)

-- a sequence is at least 1 and below 2^62, and a payload has at most 2^28 bytes
pub record IsSlotWithin (sequence : ℕ) (payload : List ℕ) : Type 0 where
  pub positive : 1 ≤ sequence
  pub sequence_fits : sequence < 2 ^ 62
  pub short : length payload ≤ 2 ^ 28

-- The bytes are an open slot. `rest` is what follows.
pub record IsOpenSlot (bytes : List ℕ) (sequence : ℕ) (payload : List ℕ) : Type 0 where
  pub rest : List ℕ
  pub bytes_are : bytes ≡ 1 ∷ (slot_body sequence payload ++ rest)
  pub limits : IsSlotWithin sequence payload

-- they begin with a gate that isn't open
abbrev pub IsShut : List ℕ → Type 0
IsShut bytes = (gate : ℕ) × (rest : List ℕ) × (gate ≢ 1) × (bytes ≡ gate ∷ rest)

-- they are a closed slot: too few for one, or with a gate that isn't open
abbrev pub IsClosedSlot : List ℕ → Type 0
IsClosedSlot bytes = (length bytes < 13) ⊎ IsShut bytes

-- they are long enough for a slot, with an open gate and no slot behind it
pub record IsDamagedSlot (bytes : List ℕ) : Type 0 where
  pub rest : List ℕ
  pub open_gate : bytes ≡ 1 ∷ rest
  pub long : 13 ≤ length bytes
  pub bad : (sequence : ℕ) (payload : List ℕ) → IsOpenSlot bytes sequence payload → ⊥

-- they are an open slot with this in it, or a closed one
abbrev pub IsSlot : List ℕ → Option SlotOf → Type 0
IsSlot bytes None = IsClosedSlot bytes
IsSlot bytes (Some slot) = IsOpenSlot bytes slot.sequence slot.payload

-- what a read gives of a slot that was cleared
abbrev pub cleared_slot : List ℕ → List ℕ
cleared_slot [] = 0 ∷ []
cleared_slot (gate ∷ rest) = (if gate == 1 then 0 else gate) ∷ rest
