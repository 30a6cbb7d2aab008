-- Bytes are one slot at most, so of a pair one slot at most is in force; and a slot that is
-- replaced.
use Rattle.std.proofs.Common.{◌≡◌, inl, inr, ℕ, ◌+◌, ◌<◌, List, [], ◌∷◌, ◌++◌}
use Rattle.std.proofs.Common.{length, drop, Bool, true, false, Option, Some, None, refl, sym, ◌∙◌}
use Rattle.std.proofs.Common.{ap}
use Rattle.std.proofs.Common.{subst, arith, length-append, append_assoc}
use Rattle.std.specs.Prelude.{not}
use Rattle.std.specs.Option.{option_map}
use Rattle.std.proofs.lemmas.Bool.Decides.{nat_tests}
use Rattle.std.proofs.lemmas.List.{drop_at}
use Rattle.byteorder.specs.Endian.{big_bytes}
use Rattle.fm_outer.proofs.Numbers.{length-big_bytes, same_number}
use Rattle.fm_outer.proofs.Ranges.{same_parts}
use Rattle.fm_slots.specs.Format.{SlotOf, slot_body, IsSlotWithin, IsOpenSlot}
use Rattle.fm_slots.specs.Format.{IsClosedSlot, IsDamagedSlot}
use Rattle.fm_slots.specs.Format.{IsSlot}
use Rattle.fm_slots.specs.InForce.{in_force, InForce, InForceBeside, KeepsInForce}
use Rattle.fm_slots.specs.InForce.{sequence_of}

pub length-slot_body : (sequence : ℕ) (payload : List ℕ)
    → length (slot_body sequence payload) ≡ 12 + length payload
unfolding slot_body
length-slot_body sequence payload = omega (
  arith,
  length-append (big_bytes 8 sequence) (big_bytes 4 (length payload) ++ payload),
  length-append (big_bytes 4 (length payload)) payload,
  length-big_bytes 8 sequence,
  length-big_bytes 4 (length payload),
)

-- the parts of a body
pub body_parts : (sequence : ℕ) (payload rest : List ℕ) → slot_body sequence payload ++ rest
    ≡ big_bytes 8 sequence ++ (big_bytes 4 (length payload) ++ (payload ++ rest))
unfolding slot_body
body_parts sequence payload rest = simp append_assoc

-- the bytes behind the sequence and the length
body_payload : (sequence : ℕ) (payload : List ℕ) → drop 12 (slot_body sequence payload) ≡ payload
unfolding slot_body
body_payload sequence payload =
    let front = big_bytes 8 sequence in
    let size = big_bytes 4 (length payload) in
    ap (drop 12) (sym (append_assoc front size payload))
    ∙ drop_at (front ++ size) payload 12
    (omega (
      arith,
      length-append front size,
      length-big_bytes 8 sequence,
      length-big_bytes 4 (length payload),
    ))

frame_pieces : (none headed bytes head payload : List ℕ) (sequence : ℕ) → none ≡ []
    → headed ≡ none ++ head → bytes ≡ headed ++ payload
    → head ≡ big_bytes 8 sequence ++ big_bytes 4 (length payload)
    → bytes ≡ slot_body sequence payload
unfolding slot_body
frame_pieces none headed bytes head payload sequence start first second is =
    rw (second, first, start, is)
    (append_assoc (big_bytes 8 sequence) (big_bytes 4 (length payload)) payload)

-- what a frame's bytes are, of which contracts see the sequence and the payload
pub is_frame : (none headed bytes head payload : List ℕ) (sequence : ℕ) → none ≡ []
    → headed ≡ none ++ head → bytes ≡ headed ++ payload
    → head ≡ big_bytes 8 sequence ++ big_bytes 4 (length payload) → IsSlotWithin sequence payload
    → (bytes ≡ slot_body sequence (drop 12 bytes)) × IsSlotWithin sequence (drop 12 bytes)
is_frame none headed bytes head payload sequence start first second is limits =
    let whole = frame_pieces none headed bytes head payload sequence start first second is in
    let back : drop 12 bytes ≡ payload = ap (drop 12) whole ∙ body_payload sequence payload in (
      whole ∙ ap (slot_body sequence) (sym back),
      subst (IsSlotWithin sequence) (sym back) limits,
    )

-- an open slot is one slot
pub same_open : (bytes : List ℕ) (s t : ℕ) (p q : List ℕ) → IsOpenSlot bytes s p
    → IsOpenSlot bytes t q → (s ≡ t) × (p ≡ q)
same_open bytes s t p q one other =
    let behind : slot_body s p ++ one.rest ≡ slot_body t q ++ other.rest =
    ap (drop 1) (sym one.bytes_are ∙ other.bytes_are) in
    let all = sym (body_parts s p one.rest) ∙ behind ∙ body_parts t q other.rest in
    let numbers = same_parts (big_bytes 8 s) (big_bytes 8 t) _ _
    (omega (arith, length-big_bytes 8 s, length-big_bytes 8 t)) all in
    let sizes = same_parts (big_bytes 4 (length p)) (big_bytes 4 (length q)) _ _
    (omega (arith, length-big_bytes 4 (length p), length-big_bytes 4 (length q))) numbers.1 in
    let long : length p ≡ length q = same_number 4 (length p) (length q)
    (omega (arith, one.limits.short)) (omega (arith, other.limits.short)) sizes.0 in (
      same_number 8 s t (omega (arith, one.limits.sequence_fits))
          (omega (arith, other.limits.sequence_fits)) numbers.0,
      (same_parts p q one.rest other.rest long sizes.1).0,
    )

-- an open slot is no closed one
pub open_not_closed : (bytes : List ℕ) (s : ℕ) (p : List ℕ) → IsOpenSlot bytes s p
    → IsClosedSlot bytes → ⊥
open_not_closed bytes s p slot (inl few) = omega (
  arith,
  few,
  ap length slot.bytes_are,
  length-append (slot_body s p) slot.rest,
  length-slot_body s p,
)
open_not_closed bytes s p slot (inr shut) =
    shut.2 (head_is (sym shut.3 ∙ slot.bytes_are))
  where
    head_is : shut.0 ∷ shut.1 ≡ 1 ∷ (slot_body s p ++ slot.rest) → shut.0 ≡ 1
    head_is same = cc same

slot_from : (slot : SlotOf) (s : ℕ) (p : List ℕ) → slot.sequence ≡ s → slot.payload ≡ p
    → slot ≡ record { sequence = s; payload = p }
slot_from slot s p one other =
    let of : ℕ → List ℕ → SlotOf = λ n l. record { sequence = n; payload = l } in
    ap (λ (n : ℕ). of n slot.payload) one ∙ ap (λ (l : List ℕ). of s l) other

-- bytes are one slot at most
pub same_slot : (bytes : List ℕ) (s t : Option SlotOf) → IsSlot bytes s → IsSlot bytes t → s ≡ t
same_slot bytes None None one other = refl
same_slot bytes None (Some t) one other =
    absurd (open_not_closed bytes t.sequence t.payload other one)
same_slot bytes (Some s) None one other =
    absurd (open_not_closed bytes s.sequence s.payload one other)
same_slot bytes (Some s) (Some t) one other =
    let same = same_open bytes s.sequence t.sequence s.payload t.payload one other in
    ap (λ (slot : SlotOf). Some slot) (slot_from s t.sequence t.payload same.0 same.1)

-- a damaged slot is none
pub damaged_no_slot : (bytes : List ℕ) (s : Option SlotOf) → IsDamagedSlot bytes → IsSlot bytes s
    → ⊥
damaged_no_slot bytes None damaged (inl few) = omega (arith, few, damaged.long)
damaged_no_slot bytes None damaged (inr shut) =
    shut.2 (head_is (sym shut.3 ∙ damaged.open_gate))
  where
    head_is : shut.0 ∷ shut.1 ≡ 1 ∷ damaged.rest → shut.0 ≡ 1
    head_is same = cc same
damaged_no_slot bytes (Some s) damaged slot = damaged.bad s.sequence s.payload slot

-- so one slot of a pair is in force at most
pub same_in_force : (a b : List ℕ) (found other : Option (Bool × SlotOf)) → InForce a b found
    → InForce a b other → found ≡ other
same_in_force a b found other one two =
    let firsts = same_slot a one.0 two.0 one.2 two.2 in
    let seconds = same_slot b one.1 two.1 one.3 two.3 in
    sym one.4
    ∙ ap (λ (s : Option SlotOf). in_force s one.1) firsts
    ∙ ap (λ (t : Option SlotOf). in_force two.0 t) seconds
    ∙ two.4

-- the kept slot beside a closed one, and beside a later one
pub kept_beside : (second : Bool) (kept c : List ℕ) (found : Option (Bool × SlotOf))
    → KeepsInForce second kept found → IsClosedSlot c → InForceBeside second kept c found
kept_beside true kept c found keeps closed =
    (keeps.slot, None, keeps.reads, closed, first keeps.slot ∙ keeps.is)
  where
    first : (s : Option SlotOf) → in_force s None ≡ option_map (λ t. (not true, t)) s
    first None = refl
    first (Some t) = refl
kept_beside false kept c found keeps closed =
    (None, keeps.slot, closed, keeps.reads, second keeps.slot ∙ keeps.is)
  where
    second : (s : Option SlotOf) → in_force None s ≡ option_map (λ t. (not false, t)) s
    second None = refl
    second (Some t) = refl

later_first : (s t : SlotOf) → t.sequence < s.sequence
    → in_force (Some s) (Some t) ≡ Some (false, s)
later_first s t le = grind (arith, nat_tests)

later_second : (s t : SlotOf) → s.sequence < t.sequence
    → in_force (Some s) (Some t) ≡ Some (true, t)
later_second s t le = grind (arith, nat_tests)

pub later_beside : (second : Bool) (kept c : List ℕ) (found : Option (Bool × SlotOf))
    (slot : SlotOf)
    → KeepsInForce second kept found → sequence_of found < slot.sequence
    → IsOpenSlot c slot.sequence slot.payload
    → InForceBeside second kept c (Some (second, slot))
later_beside true kept c found slot keeps later there =
    (keeps.slot, Some slot, keeps.reads, there, go keeps.slot keeps.is)
  where
    go : (s : Option SlotOf) → option_map (λ t. (not true, t)) s ≡ found
        → in_force s (Some slot) ≡ Some (true, slot)
    go None is = refl
    go (Some s) is = later_second s slot
        (subst (λ (f : Option (Bool × SlotOf)). sequence_of f < slot.sequence) (sym is) later)
later_beside false kept c found slot keeps later there =
    (Some slot, keeps.slot, there, keeps.reads, go keeps.slot keeps.is)
  where
    go : (s : Option SlotOf) → option_map (λ t. (not false, t)) s ≡ found
        → in_force (Some slot) s ≡ Some (false, slot)
    go None is = refl
    go (Some s) is = later_first slot s
        (subst (λ (f : Option (Bool × SlotOf)). sequence_of f < slot.sequence) (sym is) later)
