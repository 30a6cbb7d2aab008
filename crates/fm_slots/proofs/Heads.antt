-- What the first 13 bytes of a slot's disk tell of it.
use Rattle.std.proofs.Common.{◌≡◌, ◌≢◌, inl, inr, ℕ, ◌+◌, ◌<◌, ◌≤◌, ◌^◌, List, [], ◌∷◌, ◌++◌}
use Rattle.std.proofs.Common.{length}
use Rattle.std.proofs.Common.{take, drop, get_or, refl, sym, ◌∙◌, ap, arith, length-append}
use Rattle.std.proofs.Common.{length-drop}
use Rattle.std.proofs.lemmas.List.{length-take-le}
use Rattle.byteorder.specs.Endian.{big_bytes}
use Rattle.fm_outer.specs.Bytes.{range}
use Rattle.fm_outer.proofs.Numbers.{length-big_bytes, same_number}
use Rattle.fm_outer.proofs.Ranges.{split_range, same_parts, range-take}
use Rattle.fm_slots.specs.Format.{slot_body, IsClosedSlot, IsDamagedSlot}
use Rattle.fm_slots.specs.Standing.{TellsSlot}
use Rattle.fm_slots.specs.declared.standing.Standing.TheVariants.{Open}
use Rattle.fm_slots.proofs.Forces.{body_parts, length-slot_body}
use Rattle.fm_slots.proofs.Gates.{shut_there}

-- too few bytes for a slot
pub few_are_closed : (bytes : List ℕ) → length bytes < 13 → IsClosedSlot bytes
few_are_closed bytes few = inl few

-- a range of the first bytes
pub in_head : (bytes head : List ℕ) (at n : ℕ) → take 13 bytes ≡ head → at + n ≤ 13
    → range at n bytes ≡ range at n head
in_head bytes head at n is le = sym (range-take at n 13 bytes le) ∙ ap (range at n) is

pub gate_is : (bytes head : List ℕ) (gate : ℕ) → take 13 bytes ≡ head → 13 ≤ length bytes
    → get_or head 0 0 ≡ gate → range 0 1 bytes ≡ gate ∷ []
gate_is bytes head gate is long first =
    in_head bytes head 0 1 is (omega arith)
    ∙ one head (omega (arith, ap length is, length-take-le 13 bytes long))
    ∙ ap (λ (g : ℕ). g ∷ []) first
  where
    one : (xs : List ℕ) → 1 ≤ length xs → take 1 xs ≡ get_or xs 0 0 ∷ []
    one [] some = absurd (omega (arith, some))
    one (x ∷ xs) some = refl

pub gate_closed : (bytes : List ℕ) (gate : ℕ) → range 0 1 bytes ≡ gate ∷ [] → gate ≢ 1
    → IsClosedSlot bytes
gate_closed bytes gate is closed = inr (shut_there bytes gate is closed)

module _ (bytes : List ℕ) (sequence count : ℕ) (gate : range 0 1 bytes ≡ 1 ∷ [])
    (numbered : range 1 8 bytes ≡ big_bytes 8 sequence)
    (counted : range 9 4 bytes ≡ big_bytes 4 count) where
  gate_first : bytes ≡ 1 ∷ drop 1 bytes
  gate_first = split_range 0 1 bytes (1 ∷ []) gate

  behind_gate : drop 1 bytes ≡ big_bytes 8 sequence ++ (big_bytes 4 count ++ drop 13 bytes)
  behind_gate =
      split_range 1 8 bytes (big_bytes 8 sequence) numbered
      ∙ ap (λ (l : List ℕ). big_bytes 8 sequence ++ l)
      (split_range 9 4 bytes (big_bytes 4 count) counted)

  -- a slot whose payload lies inside
  pub stands_open : 1 ≤ sequence → sequence < 2 ^ 62 → count ≤ 2 ^ 28 → 13 + count ≤ length bytes
      → TellsSlot bytes (Open sequence count)
  stands_open positive fits short inside =
      let payload = range 13 count bytes in
      let long : length payload ≡ count =
      length-take-le count (drop 13 bytes) (omega (arith, inside, length-drop 13 bytes)) in (
        inside,
        record {
          rest = drop (13 + count) bytes;
          bytes_are =
              gate_first
              ∙ ap (λ (l : List ℕ). 1 ∷ l) (behind_gate
              ∙ ap (λ (l : List ℕ). big_bytes 8 sequence ++ (big_bytes 4 count ++ l))
              (split_range 13 count bytes payload refl)
              ∙ ap (λ (n : ℕ). big_bytes 8 sequence
              ++ (big_bytes 4 n ++ (payload ++ drop (13 + count) bytes))) (sym long)
              ∙ sym (body_parts sequence payload (drop (13 + count) bytes)));
          limits = record {
            positive = positive;
            sequence_fits = fits;
            short = omega (arith, long, short);
          };
        },
      )

  -- and else no slot stands there
  pub stands_bad : sequence < 2 ^ 64 → count < 2 ^ 32 → 13 ≤ length bytes
      → (1 ≤ sequence → sequence < 2 ^ 62 → count ≤ 2 ^ 28 → 13 + count ≤ length bytes → ⊥)
      → IsDamagedSlot bytes
  stands_bad number size long never = record {
    rest = drop 1 bytes;
    open_gate = gate_first;
    long = long;
    bad = λ s p slot.
        let all = sym behind_gate ∙ ap (drop 1) slot.bytes_are ∙ body_parts s p slot.rest in
        let numbers = same_parts (big_bytes 8 sequence) (big_bytes 8 s) _ _
        (omega (arith, length-big_bytes 8 sequence, length-big_bytes 8 s)) all in
        let sizes = same_parts (big_bytes 4 count) (big_bytes 4 (length p)) _ _
        (omega (arith, length-big_bytes 4 count, length-big_bytes 4 (length p))) numbers.1 in
        let same = same_number 8 sequence s (omega (arith, number))
        (omega (arith, slot.limits.sequence_fits)) numbers.0 in
        let many = same_number 4 count (length p) (omega (arith, size))
        (omega (arith, slot.limits.short)) sizes.0 in
        never (omega (arith, same, slot.limits.positive))
        (omega (arith, same, slot.limits.sequence_fits))
        (omega (arith, many, slot.limits.short))
        (omega (
          arith,
          many,
          ap length slot.bytes_are,
          length-append (slot_body s p) slot.rest,
          length-slot_body s p,
        ));
  }
