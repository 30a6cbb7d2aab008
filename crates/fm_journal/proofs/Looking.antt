-- What the bytes at a gate tell of it.
use Rattle.std.proofs.Common.{◌≡◌, ◌≢◌, ℕ, ◌+◌, ◌-◌, ◌<◌, ◌≤◌, ◌^◌, List, [], ◌∷◌, ◌++◌, length}
use Rattle.std.proofs.Common.{take, drop, get_or, refl, sym, ◌∙◌, ap, arith, length-append}
use Rattle.std.proofs.Common.{length-drop, append_assoc, subst}
use Rattle.std.proofs.lemmas.List.{drop_more, length-take-le, take_all}
use Rattle.byteorder.specs.Endian.{big_bytes}
use Rattle.fm_outer.specs.Bytes.{range}
use Rattle.fm_journal.specs.Format.{spelled}
use Rattle.fm_journal.specs.Look.{IsRecordAt, Shows}
use Rattle.fm_journal.specs.declared.look.Look.{Look}
use Rattle.fm_journal.specs.declared.look.Look.TheVariants.{Shut, Record, Bad}
use Rattle.fm_outer.proofs.Numbers.{length-big_bytes, same_number}
use Rattle.fm_outer.proofs.Ranges.{same_parts, split_range, range-range}
use Rattle.fm_journal.proofs.Records.{length-spelled}

-- what is shown of all bytes, by the name that a case gives it
pub shown_as : (size : ℕ) (bytes : List ℕ) (at : ℕ) (look other : Look) → size ≡ length bytes
    → Shows (take size bytes) at look → look ≡ other → Shows bytes at other
shown_as size bytes at look other long shows is =
    subst (λ (l : Look). Shows bytes at l) is
    (subst (λ (xs : List ℕ). Shows xs at look) (take_all size bytes (omega (arith, long))) shows)

pub shows_shut : (bytes : List ℕ) (at gate : ℕ) → range at 1 bytes ≡ gate ∷ [] → gate ≢ 1
    → Shows bytes at Shut
shows_shut bytes at gate is closed =
    (gate, drop (at + 1) bytes, closed, split_range at 1 bytes (gate ∷ []) is)

-- a record takes six bytes at least, with the gate behind it
pub record_long : (bytes : List ℕ) (at : ℕ) (payload : List ℕ) (gate : ℕ) (after : List ℕ)
    → IsRecordAt bytes at payload gate after → length bytes - at ≡ 6 + length payload + length after
record_long bytes at payload gate after there =
    omega (
      arith,
      ap length there.stands,
      length-drop at bytes,
      length-append (spelled payload) (gate ∷ after),
      length-spelled payload,
    )

pub shows_short : (bytes : List ℕ) (at : ℕ) → range at 1 bytes ≡ 1 ∷ [] → length bytes - at < 6
    → Shows bytes at Bad
shows_short bytes at is short = (
  drop (at + 1) bytes,
  split_range at 1 bytes (1 ∷ []) is,
  λ payload gate after there. omega (arith, record_long bytes at payload gate after there),
)

-- behind the gate of a record stands its length
length_stands : (payload rest more : List ℕ) → spelled payload ++ rest ≡ 1 ∷ more
    → big_bytes 4 (length payload) ++ (payload ++ rest) ≡ more
unfolding spelled
length_stands payload rest more is = sym (append_assoc (big_bytes 4 (length payload)) payload rest)
    ∙ ap (drop 1) is

spelled_stands : (payload rest : List ℕ)
    → 1 ∷ (big_bytes 4 (length payload) ++ (payload ++ rest)) ≡ spelled payload ++ rest
unfolding spelled
spelled_stands payload rest =
    ap (λ (l : List ℕ). 1 ∷ l) (sym (append_assoc (big_bytes 4 (length payload)) payload rest))

module _ (bytes : List ℕ) (at n : ℕ) (open_gate : range at 1 bytes ≡ 1 ∷ [])
    (size : range (at + 1) 4 bytes ≡ big_bytes 4 n) where
  gate_and_size : drop at bytes ≡ 1 ∷ (big_bytes 4 n ++ drop (at + 5) bytes)
  gate_and_size =
      split_range at 1 bytes (1 ∷ []) open_gate
      ∙ ap (λ (l : List ℕ). 1 ∷ l) (split_range (at + 1) 4 bytes (big_bytes 4 n) size)
      ∙ ap (λ (k : ℕ). 1 ∷ (big_bytes 4 n ++ drop k bytes)) (omega arith)

  pub shows_record : (next : ℕ) → next ≡ at + 5 + n → n ≤ 2 ^ 28 → next < length bytes
      → next < 2 ^ 40 → Shows bytes at (Record next)
  shows_record next is short inside small =
      let payload = range (at + 5) n bytes in
      let long : length payload ≡ n =
      length-take-le n (drop (at + 5) bytes) (omega (arith, length-drop (at + 5) bytes)) in
      let there : drop at bytes ≡ spelled payload
      ++ get_or bytes (at + 5 + n) 0 ∷ drop (at + 5 + n + 1) bytes =
      gate_and_size
      ∙ ap (λ (l : List ℕ). 1 ∷ (big_bytes 4 n ++ l)) (split_range (at + 5) n bytes payload refl
      ∙ ap (λ (l : List ℕ). payload ++ l) (drop_more bytes (at + 5 + n) 0 (omega arith)))
      ∙ ap (λ (k : ℕ). 1 ∷ (big_bytes 4 k
      ++ (payload ++ get_or bytes (at + 5 + n) 0 ∷ drop (at + 5 + n + 1) bytes))) (sym long)
      ∙ spelled_stands payload (get_or bytes (at + 5 + n) 0 ∷ drop (at + 5 + n + 1) bytes) in (
        payload,
        get_or bytes (at + 5 + n) 0,
        drop (at + 5 + n + 1) bytes,
        omega arith,
        record { stands = there; short = omega arith; sized = omega arith },
      )

  pub shows_bad : n < 2 ^ 32 → (n ≤ 2 ^ 28 → at + 5 + n < length bytes → at + 5 + n < 2 ^ 40 → ⊥)
      → Shows bytes at Bad
  shows_bad fits bad = (
    drop (at + 1) bytes,
    split_range at 1 bytes (1 ∷ []) open_gate,
    λ payload gate after there.
        let sizes = same_parts (big_bytes 4 (length payload)) (big_bytes 4 n)
        (payload ++ gate ∷ after) (drop (at + 5) bytes)
        (omega (arith, length-big_bytes 4 (length payload), length-big_bytes 4 n))
        (length_stands payload (gate ∷ after) (big_bytes 4 n ++ drop (at + 5) bytes)
        (sym there.stands ∙ gate_and_size)) in
        let short = there.short in
        let same : length payload ≡ n =
        same_number 4 (length payload) n (omega arith) (omega arith) sizes.0 in
        bad (omega arith) (omega (arith, record_long bytes at payload gate after there))
        (omega (arith, there.sized)),
  )

-- the gate and the length in what was read from a gate on
pub gate_in : (bytes front : List ℕ) (at gate : ℕ) → range at (length front) bytes ≡ front
    → 1 ≤ length front → get_or front 0 0 ≡ gate → range at 1 bytes ≡ gate ∷ []
gate_in bytes front at gate is some first =
    let here : at + 0 ≡ at = omega arith in
    ap (λ (n : ℕ). range n 1 bytes) (sym here)
    ∙ sym (range-range at (length front) 0 1 bytes some)
    ∙ ap (take 1) is
    ∙ one front some
    ∙ ap (λ (b : ℕ). b ∷ []) first
  where
    one : (xs : List ℕ) → 1 ≤ length xs → take 1 xs ≡ get_or xs 0 0 ∷ []
    one [] long = absurd (omega (arith, long))
    one (x ∷ xs) long = refl

pub length_in : (bytes front size : List ℕ) (at : ℕ) → range at (length front) bytes ≡ front
    → 5 ≤ length front → size ≡ range 1 4 front → range (at + 1) 4 bytes ≡ size
length_in bytes front size at is long same =
    sym (range-range at (length front) 1 4 bytes long) ∙ ap (range 1 4) is ∙ sym same
