-- The record's calls and bytes, put together.
use Rattle.std.proofs.Common.{◌≡◌, ℕ, ◌+◌, ◌-◌, ◌≤◌, List, [], ◌∷◌, ◌++◌, length, take, drop, refl}
use Rattle.std.proofs.Common.{ap, arith, length-drop}
use Rattle.std.specs.Prelude.{IsTrue, nat_le}
use Rattle.std.proofs.lemmas.Bool.Decides.{nat_tests}
use Rattle.std.proofs.lemmas.List.{length-take-le, take-append-le, take_all}
use lib.Seq.{drop-append-le}
use Rattle.fm_outer.specs.declared.record.Call.{Call}
use Rattle.fm_outer.specs.declared.record.Call.TheVariants.{Write, Cut, Sync}
use Rattle.fm_outer.specs.Record.{places, places_of}
use Rattle.fm_outer.specs.Tape.{bytes_in, all_bytes, op_of, ops_of}

places-op_of : (call : Call) (bytes : List ℕ) → length bytes ≡ bytes_in call
    → places (op_of call bytes) ≡ 1 + bytes_in call
places-op_of (Write at count done) bytes is = omega arith
places-op_of (Cut len done) bytes is = refl
places-op_of (Sync done) bytes is = refl

-- the calls take one place each, and one for each byte
pub places-ops_of : (calls : List Call) (bytes : List ℕ) → all_bytes calls ≡ length bytes
    → places_of (ops_of calls bytes) ≡ length calls + length bytes
places-ops_of [] bytes whole = omega (arith, whole)
places-ops_of (call ∷ calls) bytes whole =
    let n = bytes_in call in
    let inside : n ≤ length bytes = omega (arith, whole) in
    let rest : all_bytes calls ≡ length (drop n bytes) =
    omega (arith, whole, length-drop n bytes) in
    omega (
      arith,
      places-ops_of calls (drop n bytes) rest,
      places-op_of call (take n bytes) (length-take-le n bytes inside),
      length-drop n bytes,
      inside,
    )

-- one call more, with its bytes
pub ops_of-snoc : (calls : List Call) (call : Call) (bytes piece : List ℕ)
    → all_bytes calls ≡ length bytes → bytes_in call ≡ length piece
    → ops_of (calls ++ call ∷ []) (bytes ++ piece) ≡ ops_of calls bytes ++ op_of call piece ∷ []
ops_of-snoc [] call [] piece whole fits =
    ap (λ (l : List ℕ). op_of call l ∷ []) (take_all (bytes_in call) piece (omega (arith, fits)))
ops_of-snoc [] call (b ∷ bytes) piece whole fits = absurd (omega (arith, whole))
ops_of-snoc (first ∷ calls) call bytes piece whole fits =
    let n = bytes_in first in
    let inside : n ≤ length bytes = omega (arith, whole) in
    let rest : all_bytes calls ≡ length (drop n bytes) =
    omega (arith, whole, length-drop n bytes) in
    let front : take n (bytes ++ piece) ≡ take n bytes = take-append-le n bytes piece inside in
    let behind : drop n (bytes ++ piece) ≡ drop n bytes ++ piece =
    drop-append-le n bytes piece inside in
    rw (front, behind, ops_of-snoc calls call (drop n bytes) piece rest fits) refl

pub places_fit : (n size taken all : ℕ) → all ≡ taken → taken ≤ size
    → nat_le n (size - taken) ≡ nat_le (all + n) size
places_fit n size taken all same le = grind (arith, nat_tests)

pub all_bytes-snoc : (calls : List Call) (call : Call)
    → all_bytes (calls ++ call ∷ []) ≡ all_bytes calls + bytes_in call
all_bytes-snoc [] call = omega arith
all_bytes-snoc (first ∷ calls) call = omega (arith, all_bytes-snoc calls call)

-- there is a place left
pub place-left : (calls : List Call) (bytes : List ℕ) (n size : ℕ) → all_bytes calls ≡ length bytes
    → IsTrue (nat_le (places_of (ops_of calls bytes) + n) size)
    → length calls + length bytes + n ≤ size
place-left calls bytes n size whole fits =
    let counts = places-ops_of calls bytes whole in
    let le : places_of (ops_of calls bytes) + n ≤ size = grind (arith, nat_tests, fits) in
    omega (arith, counts, le)
