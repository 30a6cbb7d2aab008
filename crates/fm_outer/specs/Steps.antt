-- What a write or a cut makes of bytes is a step that a crash may leave, and so is what stood there
-- before.
use Rattle.std.specs.Prelude.{◌≡◌, ℕ, ◌+◌, ◌≤◌, List, ◌++◌, Bool, true, false, if◌then◌else◌}
use Rattle.std.specs.Prelude.{nat_le, length, take, drop}
use Rattle.std.proofs.Common.{refl, sym, ap, subst, arith, length-append, length-drop, append_assoc}
use Rattle.std.proofs.Math.Nat.{le_refl}
use Rattle.std.proofs.lemmas.Bool.{leb-true, leb-false}
use Rattle.std.proofs.lemmas.List.{take_at, take_all, drop_at, length-take-le}
use Rattle.fm_outer.specs.Bytes.{written}
use Rattle.fm_outer.specs.Crash.{Torn, Shorter}
use Rattle.fm_outer.specs.Record.{laid}

-- nothing of the write is on the disk
pub torn-none : (at n : ℕ) (xs : List ℕ) → Torn at n xs xs
torn-none at n xs = record {
  before = refl;
  after = refl;
  no_shorter =
      le_refl (length xs);
  no_longer = omega arith;
}

-- nothing of the cut is
pub shorter-none : (n : ℕ) (xs : List ℕ) → Shorter n xs xs
shorter-none n xs = record {
  front = take_all (length xs) xs (le_refl (length xs));
  no_shorter =
      omega arith;
}

-- all of the cut is
pub shorter-all : (n : ℕ) (xs : List ℕ) → Shorter n xs (take n xs)
shorter-all n xs = go (nat_le n (length xs)) refl
  where
    go : (test : Bool) → nat_le n (length xs) ≡ test → Shorter n xs (take n xs)
    go true is =
        let size = length-take-le n xs (leb-true n (length xs) is) in
        record { front = ap (λ (k : ℕ). take k xs) size; no_shorter = omega (arith, size) }
    go false is =
        let past = leb-false n (length xs) is in
        subst (λ (l : List ℕ). Shorter n xs l) (sym (take_all n xs (omega (arith, past))))
        (shorter-none n xs)

-- the front of the bytes, and the piece behind it
length-front : (at : ℕ) (bytes xs : List ℕ) → at ≤ length xs
    → length (take at xs ++ bytes) ≡ at + length bytes
length-front at bytes xs le =
    omega (arith, length-append (take at xs) bytes, length-take-le at xs le)

-- all of the write is
pub torn-written : (at : ℕ) (bytes xs : List ℕ) → at ≤ length xs
    → Torn at (length bytes) xs (written at bytes xs)
torn-written at bytes xs le =
    let rest = drop (at + length bytes) xs in
    let size = length-front at bytes xs le in
    record {
      before = rw (append_assoc (take at xs) bytes rest)
          (take_at (take at xs) (bytes ++ rest) at (length-take-le at xs le));
      after = drop_at (take at xs ++ bytes) rest (at + length bytes) size;
      no_shorter = omega (
        arith,
        size,
        length-append (take at xs ++ bytes) rest,
        length-drop (at + length bytes) xs,
      );
      no_longer = omega (
        arith,
        size,
        length-append (take at xs ++ bytes) rest,
        length-drop (at + length bytes) xs,
      );
    }

pub torn-laid : (at : ℕ) (bytes xs : List ℕ) → Torn at (length bytes) xs (laid at bytes xs)
torn-laid at bytes xs = go (nat_le at (length xs)) refl
  where
    go : (test : Bool) → nat_le at (length xs) ≡ test
        → Torn at (length bytes) xs (if test then written at bytes xs else xs)
    go true is = torn-written at bytes xs (leb-true at (length xs) is)
    go false is = torn-none at (length bytes) xs
