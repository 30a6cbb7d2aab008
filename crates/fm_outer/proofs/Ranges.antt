-- Ranges of bytes: what was read stands before the rest, a range of a range, and lists that are put
-- together alike.
use Rattle.std.proofs.Common.{◌≡◌, ℕ, ◌+◌, ◌-◌, ◌≤◌, List, ◌++◌, length, take, drop, refl, sym}
use Rattle.std.proofs.Common.{◌∙◌, ap, arith, take-append-drop}
use Rattle.std.proofs.lemmas.List.{take_at, drop_at, drop-drop, drop-take, take-take}
use Rattle.fm_outer.specs.Bytes.{range}

-- what was read at a place stands there, before what follows
pub split_range : (at n : ℕ) (bytes xs : List ℕ) → range at n bytes ≡ xs
    → drop at bytes ≡ xs ++ drop (at + n) bytes
split_range at n bytes xs is =
    sym (take-append-drop n (drop at bytes))
    ∙ ap (λ (l : List ℕ). l ++ drop n (drop at bytes)) is
    ∙ ap (λ (l : List ℕ). xs ++ l) (drop-drop n at bytes)

-- two lists of one length in front of others that are put together alike
pub same_parts : (a b x y : List ℕ) → length a ≡ length b → a ++ x ≡ b ++ y → (a ≡ b) × (x ≡ y)
same_parts a b x y long same = (
  sym (take_at a x (length a) refl) ∙ ap (take (length a)) same ∙ take_at b y (length a) (sym long),
  sym (drop_at a x (length a) refl) ∙ ap (drop (length a)) same ∙ drop_at b y (length a) (sym long),
)

-- behind the front of a range stands the rest of it
pub drop-range : (at n i : ℕ) (bytes : List ℕ) → i ≤ n
    → drop i (range at n bytes) ≡ range (at + i) (n - i) bytes
drop-range at n i bytes le =
    let split : n ≡ i + (n - i) = omega (arith, le) in
    ap (λ (j : ℕ). drop i (take j (drop at bytes))) split
    ∙ drop-take i (n - i) (drop at bytes)
    ∙ ap (take (n - i)) (drop-drop i at bytes)

-- a range of a range
pub range-range : (at n i k : ℕ) (bytes : List ℕ) → i + k ≤ n
    → range i k (range at n bytes) ≡ range (at + i) k bytes
range-range at n i k bytes le =
    ap (take k) (drop-range at n i bytes (omega (arith, le)))
    ∙ take-take k (n - i) (drop (at + i) bytes) (omega (arith, le))

-- a range of the front
pub range-take : (at n size : ℕ) (bytes : List ℕ) → at + n ≤ size
    → range at n (take size bytes) ≡ range at n bytes
range-take at n size bytes le =
    let same : 0 + at ≡ at = omega arith in
    range-range 0 size at n bytes le ∙ ap (λ (i : ℕ). range i n bytes) same
