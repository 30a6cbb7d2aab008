-- The masks of numbers.
use Rattle.std.proofs.Common.{◌≡◌, ◌%◌, ◌*◌, ◌+◌, ◌<◌, ◌^◌, ◌++◌, ◌∷◌, ℕ, List, []}
use Rattle.std.proofs.Common.{length, take, get_or, sym, ap, ◌∙◌, arith, subst, max, inl, inr}
use Rattle.std.specs.Int.{bit_at, w64}
use Rattle.std.specs.Int.RustNames.{bit_or}
use Rattle.std.proofs.lemmas.Bool.{false≢true}
use Rattle.std.proofs.lemmas.List.{take_more}
use Rattle.std.proofs.lemmas.Nat.Bits.{bit_at_or, bit_at_set_same}
use Rattle.ev_incidence.proofs.Occurrences.{in_push}
use Rattle.dx_case.specs.Numbers.{IsMask}

pub mask_none : IsMask 0 []
mask_none = record { each = λ e i. absurd (false≢true i) }

max_one : (n : ℕ) → n < 2 → max 1 n ≡ 1
max_one n h = grind arith

-- a bit that is set stays
set_stays : (m x i : ℕ) → bit_at m i ≡ 1 → bit_at (bit_or m x) i ≡ 1
set_stays m x i h = bit_at_or m x i ∙ ap (λ n. max n (bit_at x i)) h ∙ max_one (bit_at x i)
    (omega arith)

more : (m x : ℕ) (xs : List ℕ) → IsMask m xs
    → IsMask (bit_or m (1 * 2 ^ (x % 64) % 2 ^ 64)) (xs ++ x ∷ [])
more m x xs h = record {
  each = λ e i. elim (in_push xs x e i) [
    | inl old ↦ set_stays m (1 * 2 ^ (x % 64) % 2 ^ 64) (e % 64) (h.each e old)
    | inr last ↦
        let P : ℕ → Type 0 = λ n. bit_at (bit_or m (1 * 2 ^ (x % 64) % 2 ^ 64)) (n % 64) ≡ 1 in
        subst P last (bit_at_set_same w64 m (x % 64) (omega arith))
  ];
}

pub mask_more : (m x d : ℕ) (xs : List ℕ) (i : ℕ) → i < length xs → get_or xs i d ≡ x
    → IsMask m (take i xs) → IsMask (bit_or m (1 * 2 ^ (x % 64) % 2 ^ 64)) (take (i + 1) xs)
mask_more m x d xs i l same h =
    let P : List ℕ → Type 0 = IsMask (bit_or m (1 * 2 ^ (x % 64) % 2 ^ 64)) in
    subst P (sym (take_more xs i d l ∙ ap (λ (y : ℕ). take i xs ++ y ∷ []) same))
    (more m x (take i xs) h)
