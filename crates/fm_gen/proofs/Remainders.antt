-- A draw in words of 64 bits.
use Rattle.std.proofs.Common.{◌≡◌, ℕ, ◌+◌, ◌*◌, ◌%◌, ◌^◌, ap, ◌∙◌}
use native.Mathlib.Nat.{mod-add-mod}
use Rattle.fm_gen.specs.Generated.{drawn}

-- a product and a sum, each of 64 bits, are one remainder
pub drawn_is : (x product sum : ℕ) → product ≡ (x * 6364136223846793005) % 2 ^ 64
    → sum ≡ (product + 1442695040888963407) % 2 ^ 64 → sum ≡ drawn x
unfolding drawn
drawn_is x product sum e f =
    f ∙ (ap (λ (n : ℕ). (n + 1442695040888963407) % 2 ^ 64) e
    ∙ mod-add-mod (x * 6364136223846793005) (2 ^ 64) 1442695040888963407)
