-- Tests that hold, and tests that fail.
use Rattle.std.proofs.Common.{◌≡◌, ℕ, Bool, true, false, ◌&&◌, ◌||◌, not, bytes_eq, IsTrue, List}
use Rattle.std.proofs.Common.{refl, sym, ◌∙◌}
use Rattle.std.proofs.lemmas.Bool.{false≢true}
use Rattle.std.proofs.lemmas.Slice.Eq.{bytes_eq-Decides}

-- the two sides of a test
pub and_parts : (a b : Bool) → IsTrue (a && b) → IsTrue a × IsTrue b
and_parts true b h = (refl, h)
and_parts false b h = absurd (false≢true h)

-- a test of two sides
pub and_true : (a b : Bool) → IsTrue a → IsTrue b → IsTrue (a && b)
and_true true b h k = k
and_true false b h k = absurd (false≢true h)

-- the two sides of a test that fails
pub or_parts : (a b : Bool) → (a || b) ≡ false → (a ≡ false) × (b ≡ false)
or_parts true b h = absurd (false≢true (sym h))
or_parts false b h = (refl, h)

-- neither side holds
pub or_false : (a b : Bool) → a ≡ false → b ≡ false → (a || b) ≡ false
or_false true b h k = absurd (false≢true (sym h))
or_false false b h k = k

-- what does not fail holds
pub not_false : (a : Bool) → not a ≡ false → IsTrue a
not_false true h = refl
not_false false h = absurd (false≢true (sym h))

-- what fails doesn't hold
pub not_true : (a : Bool) → a ≡ false → IsTrue (not a)
not_true true h = absurd (false≢true (sym h))
not_true false h = refl

false_where : (a : Bool) → (IsTrue a → ⊥) → a ≡ false
false_where true no_true = absurd (no_true refl)
false_where false no_true = refl

-- two texts differ in either order
pub differ_back : (xs ys : List ℕ) → bytes_eq xs ys ≡ false → bytes_eq ys xs ≡ false
differ_back xs ys h =
    false_where (bytes_eq ys xs)
    (λ e. false≢true (sym h ∙ (bytes_eq-Decides xs ys).1 (sym ((bytes_eq-Decides ys xs).0 e))))
