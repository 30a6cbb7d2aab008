-- Instances as what they are of each node, and chains from cause to effect.
use Rattle.std.specs.Prelude.{◌≡◌, ◌≤◌, ℕ, zero, suc, true, List}
use Rattle.ev_incidence.specs.Sets.{is_member}

-- What the numbered instances say: their causes and effects, and the two numbers of each. An
-- instance that is not there has no cause and no effect.
pub record Wiring : Type 0 where
  pub causes : ℕ → List ℕ
  pub effects : ℕ → List ℕ
  pub n : ℕ → ℕ
  pub k : ℕ → ℕ

-- some instance has x as a cause and y as an effect
pub record IsCauseOf (w : Wiring) (x y : ℕ) : Type 0 where
  pub place : ℕ
  pub cause : is_member (w.causes place) x ≡ true
  pub effect : is_member (w.effects place) y ≡ true

-- a chain of so many such steps
abbrev pub Chain : Wiring → ℕ → ℕ → ℕ → Type 0
Chain w zero x y = x ≡ y
Chain w (suc n) x y = (z : ℕ) × Chain w n x z × IsCauseOf w z y

-- a chain of one or more steps
pub record HasChain (w : Wiring) (x y : ℕ) : Type 0 where
  pub steps : ℕ
  pub chain : Chain w (suc steps) x y

-- the longest chains that end in x have r steps
pub record IsRank (w : Wiring) (x r : ℕ) : Type 0 where
  pub from : ℕ
  pub chain : Chain w r from x
  pub longest : (n y : ℕ) → Chain w n y x → n ≤ r

-- some node reaches itself
pub record ReachesItself (w : Wiring) : Type 0 where
  pub node : ℕ
  pub chain : HasChain w node node
