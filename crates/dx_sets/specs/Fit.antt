-- Sets whose members are caused and shown, and the greatest of them.
use Rattle.std.specs.Prelude.{◌≡◌, ℕ, true}
use Rattle.ev_incidence.specs.Sets.{NodeSet, IsSubset}
use Rattle.ev_incidence.specs.Wiring.{Wiring}
use Rattle.ev_graph.specs.Rules.{IsProduced, IsShown}

-- each member other than the root is caused, and each is shown
pub record IsFit (w : Wiring) (root : ℕ) (X : NodeSet) : Type 0 where
  pub caused : (e : ℕ) → X e ≡ true → (e ≡ root → ⊥) → IsProduced w X e
  pub shown : (e : ℕ) → X e ≡ true → IsShown w X e

-- the greatest such set within what is allowed
pub record IsGreatestFit (w : Wiring) (root : ℕ) (allowed X : NodeSet) : Type 0 where
  pub fit : IsFit w root X
  pub within : IsSubset X allowed
  pub every : (Y : NodeSet) → IsFit w root Y → IsSubset Y allowed → IsSubset Y X
