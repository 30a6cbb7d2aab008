-- What instances ask of the members of a set of nodes.
use Rattle.std.specs.Prelude.{◌≡◌, ◌&&◌, ◌||◌, not, ℕ, Bool, true, nat_le}
use Rattle.std.specs.List.{count_by}
use Rattle.ev_incidence.specs.Sets.{NodeSet, is_member}
use Rattle.ev_incidence.specs.Wiring.{Wiring}

-- the instance j has e as an effect, and K of its causes are in X
abbrev pub is_enough : Wiring → NodeSet → ℕ → ℕ → Bool
is_enough w X e j = is_member (w.effects j) e && nat_le (w.k j) (count_by X (w.causes j))

-- where e is a cause of the instance j, N of its effects are in X, whether or not K causes are
abbrev pub is_met : Wiring → NodeSet → ℕ → ℕ → Bool
is_met w X e j = not (is_member (w.causes j) e) || nat_le (w.n j) (count_by X (w.effects j))

-- some instance has e as an effect with K of its causes in X
pub record IsProduced (w : Wiring) (X : NodeSet) (e : ℕ) : Type 0 where
  pub place : ℕ
  pub enough : is_enough w X e place ≡ true

-- each instance of which e is a cause has N of its effects in X
pub record IsShown (w : Wiring) (X : NodeSet) (e : ℕ) : Type 0 where
  pub each : (j : ℕ) → is_met w X e j ≡ true
