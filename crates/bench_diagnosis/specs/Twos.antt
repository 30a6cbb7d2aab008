-- A core of two modules.
use Rattle.std.specs.Prelude.{◌≡◌, ℕ, length}
use Rattle.fm_core.specs.Hands.{HandOf}
use Rattle.fm_core.specs.Seen.{Seen, IsCore}

-- the core is in order, and has two modules
pub record IsTwo (c : Seen) : Type 0 where
  pub lawful : IsCore c
  pub two : length c.hands ≡ 2

-- a hand of a module that has taken nothing
abbrev pub hand_of : {M : Type 0} → ℕ → M → HandOf M
hand_of number own = record { number = number; cursor = 0; object = own }
