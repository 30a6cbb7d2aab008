-- A core of one module.
use Rattle.std.specs.Prelude.{◌≡◌, length}
use Rattle.fm_core.specs.Seen.{Seen, IsCore}

-- the core is in order, and has one module
pub record IsOne (c : Seen) : Type 0 where
  pub lawful : IsCore c
  pub one : length c.hands ≡ 1
