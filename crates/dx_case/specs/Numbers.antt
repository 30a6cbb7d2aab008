-- Numbers with a mask.
use Rattle.std.specs.Prelude.{◌≡◌, ◌%◌, ℕ, List, true}
use Rattle.std.specs.Int.{bit_at}
use Rattle.ev_incidence.specs.Sets.{is_member}

pub record NumbersValue : Type 0 where
  pub items : List ℕ

-- the bit of the remainder of each number by 64 is set
pub record IsMask (mask : ℕ) (numbers : List ℕ) : Type 0 where
  pub each : (e : ℕ) → is_member numbers e ≡ true → bit_at mask (e % 64) ≡ 1
