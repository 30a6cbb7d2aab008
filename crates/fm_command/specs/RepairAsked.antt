-- What an operator says of repairs, and when.
use Rattle.std.specs.Prelude.{ℕ}
use Rattle.fm_command.specs.declared.request.Repair.{Repair}

-- what an operator says of repairs, and when
pub record RepairAsked : Type 0 where
  pub moment : ℕ
  pub repair : Repair
