-- Words about repairs may take memory to be read.
use Rattle.std.proofs.Common.{ℕ, Option, Some, None}
use Rattle.fm_command.specs.declared.request.Repair.{Repair}
use Rattle.fm_command.specs.Words.{TakesMemory, repair_at}

-- what an operator says of repairs may take memory to be read, and so may no command
pub takes : (now : ℕ) (said : Option Repair) → TakesMemory (repair_at now said)
takes now None = tt
takes now (Some repair) = tt
