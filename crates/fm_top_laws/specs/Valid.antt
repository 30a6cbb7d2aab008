-- The runs that are valid: of words that are a command, whose looks find nothing that ends it,
-- while no count of faults rises and no limit is reached. And how such a run ends.
use Rattle.std.specs.Prelude.{◌≡◌, ◌⊎◌, ℕ, List, [], ◌∷◌, Option, Some, None}
use Rattle.std.specs.Io.KnownBytes.{IsAtEnd}
use Rattle.fm_answers.specs.StreamsAt.{SourceAt}
use Rattle.fm_answers.specs.declared.status.ToolStatus.{ToolStatus}
use Rattle.fm_answers.specs.declared.status.ToolStatus.TheVariants.{Done, NoMemory}
use Rattle.fm_answers.specs.declared.stops.Stop.{Stop}
use Rattle.fm_command.specs.declared.words.Command.{Command}
use Rattle.fm_command.specs.declared.words.Command.TheVariants.{Accept, Fmd, Replay, EscInput}
use Rattle.fm_journal.specs.declared.fault.FullKind.{FullKind}
use Rattle.fm_outer.specs.Failures.{Rose}
use Rattle.fm_top.specs.Order.{Finds, Look, World, looks, world_of}
use Rattle.fm_top.specs.Outside.{Outside, RoseAt, act_counts, disk_counts, given_of, source_counts}
use Rattle.fm_top_laws.specs.Limits.{MayReach}

-- none of the looks finds what ends the command
abbrev pub FindNothing : World → List Look → Type 0
FindNothing w [] = Unit {0}
FindNothing w (look ∷ more) = ((stop : Stop) → Finds w look stop → ⊥) × FindNothing w more

-- no count of faults rose: of a source, of the sink, of a disk, of an actuator
pub record NoneRose (before after : Outside) : Type 0 where
  pub sources : (at : ℕ) → RoseAt (source_counts before) (source_counts after) at → ⊥
  pub out : Rose before.out.failures after.out.failures → ⊥
  pub disks : (at : ℕ) → RoseAt (disk_counts before.disks) (disk_counts after.disks) at → ⊥
  pub acts : (at : ℕ) → RoseAt (act_counts before.acts) (act_counts after.acts) at → ⊥

-- A run of a command is valid. What is looked at is read as it is before the run, and no limit is
-- one that it may reach.
pub record IsValidOf (command : Command) (before after : Outside) : Type 0 where
  pub nothing : FindNothing (world_of before after) (looks command)
  pub quiet : NoneRose before after
  pub within : (kind : FullKind) → MayReach command before (given_of after) kind → ⊥

-- the words are a command, and its run is valid
abbrev pub IsValidRun : Option Command → Outside → Outside → Type 0
IsValidRun None before after = ⊥
IsValidRun (Some command) before after = IsValidOf command before after

-- which commands read the input, one line a command: once they are done, it is at its end
abbrev pub HasReadInput : Command → SourceAt → Type 0
HasReadInput Accept input = IsAtEnd input.left
HasReadInput Fmd input = IsAtEnd input.left
HasReadInput Replay input = IsAtEnd input.left
HasReadInput EscInput input = IsAtEnd input.left
HasReadInput _ input = Unit {0}

-- all is done, and the input read to its end where the command reads it; or memory was wanted
abbrev pub IsDoneOrWants : Option Command → SourceAt → ToolStatus → Type 0
IsDoneOrWants None input status = ⊥
IsDoneOrWants (Some command) input status =
    ((status ≡ Done) × HasReadInput command input) ⊎ (status ≡ NoMemory)
