-- The order of refusals of each command: what it looks at before it works, what ends it there, and
-- what stands where it goes on.
use Rattle.std.specs.Prelude.{◌≡◌, ◌⊎◌, ℕ, List, [], ◌∷◌, Option, IfSome, Result}
use Rattle.std.specs.Prelude.{MatchResult, Some, None, Ok}
use Rattle.ev_file.specs.declared.made.Made.{Made}
use Rattle.fm_answers.specs.declared.stops.Stop.{Stop}
use Rattle.fm_answers.specs.declared.stops.Stop.TheVariants.{Rules, Topology, Damaged, Read, Write}
use Rattle.fm_answers.specs.declared.stops.Stop.TheVariants.{Disk, Memory, Full, Exists}
use Rattle.fm_answers.specs.declared.stops.Stop.TheVariants.{Graph, DamagedInput, Differs}
use Rattle.fm_answers.specs.declared.stops.Stop.TheVariants.{NotFaulty, Act}
use Rattle.fm_answers.specs.declared.stops.Stop.TheVariants.{NotFound}
use Rattle.fm_answers.specs.StreamsAt.{SourceAt}
use Rattle.fm_command.specs.declared.words.Command.{Command}
use Rattle.fm_command.specs.declared.words.Command.TheVariants.{Accept, Fmd, Replay, Init, Esc}
use Rattle.fm_command.specs.declared.words.Command.TheVariants.{EscInput, Admin, Repair, Explain}
use Rattle.fm_command.specs.declared.words.Command.TheVariants.{Generate, GeneratedLines}
use Rattle.fm_command.specs.RepairAsked.{RepairAsked}
use Rattle.fm_esc.specs.Compiling.{AreGraphs, IsFirstPast}
use Rattle.fm_esc.specs.InputListing.{InputCause, IsListed}
use Rattle.fm_esc.specs.declared.faults.GraphLimit.{GraphLimit}
use Rattle.fm_esc.specs.declared.faults.InputFault.TheVariants as inputs
use Rattle.fm_journal.specs.Crash.{IsEmptyOrNone}
use Rattle.fm_logs.specs.Contents.{Contents, content_named}
use Rattle.fm_logs.specs.declared.disks.DiskName.{DiskName}
use Rattle.fm_logs.specs.declared.disks.DiskName.TheVariants.{Conf}
use Rattle.fm_sources.specs.Sources.{Given, FilesGave, FilesRefused, GaveTopology, TopologyRefused}
use Rattle.fm_sources.specs.Sources.{ReadsSources}
use Rattle.fm_sources.specs.declared.faults.RulesKind.{RulesKind}
use Rattle.fm_sources.specs.declared.faults.SourceFault.TheVariants as faults
use Rattle.fm_sources.specs.declared.files.RuleFile.{RuleFile}
use Rattle.fm_sources.specs.declared.sources.Sources.{Sources}
use Rattle.fm_init.specs.Making.{HasStore}
use Rattle.fm_journal.specs.declared.fault.FullKind.TheVariants.{Numbers}
use Rattle.fm_topo.specs.Topology.{Topology as PartSet}
use Rattle.fm_topo.specs.declared.faults.TopoKind.{TopoKind}
use Rattle.fm_top.specs.ExplainedRow.{HasNoRow}
use Rattle.fm_top.specs.GenerateStart.{BeginsEarly, BeginsLate}
use Rattle.fm_top.specs.Kept.{BookAt, FirstDamage, KeepsAsRead, KeepsOther}
use Rattle.fm_top.specs.Outside.{Outside, disk_by_name, given_of, standing}
use Rattle.fm_top.specs.RepairEntry.{MarksNothing}

-- what the looks depend on: what the input and the sources have, and have left behind the looks;
-- and the bytes that each disk reads as, where it tells them
pub record World : Type 0 where
  pub input : SourceAt
  pub input_now : SourceAt
  pub sources : Given SourceAt
  pub sources_now : Given SourceAt
  pub disks : DiskName → Option (List ℕ)

abbrev pub world_of : Outside → Outside → World
world_of before after = record {
  input = before.input;
  input_now = after.input;
  sources = given_of before;
  sources_now = given_of after;
  disks = λ name. (disk_by_name name before.disks).seen;
}

-- the disks read as these contents
abbrev pub AreContents : World → Contents → Type 0
AreContents w told = (name : DiskName) → w.disks name ≡ Some (content_named name told)

-- a look: at the rule files, at the topology, at what the files come to over it, at the compiled
-- files of the input, whether there is a store, at the whole store, whether what it keeps is what
-- was read, whether what an operator says marks a suspect, whether a case has a UUID, and whether
-- entries can be generated from the greatest moment on
pub data Look : Type 0 where
  at_rules : Look
  at_topology : Look
  at_graphs : Look
  at_files : Look
  at_no_store : Look
  at_store : Look
  at_same : Look
  at_marked : RepairAsked → Look
  at_row : List ℕ → Look
  at_early : Look

-- THE ORDER OF REFUSALS, one line a command
abbrev pub looks : Command → List Look
looks Accept = at_store ∷ []
looks Fmd = at_rules ∷ at_topology ∷ at_graphs ∷ at_store ∷ at_same ∷ []
looks Replay = []
looks (Init namespace) = at_rules ∷ at_topology ∷ at_graphs ∷ at_no_store ∷ []
looks (Esc form) = at_rules ∷ at_topology ∷ at_graphs ∷ []
looks EscInput = at_files ∷ []
looks (Admin asked) = at_store ∷ []
looks (Repair asked) = at_store ∷ at_marked asked ∷ []
looks (Explain uuid) = at_store ∷ at_row uuid ∷ []
looks (Generate number) = at_store ∷ at_early ∷ []
looks (GeneratedLines number) = at_store ∷ at_early ∷ []

-- how a look ends the command
abbrev pub Finds : World → Look → Stop → Type 0
Finds w at_rules stop =
    (file : ℕ) × (place : ℕ) × (kind : RulesKind) × (stop ≡ Rules file place kind)
    × FilesRefused standing w.sources.rules w.sources_now.rules (faults.Rules file place kind)
Finds w at_topology stop =
    (line : ℕ) × (kind : TopoKind) × (stop ≡ Topology line kind)
    × TopologyRefused standing w.sources.topo w.sources_now.topo (faults.Topology line kind)
Finds w at_graphs stop =
    (file : ℕ) × (limit : GraphLimit) × (stop ≡ Graph file limit)
    × ((got : Sources) × ReadsSources standing w.sources w.sources_now (Ok got)
    × IsFirstPast got.topo got.files.items file limit)
Finds w at_files stop =
    (place : ℕ) × (stop ≡ DamagedInput place)
    × ((text : List ℕ) × IsListed standing w.input w.input_now text (Some place))
Finds w at_no_store stop = (stop ≡ Exists) × IfSome (w.disks Conf) HasStore
Finds w at_store stop =
    (disk : DiskName) × (place : ℕ) × (stop ≡ Damaged disk place)
    × ((told : Contents) → AreContents w told → FirstDamage told disk place)
Finds w at_same stop =
    (stop ≡ Differs) × (got : Sources) × ReadsSources standing w.sources w.sources_now (Ok got)
    × ((told : Contents) → AreContents w told → KeepsOther told got)
Finds w (at_marked asked) stop =
    (stop ≡ NotFaulty) × ((told : Contents) → AreContents w told → MarksNothing asked told)
Finds w (at_row uuid) stop =
    (stop ≡ NotFound) × ((told : Contents) → AreContents w told → HasNoRow uuid told)
Finds w at_early stop =
    (stop ≡ Full Numbers) × ((told : Contents) → AreContents w told → BeginsLate told)

-- What stands where the command goes on. Where the input has more bytes than are taken, it is not
-- looked at as files. Whether something is marked, or a case has a UUID, is looked at in the
-- drained book, and a limit may be reached on the way there: what stands then is said by what the
-- command did.
abbrev pub LookPasses : World → Look → Type 0
LookPasses w at_rules =
    (files : List RuleFile) × FilesGave standing w.sources.rules w.sources_now.rules files
LookPasses w at_topology = (text : List ℕ) × (parts : PartSet)
    × GaveTopology standing w.sources.topo w.sources_now.topo text parts
LookPasses w at_graphs =
    (got : Sources) × ReadsSources standing w.sources w.sources_now (Ok got)
    × ((mades : List Made) × AreGraphs got.topo got.files.items mades)
LookPasses w at_files =
    ((text : List ℕ) × IsListed standing w.input w.input_now text None)
    ⊎ InputCause standing w.input w.input_now inputs.Full
LookPasses w at_no_store = IfSome (w.disks Conf) IsEmptyOrNone
LookPasses w at_store = (told : Contents) → AreContents w told → BookAt told
LookPasses w at_same =
    (got : Sources) × ReadsSources standing w.sources w.sources_now (Ok got)
    × ((told : Contents) → AreContents w told → KeepsAsRead told got)
LookPasses w (at_marked asked) = Unit {0}
LookPasses w (at_row uuid) = Unit {0}
LookPasses w at_early = (told : Contents) → AreContents w told → BeginsEarly told

-- the first look that ends the command ends it so
abbrev pub FirstFinds : World → List Look → Stop → Type 0
FirstFinds w [] stop = ⊥
FirstFinds w (look ∷ more) stop = Finds w look stop ⊎ (LookPasses w look × FirstFinds w more stop)

abbrev pub AllPass : World → List Look → Type 0
AllPass w [] = Unit {0}
AllPass w (look ∷ more) = LookPasses w look × AllPass w more

-- a fault of the outside, or want of memory, which may come anywhere
abbrev pub IsOutsideFault : Stop → Type 0
IsOutsideFault Read = Unit {0}
IsOutsideFault Write = Unit {0}
IsOutsideFault Disk = Unit {0}
IsOutsideFault (Act index) = Unit {0}
IsOutsideFault Memory = Unit {0}
IsOutsideFault _ = ⊥

abbrev pub IsLimit : Stop → Type 0
IsLimit (Full kind) = Unit {0}
IsLimit _ = ⊥

-- A command with these looks ran so: all of them pass; or a fault; or the first look that ends it;
-- or a limit.
abbrev pub Goes : World → List Look → Result (Unit {0}) Stop → Type 0
Goes w order ran =
    MatchResult ran (λ _. AllPass w order)
    (λ stop. IsOutsideFault stop ⊎ (FirstFinds w order stop ⊎ (AllPass w order × IsLimit stop)))
