-- The status and the last line of each way to end before all is done.
use Rattle.std.specs.Prelude.{ℕ, List, [], ◌++◌, codes, decimal, Result, Ok, Err}
use Rattle.fm_esc.specs.declared.faults.CompileFault.{CompileFault}
use Rattle.fm_esc.specs.declared.faults.CompileFault.TheVariants as compiling
use Rattle.fm_esc.specs.declared.faults.GraphLimit.{GraphLimit}
use Rattle.fm_esc.specs.declared.faults.GraphLimit.TheVariants.{Nodes, Links}
use Rattle.fm_esc.specs.declared.faults.InputFault.{InputFault}
use Rattle.fm_esc.specs.declared.faults.InputFault.TheVariants as input
use Rattle.fm_journal.specs.declared.fault.FullKind.{FullKind}
use Rattle.fm_journal.specs.declared.fault.FullKind.TheVariants.{Records, Numbers, Bytes, Payload}
use Rattle.fm_journal.specs.declared.fault.FullKind.TheVariants.{Input}
use Rattle.fm_logs.specs.declared.disks.DiskName.{DiskName}
use Rattle.fm_logs.specs.declared.disks.DiskName.TheVariants.{Conf, ErrA, ErrB, SlotA, SlotB, Flt}
use Rattle.fm_logs.specs.declared.fault.StoreFault.{StoreFault}
use Rattle.fm_logs.specs.declared.fault.StoreFault.TheVariants as store
use Rattle.fm_refusals.specs.Refusals.{rules_text, topology_text}
use Rattle.fm_sources.specs.declared.faults.SourceFault.{SourceFault}
use Rattle.fm_sources.specs.declared.faults.SourceFault.TheVariants as sources
use Rattle.fm_answers.specs.declared.status.ToolStatus.{ToolStatus}
use Rattle.fm_answers.specs.declared.status.ToolStatus.TheVariants as status
use Rattle.fm_answers.specs.declared.stops.Stop.{Stop}
use Rattle.fm_answers.specs.declared.stops.Stop.TheVariants.{Usage, Rules, Topology, Damaged, Read}
use Rattle.fm_answers.specs.declared.stops.Stop.TheVariants.{Write, Disk, Memory, Full, Exists}
use Rattle.fm_answers.specs.declared.stops.Stop.TheVariants.{Graph, DamagedInput, Differs}
use Rattle.fm_answers.specs.declared.stops.Stop.TheVariants.{NotFaulty, Act}
use Rattle.fm_answers.specs.declared.stops.Stop.TheVariants.{NotFound}

-- the status that tells it
abbrev pub status_of : Stop → ToolStatus
status_of Usage = status.Usage
status_of (Rules file place kind) = status.Rules
status_of (Topology line kind) = status.Topology
status_of (Graph file limit) = status.Graph
status_of (DamagedInput place) = status.Damaged
status_of (Damaged disk place) = status.Damaged
status_of Read = status.ReadFault
status_of Write = status.WriteFault
status_of Disk = status.DiskFault
status_of Memory = status.NoMemory
status_of (Full kind) = status.Full
status_of Exists = status.Exists
status_of Differs = status.Differs
status_of NotFaulty = status.NotFound
status_of NotFound = status.NotFound
status_of (Act index) = status.ActFault

-- what the sources were refused for
abbrev pub of_sources : SourceFault → Stop
of_sources sources.Read = Read
of_sources (sources.Rules file place kind) = Rules file place kind
of_sources (sources.Topology line kind) = Topology line kind
of_sources sources.NoMemory = Memory

-- what rule files were not compiled for
abbrev pub of_compiling : CompileFault → Stop
of_compiling (compiling.Sources fault) = of_sources fault
of_compiling (compiling.Graph file limit) = Graph file limit
of_compiling compiling.NoMemory = Memory

-- what compiled files were not listed for
abbrev pub of_input : InputFault → Stop
of_input input.Read = Read
of_input input.Full = Full Input
of_input input.NoMemory = Memory

-- what a call of the store did not do
abbrev pub of_store : StoreFault → Stop
of_store store.Disk = Disk
of_store (store.Full kind) = Full kind
of_store (store.Closed disk faults) = Disk
of_store (store.Damaged disk place) = Damaged disk place
of_store store.Exists = Exists
of_store store.NoMemory = Memory

-- how a call of the store ended, in the words of a command
abbrev pub ran_store : {T : Type 0} → Result T StoreFault → Result T Stop
ran_store (Ok done) = Ok done
ran_store (Err fault) = Err (of_store fault)

-- the word for a limit
abbrev pub kind_text : FullKind → List ℕ
kind_text Records = codes "records"
kind_text Numbers = codes "numbers"
kind_text Bytes = codes "bytes"
kind_text Payload = codes "payload"
kind_text Input = codes "input"

-- the word for a limit of graphs
abbrev pub limit_text : GraphLimit → List ℕ
limit_text Nodes = codes "nodes"
limit_text Links = codes "links"

-- the name of a disk
abbrev pub disk_text : DiskName → List ℕ
disk_text Conf = codes "conf"
disk_text ErrA = codes "err_a"
disk_text ErrB = codes "err_b"
disk_text SlotA = codes "slot_a"
disk_text SlotB = codes "slot_b"
disk_text Flt = codes "flt"

-- the last line that is put, if there is one
abbrev pub last_text : Stop → List ℕ
last_text Usage = codes "usage\n"
last_text (Rules file place kind) = rules_text file place kind
last_text (Topology line kind) = topology_text line kind
last_text (Damaged disk place) =
    codes "damaged " ++ (disk_text disk ++ (codes " " ++ (decimal place ++ codes "\n")))
last_text (Graph file limit) =
    codes "graph " ++ (decimal file ++ (codes " " ++ (limit_text limit ++ codes "\n")))
last_text (DamagedInput place) = codes "damaged input " ++ (decimal place ++ codes "\n")
last_text Read = codes "read fault\n"
last_text Write = []
last_text Disk = codes "disk fault\n"
last_text Memory = []
last_text (Full kind) = codes "full " ++ (kind_text kind ++ codes "\n")
last_text Exists = codes "store exists\n"
last_text Differs = codes "configuration differs\n"
last_text NotFaulty = codes "not faulty\n"
last_text NotFound = codes "not found\n"
last_text (Act index) = codes "actuator fault " ++ (decimal index ++ codes "\n")
