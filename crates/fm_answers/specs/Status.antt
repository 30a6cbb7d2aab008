-- The exit status of each way to end.
use Rattle.std.specs.Prelude.{ℕ}
use Rattle.fm_answers.specs.declared.status.ToolStatus.{ToolStatus}
use Rattle.fm_answers.specs.declared.status.ToolStatus.TheVariants.{Done, Usage, Rules, Topology}
use Rattle.fm_answers.specs.declared.status.ToolStatus.TheVariants.{Differs, Damaged, ReadFault}
use Rattle.fm_answers.specs.declared.status.ToolStatus.TheVariants.{WriteFault, DiskFault, NoMemory}
use Rattle.fm_answers.specs.declared.status.ToolStatus.TheVariants.{NotFound, Full, ActFault, Graph}
use Rattle.fm_answers.specs.declared.status.ToolStatus.TheVariants.{Exists}

-- the number that the program ends with
abbrev pub status_code : ToolStatus → ℕ
status_code Done = 0
status_code Usage = 1
status_code Rules = 2
status_code Topology = 3
status_code Differs = 4
status_code Damaged = 5
status_code ReadFault = 6
status_code WriteFault = 7
status_code DiskFault = 8
status_code NoMemory = 9
status_code NotFound = 10
status_code Full = 11
status_code ActFault = 12
status_code Graph = 13
status_code Exists = 14
