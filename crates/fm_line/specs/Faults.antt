-- The faults of a line, by their numbers.
use Rattle.std.specs.Prelude.{ℕ, Option, Some, None}
use Rattle.fm_line.specs.declared.fault.LineFault.{LineFault}
use Rattle.fm_line.specs.declared.fault.LineFault.TheVariants.{Json, Shape, Class, Path, Time}
use Rattle.fm_line.specs.declared.fault.LineFault.TheVariants.{Value, TooLong, NoMemory}

-- the number by which a refusal names the fault; want of memory is no fault of the line and has
-- none
abbrev pub code_of : LineFault → Option ℕ
code_of Json = Some 1
code_of Shape = Some 2
code_of Class = Some 3
code_of Path = Some 4
code_of Time = Some 5
code_of Value = Some 6
code_of TooLong = Some 7
code_of NoMemory = None

-- the fault speaks of the line
abbrev pub IsOfLine : LineFault → Type 0
IsOfLine NoMemory = ⊥
IsOfLine _ = Unit {0}
