-- Why bytes are not read, as a reason why a state is not loaded.
use Rattle.fm_bytes.specs.declared.fault.ReadFault.{ReadFault}
use Rattle.fm_bytes.specs.declared.fault.ReadFault.TheVariants.{NoSpelling, NoMemory}
use Rattle.fm_core.specs.declared.module.LoadFault.{LoadFault}
use Rattle.fm_core.specs.declared.module.LoadFault.TheVariants.{Bad, NoMemory as OutOfMemory}

abbrev pub load_fault : ReadFault → LoadFault
load_fault NoSpelling = Bad
load_fault NoMemory = OutOfMemory
