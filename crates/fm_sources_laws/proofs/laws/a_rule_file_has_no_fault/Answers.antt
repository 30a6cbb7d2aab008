-- A rule file passes each look.
use Rattle.fm_sources_laws.proofs.NoFault.{no_fault}
use Rattle.fm_sources_laws.proofs.laws.a_rule_file_has_no_fault.Goals as goal

pub returns : goal.returns
returns c = no_fault
