use Rattle.fm_line_laws.proofs.Cases.{says_entry, says_only}
use Rattle.fm_line_laws.proofs.laws.faults_by_cases.Goals as goal

pub returns-clause-says : goal.returns-clause-says
returns-clause-says c = says_entry

pub returns-clause-only : goal.returns-clause-only
returns-clause-only c = says_only
