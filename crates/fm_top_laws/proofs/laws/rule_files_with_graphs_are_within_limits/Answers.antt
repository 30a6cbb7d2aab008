use Rattle.fm_top_laws.proofs.WithinLimits.{none_past}
use Rattle.fm_top_laws.proofs.laws.rule_files_with_graphs_are_within_limits.Goals as goal

pub returns : goal.returns
returns c = none_past
