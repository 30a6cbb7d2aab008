use Rattle.std.proofs.Common.{◌∙◌}
use Rattle.fm_name.proofs.Scanning.{any_dots}
use Rattle.fm_name.proofs.grammar.has_dot.Goals as goal

pub returns : goal.returns
returns c = c.contains.ensures.value ∙ any_dots c.args.bytes.now
