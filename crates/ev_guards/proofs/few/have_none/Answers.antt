use Rattle.std.proofs.Common.{◌∙◌}
use Rattle.ev_guards.proofs.GuardsAlike.{none_links}
use Rattle.ev_guards.proofs.few.have_none.Goals as goal

pub returns : goal.returns
returns c = c.are_bare.ensures ∙ none_links c.args.nodes.now
