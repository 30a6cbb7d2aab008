use Rattle.std.proofs.Common.{◌∙◌}
use Rattle.ev_incidence.proofs.Occurrences.{search_is}
use Rattle.dx_lawful.proofs.numbers.contains.Goals as goal

pub returns : goal.returns
returns c =
    c.is_ok.ensures.value
    ∙ search_is c.args.numbers.now c.args.number c.binary_search.result
    c.binary_search.ensures.position c.requires
