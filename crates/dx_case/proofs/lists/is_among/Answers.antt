use Rattle.std.proofs.Common.{◌∙◌}
use Rattle.ev_incidence.proofs.Occurrences.{search_is}
use Rattle.dx_case.proofs.lists.is_among.Goals as goal

pub returns : goal.returns
returns c = λ up.
    c.is_ok.ensures.value
    ∙ search_is c.args.numbers.now c.args.number c.binary_search.result
    c.binary_search.ensures.position up
