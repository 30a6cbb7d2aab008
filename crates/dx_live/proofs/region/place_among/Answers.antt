use Rattle.std.proofs.Common.{sym}
use Rattle.ev_incidence.proofs.Occurrences.{search_is}
use Rattle.dx_live.proofs.region.place_among.Goals as goal

pub returns-in-Err-clause-none : goal.returns-in-Err-clause-none
returns-in-Err-clause-none c = λ none.
    sym (rw c.in-Err.is at (search_is c.args.nodes.now c.args.node c.binary_search.result
    c.binary_search.ensures.position c.requires.up))
