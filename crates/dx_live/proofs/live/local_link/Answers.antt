use Rattle.dx_live.proofs.CutLinks.{no_place}
use Rattle.dx_live.proofs.live.local_link.Goals as goal

pub returns-in-None-clause-none : goal.returns-in-None-clause-none
returns-in-None-clause-none c = λ none.
    no_place c.args.region.now.nodes c.args.region.now.places c.args.link
    (rw c.places.ensures.places at (c.place_among.ensures.none c.in-None.is))
