use Rattle.std.proofs.lemmas.Bool.{both_ways}
use Rattle.ev_incidence.specs.Sets.{is_member}
use Rattle.dx_live.proofs.live.number_of_root.Goals as goal

pub returns-in-None : goal.returns-in-None
returns-in-None c =
    absurd (both_ways (is_member c.args.nodes.now c.args.root)
    (c.place_among.ensures.none c.in-None.is) c.requires.there)
