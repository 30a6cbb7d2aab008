use Rattle.fm_topo.proofs.Grouping.{updated}
use Rattle.std.proofs.Common.{None}
use Rattle.fm_topo.proofs.groups.take_places.Goals as goal

pub returns-in-Some-clause-others : goal.returns-in-Some-clause-others
returns-in-Some-clause-others c q =
    updated c.args.text.now q None _ _ (c.remove.ensures.updates.0 q)
