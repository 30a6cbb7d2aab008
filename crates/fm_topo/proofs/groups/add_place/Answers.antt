use Rattle.fm_topo.proofs.Grouping.{one_more, updated}
use Rattle.fm_topo.proofs.groups.add_place.Goals as goal
use Rattle.std.proofs.Common.{Some}

pub returns-in-Ok : goal.returns-in-Ok
returns-in-Ok c q =
    one_more c.args.text q c.args.map.now.entries c.args.at c.take_places-places.result
    c.push.new.self _ _
    (updated c.args.text q (Some c.push.new.self) _ _ (c.in-Ok.ensures.updates.0 q))
    c.in_ok-push.ensures.ok
    (c.take_places-places.ensures.others q) c.take_places-places.ensures.places
