use Rattle.std.proofs.Common.{length}
use Rattle.dx_live.proofs.Locals.{rows_below}
use Rattle.dx_live.proofs.region.local_table.Goals as goal

pub new-requires-clause-causes : goal.new-requires-clause-causes
new-requires-clause-causes c =
    rows_below (length c.args.places.now) c.args.table.now.causes c.args.nodes.now c.args.places.now
    c.in_ok-causes.causes c.in_ok-causes.ensures

pub new-requires-clause-effects : goal.new-requires-clause-effects
new-requires-clause-effects c =
    rows_below (length c.args.places.now) c.args.table.now.effects c.args.nodes.now
    c.args.places.now c.in_ok-effects.effects c.in_ok-effects.ensures
