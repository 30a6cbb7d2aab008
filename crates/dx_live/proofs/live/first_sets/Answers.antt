use Rattle.dx_live.specs.Cuts.{cut_at}
use Rattle.dx_live.proofs.Opening.{sized_new, whole_end}
use Rattle.dx_live.proofs.live.first_sets.Goals as goal

pub fill-requires-clause-sized : goal.fill-requires-clause-sized
fill-requires-clause-sized c =
    sized_new c.args.table.now c.nodes.result c.count.result c.in_ok-sets.sets c.in_ok-sets.ensures
    c.nodes.ensures.count c.count.ensures.count

pub returns-clause-every : goal.returns-clause-every
returns-clause-every c =
    whole_end c.args.table.now (cut_at c.args.table.now.effects c.args.cuts.now) c.args.here
    c.fill.new.sets c.begin.new.sets c.fill.ensures.all c.begin.ensures.settles
