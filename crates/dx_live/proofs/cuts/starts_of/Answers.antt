use Rattle.dx_live.proofs.Marking.{starts_push}
use Rattle.dx_live.proofs.cuts.starts_of.Goals as goal

pub loop-place-preserved : goal.loop-place-preserved
loop-place-preserved c =
    rw (c.in_ok-push.ensures.ok, c.effects.ensures.effects)
    (starts_push c.loop-place.place c.args.table.now.effects c.loop-place.starts.items
    c.loop-place.total c.loop-place.invariant)
