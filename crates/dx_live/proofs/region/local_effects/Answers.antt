use Rattle.dx_live.proofs.Locals.{rows_none, rows_push}
use Rattle.dx_live.proofs.region.local_effects.Goals as goal

pub loop-place-init : goal.loop-place-init
loop-place-init c = rw c.in_ok-rows.ensures
    (rows_none c.args.table.now.effects c.args.nodes.now c.args.places.now)

pub loop-place-preserved : goal.loop-place-preserved
loop-place-preserved c = rw (c.in_ok-push.ensures.ok, c.as_slice.ensures.value) (rows_push
    c.loop-place.place-index c.args.table.now.effects c.args.nodes.now c.args.places.now
    c.loop-place.rows c.local_row.new.row.items c.loop-place.invariant
    (rw c.effects.ensures.effects at c.in_ok-local_row.ensures))
