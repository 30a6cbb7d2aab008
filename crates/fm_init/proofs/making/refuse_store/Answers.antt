-- A synced disk has no image but what it tells, and that is no store.
use Rattle.fm_init.proofs.Stores.{found_none}
use Rattle.fm_init.proofs.making.refuse_store.Goals as goal

pub returns-in-Ok-false-clause-none : goal.returns-in-Ok-false-clause-none
returns-in-Ok-false-clause-none g c = λ image left.
    found_none g.D.Disk c.args.disk c.sync.new.self c.has_store-disk.result.1 _ c.in-Ok-false.is
    c.in-Ok-false.field-0-test c.has_store-disk.ensures.none c.in-Ok.ensures.same image
    (c.in-Ok.ensures.durable image (c.has_store-disk.ensures.still.no_more image left))

pub returns-in-Ok-false-clause-none_told : goal.returns-in-Ok-false-clause-none_told
returns-in-Ok-false-clause-none_told g c = λ bytes told.
    found_none g.D.Disk c.args.disk c.sync.new.self c.has_store-disk.result.1 _ c.in-Ok-false.is
    c.in-Ok-false.field-0-test c.has_store-disk.ensures.none c.in-Ok.ensures.same bytes told
