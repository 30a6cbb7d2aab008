use Rattle.fm_outer.proofs.Images.{crash-image}
use Rattle.fm_outer.proofs.mem_disk.MemDisk.crash.Goals as goal

pub returns-in-Ok-clause-image : goal.returns-in-Ok-clause-image
returns-in-Ok-clause-image c =
    crash-image c.args.self c.in-Ok.disk c.args.how _ _ _ c.in-Ok.ensures.disk
