use Rattle.fm_top.proofs.Makings.{made_new, made_none}
use Rattle.fm_top.proofs.init.make_on.Goals as goal

pub returns-in-Ok-clause-made : goal.returns-in-Ok-clause-made
returns-in-Ok-clause-made g c =
    made_new g.D.Disk c.args.disks c.in-Ok.disks c.args.conf.now c.in-Ok.ensures.does
    c.in-Ok.ensures.quiet

pub returns-in-Err-clause-made : goal.returns-in-Err-clause-made
returns-in-Err-clause-made g c =
    made_none g.D.Disk g.met.D.Disk.counts_now g.met.D.Disk.seen_is_image c.args.disks
    c.in-Err.refused.disks c.args.conf.now c.in-Err.refused.fault c.in-Err.ensures.does
