-- A gate stands before the place of the body.
use Rattle.fm_slots.proofs.Filled.{inside_shut}
use Rattle.fm_slots.proofs.filling.write_body.Goals as goal

pub write_at-requires : goal.write_at-requires
write_at-requires g c =
    inside_shut g.D.Disk g.met.D.Disk.seen_is_image c.args.disk.now c.requires.shut
