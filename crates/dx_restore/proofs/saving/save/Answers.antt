use Rattle.dx_restore.proofs.Short.{parts_short}
use Rattle.dx_restore.proofs.saving.save.Goals as goal

pub put_parts-requires : goal.put_parts-requires
put_parts-requires c = parts_short c.args.parts.now c.requires
