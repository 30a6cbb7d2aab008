use Rattle.std.proofs.Common.{◌++◌, ap, ◌∙◌}
use Rattle.dx_state.specs.StateBytes.{moments_bytes}
use Rattle.dx_restore.proofs.Short.{counted_mapped}
use Rattle.dx_restore.proofs.saving.put_engines.Goals as goal

pub returns : goal.returns
returns c =
    c.in_ok-put_counted_engines.ensures
    ∙ ap (λ bytes. c.args.out.now.items ++ bytes) (counted_mapped moments_bytes c.args.engines.now)
