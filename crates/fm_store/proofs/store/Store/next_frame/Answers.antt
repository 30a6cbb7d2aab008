-- The number of the configuration now in force has 32 bits.
use Rattle.std.proofs.Common.{arith}
use Rattle.fm_store.proofs.store.Store.next_frame.Goals as goal

pub checkpoint_frame-requires-clause-conf_fits : goal.checkpoint_frame-requires-clause-conf_fits
checkpoint_frame-requires-clause-conf_fits g c =
    omega (
      arith,
      c.self.invariant.in_force_is,
      rw (← c.self.view_is) at c.requires.conf_fits,
    )
