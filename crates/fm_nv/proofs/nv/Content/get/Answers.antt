-- Before the first place there is no pair.
use Rattle.std.proofs.Common.{refl, sym, ap}
use Rattle.fm_nv.specs.Data.{find}
use Rattle.fm_nv.proofs.Places.{from_zero}
use Rattle.fm_nv.proofs.nv.Content.get.Goals as goal

pub loop-at-init : goal.loop-at-init
loop-at-init c = sym (ap (find c.args.name.now) (from_zero c.args.self.now 0 refl))
