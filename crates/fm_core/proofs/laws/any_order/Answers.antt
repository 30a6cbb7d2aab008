use Rattle.fm_core.proofs.Runs.{any_order as any_order_lem}
use Rattle.fm_core.proofs.laws.any_order.Goals as goal

pub returns : goal.returns
returns c = λ k ms h. any_order_lem k ms h
