-- There are as many pairs as cells.
use Rattle.std.proofs.Common.{arith, ap}
use Rattle.fm_nv.specs.Data.{count}
use Rattle.fm_nv.proofs.Cells.{count_in}
use Rattle.fm_nv.proofs.nv.Content.len.Goals as goal

pub returns-clause-count : goal.returns-clause-count
returns-clause-count c =
    let e = count_in c.self.inside.names.items 0 c.self.inside.cells.items in
    omega (arith, e, ap count c.self.view_is, c.self.inside.cells.ok.0)
