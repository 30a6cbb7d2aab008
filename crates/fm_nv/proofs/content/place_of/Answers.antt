-- A name begins where the one before it ends.
use Rattle.std.proofs.Common.{arith, ap, sym, ◌∙◌}
use Rattle.fm_nv.specs.declared.nv.Cell.{Cell}
use Rattle.fm_nv.proofs.Cells.{begins_found}
use Rattle.fm_nv.proofs.content.place_of.Goals as goal

pub returns : goal.returns
returns c =
    let e = c.index-cells-at.is in
    sym (ap (λ (y : Cell). y.end) e)
    ∙ begins_found c.args.cells.now c.args.at c.index-cells-at.result (omega arith) c.requires e
