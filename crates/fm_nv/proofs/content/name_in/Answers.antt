-- A name stands between its beginning and the next.
use Rattle.std.proofs.Common.{arith, ◌∙◌}
use Rattle.fm_nv.specs.View.{bytes_between}
use Rattle.fm_nv.proofs.Cells.{name_found, ends_found}
use Rattle.fm_nv.proofs.content.name_in.Goals as goal

pub piece-requires : goal.piece-requires
piece-requires c =
    let ends = ends_found _ c.args.cells.now c.args.at c.requires.ends c.requires.at in
    record {
      order = omega (arith, ends.0, c.place_of-begin.ensures, c.place_of-end.ensures);
      within = omega (arith, ends.1, c.place_of-end.ensures);
    }

pub returns : goal.returns
returns c =
    c.piece.ensures ∙ (λ i. bytes_between (c.place_of-begin.ensures i) (c.place_of-end.ensures i)
    c.args.names.now) ∙ name_found c.args.names.now c.args.cells.now c.args.at c.requires.at
