use Rattle.std.proofs.Common.{arith}
use Rattle.ev_incidence.proofs.Pieces.{length_pieces}
use Rattle.ev_incidence.proofs.rows.Rows.len.Goals as goal

pub returns : goal.returns
returns c =
    let b = c.self.inside.bounds in
    rw (← c.self.view_is) (record {
      count = omega (
        arith,
        length_pieces c.self.inside.items.items b.items c.self.invariant.some,
        b.ok.0,
        c.len.ensures,
      );
      few = omega (arith, c.self.invariant.few, c.self.invariant.some, b.ok.0, c.len.ensures);
    })
