use Rattle.std.proofs.Common.{arith, ap, get_or}
use Rattle.dx_live.specs.Cuts.{CutsValue}
use Rattle.dx_live.proofs.Marking.{first_at, found_member}
use Rattle.dx_live.proofs.cuts.Cuts.place_of.Goals as goal

pub returns-in-Some-clause-found : goal.returns-in-Some-clause-found
returns-in-Some-clause-found c =
    let f = c.in-Some.ensures.found in (
      found_member c.args.effect c.args.effects.now c.in-Some.at f.0 f.1,
      omega (
        arith,
        rw c.as_slice.ensures at c.number_at.ensures,
        ap (λ (z : CutsValue). get_or z.starts c.args.place 0) c.self.view_is,
        first_at c.args.effect c.args.effects.now c.in-Some.at c.requires.ascend f.0 f.1,
      ),
    )
