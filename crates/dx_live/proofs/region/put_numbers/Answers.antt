use Rattle.std.proofs.Common.{arith}
use Rattle.dx_live.specs.Region.{AreNumbersBelow}
use Rattle.dx_live.proofs.Wholes.{numbers_ascend}
use Rattle.dx_live.proofs.region.put_numbers.Goals as goal

pub returns-clause-numbers : goal.returns-clause-numbers
returns-clause-numbers c = record {
  count = c.loop-place.invariant.size;
  each = λ i l. c.loop-place.invariant.each i (omega (arith, l));
}

pub returns-clause-ascend : goal.returns-clause-ascend
returns-clause-ascend c =
    let below : AreNumbersBelow c.args.count c.loop-place.numbers = record {
      count = c.loop-place.invariant.size;
      each = λ i l. c.loop-place.invariant.each i (omega (arith, l));
    } in
    numbers_ascend c.args.count c.loop-place.numbers below
