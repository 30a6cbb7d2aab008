use Rattle.std.proofs.Common.{ltb, rules, arith}
use Rattle.std.proofs.lemmas.Fn.{always_returns_same}
use Rattle.dx_case.proofs.Inserting.{parted_numbers}
use Rattle.dx_case.proofs.lists.place_of_number.Goals as goal

pub returns : goal.returns
returns c =
    let xs = c.args.list.now in
    let x = c.args.number in
    let p = c.partition_point.ensures.partitioned (λ y. ltb y x)
    (always_returns_same _ _ _ (λ a r q k. search rules)) (parted_numbers xs x c.requires) in
    record {
      inside = c.partition_point.ensures.bound;
      low = λ k d l. p.0 k d (omega arith) l;
      high = λ k d l m. p.1 k d l m;
    }
