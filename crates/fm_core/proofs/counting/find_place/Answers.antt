use Rattle.std.proofs.Common.{rules}
use Rattle.std.proofs.lemmas.List.Sorted.{IsPartitionPoint-from_clause}
use Rattle.fm_core.proofs.Tallies.{before_class, partitioned, place_is}
use Rattle.fm_core.proofs.counting.find_place.Goals as goal

pub returns : goal.returns
returns c =
    let point = IsPartitionPoint-from_clause (before_class c.args.class.now) c.args.counts.now
    c.partition_point.result c.partition_point.ensures.partitioned
    (partitioned c.args.class.now c.args.counts.now c.requires) (λ a r f called. search rules) in
    place_is c.args.class.now c.args.counts.now c.partition_point.result
    c.partition_point.ensures.bound point.0 point.1
