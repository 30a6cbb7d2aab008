use Rattle.std.proofs.Common.{rules}
use Rattle.std.proofs.lemmas.List.Sorted.{IsPartitionPoint-from_clause}
use Rattle.dx_state.specs.LawfulState.{solved_numbers}
use Rattle.dx_state.proofs.Lists.{strict_of}
use Rattle.dx_said.proofs.Placed.{is_before, parted}
use Rattle.dx_said.proofs.places.place_of.Goals as goal

pub returns : goal.returns
returns c =
    let point = IsPartitionPoint-from_clause (is_before c.args.number) c.args.words.now
    c.partition_point.result c.partition_point.ensures.partitioned
    (parted c.args.number c.args.words.now
    (strict_of (solved_numbers c.args.words.now) c.requires)) (λ a r f called. search rules) in
    record { within = c.partition_point.ensures.bound; before = point.0; after = point.1 }
