use Rattle.std.proofs.Common.{[], ◌∷◌, arith}
use Rattle.std.proofs.lemmas.List.Sums.{sum_by-cons}
use Rattle.ev_join.specs.Candidates.{links_at}
use Rattle.ev_join.proofs.Collecting.{whole_only}
use Rattle.ev_join.proofs.joined.join_whole.Goals as goal

pub returns-in_default-clause-many : goal.returns-in_default-clause-many
returns-in_default-clause-many c =
    let tables = c.args.tables.now in
    let sum = sum_by-cons (links_at tables) [] [] in
    let more = c.in_default.ensures in
    λ e. ([] ∷ [], ((whole_only tables c.requires).candidates, omega (arith, sum, more)))
