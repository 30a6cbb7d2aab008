use Rattle.std.proofs.Common.{◌∙◌, sym, ap, arith, List, ℕ, get_or}
use Rattle.ev_incidence.specs.Sets.{is_member}
use Rattle.ev_incidence.proofs.Occurrences.{in_at, transposed_in, row_in_range}
use Rattle.ev_incidence.proofs.ranks.settle.Goals as goal

pub level_place-requires-clause-place : goal.level_place-requires-clause-place
level_place-requires-clause-place c =
    let v = c.args.table.now in
    let us = c.uses-place-items.result.now in
    let j = get_or us c.loop-place.place-index 0 in
    let there = ap (λ (r : List ℕ). is_member r j) (sym c.uses-place-items.ensures.uses)
    ∙ in_at us c.loop-place.place-index (omega arith) in
    omega (
      arith,
      c.loop-place.invariant.levels_count,
      row_in_range v.causes j c.args.node
          (transposed_in v.causes v.uses c.args.node j c.uses-place-items.ensures.incidence.uses_is
          there),
    )
