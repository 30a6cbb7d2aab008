use Rattle.std.proofs.Common.{◌≡◌, ap, [], length, arith}
use Rattle.ev_incidence.specs.Sets.{is_member}
use Rattle.ev_graph.specs.Cutting.{is_cut}
use Rattle.dx_sets.specs.Sets.{SetsValue}
use Rattle.dx_explain.proofs.Listed.{listed}
use Rattle.dx_explain.proofs.solver.explain.Goals as goal

pub members_of-requires : goal.members_of-requires
members_of-requires c =
    let v : c.room.inside.sets ≡ c.explain_in.new.room = c.room.view_is in
    omega (
      arith,
      ap (λ (s : SetsValue). length s.marks) v,
      c.explain_in.ensures.room.marks,
      c.explain_in.ensures.room.few,
    )

pub returns-clause-found : goal.returns-clause-found
returns-clause-found c =
    let v : c.room.inside.sets ≡ c.explain_in.new.room = c.room.view_is in
    listed c.args.graph.now (is_cut []) c.args.root (is_member c.args.seen.now)
    (is_member c.args.allowed.now) c.explain_in.new.room.marks c.in_ok-list.list.items
    (rw v at c.in_ok-list.ensures) c.if-not-explain_in.ensures.possible
