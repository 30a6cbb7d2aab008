use Rattle.std.proofs.Common.{ℕ, List, ap, ◌∙◌}
use Rattle.ev_incidence.specs.Sets.{is_member}
use Rattle.dx_live.proofs.Ordered.{once_ascends, once_members}
use Rattle.dx_live.proofs.region.ascending_of.Goals as goal

pub returns-clause-ascend : goal.returns-clause-ascend
returns-clause-ascend c =
    once_ascends c.in_ok-list.list.items c.sort_unstable.new.self.items c.dedup.new.self.items
    c.sort_unstable.ensures.permutation c.sort_unstable.ensures.sorted c.dedup.ensures.filtered

pub returns-clause-same : goal.returns-clause-same
returns-clause-same c = λ e.
    once_members c.in_ok-list.list.items c.sort_unstable.new.self.items c.dedup.new.self.items
    c.sort_unstable.ensures.permutation c.sort_unstable.ensures.sorted c.dedup.ensures.filtered e
    ∙ ap (λ (xs : List ℕ). is_member xs e) c.in_ok-list.ensures.items
