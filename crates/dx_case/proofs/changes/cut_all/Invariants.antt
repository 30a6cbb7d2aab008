use Rattle.std.proofs.Common.{take, false}
use Rattle.dx_case.specs.Changes.{IsChanged}
use Rattle.dx_case.proofs.changes.cut_all.Given as goal

abbrev pub invariant-loop-link : goal.invariant-loop-link
invariant-loop-link g l =
    IsChanged l.graph (take l.link-index l.links) (λ e. false) l.initial.live l.live
