-- Only guarded links break.
use Rattle.std.proofs.Common.{ap, ◌∙◌}
use Rattle.std.specs.List.{list_all}
use Rattle.ev_guards.specs.Guards.{is_guarded}
use Rattle.ev_guards.proofs.GuardedLinks.{only_guarded}
use Rattle.ev_guards.proofs.guards.Guards.broken_by.Goals as goal

pub returns-clause-guarded : goal.returns-clause-guarded
returns-clause-guarded c =
    ap (list_all (λ i. is_guarded c.args.self.now i c.args.node)) c.in_ok-found.ensures
    ∙ only_guarded c.args.self.now c.args.node c.args.props.now
