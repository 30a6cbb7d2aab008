use Rattle.std.proofs.Common.{sym, ap, ◌∙◌}
use Rattle.dx_rules.proofs.Alike.{same_guarding}
use Rattle.dx_rules.specs.Rulebooks.{guarding_if_any}
use Rattle.dx_rules.proofs.ruled.Ruled.copy_guards.Goals as goal

pub returns-in_ok-copy-in-Some : goal.returns-in_ok-copy-in-Some
returns-in_ok-copy-in-Some c =
    same_guarding c.in-Some.guards c.in_ok-copy-in-Some.copy c.in_ok-copy-in-Some.ensures
    ∙ ap guarding_if_any (sym c.in-Some.is)
