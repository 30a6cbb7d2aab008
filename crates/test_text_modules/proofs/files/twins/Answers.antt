-- The two modules are of equal configurations.
use Rattle.std.proofs.Common.{ap, refl, sym}
use Rattle.dx_rules.specs.Rulebooks.{ruled_of}
use Rattle.dx_state.specs.Configured.{Single}
use Rattle.test_text_modules.specs.Alike.{rules_with}
use Rattle.test_text_modules.proofs.Alike.{twins_are}
use Rattle.test_text_modules.proofs.files.twins.Goals as goal

pub returns : goal.returns
returns c =
    twins_are c.args.own c.in_ok-first.first c.in_ok-second.second
    (rules_with c.args.own (Single c.args.number (ruled_of c.in_ok-ruled.ruled)))
    (rules_with c.args.own (Single c.args.number (ruled_of c.in_ok-copied.copied))) refl
    c.in_ok-first.ensures.rules c.in_ok-first.ensures.state c.in_ok-second.ensures.rules
    c.in_ok-second.ensures.state
    (ap (λ x. rules_with c.args.own (Single c.args.number x)) (sym c.in_ok-copied.ensures))
