-- Two modules that were made of equal configurations are alike, and in one state.
use Rattle.std.proofs.Common.{◌≡◌, ◌∙◌, ℕ, ap, sym}
use Rattle.fm_core.specs.Meaning.{Diagnosing}
use Rattle.dx_engine.specs.Diagnosers.{DiagnoserOf, diagnosers}
use Rattle.dx_meaning.specs.DiagnoserMeaning.{diagnoser_meaning}
use Rattle.dx_meaning.specs.Fresh.{fresh_of}
use Rattle.dx_rules.specs.Rulebooks.{rules_in}
use Rattle.dx_engine.specs.Standing.{state_of}
use Rattle.dx_state.specs.Configured.{Rules}
use Rattle.test_text_modules.specs.Alike.{AreTwins}

pub twins_are : (number : ℕ) (own kept : DiagnoserOf) (r s : Rules) → r.own ≡ number
    → rules_in own.rules ≡ r → state_of own.standing ≡ fresh_of r
    → rules_in kept.rules ≡ s → state_of kept.standing ≡ fresh_of s
    → r ≡ s → AreTwins diagnosers number own kept
twins_are number own kept r s bears rules state rules_too state_too same = record {
  first = ap (λ x. (diagnoser_meaning x).own) rules ∙ bears;
  meaning = ap diagnoser_meaning (rules ∙ same ∙ sym rules_too);
  state = ap Diagnosing (state ∙ ap fresh_of same ∙ sym state_too);
}
