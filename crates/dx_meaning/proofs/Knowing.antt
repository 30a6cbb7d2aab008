-- With more configurations a module does alike what it did.
use Rattle.std.proofs.Common.{◌≡◌, ℕ, List, ◌++◌, length, refl, ap}
use Rattle.fm_entry.specs.declared.entry.Entry.{Entry}
use Rattle.fm_core.specs.Meaning.{State, Counting, Diagnosing, Foreign}
use Rattle.fm_core.specs.Configurations.{IsKnown, NamesKnown, KnowsMore}
use Rattle.dx_state.specs.Configured.{Configuration}
use Rattle.dx_step.specs.Turns.{Turn}
use Rattle.dx_step.specs.DiagnoserWords.{diagnoser_conf, diagnoser_after, diagnoser_says}
use Rattle.dx_step.specs.Longer.{rules_of}
use Rattle.dx_step.proofs.Agreeing.{do_alike}
use Rattle.dx_meaning.specs.DiagnoserMeaning.{diagnoser_meaning}

after_alike : (own : ℕ) (xs more : List Configuration) (s : State) (n : ℕ) (e : Entry)
    → IsKnown (length xs) (diagnoser_conf s) → NamesKnown (length xs) e
    → diagnoser_after (rules_of own (xs ++ more)) s n e ≡ diagnoser_after (rules_of own xs) s n e
after_alike own xs more (Diagnosing s) n e known names =
    ap (λ (t : Turn). Diagnosing t.state) (do_alike own xs more s n e (known s.conf refl) names)
after_alike own xs more (Counting c) n e known names = refl
after_alike own xs more (Foreign bytes) n e known names = refl

says_alike : (own : ℕ) (xs more : List Configuration) (s : State) (n : ℕ) (e : Entry)
    → IsKnown (length xs) (diagnoser_conf s) → NamesKnown (length xs) e
    → diagnoser_says (rules_of own (xs ++ more)) s n e ≡ diagnoser_says (rules_of own xs) s n e
says_alike own xs more (Diagnosing s) n e known names =
    ap (λ (t : Turn). t.words) (do_alike own xs more s n e (known s.conf refl) names)
says_alike own xs more (Counting c) n e known names = refl
says_alike own xs more (Foreign bytes) n e known names = refl

pub know_more : (own : ℕ) (xs more : List Configuration)
    → KnowsMore (diagnoser_meaning (rules_of own xs))
    (diagnoser_meaning (rules_of own (xs ++ more)))
know_more own xs more = record {
  own_same = refl;
  conf_same = λ s. refl;
  after_same = after_alike own xs more;
  says_same = says_alike own xs more;
}
