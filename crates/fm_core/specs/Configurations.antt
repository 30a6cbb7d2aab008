-- Configurations along entries, and modules of which one knows more of them than the other.
use Rattle.std.specs.Prelude.{◌≡◌, ℕ, ◌<◌, List, [], ◌∷◌, Option}
use Rattle.std.specs.Option.{ForSome}
use Rattle.fm_entry.specs.declared.entry.Entry.{Entry}
use Rattle.fm_entry.specs.declared.entry.Entry.TheVariants.{Reload}
use Rattle.fm_core.specs.Meaning.{State, Meaning, conf_after, conf_of, after_of, says_of}
use Rattle.fm_core.specs.Folds.{state_along, words_along}

-- the number of the configuration after entries, of a module that knows so many configurations
abbrev pub conf_along : ℕ → Option ℕ → List Entry → Option ℕ
conf_along known conf [] = conf
conf_along known conf (e ∷ es) = conf_along known (conf_after known conf e) es

-- the configuration, if there is one, is one of so many
abbrev pub IsKnown : ℕ → Option ℕ → Type 0
IsKnown known conf = ForSome conf (λ c. c < known)

-- the configuration that the entry names, if it names one, is one of so many
abbrev pub NamesKnown : ℕ → Entry → Type 0
NamesKnown known (Reload conf moment) = conf < known
NamesKnown known _ = Unit {0}

-- A longer list of configurations: `longer` is what a module is that was made as one of the meaning
-- m, with all configurations that m knows, under their numbers, and maybe others after them. What m
-- knows, both do alike.
pub record KnowsMore (m longer : Meaning) : Type 0 where
  pub own_same : longer.own ≡ m.own
  pub conf_same : (s : State) → conf_of longer s ≡ conf_of m s
  pub after_same : (s : State) (n : ℕ) (e : Entry) → IsKnown m.known (conf_of m s)
      → NamesKnown m.known e → after_of longer s n e ≡ after_of m s n e
  pub says_same : (s : State) (n : ℕ) (e : Entry) → IsKnown m.known (conf_of m s)
      → NamesKnown m.known e → says_of longer s n e ≡ says_of m s n e

-- both come along the entries to the same state, and say the same
pub record AgreeAlong (m longer : Meaning) (s : State) (n : ℕ) (es : List Entry) : Type 0 where
  pub state_same : state_along longer s n es ≡ state_along m s n es
  pub words_same : words_along longer s n es ≡ words_along m s n es
