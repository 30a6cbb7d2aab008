-- Two modules of which one knows more configurations than the other.
use Rattle.std.specs.Prelude.{◌≡◌, ℕ, ◌<◌, ◌++◌, List, length}
use Rattle.fm_entry.specs.declared.entry.Entry.{Entry}
use Rattle.fm_core.specs.Meaning.{Diagnosis}
use Rattle.fm_core.specs.Configurations.{NamesKnown}
use Rattle.dx_state.specs.Configured.{Rules, Configuration, Listed}
use Rattle.dx_step.specs.Step.{turn}

-- the module of this number that knows these configurations
abbrev pub rules_of : ℕ → List Configuration → Rules
rules_of own xs = record { own = own; configurations = Listed xs }

-- with more configurations behind those that it knows, it does alike, in a state of a known one and
-- at an entry that names no other
abbrev pub DoAlike : Type 0
DoAlike = (own : ℕ) (xs more : List Configuration) (s : Diagnosis) (n : ℕ) (e : Entry)
    → s.conf < length xs → NamesKnown (length xs) e
    → turn (rules_of own (xs ++ more)) s n e ≡ turn (rules_of own xs) s n e
