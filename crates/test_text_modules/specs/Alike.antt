-- Two modules that are made alike.
use Rattle.std.specs.Prelude.{◌≡◌, ℕ}
use Rattle.fm_core.specs.declared.module.Module.{Ghosts}
use Rattle.dx_state.specs.Configured.{Configurations, Rules}

-- the rules of the module of a number with some configurations
abbrev pub rules_with : ℕ → Configurations → Rules
rules_with own list = record { own = own; configurations = list }

-- two modules are made alike, with this number, and are in one state
pub record AreTwins {M : Type 0} (g : Ghosts M) (number : ℕ) (own kept : M) : Type 0 where
  pub first : (g.meaning own).own ≡ number
  pub meaning : g.meaning own ≡ g.meaning kept
  pub state : g.state own ≡ g.state kept
