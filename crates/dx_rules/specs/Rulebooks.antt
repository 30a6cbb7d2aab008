-- What a rulebook says.
use Rattle.std.specs.Prelude.{map, Option, Some, None}
use Rattle.ev_guards.specs.Guards.{GuardsValue}
use Rattle.dx_state.specs.Configured.{Configuration, Configurations, Guarding, Single, Listed}
use Rattle.dx_state.specs.Configured.{Rules, unguarded}
use Rattle.dx_rules.specs.Payloads.{guarding_of}
use Rattle.dx_rules.specs.declared.rulebook.Configs.{Configs}
use Rattle.dx_rules.specs.declared.rulebook.Configs.TheVariants.{Single as SingleOf}
use Rattle.dx_rules.specs.declared.rulebook.Configs.TheVariants.{Listed as ListedOf}
use Rattle.dx_rules.specs.declared.rulebook.Rulebook.{Rulebook}
use Rattle.dx_rules.specs.declared.ruled.Ruled.{Ruled}

-- what guards say of payloads; where there are none, no link is guarded
abbrev pub guarding_if_any : Option GuardsValue → Guarding
guarding_if_any None = unguarded
guarding_if_any (Some v) = guarding_of v

-- a configuration: its graph, and which of its links payloads can break
abbrev pub ruled_of : Ruled → Configuration
ruled_of x = record { graph = x.graph; guarding = guarding_if_any x.guards }

abbrev pub configurations_of : Configs → Configurations
configurations_of (SingleOf number ruled) = Single number (ruled_of ruled)
configurations_of (ListedOf list) = Listed (map ruled_of list.items)

-- the module's own number and its configurations
abbrev pub rules_in : Rulebook → Rules
rules_in b = record { own = b.own; configurations = configurations_of b.configs }
