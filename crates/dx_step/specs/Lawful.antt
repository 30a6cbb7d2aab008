-- Which states of a diagnosis module are lawful.
use Rattle.std.specs.Prelude.{◌^◌, ◌&&◌, Bool, true, false, nat_lt, nat_le, length, Option, Some}
use Rattle.std.specs.Prelude.{None}
use Rattle.std.specs.List.{list_all}
use Rattle.fm_core.specs.Meaning.{Diagnosis}
use Rattle.dx_explain.specs.Cases.{waits}
use Rattle.dx_state.specs.Configured.{Configuration, Configurations, Single, Listed, Rules}
use Rattle.dx_state.specs.Configured.{found_at}
use Rattle.dx_state.specs.LawfulState.{is_formed_configuration, is_state}
use Rattle.dx_step.specs.Turns.{configuration_of, graph_of}

-- formed configurations, with numbers of 32 bits
abbrev pub are_configurations : Configurations → Bool
are_configurations (Single number x) = nat_lt number (2 ^ 32) && is_formed_configuration x
are_configurations (Listed xs) = nat_le (length xs) (2 ^ 32) && list_all is_formed_configuration xs

-- what a module can be made with
abbrev pub are_rules : Rules → Bool
are_rules r = nat_lt r.own 8 && are_configurations r.configurations

abbrev pub is_there : Option Configuration → Bool
is_there None = false
is_there (Some x) = true

-- A lawful state: it is in a configuration that the module has, is lawful there, and each open case
-- waits for a report.
unfoldable pub is_lawful : Rules → Diagnosis → Bool
is_lawful r s =
    are_rules r
    && (is_there (found_at r.configurations s.conf)
    && (is_state r.own (configuration_of r s) s
    && list_all (waits (graph_of r s) s.time) s.open_cases))
