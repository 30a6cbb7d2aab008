-- The diagnosis modules of a list of configurations.
use Rattle.std.specs.Prelude.{◌≡◌, ℕ, List, [], ◌∷◌, length, map, slice_get}
use Rattle.std.specs.List.{range_with_len}
use Rattle.fm_core.specs.Book.{ModuleState}
use Rattle.fm_core.specs.Meaning.{Diagnosing}
use Rattle.fm_saved.specs.declared.conf.Conf.{Conf}
use Rattle.dx_meaning.specs.DiagnoserMeaning.{diagnoser_meaning}
use Rattle.dx_meaning.specs.Fresh.{fresh_of}
use Rattle.dx_state.specs.Configured.{Configuration, or_none}
use Rattle.dx_step.specs.Longer.{rules_of}
use Rattle.fm_modules.specs.KeptTexts.{ConfMakes, EachHas, IsFirstRefused, IsRefusedConf}
use Rattle.fm_modules.specs.declared.fault.ModulesFault.{ModulesFault}
use Rattle.fm_modules.specs.declared.fault.ModulesFault.TheVariants.{Refused, NoMemory}

-- of each row the configuration that the rule file of a number makes
abbrev pub configurations_at : ℕ → List (List Configuration) → List Configuration
configurations_at i rows = map (λ row. or_none (slice_get row i)) rows

-- the module of a number with a list of configurations, to which nothing has happened
abbrev pub first_module : ℕ → List Configuration → ModuleState
first_module own list = record {
  meaning = diagnoser_meaning (rules_of own list);
  state = Diagnosing (fresh_of (rules_of own list));
}

-- so many modules, numbered from 0, each with what its rule file makes in each row
abbrev pub first_modules : ℕ → List (List Configuration) → List ModuleState
first_modules count rows =
    map (λ i. first_module i (configurations_at i rows)) (range_with_len 0 count)

-- how many rule files each of the configurations of one store has
abbrev pub file_count : List Conf → ℕ
file_count [] = 0
file_count (conf ∷ confs) = length conf.rules

-- The modules of configurations of one store: one for each rule file, with the file's number as its
-- own and with a configuration for each of the store's, to which nothing has happened.
pub record AreModulesOf (confs : List Conf) (modules : List ModuleState) : Type 0 where
  pub rows : List (List Configuration)
  pub make : EachHas ConfMakes confs rows
  pub modules_are : modules ≡ first_modules (file_count confs) rows

-- why the configuration of a number makes none
abbrev pub NumberedCause : ℕ → Conf → ModulesFault → Type 0
NumberedCause number conf (Refused at) = (at ≡ number) × IsRefusedConf conf
NumberedCause number conf NoMemory = Unit {0}

-- why there are no modules
abbrev pub ModulesCause : List Conf → ModulesFault → Type 0
ModulesCause confs (Refused conf) = IsFirstRefused confs conf
ModulesCause confs NoMemory = Unit {0}
