-- Parts that can be saved.
use Rattle.std.specs.Prelude.{◌<◌, ◌^◌, length, IsTrue}
use Rattle.std.specs.List.{All}
use Rattle.fm_entry.specs.declared.list_event.ListEvent.{ListEvent}
use Rattle.fm_core.specs.Meaning.{Diagnosis}
use Rattle.dx_serd.specs.Rates.{RateOf}
use Rattle.dx_case.specs.declared.case.Case.{Case}
use Rattle.dx_case.specs.Cases.{open_of}
use Rattle.dx_state.specs.Configured.{Rules}
use Rattle.dx_step.specs.Lawful.{is_lawful}
use Rattle.dx_restore.specs.declared.parts.Parts.{Parts}

-- the state is lawful for a module that is made with some rules
pub record IsLawfulSomewhere (s : Diagnosis) : Type 0 where
  pub rules : Rules
  pub lawful : IsTrue (is_lawful rules s)

-- the numbers of items are ones that can be written
pub record IsShortCase (c : Case) : Type 0 where
  pub observed : length (open_of c).observed < 2 ^ 32
  pub broken : length (open_of c).broken < 2 ^ 32

pub record IsShortWord (w : ListEvent) : Type 0 where
  pub observed : length w.observed < 2 ^ 32
  pub suspects : length w.suspects < 2 ^ 32
  pub broken : length w.broken < 2 ^ 32

pub record IsShortEngine (r : RateOf) : Type 0 where
  pub kept : length r.kept < 65536

pub record AreShort (p : Parts) : Type 0 where
  pub words : All IsShortWord p.solved.now
  pub few_engines : length p.engines.now < 2 ^ 32
  pub engines : All IsShortEngine p.engines.now
