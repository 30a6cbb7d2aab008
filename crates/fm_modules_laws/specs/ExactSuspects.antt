-- What the modules of kept texts say in a drained book, from its base on.
use Rattle.std.specs.Prelude.{ℕ, List, map}
use Rattle.std.specs.List.{range_with_len}
use Rattle.fm_core.specs.Book.{Book, ModuleState}
use Rattle.fm_saved.specs.declared.conf.Conf.{Conf}
use Rattle.dx_state.specs.Configured.{Configuration, Rules}
use Rattle.dx_step.specs.Longer.{rules_of}
use Rattle.dx_along.specs.ExactAlong.{IsExactBook}
use Rattle.dx_observed.specs.ObservedBook.{ExplainsBook}
use Rattle.fm_modules.specs.Modules.{AreModulesOf, configurations_at, file_count}

-- what so many modules, numbered from 0, are made with: the configurations that the rule file of
-- their number makes in each row
abbrev pub rules_by_file : ℕ → List (List Configuration) → List Rules
rules_by_file count rows =
    map (λ i. rules_of i (configurations_at i rows)) (range_with_len 0 count)

-- The book, whose modules are those of kept texts, has exact suspects once it is drained.
pub record HasExactSuspects {confs : List Conf} {fresh : List ModuleState}
    (made : AreModulesOf confs fresh) (k : Book) : Type 0 where
  -- Of each of its records that is numbered from the base on: the suspects of a word that solves a
  -- case are just the faults and defects that explain what the word observed, in the graph of its
  -- configuration less its broken links, those of an upset just the upsets where no fault or defect
  -- does, and a case is undiagnosable only where no root explains it or the graph has no report of
  -- its event. And each open case has a pending report.
  pub exact : IsExactBook (rules_by_file (file_count confs) made.rows) k
  -- Each report from the base on joins one case; what a case observed is just what it had observed
  -- at the base and the reports that joined it since; and the suspects are those of all of them.
  pub explains : ExplainsBook (rules_by_file (file_count confs) made.rows) k
