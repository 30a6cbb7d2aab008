-- What each checked file keeps.
use Rattle.std.specs.Prelude.{List}
use Rattle.ev_tree.specs.declared.tree.Statement.{Statement}
use Rattle.ev_check.specs.CheckedFile.{CheckedFile, IsFileOf}
use Rattle.ev_check.specs.Faults.{IsChecked}

-- it is the file of statements at which no phase finds a fault
pub record IsSound (b : CheckedFile) : Type 0 where
  pub statements : List Statement
  pub checked : IsChecked statements
  pub file : IsFileOf statements b
