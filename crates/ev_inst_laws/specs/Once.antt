-- What a checked file declares, it declares once.
use Rattle.std.specs.Prelude.{◌≡◌, ℕ, Some, slice_get}
use Rattle.ev_tree.specs.declared.tree.Declared.{Declared}
use Rattle.ev_check.specs.CheckedFile.{CheckedFile}
use Rattle.ev_check.specs.Lawful.{file_events}
use Rattle.ev_events.specs.Nodes.{file_engines}

-- no event stands at two places, and no engine
pub record DeclaresOnce (f : CheckedFile) : Type 0 where
  pub events : (i j : ℕ) (d : Declared) → slice_get (file_events f) i ≡ Some d
      → slice_get (file_events f) j ≡ Some d → i ≡ j
  pub engines : (i j : ℕ) (d : Declared) → slice_get (file_engines f) i ≡ Some d
      → slice_get (file_engines f) j ≡ Some d → i ≡ j
