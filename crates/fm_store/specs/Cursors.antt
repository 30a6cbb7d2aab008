-- Hands at their modules' cursors.
use Rattle.std.specs.Prelude.{◌≡◌, ℕ, ◌≤◌, List, length, slice_get, Some}
use Rattle.fm_core.specs.Hands.{HandOf}
use Rattle.fm_core.specs.declared.module.Module.{Ghosts as ModuleGhosts}
use Rattle.fm_logs.specs.LogsOf.{LogsOf}
use Rattle.fm_store.specs.StoreCalls.{next_entry}

-- the hand of module i is at the module's cursor, which lies between the base and the end
pub record IsAtCursor {D M : Type 0} (m : ModuleGhosts M) (logs : LogsOf D) (i : ℕ) (h : HandOf M)
    : Type 0 where
  pub number_is : h.number ≡ i
  pub own_is : (m.meaning h.object).own ≡ i
  pub cursor_is : slice_get logs.cursors i ≡ Some h.cursor
  pub from_base : logs.base ≤ h.cursor
  pub to_end : h.cursor ≤ next_entry logs

-- a hand of each module is at its cursor
pub record AreAtCursors {D M : Type 0} (m : ModuleGhosts M) (logs : LogsOf D)
    (hands : List (HandOf M)) : Type 0 where
  pub as_many : length hands ≡ length logs.cursors
  pub each : (i : ℕ) (h : HandOf M) → slice_get hands i ≡ Some h → IsAtCursor m logs i h
