-- What a drained book wants out of use.
use Rattle.std.specs.Prelude.{ℕ, List}
use Rattle.fm_core.specs.Drained.{Drained}
use Rattle.fm_entry.specs.declared.list_event.ListEvent.{ListEvent}
use Rattle.fm_status.specs.Wanted.{IsWantedOf}
use Rattle.fm_drain.specs.CaseStatus.{IsStatusOf}

-- the status of a drained book wants these paths out of use
pub record AreWantedOf (d : Drained) (paths : List (List ℕ)) : Type 0 where
  pub rows : List ListEvent
  pub status : IsStatusOf d rows
  pub wants : IsWantedOf rows paths
