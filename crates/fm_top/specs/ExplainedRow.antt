-- The row that `explain` tells of, by the book that the contents read as.
use Rattle.std.specs.Prelude.{◌≡◌, ℕ, ◌==◌, List, Option, Some, None, slice_get, if◌then◌else◌}
use Rattle.std.specs.Option.{option_map, option_and_then}
use Rattle.dx_state.specs.Configured.{Configuration}
use Rattle.ev_graph.specs.Lawful.{GraphValue}
use Rattle.fm_admin.specs.Rows.{row_with}
use Rattle.fm_core.specs.Drained.{drained}
use Rattle.fm_entry.specs.declared.list_event.ListEvent.{ListEvent}
use Rattle.fm_explain.specs.Explained.{IsExplained}
use Rattle.fm_logs.specs.Contents.{Contents}
use Rattle.fm_logs.specs.StoreBook.{force_now}
use Rattle.fm_saved.specs.declared.conf.Conf.{Conf}
use Rattle.fm_drain.specs.CaseStatus.{IsStatusOf}
use Rattle.fm_top.specs.Kept.{BookAt}

-- THE GRAPH OF A ROW, by what the rule files make in each configuration: that of the row's module
-- in the row's configuration
abbrev pub graph_in : List (List Configuration) → ListEvent → Option GraphValue
graph_in rows row = option_map (λ x. x.graph)
    (option_and_then (λ made. slice_get made row.case.module) (slice_get rows row.conf))

-- where that is the one in force, which has this number; none else
abbrev pub row_graph : List (List Configuration) → ℕ → ListEvent → Option GraphValue
row_graph rows in_force row = if row.conf == in_force then graph_in rows row else None

-- the text of a row in its graph, if there is a row
abbrev pub IsExplanationIn : (ListEvent → Option GraphValue) → Option ListEvent
    → Option (List ℕ) → Type 0
IsExplanationIn graph None None = Unit {0}
IsExplanationIn graph (Some row) (Some text) = IsExplained (graph row) row text
IsExplanationIn graph _ _ = ⊥

-- The text of the first row, in case order, of the drained book's status that has the UUID under
-- the namespace of the configuration in force, in the graph that its module has in the book; none
-- where no row has it.
pub record IsExplanationAt (uuid : List ℕ) {told : Contents} (stood : BookAt told)
    (text : Option (List ℕ)) : Type 0 where
  pub conf : Conf
  pub in_force : slice_get stood.book.confs (force_now stood.book) ≡ Some conf
  pub rows : List ListEvent
  pub status : IsStatusOf (drained stood.book.book) rows
  pub text_is : IsExplanationIn (row_graph stood.made.rows (force_now stood.book))
      (row_with conf.namespace uuid rows) text

-- The contents read as a book, and no row of it has the UUID once it is drained.
pub record HasNoRow (uuid : List ℕ) (told : Contents) : Type 0 where
  pub stood : BookAt told
  pub none : IsExplanationAt uuid stood None
