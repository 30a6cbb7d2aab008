-- What a case is explained as, by the book that a store stands for.
use Rattle.std.proofs.Common.{◌≡◌, ℕ, List, Option, ◌∙◌, ap, subst}
use Rattle.fm_core.specs.Book.{ModuleState}
use Rattle.fm_core.specs.Drained.{Drained, drained}
use Rattle.fm_entry.specs.declared.entry.Entry.{Entry}
use Rattle.fm_entry.specs.declared.list_event.ListEvent.{ListEvent}
use Rattle.fm_logs.specs.StoreBook.{StoreBook, force_along, force_now}
use Rattle.fm_outer.specs.declared.disk.Disk.{Ghosts}
use Rattle.fm_saved.specs.declared.conf.Conf.{Conf}
use Rattle.fm_drain.specs.CaseStatus.{IsStatusOf}
use Rattle.fm_store.specs.StoreOf.{StoreOf, StoreStandsFor, force_at}
use Rattle.fm_admin.specs.Explaining.{IsExplanationOf, IsTextOfFound}
use Rattle.fm_admin.specs.Rows.{row_with}
use Rattle.fm_admin.specs.Telling.{IsDrainedOf}
use Rattle.fm_drain.proofs.BasedBooks.{drained_same}

-- the number of the configuration in force is that of the book
pub force_is : {D M : Type 0} (g : Ghosts D) (fresh : List ModuleState) (store : StoreOf D M)
    (k : StoreBook) → StoreStandsFor g fresh store k → force_at store ≡ force_now k
force_is g fresh store k st =
    ap (λ (n : ℕ). force_along n store.logs.entries) st.force_is
    ∙ ap (λ (es : List Entry). force_along k.in_force es) st.entries_are

-- the text is of the drained book
pub explanation_is : (conf : Conf) (in_force : ℕ) (uuid : List ℕ) (k now : StoreBook)
    (rows : List ListEvent) (text : Option (List ℕ)) → IsDrainedOf k now
    → IsStatusOf (drained now.book) rows → in_force ≡ force_now k
    → IsTextOfFound conf in_force (row_with conf.namespace uuid rows) text
    → IsExplanationOf conf (force_now k) uuid (drained k.book) text
explanation_is conf in_force uuid k now rows text is status force told = record {
  rows = rows;
  status = subst (λ (d : Drained). IsStatusOf d rows)
      (drained_same now.book k.book is.alike) status;
  told = subst (λ (n : ℕ). IsTextOfFound conf n (row_with conf.namespace uuid rows) text) force
      told;
}
