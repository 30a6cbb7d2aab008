-- Rows of records, one after another, and those of the book that a store stands for.
use Rattle.std.proofs.Common.{◌≡◌, List, [], ◌∷◌, ◌++◌}
use Rattle.std.proofs.Common.{append-nil, append_assoc, refl, sym, ◌∙◌, ap, subst}
use Rattle.std.proofs.lemmas.List.Concat.{flat_map-append}
use Rattle.std.specs.List.Sorted.{IsStrictlySortedBy}
use Rattle.fm_core.specs.Book.{ModuleState}
use Rattle.fm_entry.specs.declared.list_event.ListEvent.{ListEvent}
use Rattle.fm_entry.specs.declared.spoken.Spoken.{Spoken}
use Rattle.fm_logs.specs.LogReads.{AreOrdered}
use Rattle.fm_logs.specs.StoreBook.{StoreBook}
use Rattle.fm_outer.specs.declared.disk.Disk.{Ghosts}
use Rattle.fm_status.specs.Rows.{AreRows}
use Rattle.fm_store.specs.StoreOf.{StoreOf, StoreStandsFor}
use Rattle.fm_drain.specs.CaseStatus.{words_in, IsStatusOfBook}
use Rattle.fm_drain.proofs.CaseWords.{spelled_own, status_is}

no_rows : AreRows [] []
unfolding IsStrictlySortedBy
no_rows = record { ascend = tt; last = λ c. refl }

-- the rows are those of the records before the rest of all
pub record AreRowsBefore (all rest : List Spoken) (rows : List ListEvent) : Type 0 where
  done : List Spoken
  whole : done ++ rest ≡ all
  rows_are : AreRows (words_in done) rows

pub rows_start : (all rest : List Spoken) (rows : List ListEvent) → rest ≡ all → rows ≡ []
    → AreRowsBefore all rest rows
rows_start all rest rows same none = record {
  done = [];
  whole = same;
  rows_are = subst (AreRows []) (sym none) no_rows;
}

words_more : (done : List Spoken) (x : Spoken)
    → words_in done ++ x.events ≡ words_in (done ++ x ∷ [])
words_more done x =
    ap (λ l. words_in done ++ l) (sym (append-nil x.events))
    ∙ sym (flat_map-append (λ (r : Spoken). r.events) done (x ∷ []))

pub rows_more : (all whole rest : List Spoken) (x : Spoken) (old new : List ListEvent)
    → whole ≡ x ∷ rest → AreRowsBefore all whole old
    → ((words : List ListEvent) → AreRows words old → AreRows (words ++ x.events) new)
    → AreRowsBefore all rest new
rows_more all whole rest x old new is before last = record {
  done = before.done ++ x ∷ [];
  whole = append_assoc before.done (x ∷ []) rest
      ∙ (ap (λ l. before.done ++ l) (sym is) ∙ before.whole);
  rows_are = subst (λ (words : List ListEvent). AreRows words new) (words_more before.done x)
      (last (words_in before.done) before.rows_are);
}

pub rows_end : (all rest : List Spoken) (rows : List ListEvent) → rest ≡ []
    → AreRowsBefore all rest rows → AreRows (words_in all) rows
rows_end all rest rows none before =
    subst (λ (records : List Spoken). AreRows (words_in records) rows)
    (sym (append-nil before.done) ∙ (ap (λ l. before.done ++ l) (sym none) ∙ before.whole))
    before.rows_are

-- the rows of a book's records, in order
pub book_status : {D M : Type 0} (g : Ghosts D) (fresh : List ModuleState) (store : StoreOf D M)
    (k : StoreBook) (found : List Spoken) (rows : List ListEvent) → StoreStandsFor g fresh store k
    → AreOrdered k.book.records found → AreRows (words_in found) rows
    → IsStatusOfBook k.book rows
book_status g fresh store k found rows st ordered are = record {
  found = found;
  ordered = ordered;
  rows_are = are;
  drained_status = λ done. status_is k.book found rows st.lawful.lawful
      (spelled_own st.keep.record_payloads k.book.records st.keep.records_spelled) ordered are done;
}
