-- What the taking of an operator's entry and the drain after it come to.
use Rattle.std.proofs.Common.{◌≡◌, inl, inr, ℕ, ◌+◌, false, List, [], ◌∷◌, ◌++◌, length}
use Rattle.std.proofs.Common.{Option, Some, None, Result, Ok, Err, IfErr, refl, sym}
use Rattle.std.proofs.Common.{◌∙◌, ap, subst, arith}
use Rattle.std.specs.List.{slice_get}
use Rattle.std.proofs.lemmas.List.{length-append}
use Rattle.fm_outer.specs.declared.disk.Disk.{Ghosts}
use Rattle.fm_core.specs.Book.{Book, ModuleState, IsAdmitted, accepted, next_number}
use Rattle.fm_core.specs.Drained.{Drained, drained}
use Rattle.fm_core.specs.Hands.{HandOf, shown}
use Rattle.fm_core.specs.declared.module.Module.{Ghosts as ModuleGhosts}
use Rattle.fm_core.proofs.Drains.{drained_accepted}
use Rattle.fm_core.proofs.Keeping.{follows_accepted}
use Rattle.fm_core.proofs.Runs.{lawful_accepted}
use Rattle.fm_drain.specs.DrainCalls.{AllFollow}
use Rattle.fm_drain.specs.DrainLimits.{DrainIsFull}
use Rattle.fm_entry.specs.Entries.{is_reload}
use Rattle.fm_entry.specs.declared.entry.Entry.{Entry}
use Rattle.fm_entry.specs.declared.entry.Entry.TheVariants.{Reload}
use Rattle.fm_entry.specs.declared.list_event.ListEvent.{ListEvent}
use Rattle.fm_logs.specs.LogsBook.{DrainAlike}
use Rattle.fm_logs.specs.LogsOf.{AcceptRefused, LogsOf, TakesEntry}
use Rattle.fm_logs.specs.StoreBook.{IsLawfulStore, ReloadsRise, StoreBook, force_along}
use Rattle.fm_logs.specs.StoreBook.{store_accepted}
use Rattle.fm_logs.specs.declared.disks.DiskName.TheVariants.{Flt}
use Rattle.fm_logs.specs.declared.fault.StoreFault.{StoreFault}
use Rattle.fm_logs.specs.declared.fault.StoreFault.TheVariants.{Disk, Full, Closed, NoMemory}
use Rattle.fm_logs.specs.declared.fault.StoreFault.TheVariants.{Damaged, Exists}
use Rattle.fm_looks.proofs.Reloads.{rise_push}
use Rattle.fm_drain.specs.CaseStatus.{IsStatusOf}
use Rattle.fm_store.specs.Cursors.{IsAtCursor, AreAtCursors}
use Rattle.fm_store.specs.StoreCalls.{AcceptsOnBook}
use Rattle.fm_store.specs.StoreOf.{StoreOf, StoreStandsFor}
use Rattle.fm_store.specs.StoreReading.{IsNoDamage}
use Rattle.fm_admin.specs.Limits.{TakeLimit}
use Rattle.fm_admin.specs.Repairing.{IsRepairedBy, TakeRefused, TakesAndTells}
use Rattle.fm_admin.specs.Repairing.{TellsRepaired, TookOne}
use Rattle.fm_admin.specs.Telling.{IsDrainedOf, TellRefused, TellsBook}
use Rattle.fm_admin.specs.Telling.{WasDrained}
use Rattle.fm_admin.specs.declared.repairing.Repaired.{Repaired}
use Rattle.fm_admin.proofs.Tellings.{tell_full}
use Rattle.fm_drain.proofs.BasedBooks.{drained_same}

-- an entry that is no Reload may come at any place
no_reload : (known n : ℕ) (e : Entry) → is_reload e ≡ false → ReloadsRise known n (e ∷ [])
no_reload known n (Reload conf moment) none = absurd (let no : ⊥ = cc in no)
no_reload known n _ none = tt

-- a lawful book with an entry that is admitted is lawful
pub admitted_lawful : (k : StoreBook) (e : Entry) → IsLawfulStore k → IsAdmitted e
    → IsLawfulStore (store_accepted k e)
admitted_lawful k e h admitted = record {
  some_confs = h.some_confs;
  few_confs = h.few_confs;
  confs_are = h.confs_are;
  known = h.known;
  of_conf = h.of_conf;
  reloads = rise_push (length k.confs) k.in_force k.book.entries e h.reloads
      (no_reload (length k.confs) (force_along k.in_force k.book.entries) e admitted.no_reload);
  lawful = lawful_accepted k.book e h.lawful;
}

-- books that drain to the same do so with one entry more
pub accepted_alike : (one other : Book) (e : Entry) → DrainAlike one other
    → DrainAlike (accepted one e) (accepted other e)
accepted_alike one other e alike es =
    drained_accepted one e es ∙ (alike (e ∷ es) ∙ sym (drained_accepted other e es))

module _ {D M : Type 0} (g : Ghosts D) (m : ModuleGhosts M) where
  -- hands at their cursors are there after an entry more
  cursor_after : (old new : LogsOf D) (e : Entry) (n i : ℕ) (h : HandOf M)
      → TakesEntry g old new e n → IsAtCursor m old i h → IsAtCursor m new i h
  cursor_after old new e n i h takes at =
      let base : new.base ≡ old.base = ap (λ (l : LogsOf D). l.base) takes.logs_are in
      let entries : new.entries ≡ old.entries ++ e ∷ [] =
      ap (λ (l : LogsOf D). l.entries) takes.logs_are in
      let count : length new.entries ≡ length old.entries + 1 =
      ap length entries ∙ length-append old.entries (e ∷ []) in
      record {
        number_is = at.number_is;
        own_is = at.own_is;
        cursor_is = ap (λ (l : LogsOf D). slice_get l.cursors i) takes.logs_are ∙ at.cursor_is;
        from_base = omega (arith, base, at.from_base);
        to_end = omega (arith, base, count, at.to_end);
      }

  pub cursors_after : (old new : LogsOf D) (hands : List (HandOf M)) (e : Entry) (n : ℕ)
      → TakesEntry g old new e n → AreAtCursors m old hands → AreAtCursors m new hands
  cursors_after old new hands e n takes at = record {
    as_many = at.as_many ∙ sym (ap (λ (l : LogsOf D). length l.cursors) takes.logs_are);
    each = λ i h got. cursor_after old new e n i h takes (at.each i h got);
  }

  -- ---- the taking of an entry

  pub took_one : (old mid new : StoreOf D M) (e : Entry) (n : ℕ) (rows : List ListEvent)
      (told : Option Repaired) → TakesEntry g old.logs mid.logs e n → mid.base ≡ old.base
      → WasDrained g mid new → TellsRepaired n rows told → TookOne g old new e told
  took_one old mid new e n rows None takes same drained tells = absurd tells
  took_one old mid new e n rows (Some one) takes same drained tells = record {
    between = mid;
    takes = subst (TakesEntry g old.logs mid.logs e) (sym tells.0) takes;
    base_same = same;
    drained = drained;
  }

  accept_undamaged : (old new : LogsOf D) (e : Entry) (fault : StoreFault)
      → AcceptRefused g old new e fault → IsNoDamage fault
  accept_undamaged old new e (Closed name failures) why = tt
  accept_undamaged old new e (Full kind) why = tt
  accept_undamaged old new e Disk why = tt
  accept_undamaged old new e NoMemory why = tt
  accept_undamaged old new e (Damaged name place) why = absurd why
  accept_undamaged old new e Exists why = absurd why

  -- it was taken, and then nothing was told
  pub taken_refused : {X : Type 0} (old mid new : StoreOf D M) (hands : List (HandOf M))
      (e : Entry) (n : ℕ) (fault : StoreFault) (result : Result X StoreFault)
      → result ≡ Err fault → TakesEntry g old.logs mid.logs e n → mid.base ≡ old.base
      → TellRefused g m Flt mid new hands fault → IfErr result (TakeRefused g m old new hands e)
  taken_refused old mid new hands e n fault result is takes same why =
      subst (λ r. IfErr r (TakeRefused g m old new hands e)) (sym is)
      (inr (mid, n, takes, same, why))

  -- it was not taken
  pub refused_entry : {X : Type 0} (fresh : List ModuleState) (old new : StoreOf D M)
      (k : StoreBook) (e : Entry) (fault : StoreFault) (result : Result X StoreFault)
      (Told : StoreBook → X → Type 0) → result ≡ Err fault
      → AcceptRefused g old.logs new.logs e fault
      → AcceptsOnBook g fresh old new k e (Err fault)
      → TakesAndTells g fresh old new k e result Told
  refused_entry fresh old new k e fault result Told is why accepts = record {
    between = new;
    any_moment = accepts.any_moment;
    ends = inl (record {
      fault = fault;
      result_is = is;
      undamaged = accept_undamaged old.logs new.logs e fault why;
      same = refl;
      left = accepts.left;
    });
  }

  -- it was taken, and the store drained and told of, or not
  pub taken_entry : {X : Type 0} (fresh : List ModuleState) (old mid new : StoreOf D M)
      (k : StoreBook) (e : Entry) (n : ℕ) (result : Result X StoreFault)
      (Told : StoreBook → X → Type 0) → AcceptsOnBook g fresh old mid k e (Ok n)
      → TellsBook g fresh Flt mid new (store_accepted k e) result Told
      → TakesAndTells g fresh old new k e result Told
  taken_entry fresh old mid new k e n result Told accepts tells = record {
    between = mid;
    any_moment = accepts.any_moment;
    ends = inr tells;
  }

  -- a limit at which it was not taken, or the store not drained, is one of the book
  pub entry_limit : (old new : StoreOf D M) (k : StoreBook) (e : Entry) (fault : StoreFault)
      → AcceptRefused g old.logs new.logs e fault → TakeLimit old k e fault
  entry_limit old new k e (Full kind) why = inl why.2
  entry_limit old new k e (Closed name failures) why = tt
  entry_limit old new k e Disk why = tt
  entry_limit old new k e NoMemory why = tt
  entry_limit old new k e (Damaged name place) why = tt
  entry_limit old new k e Exists why = tt

  pub taken_limit : (fresh : List ModuleState) (old mid new : StoreOf D M) (k : StoreBook)
      (hands : List (HandOf M)) (e : Entry) (n : ℕ) (fault : StoreFault)
      → TakesEntry g old.logs mid.logs e n → StoreStandsFor g fresh mid (store_accepted k e)
      → AllFollow m (store_accepted k e).book hands → TellRefused g m Flt mid new hands fault
      → TakeLimit old k e fault
  taken_limit fresh old mid new k hands e n (Full kind) takes st follow why =
      inr (subst (λ (first : ℕ). DrainIsFull first (store_accepted k e).book kind)
      (ap (λ (l : LogsOf D). l.flt.first) takes.logs_are)
      (tell_full g m Flt fresh mid new (store_accepted k e) hands kind st follow why))
  taken_limit fresh old mid new k hands e n (Closed name failures) takes st follow why = tt
  taken_limit fresh old mid new k hands e n Disk takes st follow why = tt
  taken_limit fresh old mid new k hands e n NoMemory takes st follow why = tt
  taken_limit fresh old mid new k hands e n (Damaged name place) takes st follow why = tt
  taken_limit fresh old mid new k hands e n Exists takes st follow why = tt

  pub limit_as : {X : Type 0} (old : StoreOf D M) (k : StoreBook) (e : Entry)
      (fault : StoreFault) (result : Result X StoreFault) → result ≡ Err fault
      → TakeLimit old k e fault → IfErr result (TakeLimit old k e)
  limit_as old k e fault result is limit =
      subst (λ r. IfErr r (TakeLimit old k e)) (sym is) limit

  pub follow_accepted : (k : StoreBook) (e : Entry) (hands : List (HandOf M))
      → AllFollow m k.book hands → AllFollow m (store_accepted k e).book hands
  follow_accepted k e hands follow i h got =
      follows_accepted k.book e i (shown m h) (follow i h got)

  -- the number of an entry that was taken
  pub number_taken : (fresh : List ModuleState) (old mid : StoreOf D M) (k : StoreBook)
      (e : Entry) (n : ℕ) → StoreStandsFor g fresh old k → TakesEntry g old.logs mid.logs e n
      → n ≡ next_number k.book
  number_taken fresh old mid k e n st takes =
      let base : old.logs.base ≡ k.book.base = st.base_is in
      let count : length old.logs.entries ≡ length k.book.entries = ap length st.entries_are in
      omega (arith, base, count, takes.number_is)

  -- what the rows of the drained book want is what it wants
  pub repaired_told : (k now : StoreBook) (e : Entry) (n : ℕ) (rows : List ListEvent)
      (told : Option Repaired) → n ≡ next_number k.book → IsDrainedOf (store_accepted k e) now
      → IsStatusOf (drained now.book) rows → TellsRepaired n rows told → IsRepairedBy k e told
  repaired_told k now e n rows None count is status tells = absurd tells
  repaired_told k now e n rows (Some one) count is status tells = record {
    number_is = tells.0 ∙ count;
    wanted = record {
      rows = rows;
      status = subst (λ (d : Drained). IsStatusOf d rows)
          (drained_same now.book (store_accepted k e).book is.alike) status;
      wants = tells.1;
    };
  }
