-- What a drain and a reading of the fault log come to.
use Rattle.std.proofs.Common.{◌≡◌, inl, inr, ℕ, ◌≤◌, length, true, ◌==◌, List, map}
use Rattle.std.proofs.Common.{Some, None}
use Rattle.std.proofs.Common.{Result, Ok, Err, IfOk, IfErr, IsTrue, refl, sym, ◌∙◌, ap, subst}
use Rattle.std.specs.List.{slice_get}
use Rattle.std.proofs.lemmas.Result.{IfOk-weaker}
use Rattle.fm_outer.specs.Failures.{Rose}
use Rattle.fm_outer.specs.declared.disk.Disk.{Ghosts}
use Rattle.fm_outer.specs.Moments.{OnlyRead}
use Rattle.fm_outer.proofs.Moments.{OnlyNow}
use Rattle.fm_adm.specs.Faulty.{faulty_text}
use Rattle.fm_core.specs.Book.{Book, ModuleState, IsLawful, Work, run, is_done, next_number}
use Rattle.fm_core.specs.Drained.{Drained, drained}
use Rattle.fm_core.specs.Hands.{HandOf}
use Rattle.fm_core.specs.declared.module.Module.{Ghosts as ModuleGhosts}
use Rattle.fm_core.proofs.Drains.{cursor_of}
use Rattle.fm_core.proofs.Lists.{list_all_get}
use Rattle.fm_core.proofs.Runs.{ends_drained, run_lawful}
use Rattle.fm_core.proofs.Tests.{true_eq}
use Rattle.fm_drain.specs.DrainCalls.{AllFollow, DrainDoes, DrainsOnBook}
use Rattle.fm_drain.specs.DrainCalls.{IsStopped, OnlyCommitted, StaysOpen, StopsFull}
use Rattle.fm_drain.specs.DrainCalls.{StoppedAt, store_after}
use Rattle.fm_drain.specs.DrainLimits.{DrainIsFull}
use Rattle.fm_drain.proofs.HandLaws.{only_then}
use Rattle.fm_drain.proofs.StepLaws.{same_store}
use Rattle.fm_drain.proofs.Works.{KeepsEntries, works_alike, works_keep}
use Rattle.fm_entry.specs.declared.list_event.ListEvent.{ListEvent}
use Rattle.fm_entry.specs.declared.spoken.Spoken.{Spoken}
use Rattle.fm_journal.specs.declared.fault.FullKind.{FullKind}
use Rattle.fm_logs.specs.LogReads.{AreSpoken, ReadsSpoken, UnreadLog}
use Rattle.fm_logs.specs.LogsBook.{DrainAlike}
use Rattle.fm_logs.specs.LogsOf.{LogsOf}
use Rattle.fm_logs.specs.StoreBook.{StoreBook}
use Rattle.fm_logs.specs.declared.disks.DiskName.{DiskName}
use Rattle.fm_logs.specs.declared.disks.DiskName.TheVariants.{Flt}
use Rattle.fm_logs.specs.declared.fault.StoreFault.{StoreFault}
use Rattle.fm_logs.specs.declared.fault.StoreFault.TheVariants.{Disk, Full, Closed, NoMemory}
use Rattle.fm_logs.specs.declared.fault.StoreFault.TheVariants.{Damaged, Exists}
use Rattle.fm_drain.specs.CaseStatus.{IsStatusOf}
use Rattle.fm_store.specs.Cursors.{IsAtCursor, AreAtCursors}
use Rattle.fm_store.specs.StoreCalls.{AreAtEnd, HandsAreDone, next_entry}
use Rattle.fm_store.specs.StoreLeft.{ReadsLike, store_disk}
use Rattle.fm_store.specs.StoreOf.{StoreOf, StoreStandsFor}
use Rattle.fm_store.specs.StoreReading.{IsNoDamage}
use Rattle.fm_store.proofs.StoreMoves.{done_at_end}
use Rattle.fm_store.proofs.StoreReads.{like_through, store_reads}
use Rattle.fm_admin.specs.Telling.{IsDrainedOf, IsFaultyOf, StandsTold}
use Rattle.fm_admin.specs.Telling.{TellRefused, TellsBook, WasDrained}
use Rattle.fm_drain.proofs.Left.{moments_read, moments_still}
use Rattle.fm_core.proofs.Options.{none_some}
use Rattle.fm_drain.proofs.BasedBooks.{drained_same}

-- works that bring each module to its end drain a book
pub drained_of : (k : StoreBook) (works : List ℕ) → IsLawful k.book
    → is_done (store_after works k).book ≡ true → IsDrainedOf k (store_after works k)
drained_of k works lawful done =
    let w : Book = run k.book (map Work works) in
    let kept : KeepsEntries k.book w = works_keep works k.book in
    let worked : IsLawful w = run_lawful (map Work works) k.book lawful in
    let alike : DrainAlike w k.book = works_alike works k.book lawful in
    record {
      alike = alike;
      confs_same = refl;
      base_same = kept.base_same;
      entries_same = kept.entries_same;
      done = done;
      ends = λ i p got.
          let c = cursor_of w i p worked got in
          let at : c.0 ≡ next_number w = true_eq c.0 (next_number w)
          (list_all_get (λ n. n == next_number w) w.cursors i c.0 done c.1) in
          ap (λ d. slice_get d.modules i) (sym (drained_same w k.book alike))
          ∙ ends_drained w i p worked got (c.1 ∙ ap Some at);
    }

module _ {D M : Type 0} (g : Ghosts D) where
  -- a store that is open after a drain was open before it
  pub open_before : (old mid : StoreOf D M) → StaysOpen g old mid → mid.logs.closed ≡ None
      → old.logs.closed ≡ None
  open_before old mid (inl same) is = ap (λ (s : StoreOf D M). s.logs.closed) (sym same) ∙ is
  open_before old mid (inr stays) is = stays.0

  pub flt_stays : (old mid : StoreOf D M) → StaysOpen g old mid
      → g.failures mid.logs.flt.disk ≡ g.failures old.logs.flt.disk
  flt_stays old mid (inl same) = ap (λ (s : StoreOf D M). g.failures s.logs.flt.disk) same
  flt_stays old mid (inr stays) = stays.2

  -- a reading of the fault log is no more than a commit
  only_read : (old new : StoreOf D M) → ReadsSpoken g old.logs new.logs → new.base ≡ old.base
      → OnlyCommitted old new
  only_read old new reads same = λ i. record {
    logs = record {
      active = (reads.logs_are i).active;
      flt = new.logs.flt;
      second = (reads.logs_are i).second;
      base = (reads.logs_are i).base;
      entries = (reads.logs_are i).entries;
      cursors = new.logs.cursors;
      closed = new.logs.closed;
    };
    base = same i;
  }

  -- what is told of the book where nothing is told of what was read
  pub told_on : {X Y : Type 0} (fresh : List ModuleState) (log : DiskName) (old new : StoreOf D M)
      (k : StoreBook) (x : X) (result : Result Y StoreFault) (Told : StoreBook → X → Type 0)
      (Other : StoreBook → Y → Type 0) → TellsBook g fresh log old new k (Ok x) Told
      → ((now : StoreBook) → IsDrainedOf k now → Told now x → IfOk result (Other now))
      → IfErr result IsNoDamage → TellsBook g fresh log old new k result Other
  told_on fresh log old new k x result Told Other tells on undamaged =
      let now : StoreBook = tells.done.now in
      record {
        done = IfOk-weaker result (Other now) (StandsTold g fresh new k Other)
            (λ y other. record {
              now = now;
              stands = tells.done.stands;
              drained_is = tells.done.drained_is;
              told = other;
            }) (on now tells.done.drained_is tells.done.told);
        undamaged = undamaged;
        after_drain = tells.after_drain;
        any_moment = tells.any_moment;
        any_reading = tells.any_reading;
        left = tells.left;
      }

  -- what was refused is refused to whoever asked for it
  pub refused_on : {X Y : Type 0} (fresh : List ModuleState) (log : DiskName)
      (old new : StoreOf D M) (k : StoreBook) (fault : StoreFault) (Told : StoreBook → X → Type 0)
      (Other : StoreBook → Y → Type 0) → TellsBook g fresh log old new k (Err fault) Told
      → TellsBook g fresh log old new k (Err fault) Other
  refused_on fresh log old new k fault Told Other tells = record {
    done = tt;
    undamaged = tells.undamaged;
    after_drain = tells.after_drain;
    any_moment = tells.any_moment;
    any_reading = tells.any_reading;
    left = tells.left;
  }

  pub refused_as : {X Y : Type 0} (fresh : List ModuleState) (log : DiskName)
      (old new : StoreOf D M) (k : StoreBook) (fault : StoreFault) (result : Result Y StoreFault)
      (Told : StoreBook → X → Type 0) (Other : StoreBook → Y → Type 0) → result ≡ Err fault
      → TellsBook g fresh log old new k (Err fault) Told
      → TellsBook g fresh log old new k result Other
  refused_as fresh log old new k fault result Told Other is tells =
      subst (λ r. TellsBook g fresh log old new k r Other) (sym is)
      (refused_on fresh log old new k fault Told Other tells)

  -- memory was wanted to tell
  pub wanting_on : {X Y : Type 0} (fresh : List ModuleState) (log : DiskName)
      (old new : StoreOf D M) (k : StoreBook) (x : X) (result : Result Y StoreFault)
      (Told : StoreBook → X → Type 0) (Other : StoreBook → Y → Type 0) → result ≡ Err NoMemory
      → TellsBook g fresh log old new k (Ok x) Told → TellsBook g fresh log old new k result Other
  wanting_on fresh log old new k x result Told Other is tells =
      subst (λ r. TellsBook g fresh log old new k r Other) (sym is)
      (told_on fresh log old new k x (Err NoMemory) Told Other tells (λ now is told. tt) tt)

module _ {D M : Type 0} (g : Ghosts D) (m : ModuleGhosts M) where
  -- ---- what was done

  -- a drain of an open store
  pub drained_open : (old mid : StoreOf D M) (hands now : List (HandOf M)) (done : Unit)
      → DrainDoes g m old mid hands now (Ok done) → mid.logs.closed ≡ None → WasDrained g old mid
  drained_open old mid hands now done drain is = record {
    was_open = open_before g old mid drain.answer.open_still is;
    is_open = is;
    only = drain.only;
    no_failure = flt_stays g old mid drain.answer.open_still;
    first_same = drain.first_same;
    at_end = drain.answer.at_end;
  }

  -- a drain, and a reading of the fault log
  pub was_drained : (old mid new : StoreOf D M) (hands now : List (HandOf M)) (done : Unit)
      (found : List Spoken) → DrainDoes g m old mid hands now (Ok done)
      → ReadsSpoken g mid.logs new.logs → new.base ≡ mid.base
      → AreSpoken g mid.logs new.logs found → WasDrained g old new
  was_drained old mid new hands now done found drain reads same are = record {
    was_open = open_before g old mid drain.answer.open_still are.was_open;
    is_open = ap (λ (l : LogsOf D). l.closed) reads.logs_are ∙ are.was_open;
    only = only_then old mid new drain.only (only_read g mid new reads same);
    no_failure = are.no_failure ∙ flt_stays g old mid drain.answer.open_still;
    first_same = ap (λ (l : LogsOf D). l.flt.first) reads.logs_are ∙ drain.first_same;
    at_end = subst (λ (l : LogsOf D). AreAtEnd l) (sym reads.logs_are) drain.answer.at_end;
  }

  cursor_read : (old new : LogsOf D) (i : ℕ) (h : HandOf M) → ReadsSpoken g old new
      → IsAtCursor m old i h → IsAtCursor m new i h
  cursor_read old new i h reads at = record {
    number_is = at.number_is;
    own_is = at.own_is;
    cursor_is = ap (λ (l : LogsOf D). slice_get l.cursors i) reads.logs_are ∙ at.cursor_is;
    from_base = subst (λ (n : ℕ). n ≤ h.cursor)
        (sym (ap (λ (l : LogsOf D). l.base) reads.logs_are)) at.from_base;
    to_end = subst (λ (n : ℕ). h.cursor ≤ n)
        (sym (ap (λ (l : LogsOf D). next_entry l) reads.logs_are)) at.to_end;
  }

  pub cursors_read : (old mid new : StoreOf D M) (hands now : List (HandOf M)) (done : Unit)
      → DrainDoes g m old mid hands now (Ok done) → ReadsSpoken g mid.logs new.logs
      → AreAtCursors m new.logs now
  cursors_read old mid new hands now done drain reads = record {
    as_many = drain.answer.at_cursors.as_many
        ∙ sym (ap (λ (l : LogsOf D). length l.cursors) reads.logs_are);
    each = λ i h got. cursor_read mid.logs new.logs i h reads
        (drain.answer.at_cursors.each i h got);
  }

  -- ---- refusals

  stopped_why : (log : DiskName) (old new : StoreOf D M) (hands now : List (HandOf M)) (one : ℕ)
      (h : HandOf M) (fault : StoreFault) → DrainDoes g m old new hands now (Err fault)
      → StoppedAt g m old new one h fault → TellRefused g m log old new hands fault
  stopped_why log old new hands now one h (Closed name failures) drain why = (why.0, why.1)
  stopped_why log old new hands now one h (Full kind) drain why =
      (open_before g old new why.0 why.1, (now, drain))
  stopped_why log old new hands now one h Disk drain why = (why.0, inl why.2)
  stopped_why log old new hands now one h NoMemory drain why = tt
  stopped_why log old new hands now one h (Damaged name place) drain why = absurd why
  stopped_why log old new hands now one h Exists drain why = absurd why

  -- why the drain stopped
  pub drain_why : (log : DiskName) (old new : StoreOf D M) (hands now : List (HandOf M))
      (fault : StoreFault) → DrainDoes g m old new hands now (Err fault)
      → TellRefused g m log old new hands fault
  drain_why log old new hands now fault drain = elim drain.answer.why [
    | inl wants ↦ subst (TellRefused g m log old new hands) (sym wants) tt
    | inr here ↦ stopped_why log old new hands now drain.answer.one here.0 fault drain here.2
  ]

  pub closed_why : (old mid new : StoreOf D M) (name : DiskName) (failures : ℕ)
      → StaysOpen g old mid → mid.logs.closed ≡ Some (name, failures) → new ≡ mid
      → (new ≡ old) × (old.logs.closed ≡ Some (name, failures))
  closed_why old mid new name failures (inl same) is now =
      (now ∙ same, ap (λ (s : StoreOf D M). s.logs.closed) (sym same) ∙ is)
  closed_why old mid new name failures (inr stays) is now = absurd (none_some stays.1 is)

  -- why the records were not read
  pub read_why : (old mid new : StoreOf D M) (hands : List (HandOf M)) (fault : StoreFault)
      → StaysOpen g old mid → new.base ≡ mid.base
      → UnreadLog g Flt mid.logs new.logs mid.logs.flt.disk new.logs.flt.disk fault
      → TellRefused g m Flt old new hands fault
  read_why old mid new hands (Closed name failures) stays same why =
      closed_why old mid new name failures stays why.0 (same_store mid new same why.1)
  read_why old mid new hands (Full kind) stays same why = absurd why
  read_why old mid new hands Disk stays same why = (
    open_before g old mid stays why.0,
    inl (subst (λ n. Rose n (g.failures new.logs.flt.disk)) (flt_stays g old mid stays) why.1),
  )
  read_why old mid new hands NoMemory stays same why = tt
  read_why old mid new hands (Damaged name place) stays same why =
      (open_before g old mid stays why.0, why.1)
  read_why old mid new hands Exists stays same why = absurd why

  -- a limit for which nothing is told is one of the book
  pub tell_full : (log : DiskName) (fresh : List ModuleState) (old new : StoreOf D M)
      (k : StoreBook) (hands : List (HandOf M)) (kind : FullKind) → StoreStandsFor g fresh old k
      → AllFollow m k.book hands → TellRefused g m log old new hands (Full kind)
      → DrainIsFull old.logs.flt.first k.book kind
  tell_full log fresh old new k hands kind st follow why =
      let stops : StopsFull g fresh old new k kind = why.1.1.limit fresh k st follow in
      record { works = stops.works; step = stops.step }

  -- ---- the book

  stopped_undamaged : (old new : StoreOf D M) (one : ℕ) (h : HandOf M) (fault : StoreFault)
      → StoppedAt g m old new one h fault → IsNoDamage fault
  stopped_undamaged old new one h (Closed name failures) why = tt
  stopped_undamaged old new one h (Full kind) why = tt
  stopped_undamaged old new one h Disk why = tt
  stopped_undamaged old new one h NoMemory why = tt
  stopped_undamaged old new one h (Damaged name place) why = absurd why
  stopped_undamaged old new one h Exists why = absurd why

  pub drain_undamaged : (old new : StoreOf D M) (now : List (HandOf M)) (fault : StoreFault)
      → IsStopped g m old new now fault → IsNoDamage fault
  drain_undamaged old new now fault stopped = elim stopped.why [
    | inl wants ↦ subst IsNoDamage (sym wants) tt
    | inr here ↦ stopped_undamaged old new stopped.one here.0 fault here.2
  ]

  -- the drain stopped
  pub stopped_book : {X : Type 0} → OnlyNow g → (fresh : List ModuleState) (log : DiskName)
      (old new : StoreOf D M) (k : StoreBook) (hands now : List (HandOf M)) (fault : StoreFault)
      (Told : StoreBook → X → Type 0) → DrainDoes g m old new hands now (Err fault)
      → DrainsOnBook g m fresh old new k now (Err fault)
      → TellsBook g fresh log old new k (Err fault) Told
  stopped_book only_now fresh log old new k hands now fault Told drain drains = record {
    done = tt;
    undamaged = drain_undamaged old new now fault drain.answer;
    after_drain = new;
    any_moment = drains.commits.any_moment;
    any_reading = moments_still g only_now log new (ReadsLike fresh k) drains.commits.left;
    left = drains.commits.left;
  }

  -- the drain came to the end, and the log was read or not
  pub read_book : {X : Type 0} (fresh : List ModuleState) (log : DiskName)
      (old mid new : StoreOf D M) (k : StoreBook) (now : List (HandOf M)) (done : Unit)
      (result : Result X StoreFault)
      (Told : StoreBook → X → Type 0) → StoreStandsFor g fresh old k
      → DrainsOnBook g m fresh old mid k now (Ok done) → AreAtEnd mid.logs
      → OnlyRead g (store_disk log mid) (store_disk log new)
      → ((b : StoreBook) → StoreStandsFor g fresh mid b → StoreStandsFor g fresh new b)
      → ((b : StoreBook) → StoreStandsFor g fresh mid b → HandsAreDone m b.book now
      → IsTrue (is_done b.book) → IfOk result (Told b))
      → ((b : StoreBook) → StoreStandsFor g fresh mid b → IfErr result IsNoDamage)
      → TellsBook g fresh log old new k result Told
  read_book fresh log old mid new k now done result Told st drains end read still tells
      undamaged =
      let w : StoreBook = store_after drains.works k in
      let stands : StoreStandsFor g fresh mid w = drains.commits.stands drains.is_open in
      let there : StoreStandsFor g fresh new w = still w stands in
      let is : IsDrainedOf k w =
      drained_of k drains.works st.lawful.lawful (done_at_end g fresh mid w stands end) in
      record {
        done = IfOk-weaker result (Told w) (StandsTold g fresh new k Told)
            (λ x told. record { now = w; stands = there; drained_is = is; told = told })
            (tells w stands drains.done is.done);
        undamaged = undamaged w stands;
        after_drain = mid;
        any_moment = drains.commits.any_moment;
        any_reading = moments_read g log mid new (ReadsLike fresh k) read drains.commits.left;
        left = λ c left. like_through fresh w k c refl is.alike
            (store_reads g fresh new w there c left);
      }

-- the text is of the drained book
pub faulty_is : (namespace : List ℕ) (k now : StoreBook) (rows : List ListEvent) (text : List ℕ)
    → IsDrainedOf k now → IsStatusOf (drained now.book) rows → text ≡ faulty_text namespace rows
    → IsFaultyOf namespace (drained k.book) text
faulty_is namespace k now rows text is status told = record {
  rows = rows;
  status = subst (λ (d : Drained). IsStatusOf d rows)
      (drained_same now.book k.book is.alike) status;
  text_is = told;
}
