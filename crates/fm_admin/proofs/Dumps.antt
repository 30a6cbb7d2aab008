-- What a drain and a reading of a log to its text come to.
use Rattle.std.proofs.Common.{◌≡◌, inr, ℕ, ◌+◌, ◌-◌, List, length, Result}
use Rattle.std.proofs.Common.{Ok}
use Rattle.std.proofs.Common.{Err, IfOk, IfErr, OnOk, refl, sym, ◌∙◌, ap, subst, arith}
use Rattle.std.proofs.lemmas.List.{length-append}
use Rattle.std.proofs.lemmas.Result.{IfErr-weaker}
use Rattle.fm_outer.specs.Failures.{Rose}
use Rattle.fm_outer.specs.Moments.{OnlyRead}
use Rattle.fm_outer.specs.declared.disk.Disk.{Ghosts}
use Rattle.fm_core.specs.Book.{Book, ModuleState, next_number}
use Rattle.fm_core.specs.Hands.{HandOf}
use Rattle.fm_core.specs.declared.module.Module.{Ghosts as ModuleGhosts}
use Rattle.fm_drain.specs.DrainCalls.{DrainDoes, OnlyCommitted}
use Rattle.fm_drain.proofs.StepLaws.{same_store}
use Rattle.fm_dump.specs.Errors.{errors_text}
use Rattle.fm_dump.specs.declared.options.DumpOptions.{DumpOptions}
use Rattle.fm_entry.specs.declared.entry.Entry.{Entry}
use Rattle.fm_logs.specs.LogReads.{ReadsLogged, ReadsSpoken, UnreadLog}
use Rattle.fm_logs.specs.LogsOf.{LogsOf, name_of_two}
use Rattle.fm_logs.specs.StoreBook.{StoreBook}
use Rattle.fm_logs.specs.declared.disks.DiskName.TheVariants.{Flt}
use Rattle.fm_logs.specs.declared.fault.StoreFault.{StoreFault}
use Rattle.fm_logs.specs.declared.fault.StoreFault.TheVariants.{Disk, Full, Closed, NoMemory}
use Rattle.fm_logs.specs.declared.fault.StoreFault.TheVariants.{Damaged, Exists}
use Rattle.fm_store.specs.StoreCalls.{next_entry}
use Rattle.fm_store.specs.StoreLeft.{store_disk}
use Rattle.fm_store.specs.StoreOf.{StoreOf, StoreStandsFor}
use Rattle.fm_store.specs.StoreReading.{HasLogged}
use Rattle.fm_store.proofs.StoreAccepts.{active_disk}
use Rattle.fm_admin.specs.Dumping.{DumpsErrors, IsErrorsOf, IsErrorsText, IsFaultsOf}
use Rattle.fm_admin.specs.Telling.{TellRefused, WasDrained}
use Rattle.fm_admin.proofs.Tellings.{closed_why, drained_open, open_before, read_why, was_drained}

-- a store that stands for a book has as many entries as the book
count_of : {D M : Type 0} (g : Ghosts D) (fresh : List ModuleState) (store : StoreOf D M)
    (k : StoreBook) → StoreStandsFor g fresh store k → next_entry store.logs ≡ next_number k.book
count_of g fresh store k st =
    let base : store.logs.base ≡ k.book.base = st.base_is in
    let count : length store.logs.entries ≡ length k.book.entries = ap length st.entries_are in
    omega (arith, base, count)

-- the number of the first of some entries, of which the last is the last ever
first_is : (first n : ℕ) (k : Book) (found : List Entry) → n ≡ next_number k
    → HasLogged first k found → n - length found ≡ first
first_is first n k found count logged =
    let all : length found ≡ length logged.older + length k.entries =
    ap length logged.found_are ∙ length-append logged.older k.entries in
    let begins : first + length logged.older ≡ k.base = logged.begins in
    omega (arith, count, all, begins)

pub errors_told : {D M : Type 0} (g : Ghosts D) (fresh : List ModuleState) (store : StoreOf D M)
    (k : StoreBook) (options : DumpOptions) (first n : ℕ) (found : List Entry) (text : List ℕ)
    → StoreStandsFor g fresh store k → n ≡ next_entry store.logs → HasLogged first k.book found
    → text ≡ errors_text options (n - length found) found
    → IsErrorsText options first k.book text
errors_told g fresh store k options first n found text st count logged told = record {
  found = found;
  logged = logged;
  text_is = told ∙ ap (λ (i : ℕ). errors_text options i found)
      (first_is first n k.book found (count ∙ count_of g fresh store k st) logged);
}

module _ {D M : Type 0} (g : Ghosts D) (m : ModuleGhosts M) where
  -- ---- the fault log

  pub faults_drained : {T E : Type 0} (old mid new : StoreOf D M) (hands now : List (HandOf M))
      (done : Unit) (options : DumpOptions) (namespace : List ℕ) (bytes : T → List ℕ)
      (result : Result T E) → DrainDoes g m old mid hands now (Ok done)
      → ReadsSpoken g mid.logs new.logs → new.base ≡ mid.base
      → IfOk result (λ text. IsFaultsOf g options namespace mid.logs new.logs (bytes text))
      → OnOk result (WasDrained g old new)
  faults_drained old mid new hands now done options namespace bytes (Ok text) drain reads same
      is = was_drained g m old mid new hands now done is.found drain reads same is.are
  faults_drained old mid new hands now done options namespace bytes (Err fault) drain reads same
      is = tt

  pub faults_refused : {X : Type 0} (old mid new : StoreOf D M) (hands now : List (HandOf M))
      (done : Unit) (result : Result X StoreFault) → DrainDoes g m old mid hands now (Ok done)
      → new.base ≡ mid.base
      → IfErr result (UnreadLog g Flt mid.logs new.logs mid.logs.flt.disk new.logs.flt.disk)
      → IfErr result (TellRefused g m Flt old new hands)
  faults_refused old mid new hands now done result drain same why =
      IfErr-weaker result
      (UnreadLog g Flt mid.logs new.logs mid.logs.flt.disk new.logs.flt.disk)
      (TellRefused g m Flt old new hands)
      (λ fault. read_why g m old mid new hands fault drain.answer.open_still same) why

  -- ---- the active error journal

  pub errors_dumped : {T E : Type 0} (old mid new : StoreOf D M) (hands now : List (HandOf M))
      (done : Unit) (options : DumpOptions) (bytes : T → List ℕ) (result : Result T E)
      → DrainDoes g m old mid hands now (Ok done) → ReadsLogged g mid.logs new.logs
      → new.base ≡ mid.base
      → IfOk result (λ text. IsErrorsOf g options mid.logs new.logs (bytes text))
      → IfOk result (λ text. DumpsErrors g options old new (bytes text))
  errors_dumped old mid new hands now done options bytes (Ok text) drain reads same is = record {
    between = mid;
    drained = drained_open g m old mid hands now done drain is.are.was_open;
    base_same = same;
    reads = reads;
    is = is;
  }
  errors_dumped old mid new hands now done options bytes (Err fault) drain reads same is = tt

  -- the first number of the active error journal is the same before a drain
  pub errors_first : {T E : Type 0} (old mid : StoreOf D M) (b : StoreBook)
      (options : DumpOptions) (bytes : T → List ℕ) (result : Result T E) → OnlyCommitted old mid
      → IfOk result
      (λ text. IsErrorsText options mid.logs.active.first b.book (bytes text))
      → IfOk result (λ text. IsErrorsText options old.logs.active.first b.book (bytes text))
  errors_first old mid b options bytes result only told =
      subst (λ (n : ℕ). IfOk result (λ text. IsErrorsText options n b.book (bytes text)))
      (ap (λ (s : StoreOf D M). s.logs.active.first) only) told

  -- the disk of the log was read
  pub log_read : (old mid new : StoreOf D M) → mid.logs.second ≡ old.logs.second
      → ReadsLogged g mid.logs new.logs
      → OnlyRead g (store_disk (name_of_two old.logs.second) mid)
      (store_disk (name_of_two old.logs.second) new)
  log_read old mid new second reads =
      subst (λ (d : D). OnlyRead g d (store_disk (name_of_two old.logs.second) new))
      (sym (active_disk g old.logs.second mid second))
      (subst (λ (d : D). OnlyRead g mid.logs.active.disk d)
      (sym (active_disk g old.logs.second new
      (ap (λ (l : LogsOf D). l.second) reads.logs_are ∙ second))) reads.still)

  errors_why : (old mid new : StoreOf D M) (hands now : List (HandOf M)) (done : Unit)
      (fault : StoreFault) → DrainDoes g m old mid hands now (Ok done) → new.base ≡ mid.base
      → ReadsLogged g mid.logs new.logs
      → UnreadLog g (name_of_two mid.logs.second) mid.logs new.logs mid.logs.active.disk
      new.logs.active.disk fault
      → TellRefused g m (name_of_two old.logs.second) old new hands fault
  errors_why old mid new hands now done (Closed name failures) drain same reads why =
      closed_why g m old mid new name failures drain.answer.open_still why.0
      (same_store mid new same why.1)
  errors_why old mid new hands now done (Full kind) drain same reads why = absurd why
  errors_why old mid new hands now done Disk drain same reads why =
      let second : mid.logs.second ≡ old.logs.second =
      ap (λ (s : StoreOf D M). s.logs.second) drain.only in
      let was : store_disk (name_of_two old.logs.second) old ≡ mid.logs.active.disk =
      active_disk g old.logs.second old refl
      ∙ sym (ap (λ (s : StoreOf D M). s.logs.active.disk) drain.only) in
      let is : store_disk (name_of_two old.logs.second) new ≡ new.logs.active.disk =
      active_disk g old.logs.second new
      (ap (λ (l : LogsOf D). l.second) reads.logs_are ∙ second) in (
        open_before g old mid drain.answer.open_still why.0,
        inr (subst (λ (d : D). Rose (g.failures d)
            (g.failures (store_disk (name_of_two old.logs.second) new))) (sym was)
            (subst (λ (d : D). Rose (g.failures mid.logs.active.disk) (g.failures d)) (sym is)
            why.1)),
      )
  errors_why old mid new hands now done NoMemory drain same reads why = tt
  errors_why old mid new hands now done (Damaged name place) drain same reads why = (
    open_before g old mid drain.answer.open_still why.0,
    why.1 ∙ ap (λ (s : StoreOf D M). name_of_two s.logs.second) drain.only,
  )
  errors_why old mid new hands now done Exists drain same reads why = absurd why

  pub errors_refused : {X : Type 0} (old mid new : StoreOf D M) (hands now : List (HandOf M))
      (done : Unit) (result : Result X StoreFault) → DrainDoes g m old mid hands now (Ok done)
      → new.base ≡ mid.base → ReadsLogged g mid.logs new.logs
      → IfErr result (UnreadLog g (name_of_two mid.logs.second) mid.logs new.logs
      mid.logs.active.disk new.logs.active.disk)
      → IfErr result (TellRefused g m (name_of_two old.logs.second) old new hands)
  errors_refused old mid new hands now done result drain same reads why =
      IfErr-weaker result (UnreadLog g (name_of_two mid.logs.second) mid.logs new.logs
      mid.logs.active.disk new.logs.active.disk)
      (TellRefused g m (name_of_two old.logs.second) old new hands)
      (λ fault. errors_why old mid new hands now done fault drain same reads) why
