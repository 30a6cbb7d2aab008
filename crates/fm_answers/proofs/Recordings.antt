-- One entry that a store takes, or refuses.
use Rattle.std.proofs.Common.{◌≡◌, ℕ, Bool, true, false, List, [], ◌∷◌, length}
use Rattle.std.proofs.Common.{None, Some, Result, Ok, Err, refl, sym, ◌∙◌, ap, subst}
use Rattle.std.proofs.Common.{append-nil}
use Rattle.std.proofs.lemmas.List.Elements.{All-cons, All-nil}
use Rattle.fm_answers.specs.Refusing.{TakeStops}
use Rattle.fm_answers.specs.Stops.{of_store}
use Rattle.fm_answers.specs.declared.stops.Stop.TheVariants.{Full}
use Rattle.fm_core.specs.Book.{ModuleState, IsAdmitted}
use Rattle.fm_core.proofs.Runs.{lawful_accepted}
use Rattle.fm_entry.specs.Entries.{IsSpelled, is_reload}
use Rattle.fm_entry.specs.declared.entry.Entry.{Entry}
use Rattle.fm_entry.specs.declared.entry.Entry.TheVariants.{Reload}
use Rattle.fm_logs.specs.LogsOf.{LogsOf, TakesEntry, AcceptDoes, name_of_two}
use Rattle.fm_logs.specs.StoreBook.{StoreBook, IsLawfulStore, ReloadsRise, force_along}
use Rattle.fm_logs.specs.StoreBook.{store_accepted}
use Rattle.fm_logs.specs.declared.disks.DiskName.{DiskName}
use Rattle.fm_logs.specs.declared.disks.DiskName.TheVariants.{Conf, ErrA, ErrB, SlotA, SlotB, Flt}
use Rattle.fm_logs.specs.declared.fault.StoreFault.{StoreFault}
use Rattle.fm_logs.specs.declared.fault.StoreFault.TheVariants as store
use Rattle.fm_looks.proofs.Reloads.{rise_push}
use Rattle.fm_outer.specs.Failures.{Rose}
use Rattle.fm_outer.specs.declared.disk.Disk.{Ghosts}
use Rattle.fm_store.specs.StoreCalls.{AcceptsOnBook}
use Rattle.fm_store.specs.StoreLeft.{store_disk, EachLeft, ReadsLikeEither}
use Rattle.fm_drain.specs.BaseLimits.{figures_of}
use Rattle.fm_store.specs.StoreOf.{newest_sequence, StoreOf, StoreBaseOf, StoreStandsFor, of_two}
use Rattle.fm_store.proofs.StoreAccepts.{active_disk}
use Rattle.fm_answers.specs.Recording.{Recorded}
use Rattle.fm_answers.specs.RecordingLaws.{recorded_none, with_none}

-- an entry that is no Reload may come at any place
no_reload : (known n : ℕ) (e : Entry) → is_reload e ≡ false → ReloadsRise known n (e ∷ [])
no_reload known n (Reload conf moment) none = absurd (let no : ⊥ = cc in no)
no_reload known n _ none = tt

-- a lawful book with an entry that is admitted is lawful
pub lawful_with : (k : StoreBook) (e : Entry) → IsLawfulStore k → IsAdmitted e
    → IsLawfulStore (store_accepted k e)
lawful_with k e h admitted = record {
  some_confs = h.some_confs;
  few_confs = h.few_confs;
  confs_are = h.confs_are;
  known = h.known;
  of_conf = h.of_conf;
  reloads = rise_push (length k.confs) k.in_force k.book.entries e h.reloads
      (no_reload (length k.confs) (force_along k.in_force k.book.entries) e admitted.no_reload);
  lawful = lawful_accepted k.book e h.lawful;
}

module _ {D : Type 0} (g : Ghosts D) where
  two_counts : (second : Bool) (a b one other : D) → g.failures b ≡ g.failures a
      → g.failures other ≡ g.failures one
      → g.failures (of_two second b other) ≡ g.failures (of_two second a one)
  two_counts true a b one other same others = others
  two_counts false a b one other same others = same

  two_counts_back : (second : Bool) (a b one other : D) → g.failures b ≡ g.failures a
      → g.failures other ≡ g.failures one
      → g.failures (of_two second other b) ≡ g.failures (of_two second one a)
  two_counts_back true a b one other same others = same
  two_counts_back false a b one other same others = others

module _ {D M : Type 0} (g : Ghosts D) where
  -- what is said of the book, by the answer
  abbrev pub OnBook : StoreOf D M → StoreOf D M → Entry → Result ℕ StoreFault → Type 0
  OnBook old new e result =
      (fresh : List ModuleState) (k : StoreBook) → StoreStandsFor g fresh old k
      → IsLawfulStore (store_accepted k e) → AcceptsOnBook g fresh old new k e result

  -- no count of a disk rose
  pub counts_taken : (old new : StoreOf D M) (e : Entry) (n : ℕ) → new.base ≡ old.base
      → TakesEntry g old.logs new.logs e n → (name : DiskName)
      → g.failures (store_disk name new) ≡ g.failures (store_disk name old)
  counts_taken old new e n base takes Conf =
      ap (λ (b : StoreBaseOf D M). g.failures b.conf.disk) base
  counts_taken old new e n base takes SlotA =
      ap (λ (b : StoreBaseOf D M). g.failures b.slot_a) base
  counts_taken old new e n base takes SlotB =
      ap (λ (b : StoreBaseOf D M). g.failures b.slot_b) base
  counts_taken old new e n base takes Flt =
      ap (λ (l : LogsOf D). g.failures l.flt.disk) takes.logs_are
  counts_taken old new e n base takes ErrA =
      ap (λ (s : Bool). g.failures (of_two s new.logs.active.disk new.base.spare))
      (ap (λ (l : LogsOf D). l.second) takes.logs_are)
      ∙ two_counts g old.logs.second old.logs.active.disk new.logs.active.disk old.base.spare
      new.base.spare takes.no_failure (ap (λ (b : StoreBaseOf D M). g.failures b.spare) base)
  counts_taken old new e n base takes ErrB =
      ap (λ (s : Bool). g.failures (of_two s new.base.spare new.logs.active.disk))
      (ap (λ (l : LogsOf D). l.second) takes.logs_are)
      ∙ two_counts_back g old.logs.second old.logs.active.disk new.logs.active.disk old.base.spare
      new.base.spare takes.no_failure (ap (λ (b : StoreBaseOf D M). g.failures b.spare) base)

  -- the figures of stores with these parts
  figures_by : (old new : StoreOf D M) → new.logs.flt.first ≡ old.logs.flt.first
      → new.base ≡ old.base → new.logs.second ≡ old.logs.second → figures_of new ≡ figures_of old
  figures_by old new first base second = λ i. record {
    flt_first = first i;
    sequence = newest_sequence (base i).newest;
    second = second i;
  }

  -- an entry was taken
  pub taken_one : (old new : StoreOf D M) (e : Entry) (n : ℕ) → IsAdmitted e
      → AcceptDoes g old.logs new.logs e (Ok n) → new.base ≡ old.base → OnBook old new e (Ok n)
      → Recorded g old new (e ∷ []) None
  taken_one old new e n admitted takes base on_book = record {
    counts = counts_taken old new e n base takes;
    base_is = ap (λ (l : LogsOf D). l.base) takes.logs_are;
    entries_are = ap (λ (l : LogsOf D). l.entries) takes.logs_are;
    cursors_are = ap (λ (l : LogsOf D). l.cursors) takes.logs_are;
    figures_are = figures_by old new (ap (λ (l : LogsOf D). l.flt.first) takes.logs_are) base
        (ap (λ (l : LogsOf D). l.second) takes.logs_are);
    spelled = All-cons IsSpelled e [] admitted.spelled (All-nil IsSpelled);
    last_spelled = tt;
    logs = takes.keeps;
    book = λ fresh k st. (on_book fresh k st (lawful_with k e st.lawful admitted)).stands;
  }

  -- a store with the same logs and the same base is the same
  same_store : (old new : StoreOf D M) → new.logs ≡ old.logs → new.base ≡ old.base → new ≡ old
  same_store old new logs base = λ i. record { logs = logs i; base = base i }

  -- an entry was not taken
  pub refused_one : (old new : StoreOf D M) (e : Entry) (fault : StoreFault) → IsAdmitted e
      → old.logs.closed ≡ None → AcceptDoes g old.logs new.logs e (Err fault)
      → new.base ≡ old.base → OnBook old new e (Err fault)
      → TakeStops (Recorded g old new) e (of_store fault)
  refused_one old new e store.NoMemory admitted is_open (logs, was_open) base on_book =
      subst (λ s. Recorded g old s [] None) (sym (same_store old new logs base))
      (recorded_none g old)
  refused_one old new e (store.Full kind) admitted is_open (logs, was_open, full) base on_book =
      subst (λ s. Recorded g old s [] (Some (Full kind, e))) (sym (same_store old new logs base))
      (record {
        counts = λ name. refl;
        base_is = refl;
        entries_are = sym (append-nil old.logs.entries);
        cursors_are = refl;
        figures_are = refl;
        spelled = All-nil IsSpelled;
        last_spelled = tt;
        logs = (λ older records keep. keep, full);
        book = λ fresh k st. subst (StoreStandsFor g fresh old) (sym (with_none k)) st;
      })
  refused_one old new e store.Disk admitted is_open (can, closes) base on_book =
      let second = ap (λ (l : LogsOf D). l.second) closes.logs_are in
      record {
        counts = (
          name_of_two old.logs.second,
          subst (λ (d : D). Rose (g.failures d)
              (g.failures (store_disk (name_of_two old.logs.second) new)))
              (sym (active_disk g old.logs.second old refl))
              (subst (λ (d : D). Rose (g.failures old.logs.active.disk) (g.failures d))
              (sym (active_disk g old.logs.second new second)) closes.rose),
        );
        base_is = ap (λ (l : LogsOf D). l.base) closes.logs_are;
        entries_are = ap (λ (l : LogsOf D). l.entries) closes.logs_are
            ∙ sym (append-nil old.logs.entries);
        cursors_are = ap (λ (l : LogsOf D). l.cursors) closes.logs_are;
        figures_are = figures_by old new (ap (λ (l : LogsOf D). l.flt.first) closes.logs_are) base
            second;
        spelled = All-nil IsSpelled;
        last_spelled = admitted.spelled;
        logs = tt;
        book = λ fresh k st.
            subst (λ x. EachLeft g new (ReadsLikeEither fresh x (store_accepted k e)))
            (sym (with_none k))
            (on_book fresh k st (lawful_with k e st.lawful admitted)).left;
      }
  refused_one old new e (store.Closed name failures) admitted is_open (logs, closed) base on_book =
      absurd (let no : ⊥ = cc in no)
  refused_one old new e (store.Damaged disk place) admitted is_open does base on_book = absurd does
  refused_one old new e store.Exists admitted is_open does base on_book = absurd does
