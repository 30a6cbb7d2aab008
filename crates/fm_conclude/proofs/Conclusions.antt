-- What a drained store and a reading of its records come to.
use Rattle.std.proofs.Common.{◌≡◌, inl, inr, ℕ, ◌≤◌, ◌^◌, List, [], ◌∷◌, length, Option, Some, None}
use Rattle.std.proofs.Common.{Result, Ok, Err, IfOk, IfErr, OnOk, IsTrue, sym, ◌∙◌, ap, subst}
use Rattle.std.proofs.Common.{arith}
use Rattle.std.proofs.lemmas.Result.{IfOk-weaker, IfErr-weaker}
use Rattle.fm_outer.specs.Failures.{Rose}
use Rattle.fm_outer.specs.declared.disk.Disk.{Ghosts}
use Rattle.fm_outer.proofs.Moments.{OnlyNow}
use Rattle.fm_core.specs.Book.{ModuleState, is_done, next_number}
use Rattle.fm_core.specs.Drained.{Drained, drained}
use Rattle.fm_core.specs.Hands.{HandOf}
use Rattle.fm_core.specs.declared.module.Module.{Ghosts as ModuleGhosts}
use Rattle.fm_entry.specs.declared.entry.Entry.{Entry}
use Rattle.fm_logs.specs.Contents.{Contents}
use Rattle.fm_logs.specs.LogReads.{ReadsSpoken, UnreadLog}
use Rattle.fm_logs.specs.LogsOf.{LogsOf}
use Rattle.fm_logs.specs.StoreBook.{StoreBook}
use Rattle.fm_logs.specs.declared.disks.DiskName.{DiskName}
use Rattle.fm_logs.specs.declared.disks.DiskName.TheVariants.{Conf as ConfDisk, ErrA, ErrB, SlotA}
use Rattle.fm_logs.specs.declared.disks.DiskName.TheVariants.{SlotB, Flt}
use Rattle.fm_logs.specs.declared.fault.StoreFault.{StoreFault}
use Rattle.fm_logs.specs.declared.fault.StoreFault.TheVariants.{Disk, Full, Closed, NoMemory}
use Rattle.fm_logs.specs.declared.fault.StoreFault.TheVariants.{Damaged, Exists}
use Rattle.fm_store.specs.StoreCalls.{next_entry, saves_of, AreAtEnd, HandsAreDone, NextRefused}
use Rattle.fm_store.specs.StoreLeft.{ReadsLike, StoreIsLeft, store_based}
use Rattle.fm_store.specs.StoreOf.{StoreOf, StoreStandsFor}
use Rattle.fm_store.specs.StoreReading.{IsNoDamage}
use Rattle.fm_store.proofs.StoreMoves.{done_at_end}
use Rattle.fm_drain.specs.DrainCalls.{DrainDoes, store_after}
use Rattle.fm_drain.proofs.Left.{moments_read, moments_still}
use Rattle.fm_drain.specs.BaseLimits.{BaseLimit, figures_of}
use Rattle.fm_drain.specs.ToBase.{CheckpointFollows, IsAtBase, ToBaseBy, ToBaseOnBook}
use Rattle.fm_drain.specs.ToBase.{ToBaseRefused, IsBasedOf}
use Rattle.fm_conclude.specs.Concluding.{ConcludeRefused, ConcludesBook, FullAtLimit, IsConcluded}
use Rattle.fm_conclude.specs.Concluding.{NoDiskFailed, StandsConcluded, TellsOf}
use Rattle.fm_conclude.specs.declared.concluding.Conclusion.{Conclusion}
use Rattle.fm_conclude.proofs.Counts.{others_read}
use Rattle.fm_core.proofs.Options.{none_some}
use Rattle.fm_drain.proofs.BasedBooks.{drained_same}

err_ok : {X Y : Type 0} {x : X} {y : Y} → Err y ≡ Ok x → ⊥
err_ok same = cc

-- a store that stands for a book has as many entries as the book
pub count_of : {D M : Type 0} (g : Ghosts D) (fresh : List ModuleState) (store : StoreOf D M)
    (k : StoreBook) → StoreStandsFor g fresh store k → next_entry store.logs ≡ next_number k.book
count_of g fresh store k st =
    let base : store.logs.base ≡ k.book.base = st.base_is in
    let count : length store.logs.entries ≡ length k.book.entries = ap length st.entries_are in
    omega (arith, base, count)

module _ {D M : Type 0} (g : Ghosts D) where
  -- ---- refusals

  -- why the drain or the checkpoint was refused
  pub base_refused : (old new : StoreOf D M) (fault : StoreFault) → ToBaseRefused g old new fault
      → ConcludeRefused g old new fault
  base_refused old new (Closed name failures) why = why
  base_refused old new (Full kind) why = why
  base_refused old new Disk why = (why.was_open, (why.name, why.rose))
  base_refused old new NoMemory why = why
  base_refused old new (Damaged name place) why = absurd why
  base_refused old new Exists why = absurd why

  base_undamaged : (old new : StoreOf D M) (fault : StoreFault) → ToBaseRefused g old new fault
      → IsNoDamage fault
  base_undamaged old new (Closed name failures) why = tt
  base_undamaged old new (Full kind) why = tt
  base_undamaged old new Disk why = tt
  base_undamaged old new NoMemory why = tt
  base_undamaged old new (Damaged name place) why = absurd why
  base_undamaged old new Exists why = absurd why

  -- why the records were not read, or what is told of them not made
  read_refused : (old mid new : StoreOf D M) (fault : StoreFault) → old.logs.closed ≡ None
      → mid.logs.closed ≡ None → NoDiskFailed g old mid
      → UnreadLog g Flt mid.logs new.logs mid.logs.flt.disk new.logs.flt.disk fault
      → ConcludeRefused g old new fault
  read_refused old mid new (Closed name failures) was is quiet why =
      absurd (none_some is why.0)
  read_refused old mid new (Full kind) was is quiet why = absurd why
  read_refused old mid new Disk was is quiet why =
      (was, (Flt, subst (λ n. Rose n (g.failures new.logs.flt.disk)) (quiet Flt) why.1))
  read_refused old mid new NoMemory was is quiet why = was
  read_refused old mid new (Damaged name place) was is quiet why = (was, why.1)
  read_refused old mid new Exists was is quiet why = absurd why

  pub reads_refused : (old mid new : StoreOf D M) (result : Result Conclusion StoreFault)
      → old.logs.closed ≡ None → mid.logs.closed ≡ None → NoDiskFailed g old mid
      → IfErr result (UnreadLog g Flt mid.logs new.logs mid.logs.flt.disk new.logs.flt.disk)
      → IfErr result (ConcludeRefused g old new)
  reads_refused old mid new result was is quiet why =
      IfErr-weaker result
      (UnreadLog g Flt mid.logs new.logs mid.logs.flt.disk new.logs.flt.disk)
      (ConcludeRefused g old new) (λ fault. read_refused old mid new fault was is quiet) why

  -- ---- what is left

  -- what is left after a reading was left before it
  left_before : (old new : StoreOf D M) (c : Contents) → ReadsSpoken g old.logs new.logs
      → new.base ≡ old.base → StoreIsLeft g new c → StoreIsLeft g old c
  left_before old new c reads same left ConfDisk =
      subst (λ (d : D). g.images d c.conf)
      (others_read g old new reads same ConfDisk (λ is. cc is)) (left ConfDisk)
  left_before old new c reads same left ErrA =
      subst (λ (d : D). g.images d c.err_a)
      (others_read g old new reads same ErrA (λ is. cc is)) (left ErrA)
  left_before old new c reads same left ErrB =
      subst (λ (d : D). g.images d c.err_b)
      (others_read g old new reads same ErrB (λ is. cc is)) (left ErrB)
  left_before old new c reads same left SlotA =
      subst (λ (d : D). g.images d c.slot_a)
      (others_read g old new reads same SlotA (λ is. cc is)) (left SlotA)
  left_before old new c reads same left SlotB =
      subst (λ (d : D). g.images d c.slot_b)
      (others_read g old new reads same SlotB (λ is. cc is)) (left SlotB)
  left_before old new c reads same left Flt = reads.still.no_more c.flt (left Flt)

module _ {D M : Type 0} (g : Ghosts D) (m : ModuleGhosts M) where
  -- ---- limits

  full_drain : (old mid new : StoreOf D M) (hands now : List (HandOf M))
      (answer : Result Unit StoreFault) (fault : StoreFault)
      → DrainDoes g m old mid hands now answer
      → CheckpointFollows g m mid new now answer (Err fault)
      → FullAtLimit g m old new hands fault
  full_drain old mid new hands now (Ok done) (Full kind) drain writes = record {
    now = now;
    at = inr (
      subst (λ (s : StoreOf D M). DrainDoes g m old s hands now (Ok done)) (sym writes.0) drain,
      subst (λ (s : StoreOf D M). NextRefused s s.logs.second (saves_of m now) (Full kind))
          (sym writes.0) writes.1,
    );
  }
  full_drain old mid new hands now (Err stop) (Full kind) drain writes = record {
    now = now;
    at = inl (subst (λ (s : StoreOf D M). DrainDoes g m old s hands now (Err (Full kind)))
        (sym writes.0) (subst (λ (r : Result Unit StoreFault). DrainDoes g m old mid hands now r)
        (sym writes.1) drain));
  }
  full_drain old mid new hands now answer (Closed name failures) drain writes = tt
  full_drain old mid new hands now answer Disk drain writes = tt
  full_drain old mid new hands now answer NoMemory drain writes = tt
  full_drain old mid new hands now answer (Damaged name place) drain writes = tt
  full_drain old mid new hands now answer Exists drain writes = tt

  pub full_by : (closed : Option (DiskName × ℕ)) (es : List Entry) (old new : StoreOf D M)
      (hands now : List (HandOf M)) (fault : StoreFault)
      → ToBaseBy closed es g m old new hands now (Err fault)
      → FullAtLimit g m old new hands fault
  full_by (Some failed) es old new hands now fault does =
      subst (λ (r : Result Unit StoreFault). IfErr r (FullAtLimit g m old new hands)) (sym does.2)
      tt
  full_by None [] old new hands now fault does = absurd (err_ok does.2)
  full_by None (e ∷ es) old new hands now fault does =
      full_drain old does.after_drain new hands now does.answer fault does.drain does.checkpoint

  -- no limit keeps records from being read
  read_full : (old mid new : StoreOf D M) (hands : List (HandOf M)) (fault : StoreFault)
      → UnreadLog g Flt mid.logs new.logs mid.logs.flt.disk new.logs.flt.disk fault
      → FullAtLimit g m old new hands fault
  read_full old mid new hands (Full kind) why = absurd why
  read_full old mid new hands (Closed name failures) why = tt
  read_full old mid new hands Disk why = tt
  read_full old mid new hands NoMemory why = tt
  read_full old mid new hands (Damaged name place) why = tt
  read_full old mid new hands Exists why = tt

  pub reads_full : (old mid new : StoreOf D M) (hands : List (HandOf M))
      (result : Result Conclusion StoreFault)
      → IfErr result (UnreadLog g Flt mid.logs new.logs mid.logs.flt.disk new.logs.flt.disk)
      → IfErr result (FullAtLimit g m old new hands)
  reads_full old mid new hands result why =
      IfErr-weaker result
      (UnreadLog g Flt mid.logs new.logs mid.logs.flt.disk new.logs.flt.disk)
      (FullAtLimit g m old new hands) (read_full old mid new hands) why

  -- ---- the end

  -- a reading leaves the store open, with its base at its end
  still_concluded : (old mid new : StoreOf D M) (now : List (HandOf M))
      → IsAtBase m old mid now → ReadsSpoken g mid.logs new.logs
      → next_entry new.logs ≤ 2 ^ 46 → IsConcluded old new
  still_concluded old mid new now base reads few = record {
    was_open = base.was_open;
    is_open = ap (λ (l : LogsOf D). l.closed) reads.logs_are ∙ base.is_open;
    base_is = ap (λ (l : LogsOf D). l.base) reads.logs_are ∙ base.base_is;
    none_left = ap (λ (l : LogsOf D). l.entries) reads.logs_are ∙ base.none_left;
    at_end = subst (λ (l : LogsOf D). AreAtEnd l) (sym reads.logs_are) base.at_end;
    few = few;
  }

  pub concluded_told : (old mid new : StoreOf D M) (now : List (HandOf M))
      (result : Result Conclusion StoreFault) → IsAtBase m old mid now
      → ReadsSpoken g mid.logs new.logs → OnOk result (next_entry new.logs ≤ 2 ^ 46)
      → OnOk result (IsConcluded old new)
  concluded_told old mid new now (Ok told) base reads few =
      still_concluded old mid new now base reads few
  concluded_told old mid new now (Err fault) base reads few = tt

  -- ---- the book

  -- the drain or the checkpoint was refused
  pub refused_book : OnlyNow g → (fresh : List ModuleState) (old new : StoreOf D M)
      (k : StoreBook) (now : List (HandOf M)) (fault : StoreFault)
      → ToBaseRefused g old new fault → ToBaseOnBook g m fresh old new k now (Err fault)
      → ConcludesBook g fresh old new k (Err fault)
  refused_book only_now fresh old new k now fault why book = record {
    done = tt;
    undamaged = base_undamaged g old new fault why;
    limit = book.limit;
    after_drain = book.after_drain;
    after_base = new;
    any_moment = book.any_moment;
    any_later = book.any_later;
    any_reading = moments_still g only_now Flt new (ReadsLike fresh k) book.left;
    left = book.left;
  }

  read_limit : (old mid new : StoreOf D M) (k : StoreBook) (fault : StoreFault)
      → UnreadLog g Flt mid.logs new.logs mid.logs.flt.disk new.logs.flt.disk fault
      → BaseLimit (figures_of old) k fault
  read_limit old mid new k (Full kind) why = absurd why
  read_limit old mid new k (Closed name failures) why = tt
  read_limit old mid new k Disk why = tt
  read_limit old mid new k NoMemory why = tt
  read_limit old mid new k (Damaged name place) why = tt
  read_limit old mid new k Exists why = tt

  -- of the book that was drained it is told
  pub told_book : (fresh : List ModuleState) (old mid new : StoreOf D M) (k : StoreBook)
      (now : List (HandOf M)) (done : Unit) (result : Result Conclusion StoreFault)
      → ToBaseOnBook g m fresh old mid k now (Ok done) → AreAtEnd mid.logs
      → ReadsSpoken g mid.logs new.logs → new.base ≡ mid.base
      → ((b : StoreBook) → StoreStandsFor g fresh mid b → StoreStandsFor g fresh new b)
      → ((b : StoreBook) → StoreStandsFor g fresh mid b → HandsAreDone m b.book now
      → IsTrue (is_done b.book) → IfOk result (TellsOf (drained b.book)))
      → ((b : StoreBook) → StoreStandsFor g fresh mid b → IfErr result IsNoDamage)
      → IfErr result (UnreadLog g Flt mid.logs new.logs mid.logs.flt.disk new.logs.flt.disk)
      → ConcludesBook g fresh old new k result
  told_book fresh old mid new k now done result book end reads same still tells undamaged why =
      let based : StoreBook = store_based (store_after book.works k) in
      let stands : StoreStandsFor g fresh mid based = book.at_base.stands in
      let based_is : IsBasedOf k based = book.at_base.based_is in
      let told : IfOk result (TellsOf (drained based.book)) =
      tells based stands book.at_base.done (done_at_end g fresh mid based stands end) in
      record {
        done = IfOk-weaker result (TellsOf (drained based.book)) (StandsConcluded g fresh new k)
            (λ c each. record {
              based = based;
              stands = still based stands;
              based_is = based_is;
              tells = subst (λ (d : Drained). TellsOf d c)
                  (drained_same based.book k.book based_is.alike) each;
            }) told;
        undamaged = undamaged based stands;
        limit = IfErr-weaker result
            (UnreadLog g Flt mid.logs new.logs mid.logs.flt.disk new.logs.flt.disk)
            (BaseLimit (figures_of old) k) (read_limit old mid new k) why;
        after_drain = book.after_drain;
        after_base = mid;
        any_moment = book.any_moment;
        any_later = book.any_later;
        any_reading = moments_read g Flt mid new (ReadsLike fresh k) reads.still book.left;
        left = λ c left. book.left c (left_before g mid new c reads same left);
      }
