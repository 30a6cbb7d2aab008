-- From an open store that `fmd -1` works to what its disks hold.
use Rattle.std.proofs.Common.{◌≡◌, inl, inr, ℕ, ◌+◌, ◌≤◌, List, [], Bool, true}
use Rattle.std.proofs.Common.{false, length, Some, None, Result, Ok, Err, refl, sym, ◌∙◌}
use Rattle.std.proofs.Common.{subst, arith}
use Rattle.std.specs.Prelude.{MatchResult}
use Rattle.dx_engine.specs.Diagnosers.{DiagnoserOf, diagnosers}
use Rattle.fm_answers.specs.Accounts.{Accounts}
use Rattle.fm_answers.specs.Answers.{entries_of}
use Rattle.fm_answers.specs.StreamsAt.{SourceAt, SinkAt}
use Rattle.fm_answers.specs.Stops.{of_store}
use Rattle.fm_answers.specs.declared.stops.Stop.{Stop}
use Rattle.fm_answers.specs.declared.stops.Stop.TheVariants.{Read, Write, Disk}
use Rattle.fm_answers.specs.declared.stops.Stop.TheVariants.{Differs}
use Rattle.fm_answers.proofs.Weaker.{until_weaker}
use Rattle.fm_answers.specs.Recording.{store_with, Recorded}
use Rattle.fm_answers.specs.RecordingLaws.{recorded_none}
use Rattle.fm_conclude.specs.Concluding.{ConcludesBook, IsConcluded}
use Rattle.fm_conclude.specs.declared.concluding.Conclusion.{Conclusion}
use Rattle.fm_core.specs.Book.{ModuleState}
use Rattle.fm_core.specs.Hands.{HandOf, shown}
use Rattle.fm_core.proofs.Drains.{drained_floored}
use Rattle.fm_core.proofs.Keeping.{follows_longer}
use Rattle.fm_drain.specs.DrainCalls.{AllFollow}
use Rattle.fm_entry.specs.declared.entry.Entry.{Entry}
use Rattle.fm_init.specs.Making.{AreFirstModules}
use Rattle.fm_journal.specs.declared.fault.FullKind.{FullKind}
use Rattle.fm_line.specs.Lines.{lines_of}
use Rattle.fm_logs.specs.Contents.{Contents, AreTold, WereOnlyRead, active_of_two}
use Rattle.fm_logs.specs.Contents.{disk_named, with_logs}
use Rattle.fm_logs.specs.ReadsAsBook.{ReadsAsBook}
use Rattle.fm_logs.specs.StoreBook.{StoreBook, store_floored}
use Rattle.fm_logs.specs.declared.disks.DiskName.{DiskName}
use Rattle.fm_logs.specs.declared.disks.DiskName.TheVariants.{Conf as ConfDisk, ErrA, ErrB, SlotA}
use Rattle.fm_logs.specs.declared.disks.DiskName.TheVariants.{SlotB, Flt}
use Rattle.fm_logs.specs.declared.disks.Disks.{Disks}
use Rattle.fm_logs.specs.declared.fault.StoreFault.{StoreFault}
use Rattle.fm_logs.specs.declared.fault.StoreFault.TheVariants as store
use Rattle.fm_logs.proofs.Books.{beside}
use Rattle.fm_looks.specs.Opening.{book_read}
use Rattle.fm_modules.specs.Modules.{file_count}
use Rattle.fm_modules.specs.OpenStore.{IsOpenStore, OpenStoreRefused, OpensStore}
use Rattle.fm_modules.specs.declared.opening.OpenStore.{OpenStore}
use Rattle.fm_modules.proofs.FirstModules.{first_are}
use Rattle.fm_outer.specs.Failures.{Rose}
use Rattle.fm_outer.specs.Moments.{OnlyRead}
use Rattle.fm_outer.specs.declared.disk.Disk.{Ghosts}
use Rattle.fm_saved.specs.declared.conf.Conf.{Conf}
use Rattle.fm_drain.specs.BaseLimits.{BaseIsFull, Figures, figures_of}
use Rattle.fm_drain.specs.ToBase.{IsBasedOf}
use Rattle.fm_sources.specs.declared.sources.Sources.{Sources}
use Rattle.fm_store.proofs.Cursors.{adopted_cursors, longer_cursors}
use Rattle.fm_store.specs.Cursors.{AreAtCursors}
use Rattle.fm_store.specs.Opened.{NoneFailed, RoseOnAny}
use Rattle.fm_store.specs.StoreCalls.{next_entry}
use Rattle.fm_store.specs.StoreLeft.{store_disk, AreDisksOf, EachLeft}
use Rattle.fm_store.specs.StoreOf.{StoreOf, StoreStandsFor}
use Rattle.fm_store.proofs.OpeningLaws.{reads_as_book}
use Rattle.fm_store.proofs.StoreReads.{entries_left, left_active, records_left, says_left}
use Rattle.fm_top.specs.Accepting.{AcceptedAll, DisksAccount}
use Rattle.fm_top.specs.Fmd.{ConcludingStops, DrainedFrom, KeepSame, StoreConcluded}
use Rattle.fm_top.specs.Fmd.{StoreDiffers, StoreRan, StoreStops}
use Rattle.fm_top.specs.FmdStore.{StoreFinished, StoreHalts, StoreIsOther, StoreWorks}
use Rattle.fm_top.specs.Headline.{HoldsOfBook}
use Rattle.fm_top.specs.Kept.{IsAsRead}
use Rattle.fm_top.specs.Limits.{concluding_limit}
use Rattle.fm_top.specs.Outside.{Tells, disks_at}
use Rattle.fm_top.proofs.Accepts.{disks_account, grew_of, of_no_stream, opening_account}
use Rattle.fm_top.proofs.Accepts.{opening_stops}
use Rattle.fm_top.proofs.OpenedDisks.{OpenAt, none_rose, open_for, opened_at, some_rose}
use Rattle.fm_top.proofs.OpenedDisks.{store_left}
use Rattle.fm_top.proofs.Exactness.{exact_with, reads_exact}
use Rattle.fm_top.proofs.SixDisks.{all_only_read, rose_any, none_counts}
use Rattle.fm_top.proofs.WorkLimits.{work_limit}

-- ---- hands

-- hands that follow a book follow it with more entries
follow_with : (k : StoreBook) (es : List Entry) (hands : List (HandOf DiagnoserOf))
    → AllFollow diagnosers k.book hands → AllFollow diagnosers (store_with k es).book hands
follow_with k es hands follow i h got p there =
    follows_longer k.book es i p (shown diagnosers h) (follow i h got p there)

-- hands of adopted modules are few, and at their cursors
pub opened_few : {D : Type 0} (opened : OpenStore D) → IsOpenStore opened
    → length opened.hands.items ≤ 8
opened_few opened is = omega (arith, is.few, is.adopted.as_many)

pub opened_hands : {D : Type 0} (opened : OpenStore D) → IsOpenStore opened
    → AreAtCursors diagnosers opened.store.logs opened.hands.items
opened_hands opened is = adopted_cursors diagnosers _ _ opened.store opened.hands.items is.adopted

-- hands at their cursors are there still once entries were taken
pub hands_on : {D : Type 0} (g : Ghosts D) (old new : StoreOf D DiagnoserOf)
    (hands : List (HandOf DiagnoserOf)) (es : List Entry) → Recorded g old new es None
    → AreAtCursors diagnosers old.logs hands → AreAtCursors diagnosers new.logs hands
hands_on g old new hands es went at = longer_cursors diagnosers old.logs new.logs es hands
    went.cursors_are went.base_is went.entries_are at

-- ---- what the disks of a drained store hold

pub floored_based : (k based : StoreBook) → IsBasedOf k based → IsBasedOf k (store_floored based)
floored_based k based is = record {
  alike = λ es. drained_floored based.book es ∙ is.alike es;
  confs_same = is.confs_same;
  base_is = is.base_is;
  none_left = is.none_left;
  ends = is.ends;
}

logs_same : (c : Contents) (second : Bool) → with_logs c second (active_of_two second c) c.flt ≡ c
logs_same c true = refl
logs_same c false = refl

module _ {D M : Type 0} (g : Ghosts D) where
  -- each image reads as the book, with each module at its floor
  pub reads_floored : (fresh : List ModuleState) (store : StoreOf D M) (k : StoreBook)
      → StoreStandsFor g fresh store k
      → EachLeft g store (λ c. ReadsAsBook fresh c (store_floored k))
  reads_floored fresh store k st c left =
      let active = active_of_two store.logs.second c in
      subst (λ (x : Contents). ReadsAsBook fresh x (store_floored k))
      (logs_same c store.logs.second)
      (beside fresh c store.logs.second k store.logs.active.first store.logs.flt.first st.older
      active c.flt
      (says_left g fresh store k c st (left ConfDisk) (left SlotA) (left SlotB)) st.lawful
      (st.keep.begins ∙ st.base_is)
      (entries_left g fresh store k active st (left_active g store c (left ErrA) (left ErrB)))
      (records_left g fresh store k c.flt st (left Flt)))

-- ---- what was opened

pub open_at : {D : Type 0} (g : Ghosts D) (c : Contents) (opened : OpenStore D)
    → OpensStore g c opened → OpenAt g opened.store opened.hands.items opened.conf c
open_at g c opened opens = record {
  stood = record {
    fresh = opens.fresh;
    book = book_read opens.adopts.read;
    made = opens.modules;
    reads = reads_as_book opens.fresh c opens.adopts.read
        (subst AreFirstModules (sym opens.modules.modules_are)
        (first_are (file_count opens.adopts.read.confs) opens.modules.rows)) opens.adopts.pass;
  };
  stands = opens.adopts.stands;
  follow = opens.adopts.follow.follow;
  in_force = opens.conf_is;
}

-- ---- a store that was not opened

pub unopened_ran : {D : Type 0} (g : Ghosts D) (disks disks_now : Disks D) (got : Sources)
    (input : SourceAt) (out : SinkAt) (fault : StoreFault)
    → OpenStoreRefused g disks disks_now fault → WereOnlyRead g disks disks_now
    → StoreRan input input out out (disks_at g disks) (disks_at g disks_now) got
    (Err (of_store fault))
unopened_ran g disks disks_now got input out fault refused read = record {
  went = inl (record {
    consumed = refl;
    put = refl;
    untouched = all_only_read g disks disks_now read;
    why = opening_stops g disks disks_now fault refused;
  });
  counts_input = (omega arith, λ e. absurd ((of_no_stream fault).0 e));
  counts_out = (omega arith, λ e. absurd ((of_no_stream fault).1 e));
  counts_disks = opening_account g Conclusion disks disks_now fault refused;
}

-- ---- a store that took entries and was concluded

-- what a conclusion makes of each book that the store stood for then
abbrev pub ConcludesSo : {D : Type 0} → Ghosts D → StoreOf D DiagnoserOf → StoreOf D DiagnoserOf
    → List (HandOf DiagnoserOf) → Result Conclusion StoreFault → Type 0
ConcludesSo g between new hands answer = (fresh : List ModuleState) (k : StoreBook)
    → StoreStandsFor g fresh between k → AllFollow diagnosers k.book hands
    → ConcludesBook g fresh between new k answer

module _ {D : Type 0} (g : Ghosts D) (first between new : StoreOf D DiagnoserOf)
    (hands : List (HandOf DiagnoserOf)) (conf : Conf) (entries : List Entry)
    (took : Recorded g first between entries None) where
  pub took_concludes : (answer : Result Conclusion StoreFault)
      → ConcludesSo g between new hands answer → (told : Contents)
      → (at : OpenAt g first hands conf told)
      → ConcludesBook g at.stood.fresh between new (store_with at.stood.book entries) answer
  took_concludes answer book told at =
      book at.stood.fresh (store_with at.stood.book entries)
      (took.book at.stood.fresh at.stood.book at.stands)
      (follow_with at.stood.book entries hands at.follow)

  -- a limit of a drain of the book with these entries, or of the checkpoint
  pub took_limit : (kind : FullKind) → ConcludesSo g between new hands (Err (store.Full kind))
      → (fresh : List ModuleState) (k : StoreBook) → StoreStandsFor g fresh first k
      → AllFollow diagnosers k.book hands
      → BaseIsFull (figures_of first) (store_with k entries) kind
  took_limit kind book fresh k stands follow =
      subst (λ (f : Figures). BaseIsFull f (store_with k entries) kind) took.figures_are
      (book fresh (store_with k entries) (took.book fresh k stands)
      (follow_with k entries hands follow)).limit

  pub drained_from : (conclusion : Conclusion) → IsConcluded between new
      → ConcludesSo g between new hands (Ok conclusion) → (disks_now : Disks D)
      → AreDisksOf new disks_now → (told : Contents) → OpenAt g first hands conf told
      → HoldsOfBook told (DrainedFrom told (disks_at g disks_now) entries conclusion.summary.items
      conclusion.wanted)
  drained_from conclusion done book disks_now are told one = record {
    stood = one.stood;
    each = λ stood.
        let held = open_for g first hands conf told one stood in
        let at : OpenAt g first hands conf told = record {
          stood = stood;
          stands = held.stands;
          follow = held.follow;
          in_force = held.in_force;
        } in
        let ends = (took_concludes (Ok conclusion) book told at).done in record {
          left = λ image leaves. record {
            read = store_floored ends.based;
            reads = reads_floored g stood.fresh new ends.based ends.stands image
                (store_left g disks_now disks_now first new are image leaves);
            based_is = floored_based (store_with stood.book entries) ends.based ends.based_is;
          };
          exact = exact_with g told stood between new entries
              (took.book stood.fresh stood.book held.stands) done;
          summary_is = ends.tells.summary;
          wanted_are = ends.tells.wanted;
        };
  }

-- ---- the whole work on a store

module _ {D : Type 0} (g : Ghosts D)
    (seen_is_image : (disk : D) (c : List ℕ) → g.seen disk ≡ Some c → g.images disk c)
    (disks disks_now : Disks D) (first new : StoreOf D DiagnoserOf)
    (hands : List (HandOf DiagnoserOf)) (conf : Conf) (got : Sources)
    (input input_now : SourceAt) (out out_now : SinkAt)
    (read : (name : DiskName) → OnlyRead g (disk_named name disks) (store_disk name first))
    (kept : (name : DiskName)
    → g.failures (store_disk name first) ≡ g.failures (disk_named name disks))
    (opened : (c : Contents) → AreTold g disks c → OpenAt g first hands conf c)
    (are : AreDisksOf new disks_now) where
  at_told : (told : Contents) → Tells (disks_at g disks) told → OpenAt g first hands conf told
  at_told = opened_at g disks disks_now first new hands conf opened

  as_kept : IsAsRead conf got → KeepSame (disks_at g disks) got
  as_kept same told tells = let at = at_told told tells in
      record { stood = at.stood; conf = conf; in_force = at.in_force; as_read = same }

  -- where all lines were answered, and the store was concluded or not
  module _ (answer : Result Conclusion StoreFault)
      (finished : StoreFinished g first new hands input input_now out out_now answer) where
    concludes : (told : Contents) (at : OpenAt g first hands conf told)
        → ConcludesBook g at.stood.fresh finished.between new
        (store_with at.stood.book (entries_of (lines_of finished.ran.read))) answer
    concludes told at =
        took_concludes g first finished.between new hands conf
        (entries_of (lines_of finished.ran.read)) finished.ran.took answer finished.book told at

    accepted_all : AcceptedAll input input_now out out_now (disks_at g disks) (disks_at g disks_now)
    accepted_all = record {
      next = next_entry first.logs;
      ran = record {
        read = finished.ran.read;
        consumed = finished.ran.consumed;
        whole = finished.ran.whole;
        within = finished.ran.within;
        put = finished.ran.put;
        took = λ told tells. let at = at_told told tells in record {
          stood = at.stood;
          numbered = λ i. at.stands.base_is i + length (at.stands.entries_are i);
          left = λ image leaves.
              reads_exact told at.stood (entries_of (lines_of finished.ran.read)) image
              finished.ran.took.spelled
              ((concludes told at).left image
              (store_left g disks disks_now first new are image leaves));
          limit = tt;
        };
      };
    }

  concluded : (conclusion : Conclusion) → IsAsRead conf got
      → StoreFinished g first new hands input input_now out out_now (Ok conclusion)
      → StoreConcluded input input_now out out_now (disks_at g disks) (disks_at g disks_now) got
      conclusion.summary.items conclusion.wanted
  unfolding accepted_all
  concluded conclusion same finished = record {
    same = as_kept same;
    accepted = accepted_all (Ok conclusion) finished;
    drains = λ told tells.
        drained_from g first finished.between new hands conf
        (entries_of (lines_of finished.ran.read)) finished.ran.took conclusion finished.concluded
        finished.book disks_now are told (at_told told tells);
  }

  -- why the store was not concluded
  unconcluded : (fault : StoreFault)
      → (finished : StoreFinished g first new hands input input_now out out_now (Err fault))
      → ConcludingStops (concluding_limit (entries_of (lines_of finished.ran.read)))
      (disks_at g disks) (of_store fault)
  unconcluded store.Disk finished = tt
  unconcluded (store.Full kind) finished =
      work_limit g seen_is_image disks first read
      (concluding_limit (entries_of (lines_of finished.ran.read))) kind
      (λ told tells. (at_told told tells).stood)
      (λ told tells book.
      let at = open_for g first hands conf told (at_told told tells) book in (
        at.stands,
        took_limit g first finished.between new hands conf
            (entries_of (lines_of finished.ran.read)) finished.ran.took kind finished.book
            book.fresh book.book at.stands at.follow,
      ))
  unconcluded (store.Closed name failures) finished = tt
  unconcluded store.NoMemory finished = tt
  unconcluded (store.Damaged disk place) finished = λ told tells.
      (concludes (Err (store.Damaged disk place)) finished told (at_told told tells)).undamaged
  unconcluded store.Exists finished = absurd finished.refused

  -- the store has another configuration in force
  other_kept : (stop : Stop) → StoreIsOther first new conf got input input_now out out_now stop
      → StoreDiffers input input_now out out_now (disks_at g disks) (disks_at g disks_now) got stop
  other_kept stop other =
      let still : AreDisksOf first disks_now =
      subst (λ (s : StoreOf D DiagnoserOf). AreDisksOf s disks_now) other.same are in record {
        why = other.why;
        other = λ told tells. let at = at_told told tells in
            record {
              stood = at.stood;
              conf = conf;
              in_force = at.in_force;
              differs = other.differs;
            };
        consumed = other.consumed;
        put = other.put;
        untouched = all_only_read g disks disks_now
            (λ name. subst (λ (d : D). OnlyRead g (disk_named name disks) d) (still name)
            (read name));
        next = next_entry first.logs;
        grew = grew_of g seen_is_image disks disks_now first first read
            (λ c told. let at = opened c told in (at.stood, at.stands)) still [] None
            (recorded_none g first);
      }

  halted : (stop : Stop) → IsAsRead conf got
      → StoreHalts g first new hands input input_now out out_now stop
      → StoreStops input input_now out out_now (disks_at g disks) (disks_at g disks_now) got stop
  unfolding accepted_all
  halted stop same (inl until) = inr (inr (
    as_kept same,
    inl (record {
      next = next_entry first.logs;
      ran = until_weaker _ _ _ true (next_entry first.logs) _ _ stop
          (grew_of g seen_is_image disks disks_now first new read
          (λ c told. let at = opened c told in (at.stood, at.stands)) are) until;
    }),
  ))
  halted stop same (inr (fault, is, finished)) = inr (inr (
    as_kept same,
    inr (record {
      accepted = accepted_all (Err fault) finished;
      why = subst (ConcludingStops (concluding_limit (entries_of (lines_of finished.ran.read)))
          (disks_at g disks)) (sym is) (unconcluded fault finished);
    }),
  ))

  store_went : (r : Result Conclusion Stop)
      → StoreWorks g first new hands conf got input input_now out out_now r
      → MatchResult r
      (λ c. StoreConcluded input input_now out out_now (disks_at g disks) (disks_at g disks_now)
      got c.summary.items c.wanted)
      (StoreStops input input_now out out_now (disks_at g disks) (disks_at g disks_now) got)
  store_went (Ok conclusion) (same, finished) = concluded conclusion same finished
  store_went (Err stop) (inl other) = inr (inl (other_kept stop other))
  store_went (Err stop) (inr (same, halts)) = halted stop same halts

  -- ---- the counts of the disks

  none_failed : (conclusion : Conclusion)
      → StoreFinished g first new hands input input_now out out_now (Ok conclusion)
      → NoneFailed g disks disks_now
  none_failed conclusion finished =
      none_rose g disks disks_now first new are kept
      (λ name. finished.quiet name ∙ finished.ran.took.counts name)

  rose_concluding : (fault : StoreFault) → Disk ≡ of_store fault
      → StoreFinished g first new hands input input_now out out_now (Err fault)
      → RoseOnAny g disks disks_now
  rose_concluding store.Disk is finished =
      let (name, rose) = finished.refused.1 in
      some_rose g disks disks_now first new are kept (
        name,
        subst (λ n. Rose n (g.failures (store_disk name new))) (finished.ran.took.counts name)
            rose,
      )
  rose_concluding (store.Closed name failures) is finished =
      absurd (let e : Some (name, failures) ≡ None =
      sym finished.refused.1 ∙ finished.is_open in let no : ⊥ = cc in no)
  rose_concluding (store.Full kind) is finished = absurd (let no : ⊥ = cc in no)
  rose_concluding (store.Damaged disk place) is finished = absurd (let no : ⊥ = cc in no)
  rose_concluding store.Exists is finished = absurd finished.refused
  rose_concluding store.NoMemory is finished = absurd (let no : ⊥ = cc in no)

  store_account : (r : Result Conclusion Stop)
      → StoreWorks g first new hands conf got input input_now out out_now r
      → DisksAccount (disks_at g disks) (disks_at g disks_now) r
  store_account (Ok conclusion) (same, finished) =
      none_counts g disks disks_now (none_failed conclusion finished)
  store_account (Err Disk) (inl other) =
      absurd (let e : Disk ≡ Differs = other.why in let no : ⊥ = cc in no)
  store_account (Err Disk) (inr (same, inl until)) =
      disks_account g disks disks_now first new _ true (next_entry first.logs) _ _ (Err Disk) kept
      are tt until
  store_account (Err Disk) (inr (same, inr (fault, is, finished))) =
      rose_any g disks disks_now (rose_concluding fault is finished)
  store_account (Err _) works = tt

  pub worked_ran : (r : Result Conclusion Stop)
      → StoreWorks g first new hands conf got input input_now out out_now r
      → Accounts Read input.failures input_now.failures r
      → Accounts Write out.failures out_now.failures r
      → StoreRan input input_now out out_now (disks_at g disks) (disks_at g disks_now) got r
  worked_ran r works counts_input counts_out = record {
    went = store_went r works;
    counts_input = counts_input;
    counts_out = counts_out;
    counts_disks = store_account r works;
  }
