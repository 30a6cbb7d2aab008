-- From an open store that takes what a number generates, or of which its lines are told, to what
-- its disks hold.
use Rattle.std.proofs.Common.{◌≡◌, ◌∙◌, ◌+◌, inl, inr, ℕ, ◌≤◌, ◌<◌, ◌^◌, List, None, Some, Result}
use Rattle.std.proofs.Common.{Ok, Err, length, refl, sym, subst}
use Rattle.std.specs.Global.{Vec}
use Rattle.dx_engine.specs.Diagnosers.{DiagnoserOf}
use Rattle.fm_answers.specs.Stops.{of_store}
use Rattle.fm_answers.specs.declared.stops.Stop.{Stop}
use Rattle.fm_answers.specs.declared.stops.Stop.TheVariants.{Disk, Memory, Full}
use Rattle.fm_answers.specs.Recording.{Recorded}
use Rattle.fm_conclude.specs.Concluding.{NoDiskFailed, SomeDiskFailed}
use Rattle.fm_conclude.specs.declared.concluding.Conclusion.{Conclusion}
use Rattle.fm_core.specs.Hands.{HandOf}
use Rattle.fm_entry.specs.declared.entry.Entry.{Entry}
use Rattle.fm_journal.specs.declared.fault.FullKind.TheVariants.{Numbers}
use Rattle.fm_logs.specs.Contents.{Contents, AreTold, WereOnlyRead, disk_named}
use Rattle.fm_logs.specs.declared.disks.DiskName.{DiskName}
use Rattle.fm_logs.specs.declared.disks.Disks.{Disks}
use Rattle.fm_logs.specs.declared.fault.StoreFault.{StoreFault}
use Rattle.fm_logs.specs.declared.fault.StoreFault.TheVariants as store
use Rattle.fm_modules.specs.OpenStore.{OpenStoreRefused}
use Rattle.fm_outer.specs.Failures.{Rose}
use Rattle.fm_outer.specs.Moments.{OnlyRead}
use Rattle.fm_outer.specs.declared.disk.Disk.{Ghosts}
use Rattle.fm_saved.specs.declared.conf.Conf.{Conf}
use Rattle.fm_store.specs.StoreCalls.{next_entry}
use Rattle.fm_store.specs.StoreLeft.{store_disk, AreDisksOf}
use Rattle.fm_store.specs.StoreOf.{StoreOf, StoreStandsFor, greatest_at}
use Rattle.fm_store.proofs.StoreBases.{moment_at_end}
use Rattle.fm_store.proofs.StoreReads.{store_reads}
use Rattle.fm_top.specs.Accepting.{DisksAccount, Grew}
use Rattle.fm_top.specs.Admin.{StoreUnopened}
use Rattle.fm_top.specs.Fmd.{ConcludingStops}
use Rattle.fm_top.specs.Generate.{GenerateConcluded, GenerateFinished, GenerateHalts, GenerateStops}
use Rattle.fm_top.specs.Generate.{GenerateTried, Generates, LinesTried, ListsGenerated, StartStops}
use Rattle.fm_top.specs.Generate.{StoreGenerates, StoreUnbegun, TookUntil, UnbegunStops}
use Rattle.fm_top.specs.GenerateStart.{AreGenerated, AreGeneratedAt}
use Rattle.fm_top.specs.Headline.{HoldsOfBook, LikeBook}
use Rattle.fm_top.specs.Init.{AreUnwritten}
use Rattle.fm_top.specs.Limits.{concluding_limit}
use Rattle.fm_top.proofs.Exactness.{exact_before, reads_exact}
use Rattle.fm_top.specs.Outside.{Tells, disks_at}
use Rattle.fm_top.proofs.Accepts.{grew_of, opening_account, opening_stops}
use Rattle.fm_top.proofs.Fmds.{drained_from, took_concludes, took_limit}
use Rattle.fm_top.proofs.OpenedDisks.{OpenAt, each_opened, none_rose, open_for, opened_at}
use Rattle.fm_top.proofs.OpenedDisks.{some_rose, store_left}
use Rattle.fm_top.proofs.SixDisks.{all_only_read, rose_any, none_counts}
use Rattle.fm_top.proofs.Taking.{until_other}
use Rattle.fm_top.proofs.WorkLimits.{work_limit}

-- ---- a store that was not opened

store_unopened : {D : Type 0} (g : Ghosts D) (disks disks_now : Disks D) (fault : StoreFault)
    → OpenStoreRefused g disks disks_now fault → WereOnlyRead g disks disks_now
    → StoreUnopened (disks_at g disks) (disks_at g disks_now) (of_store fault)
store_unopened g disks disks_now fault refused read = record {
  untouched = all_only_read g disks disks_now read;
  why = opening_stops g disks disks_now fault refused;
}

pub generate_unopened : {D : Type 0} (g : Ghosts D) (disks disks_now : Disks D) (number : ℕ)
    (fault : StoreFault) → OpenStoreRefused g disks disks_now fault
    → WereOnlyRead g disks disks_now
    → GenerateTried number (disks_at g disks) (disks_at g disks_now) (Err (of_store fault))
generate_unopened g disks disks_now number fault refused read = record {
  went = inl (store_unopened g disks disks_now fault refused read);
  counts = opening_account g Conclusion disks disks_now fault refused;
}

pub lines_unopened : {D : Type 0} (g : Ghosts D) (disks disks_now : Disks D) (number : ℕ)
    (fault : StoreFault) → OpenStoreRefused g disks disks_now fault
    → WereOnlyRead g disks disks_now
    → LinesTried number (disks_at g disks) (disks_at g disks_now) (Err (of_store fault))
lines_unopened g disks disks_now number fault refused read = record {
  went = inl (store_unopened g disks disks_now fault refused read);
  counts = opening_account g (List ℕ) disks disks_now fault refused;
}

-- ---- the disks of one that was

module _ {D : Type 0} (g : Ghosts D) (disks disks_now : Disks D)
    (first new : StoreOf D DiagnoserOf) (hands : List (HandOf DiagnoserOf)) (conf : Conf)
    (number : ℕ)
    (kept : (name : DiskName)
    → g.failures (store_disk name first) ≡ g.failures (disk_named name disks))
    (opened : (c : Contents) → AreTold g disks c → OpenAt g first hands conf c)
    (are : AreDisksOf new disks_now)
    (read : (name : DiskName) → OnlyRead g (disk_named name disks) (store_disk name first)) where
  at_told : (told : Contents) → Tells (disks_at g disks) told → OpenAt g first hands conf told
  at_told = opened_at g disks disks_now first new hands conf opened

  -- the entries are those of each book
  generates : (entries : List Entry) → StoreGenerates number first conf entries
      → Generates number (disks_at g disks) entries
  generates entries so told tells =
      each_opened g disks disks_now first new hands conf opened told tells
      (λ stood. AreGeneratedAt number stood entries) (λ book at.
      let moment = moment_at_end g book.fresh first book.book at.stands in record {
        conf = conf;
        in_force = at.in_force;
        early = subst (λ n. n < 2 ^ 61) moment so.early;
        are = subst (λ n. AreGenerated number conf n entries) moment so.are;
      })

  -- nothing was done with the store
  like_book : new ≡ first → (told : Contents) → Tells (disks_at g disks) told
      → HoldsOfBook told (LikeBook told (disks_at g disks_now))
  like_book same told tells =
      each_opened g disks disks_now first new hands conf opened told tells
      (LikeBook told (disks_at g disks_now)) (λ book at. record {
        left = λ image leaves.
            store_reads g book.fresh new book.book
            (subst (λ (s : StoreOf D DiagnoserOf). StoreStandsFor g book.fresh s book.book)
            (sym same) at.stands) image
            (store_left g disks disks_now first new are image leaves);
        exact = exact_before told book;
      })

  untouched : new ≡ first → AreUnwritten (disks_at g disks) (disks_at g disks_now)
  untouched same =
      let still : AreDisksOf first disks_now =
      subst (λ (s : StoreOf D DiagnoserOf). AreDisksOf s disks_now) same are in
      all_only_read g disks disks_now
      (λ name. subst (λ (d : D). OnlyRead g (disk_named name disks) d) (still name) (read name))

  unbegun : (stop : Stop) → new ≡ first → StartStops (greatest_at first) stop
      → StoreUnbegun (disks_at g disks) (disks_at g disks_now) stop
  unbegun stop same why = record {
    why = by_stop stop why;
    untouched = untouched same;
    holds = like_book same;
  }
    where
      by_stop : (stop : Stop) → StartStops (greatest_at first) stop
          → UnbegunStops (disks_at g disks) stop
      by_stop (Full Numbers) late = λ told tells.
          let one = at_told told tells in record {
            stood = one.stood;
            late = subst (λ n. 2 ^ 61 ≤ n)
                (moment_at_end g one.stood.fresh first one.stood.book one.stands) late;
          }
      by_stop Memory why = tt
      by_stop _ why = absurd why

  -- ---- lines

  lines_account : (T : Type 0) (stop : Stop) → StartStops (greatest_at first) stop
      → DisksAccount {T = T} (disks_at g disks) (disks_at g disks_now) (Err stop)
  lines_account T Disk why = absurd why
  lines_account T _ why = tt

  pub lines_tried : (text : Vec ℕ) → ListsGenerated number first new conf (Ok text)
      → LinesTried number (disks_at g disks) (disks_at g disks_now) (Ok text.items)
  lines_tried text (same, (entries, so, text_is)) = record {
    went = record {
      entries = entries;
      are = generates entries so;
      text_is = text_is;
      untouched = untouched same;
      holds = like_book same;
    };
    counts = none_counts g disks disks_now
        (none_rose g disks disks_now first new are kept (λ name.
        subst (λ (s : StoreOf D DiagnoserOf). g.failures (store_disk name s)
        ≡ g.failures (store_disk name first)) (sym same) refl));
  }

  pub lines_halted : (stop : Stop) → ListsGenerated number first new conf (Err stop)
      → LinesTried number (disks_at g disks) (disks_at g disks_now) (Err stop)
  lines_halted stop (same, why) = record {
    went = inr (unbegun stop same why);
    counts = lines_account (List ℕ) stop why;
  }

  -- ---- entries

  module _
      (seen_is_image : (disk : D) (c : List ℕ) → g.seen disk ≡ Some c → g.images disk c) where
    until_grew : (entries : List Entry) (stop : Stop) → TookUntil (Recorded g first new) entries
        stop
        → TookUntil (Grew (disks_at g disks) (disks_at g disks_now) (next_entry first.logs)) entries
        stop
    until_grew entries stop until =
        until_other (Recorded g first new)
        (Grew (disks_at g disks) (disks_at g disks_now) (next_entry first.logs)) entries stop
        (grew_of g seen_is_image disks disks_now first new read
        (λ c told. let at = opened c told in (at.stood, at.stands)) are) until

  -- all that was generated was taken, whatever became of the drain
  module _ (answer : Result Conclusion StoreFault)
      (finished : GenerateFinished g number first new hands conf answer) where
    all_grew : Grew (disks_at g disks) (disks_at g disks_now) (next_entry first.logs)
        finished.entries None
    all_grew told tells = let at = at_told told tells in record {
      stood = at.stood;
      numbered = λ i. at.stands.base_is i + length (at.stands.entries_are i);
      left = λ image leaves.
          reads_exact told at.stood finished.entries image finished.took.spelled
          ((took_concludes g first finished.between new hands conf finished.entries finished.took
          answer finished.book told at).left image
          (store_left g disks disks_now first new are image leaves));
      limit = tt;
    }

  concluded : (conclusion : Conclusion)
      → GenerateFinished g number first new hands conf (Ok conclusion)
      → GenerateConcluded number (disks_at g disks) (disks_at g disks_now) conclusion.summary.items
      conclusion.wanted
  concluded conclusion finished = record {
    entries = finished.entries;
    are = generates finished.entries finished.are;
    drains = λ told tells.
        drained_from g first finished.between new hands conf finished.entries finished.took
        conclusion finished.concluded finished.book disks_now are told (at_told told tells);
  }

  -- why the store was not concluded
  unconcluded :
      (seen_is_image : (disk : D) (c : List ℕ) → g.seen disk ≡ Some c → g.images disk c)
      (fault : StoreFault)
      → (finished : GenerateFinished g number first new hands conf (Err fault))
      → ConcludingStops (concluding_limit finished.entries) (disks_at g disks) (of_store fault)
  unconcluded seen_is_image store.Disk finished = tt
  unconcluded seen_is_image (store.Full kind) finished =
      work_limit g seen_is_image disks first read (concluding_limit finished.entries) kind
      (λ told tells. (at_told told tells).stood)
      (λ told tells book.
      let at = open_for g first hands conf told (at_told told tells) book in (
        at.stands,
        took_limit g first finished.between new hands conf finished.entries finished.took kind
            finished.book book.fresh book.book at.stands at.follow,
      ))
  unconcluded seen_is_image (store.Closed name failures) finished = tt
  unconcluded seen_is_image store.NoMemory finished = tt
  unconcluded seen_is_image (store.Damaged disk place) finished = λ told tells.
      (took_concludes g first finished.between new hands conf finished.entries finished.took
      (Err (store.Damaged disk place)) finished.book told (at_told told tells)).undamaged
  unconcluded seen_is_image store.Exists finished = absurd finished.refused

  -- ---- the counts of the disks

  none_failed : (conclusion : Conclusion)
      → GenerateFinished g number first new hands conf (Ok conclusion) → NoDiskFailed g first new
  none_failed conclusion finished name = finished.quiet name ∙ finished.took.counts name

  some_failed : (fault : StoreFault) → Disk ≡ of_store fault
      → GenerateFinished g number first new hands conf (Err fault) → SomeDiskFailed g first new
  some_failed store.Disk is finished =
      let (name, rose) = finished.refused.1 in (
        name,
        subst (λ n. Rose n (g.failures (store_disk name new))) (finished.took.counts name) rose,
      )
  some_failed (store.Closed name failures) is finished =
      absurd (let e : Some (name, failures) ≡ None =
      sym finished.refused.1 ∙ finished.is_open in let no : ⊥ = cc in no)
  some_failed (store.Full kind) is finished = absurd (let no : ⊥ = cc in no)
  some_failed (store.Damaged disk place) is finished = absurd (let no : ⊥ = cc in no)
  some_failed store.Exists is finished = absurd finished.refused
  some_failed store.NoMemory is finished = absurd (let no : ⊥ = cc in no)

  rose_now : SomeDiskFailed g first new
      → DisksAccount {T = Conclusion} (disks_at g disks) (disks_at g disks_now) (Err Disk)
  rose_now some = rose_any g disks disks_now (some_rose g disks disks_now first new are kept some)

  halts_account : (stop : Stop) → GenerateHalts g number first new hands conf stop
      → DisksAccount {T = Conclusion} (disks_at g disks) (disks_at g disks_now) (Err stop)
  halts_account Disk (inl (same, why)) = absurd why
  halts_account Disk (inr (inl (entries, so, until))) =
      let (entry, more, is, took) = until.stops in rose_now took.counts
  halts_account Disk (inr (inr (fault, is, finished))) = rose_now (some_failed fault is finished)
  halts_account _ halts = tt

  -- ---- the whole

  pub generate_tried : (conclusion : Conclusion)
      → GenerateFinished g number first new hands conf (Ok conclusion)
      → GenerateTried number (disks_at g disks) (disks_at g disks_now) (Ok conclusion)
  generate_tried conclusion finished = record {
    went = concluded conclusion finished;
    counts = none_counts g disks disks_now
        (none_rose g disks disks_now first new are kept (none_failed conclusion finished));
  }

  module _
      (seen_is_image : (disk : D) (c : List ℕ) → g.seen disk ≡ Some c → g.images disk c) where
    halts_went : (stop : Stop) → GenerateHalts g number first new hands conf stop
        → GenerateStops number (disks_at g disks) (disks_at g disks_now) stop
    halts_went stop (inl (same, why)) = inr (inl (unbegun stop same why))
    halts_went stop (inr (inl (entries, so, until))) = inr (inr (inl (record {
      entries = entries;
      are = generates entries so;
      next = next_entry first.logs;
      ran = until_grew seen_is_image entries stop until;
    })))
    halts_went stop (inr (inr (fault, is, finished))) = inr (inr (inr (record {
      entries = finished.entries;
      are = generates finished.entries finished.are;
      next = next_entry first.logs;
      took = all_grew (Err fault) finished;
      why = subst (ConcludingStops (concluding_limit finished.entries) (disks_at g disks)) (sym is)
          (unconcluded seen_is_image fault finished);
    })))

    pub generate_halted : (stop : Stop) → GenerateHalts g number first new hands conf stop
        → GenerateTried number (disks_at g disks) (disks_at g disks_now) (Err stop)
    generate_halted stop halts = record {
      went = halts_went stop halts;
      counts = halts_account stop halts;
    }
