-- From an open store that takes what an operator says of repairs to what its disks hold.
use Rattle.std.proofs.Common.{◌≡◌, ◌∙◌, inl, inr, ℕ, List, Option, None, Some, Result, Ok}
use Rattle.std.proofs.Common.{Err, IfOk}
use Rattle.std.proofs.Common.{IfErr, [], append-nil, refl, sym, ap, subst}
use Rattle.std.proofs.lemmas.List.Elements.{All-nil}
use Rattle.dx_engine.specs.Diagnosers.{DiagnoserOf, diagnosers}
use Rattle.fm_admin.specs.Limits.{RepairLimit}
use Rattle.fm_admin.specs.Repairing.{IsRepairedBy, RepairDid, RepairFollows}
use Rattle.fm_admin.specs.Repairing.{RepairRefused, RepairsBook, TakeRefused, TakesAndTells}
use Rattle.fm_admin.specs.Repairing.{TookAndDrained}
use Rattle.fm_admin.specs.Telling.{TellsBook, WasDrained}
use Rattle.fm_command.specs.declared.request.RepairOrder.{RepairOrder}
use Rattle.fm_admin.specs.declared.repairing.Repaired.{Repaired}
use Rattle.fm_answers.specs.Stops.{of_store}
use Rattle.fm_answers.specs.declared.stops.Stop.{Stop}
use Rattle.fm_answers.specs.declared.stops.Stop.TheVariants.{Full, NotFaulty}
use Rattle.fm_answers.specs.Recording.{Recorded}
use Rattle.fm_answers.specs.RecordingLaws.{with_none}
use Rattle.fm_answers.proofs.Recordings.{counts_taken}
use Rattle.fm_command.specs.RepairAsked.{RepairAsked}
use Rattle.fm_conclude.specs.Concluding.{NoDiskFailed, SomeDiskFailed}
use Rattle.fm_core.specs.Book.{ModuleState}
use Rattle.fm_core.specs.Hands.{HandOf}
use Rattle.fm_drain.specs.DrainCalls.{AllFollow}
use Rattle.fm_entry.specs.Entries.{IsSpelled, entry_bytes}
use Rattle.fm_entry.specs.declared.entry.Entry.{Entry}
use Rattle.fm_journal.specs.declared.fault.FullKind.{FullKind}
use Rattle.fm_logs.specs.Contents.{Contents, AreTold, WereOnlyRead, disk_named}
use Rattle.fm_logs.specs.LogsOf.{AcceptRefused, CannotTake, LogsOf, TakesEntry, name_of_two}
use Rattle.fm_logs.specs.StoreBook.{StoreBook, store_accepted}
use Rattle.fm_logs.specs.declared.disks.DiskName.{DiskName}
use Rattle.fm_logs.specs.declared.disks.DiskName.TheVariants.{Flt}
use Rattle.fm_logs.specs.declared.disks.Disks.{Disks}
use Rattle.fm_logs.specs.declared.fault.StoreFault.{StoreFault}
use Rattle.fm_logs.specs.declared.fault.StoreFault.TheVariants as store
use Rattle.fm_modules.specs.OpenStore.{OpenStoreRefused}
use Rattle.fm_outer.specs.Failures.{Rose}
use Rattle.fm_outer.specs.Moments.{OnlyRead}
use Rattle.fm_outer.specs.declared.disk.Disk.{Ghosts}
use Rattle.fm_saved.specs.declared.conf.Conf.{Conf}
use Rattle.fm_drain.specs.BaseLimits.{figures_of}
use Rattle.fm_store.specs.StoreLeft.{store_disk, AreDisksOf, EachLeft, ReadsLike}
use Rattle.fm_store.specs.StoreOf.{StoreOf, StoreStandsFor}
use Rattle.fm_store.proofs.StoreAccepts.{active_disk}
use Rattle.fm_store.proofs.StoreReads.{store_reads}
use Rattle.fm_top.specs.Accepting.{DisksAccount}
use Rattle.fm_top.specs.Admin.{AdminRefused}
use Rattle.fm_top.specs.DrainedBook.{ReadsDrained}
use Rattle.fm_top.specs.Fmd.{ConcludingStops}
use Rattle.fm_top.specs.Kept.{BookAt}
use Rattle.fm_top.specs.Outside.{Tells, Leaves, disks_at}
use Rattle.fm_top.specs.Repair.{MayHaveRepair, RepairDone, RepairHalts, RepairOnBook, RepairTried}
use Rattle.fm_top.specs.Repair.{RepairedOf, UnmarkedOf, repair_limit}
use Rattle.fm_top.specs.RepairEntry.{IsEntryAt, IsEntryOf, order_by}
use Rattle.fm_top.proofs.Accepts.{limit_of, opening_account, opening_stops}
use Rattle.fm_top.proofs.OpenedDisks.{OpenAt, OpenFor, each_opened, none_rose, open_for, opened_at}
use Rattle.fm_top.proofs.OpenedDisks.{some_rose, store_left}
use Rattle.fm_top.proofs.SixDisks.{all_only_read, rose_any, none_counts}
use Rattle.fm_top.proofs.Texts.{left_drained, same_counts, told_refused}
use Rattle.fm_top.proofs.WorkLimits.{told_seen, work_limit}
use Rattle.fm_core.proofs.Options.{none_some}

-- ---- an open store

module _ {D : Type 0} (g : Ghosts D) (asked : RepairAsked) (old new : StoreOf D DiagnoserOf)
    (hands : List (HandOf DiagnoserOf)) (conf : Conf) (open_before : old.logs.closed ≡ None) where
  -- no disk failed

  taken_quiet : (mid : StoreOf D DiagnoserOf) (e : Entry) (n : ℕ) → WasDrained g old mid
      → TookAndDrained g mid new e n → NoDiskFailed g old new
  taken_quiet mid e n was took name =
      same_counts g took.between new took.drained name
      ∙ counts_taken g mid took.between e n took.base_same took.takes name
      ∙ same_counts g old mid was name

  done_quiet : (answer : Option Repaired) → RepairDid g old new answer → NoDiskFailed g old new
  done_quiet None did = same_counts g old new did
  done_quiet (Some one) (mid, was, e, took) = taken_quiet mid e one.number was took

  -- a disk failed

  active_rose : (mid : StoreOf D DiagnoserOf) (e : Entry) → WasDrained g old mid
      → AcceptRefused g mid.logs new.logs e store.Disk → SomeDiskFailed g old new
  active_rose mid e was (can, closes) =
      let name : DiskName = name_of_two mid.logs.second in
      let second = ap (λ (l : LogsOf D). l.second) closes.logs_are in (
        name,
        subst (λ n. Rose n (g.failures (store_disk name new))) (same_counts g old mid was name)
            (subst (λ (d : D). Rose (g.failures d) (g.failures (store_disk name new)))
            (sym (active_disk g mid.logs.second mid refl))
            (subst (λ (d : D). Rose (g.failures mid.logs.active.disk) (g.failures d))
            (sym (active_disk g mid.logs.second new second)) closes.rose)),
      )

  log_rose : (mid between : StoreOf D DiagnoserOf) (e : Entry) (n : ℕ) → WasDrained g old mid
      → TakesEntry g mid.logs between.logs e n → between.base ≡ mid.base
      → Rose (g.failures (store_disk Flt between)) (g.failures (store_disk Flt new))
      → SomeDiskFailed g old new
  log_rose mid between e n was takes base rose = (
    Flt,
    subst (λ k. Rose k (g.failures (store_disk Flt new)))
        (counts_taken g mid between e n base takes Flt ∙ same_counts g old mid was Flt) rose,
  )

  -- why an entry was not taken, or the store not drained again
  taking_why : (mid : StoreOf D DiagnoserOf) (now : List (HandOf DiagnoserOf)) (e : Entry)
      (fault : StoreFault) → WasDrained g old mid
      → TakeRefused g diagnosers mid new now e fault → AdminRefused g old new fault
  taking_why mid now e store.Disk was (inl (base, why)) = active_rose mid e was why
  taking_why mid now e store.Disk was (inr (between, n, takes, base, why)) =
      log_rose mid between e n was takes base (elim why.1 [ inl rose ↦ rose | inr rose ↦ rose ])
  taking_why mid now e (store.Closed name failures) was (inl (base, why)) =
      absurd (none_some was.is_open why.1)
  taking_why mid now e (store.Closed name failures) was (inr (between, n, takes, base, why)) =
      absurd (none_some
      (ap (λ (l : LogsOf D). l.closed) takes.logs_are ∙ was.is_open) why.1)
  taking_why mid now e (store.Full kind) was why = tt
  taking_why mid now e (store.Damaged name place) was why = tt
  taking_why mid now e store.NoMemory was why = tt
  taking_why mid now e store.Exists was (inl (base, why)) = absurd why
  taking_why mid now e store.Exists was (inr (between, n, takes, base, why)) = absurd why

  refused_why : (fault : StoreFault) → RepairRefused g diagnosers old new hands fault
      → AdminRefused g old new fault
  refused_why fault (inl why) = told_refused g old new hands conf open_before Flt fault why
  refused_why fault (inr (mid, was, now, e, why)) = taking_why mid now e fault was why

  -- the book

  taken_book : (fresh : List ModuleState) (k : StoreBook) (mid : StoreOf D DiagnoserOf) (e : Entry)
      (answer : Result (Option Repaired) StoreFault) → IsEntryOf asked conf k (Some e)
      → TakesAndTells g fresh mid new k e answer (λ now one. IsRepairedBy k e one)
      → IfErr answer (RepairLimit old k (order_by conf asked))
      → RepairOnBook g asked fresh old new k conf answer
  taken_book fresh k mid e answer is takes limit = elim takes.ends [
    | inl stops ↦
        subst (RepairOnBook g asked fresh old new k conf) (sym stops.result_is) (
          (
            stops.undamaged,
            subst (λ r. IfErr r (RepairLimit old k (order_by conf asked))) stops.result_is limit,
          ),
          inr (e, is, stops.left),
        )
    | inr tells ↦ told_book answer tells limit
  ]
    where
      told_book : (answer : Result (Option Repaired) StoreFault)
          → TellsBook g fresh Flt takes.between new (store_accepted k e) answer
          (λ now one. IsRepairedBy k e one)
          → IfErr answer (RepairLimit old k (order_by conf asked))
          → RepairOnBook g asked fresh old new k conf answer
      told_book (Ok (Some one)) tells limit = (
        e,
        is,
        tells.done.told,
        left_drained g new fresh (store_accepted k e) (λ now one. IsRepairedBy k e one) (Some one)
            tells.done,
      )
      told_book (Ok None) tells limit = absurd tells.done.told
      told_book (Err fault) tells limit =
          ((tells.undamaged, limit), inr (e, is, λ c left. inr (tells.left c left)))

  found_book : (fresh : List ModuleState) (k : StoreBook) (mid : StoreOf D DiagnoserOf)
      (found : Result (Option Entry) StoreFault) (answer : Result (Option Repaired) StoreFault)
      → TellsBook g fresh Flt old mid k found (λ now e. IsEntryOf asked conf k e)
      → RepairFollows g fresh mid new k found answer
      → IfErr answer (RepairLimit old k (order_by conf asked))
      → RepairOnBook g asked fresh old new k conf answer
  found_book fresh k mid (Ok (Some e)) answer looks follows limit =
      taken_book fresh k mid e answer looks.done.told follows limit
  found_book fresh k mid (Ok None) answer looks (is, same) limit =
      subst (RepairOnBook g asked fresh old new k conf) (sym is) (
        looks.done.told,
        subst (λ (s : StoreOf D DiagnoserOf). EachLeft g s (ReadsLike fresh k))
            (sym same) looks.left,
      )
  found_book fresh k mid (Err fault) answer looks (is, same) limit =
      subst (RepairOnBook g asked fresh old new k conf) (sym is) (
        (
          looks.undamaged,
          subst (λ r. IfErr r (RepairLimit old k (order_by conf asked))) is limit,
        ),
        inl (subst (λ (s : StoreOf D DiagnoserOf). EachLeft g s (ReadsLike fresh k)) (sym same)
            looks.left),
      )

  abbrev pub OnBook : Result (Option Repaired) StoreFault → Type 0
  OnBook answer = (fresh : List ModuleState) (k : StoreBook) → StoreStandsFor g fresh old k
      → AllFollow diagnosers k.book hands
      → RepairsBook g fresh old new k (order_by conf asked) answer

  on_book : (answer : Result (Option Repaired) StoreFault) → OnBook answer
      → (fresh : List ModuleState) (k : StoreBook) → StoreStandsFor g fresh old k
      → AllFollow diagnosers k.book hands → RepairOnBook g asked fresh old new k conf answer
  on_book answer book fresh k stands follow = let b = book fresh k stands follow in
      found_book fresh k b.after_look b.found answer b.looks b.follows b.limit

  -- what was asked for is said of the order that says it
  pub as_asked : (order : RepairOrder) (answer : Result (Option Repaired) StoreFault)
      → order ≡ order_by conf asked
      → ((fresh : List ModuleState) (k : StoreBook) → StoreStandsFor g fresh old k
      → AllFollow diagnosers k.book hands → RepairsBook g fresh old new k order answer)
      → OnBook answer
  as_asked order answer same book fresh k stands follow =
      subst (λ one. RepairsBook g fresh old new k one answer) same (book fresh k stands follow)

  pub repair_done : (answer : Result (Option Repaired) StoreFault)
      → IfOk answer (RepairDid g old new)
      → IfErr answer (RepairRefused g diagnosers old new hands) → OnBook answer
      → RepairDone g asked old new hands conf answer
  repair_done (Ok found) did refused book = record {
    was_open = open_before;
    quiet = done_quiet found did;
    refused = tt;
    book = on_book (Ok found) book;
  }
  repair_done (Err fault) did refused book = record {
    was_open = open_before;
    quiet = tt;
    refused = refused_why fault refused;
    book = on_book (Err fault) book;
  }

-- memory was wanted before anything was done
pub repair_wanted : {D : Type 0} (g : Ghosts D) (asked : RepairAsked)
    (old : StoreOf D DiagnoserOf) (hands : List (HandOf DiagnoserOf)) (conf : Conf)
    → old.logs.closed ≡ None → RepairDone g asked old old hands conf (Err store.NoMemory)
repair_wanted g asked old hands conf is_open = record {
  was_open = is_open;
  quiet = tt;
  refused = tt;
  book = λ fresh k stands follow. ((tt, tt), inl (store_reads g fresh old k stands));
}

-- ---- a store that was not opened

pub repair_unopened : {D : Type 0} (g : Ghosts D) (disks disks_now : Disks D) (asked : RepairAsked)
    (fault : StoreFault) → OpenStoreRefused g disks disks_now fault
    → WereOnlyRead g disks disks_now
    → RepairTried asked (disks_at g disks) (disks_at g disks_now) (Err (of_store fault))
repair_unopened g disks disks_now asked fault refused read = record {
  went = inl (record {
    untouched = all_only_read g disks disks_now read;
    why = opening_stops g disks disks_now fault refused;
  });
  counts = opening_account g Repaired disks disks_now fault refused;
}

-- ---- the disks of one that was

module _ {D : Type 0} (g : Ghosts D) (disks disks_now : Disks D)
    (first new : StoreOf D DiagnoserOf) (hands : List (HandOf DiagnoserOf)) (conf : Conf)
    (asked : RepairAsked)
    (kept : (name : DiskName)
    → g.failures (store_disk name first) ≡ g.failures (disk_named name disks))
    (opened : (c : Contents) → AreTold g disks c → OpenAt g first hands conf c)
    (are : AreDisksOf new disks_now) where
  at_told : (told : Contents) → Tells (disks_at g disks) told → OpenAt g first hands conf told
  at_told = opened_at g disks disks_now first new hands conf opened

  left_of : (P : Contents → Type 0) → EachLeft g new P → (image : Contents)
      → Leaves (disks_at g disks_now) image → P image
  left_of P each image leaves = each image (store_left g disks disks_now first new are image leaves)

  entry_at : (told : Contents) (stood : BookAt told) → OpenFor g first hands conf stood
      → (e : Option Entry) → IsEntryOf asked conf stood.book e → IsEntryAt asked stood e
  entry_at told stood at e is =
      record { conf = conf; in_force = at.in_force; entry_is = is }

  repaired_of : (one : Repaired) (told : Contents) (stood : BookAt told)
      → OpenFor g first hands conf stood
      → RepairOnBook g asked stood.fresh first new stood.book conf (Ok (Some one))
      → RepairedOf asked told (disks_at g disks_now) one stood
  repaired_of one told stood at (e, is, repaired, left) = record {
    entry = e;
    found = entry_at told stood at (Some e) is;
    repaired = repaired;
    left = left_of (ReadsDrained stood.fresh (store_accepted stood.book e)) left;
  }

  unmarked_of : (told : Contents) (stood : BookAt told) → OpenFor g first hands conf stood
      → RepairOnBook g asked stood.fresh first new stood.book conf (Ok None)
      → UnmarkedOf asked told (disks_at g disks_now) stood
  unmarked_of told stood at (is, left) = record {
    none = entry_at told stood at None is;
    left = left_of (ReadsLike stood.fresh stood.book) left;
  }

  may_have : (fault : StoreFault) (told : Contents) (stood : BookAt told)
      → OpenFor g first hands conf stood
      → RepairOnBook g asked stood.fresh first new stood.book conf (Err fault)
      → MayHaveRepair asked told (disks_at g disks_now) stood
  may_have fault told stood at (undamaged, inl left) = record {
    left = λ image leaves. inl (left_of (ReadsLike stood.fresh stood.book) left image leaves);
  }
  may_have fault told stood at (undamaged, inr (e, is, left)) = record {
    left = λ image leaves.
        elim (left image (store_left g disks disks_now first new are image leaves)) [
          | inl like ↦ inl like
          | inr with_it ↦ inr (record {
            entry = e;
            found = entry_at told stood at (Some e) is;
            reads = with_it;
          })
        ];
  }

  -- a limit at which a store takes no entry
  refused_full : (entry : Entry) (kind : FullKind)
      → CannotTake first.logs.active (entry_bytes entry) kind
      → Recorded g first first [] (Some (Full kind, entry))
  refused_full entry kind cannot = record {
    counts = λ name. refl;
    base_is = refl;
    entries_are = sym (append-nil first.logs.entries);
    cursors_are = refl;
    figures_are = refl;
    spelled = All-nil IsSpelled;
    last_spelled = tt;
    logs = (λ older records keep. keep, cannot);
    book = λ fresh k st. subst (StoreStandsFor g fresh first) (sym (with_none k)) st;
  }

  module _
      (seen_is_image : (disk : D) (c : List ℕ) → g.seen disk ≡ Some c → g.images disk c)
      (read : (name : DiskName) → OnlyRead g (disk_named name disks) (store_disk name first)) where
    -- the limit of a repair is one of each book that the contents read as
    limit_at : (told : Contents) → Tells (disks_at g disks) told → (book : BookAt told)
        → OpenFor g first hands conf book → (kind : FullKind)
        → RepairLimit first book.book (order_by conf asked) (store.Full kind)
        → repair_limit asked told book (figures_of first) kind
    limit_at told tells book at kind (inl drain) = inl drain
    limit_at told tells book at kind (inr of) = inr (record {
      entry = of.entry;
      found = entry_at told book at (Some of.entry) of.entry_is;
      now = of.now;
      drained_is = of.drained_is;
      full = elim of.full [
        | inl journal ↦ inl (limit_of g seen_is_image book.fresh first first book.book told []
            (Some (Full kind, of.entry)) at.stands
            (told_seen g seen_is_image disks first read told tells)
            (refused_full of.entry kind journal))
        | inr log ↦ inr log
      ];
    })

    -- why the entry was not taken
    unrepaired_why : (fault : StoreFault) → RepairDone g asked first new hands conf (Err fault)
        → ConcludingStops (repair_limit asked) (disks_at g disks) (of_store fault)
    unrepaired_why store.Disk did = tt
    unrepaired_why (store.Full kind) did =
        work_limit g seen_is_image disks first read (repair_limit asked) kind
        (λ told tells. (at_told told tells).stood)
        (λ told tells book.
        let at : OpenFor g first hands conf book =
        open_for g first hands conf told (at_told told tells) book in (
          at.stands,
          limit_at told tells book at kind
              (did.book book.fresh book.book at.stands at.follow).0.1,
        ))
    unrepaired_why (store.Closed name failures) did = tt
    unrepaired_why store.NoMemory did = tt
    unrepaired_why (store.Damaged disk place) did = λ told tells.
        let one = at_told told tells in
        (did.book one.stood.fresh one.stood.book one.stands one.follow).0.0
    unrepaired_why store.Exists did = absurd did.refused

  refused_account : (fault : StoreFault) → RepairDone g asked first new hands conf (Err fault)
      → DisksAccount {T = Repaired} (disks_at g disks) (disks_at g disks_now) (Err (of_store fault))
  refused_account store.Disk did =
      rose_any g disks disks_now (some_rose g disks disks_now first new are kept did.refused)
  refused_account (store.Full kind) did = tt
  refused_account (store.Closed name failures) did = absurd (none_some did.was_open did.refused)
  refused_account store.NoMemory did = tt
  refused_account (store.Damaged disk place) did = tt
  refused_account store.Exists did = absurd did.refused

  -- ---- the whole

  pub repair_tried : (one : Repaired) → RepairDone g asked first new hands conf (Ok (Some one))
      → RepairTried asked (disks_at g disks) (disks_at g disks_now) (Ok one)
  repair_tried one did = record {
    went = λ told tells.
        each_opened g disks disks_now first new hands conf opened told tells
        (RepairedOf asked told (disks_at g disks_now) one)
        (λ book at. repaired_of one told book at
        (did.book book.fresh book.book at.stands at.follow));
    counts = none_counts g disks disks_now
        (none_rose g disks disks_now first new are kept did.quiet);
  }

  unmarked_tried : RepairDone g asked first new hands conf (Ok None)
      → RepairTried asked (disks_at g disks) (disks_at g disks_now) (Err NotFaulty)
  unmarked_tried did = record {
    went = inr (inl (record {
      why = refl;
      holds = λ told tells.
          each_opened g disks disks_now first new hands conf opened told tells
          (UnmarkedOf asked told (disks_at g disks_now))
          (λ book at. unmarked_of told book at
          (did.book book.fresh book.book at.stands at.follow));
    }));
    counts = tt;
  }

  refused_tried :
      (seen_is_image : (disk : D) (c : List ℕ) → g.seen disk ≡ Some c → g.images disk c)
      (read : (name : DiskName) → OnlyRead g (disk_named name disks) (store_disk name first))
      (fault : StoreFault) → RepairDone g asked first new hands conf (Err fault)
      → RepairTried asked (disks_at g disks) (disks_at g disks_now) (Err (of_store fault))
  refused_tried seen_is_image read fault did = record {
    went = inr (inr (record {
      why = unrepaired_why seen_is_image read fault did;
      holds = λ told tells.
          each_opened g disks disks_now first new hands conf opened told tells
          (MayHaveRepair asked told (disks_at g disks_now))
          (λ book at. may_have fault told book at
          (did.book book.fresh book.book at.stands at.follow));
    }));
    counts = refused_account fault did;
  }

  pub repair_halted :
      (seen_is_image : (disk : D) (c : List ℕ) → g.seen disk ≡ Some c → g.images disk c)
      (read : (name : DiskName) → OnlyRead g (disk_named name disks) (store_disk name first))
      (stop : Stop) → RepairHalts g asked first new hands conf stop
      → RepairTried asked (disks_at g disks) (disks_at g disks_now) (Err stop)
  repair_halted seen_is_image read stop (inl (is, did)) =
      subst (λ s. RepairTried asked (disks_at g disks) (disks_at g disks_now) (Err s)) (sym is)
      (unmarked_tried did)
  repair_halted seen_is_image read stop (inr (fault, is, did)) =
      subst (λ s. RepairTried asked (disks_at g disks) (disks_at g disks_now) (Err s)) (sym is)
      (refused_tried seen_is_image read fault did)
