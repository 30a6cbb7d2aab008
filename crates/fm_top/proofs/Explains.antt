-- From an open store of which a case is explained to what its disks hold.
use Rattle.std.proofs.Common.{◌≡◌, inl, inr, ℕ, List, Option, None, Some, Result, Ok, Err}
use Rattle.std.proofs.Common.{IfErr, OnOk, refl, sym, subst}
use Rattle.std.specs.Global.{Vec}
use Rattle.std.specs.Option.{option_map}
use Rattle.dx_engine.specs.Diagnosers.{DiagnoserOf, diagnosers}
use Rattle.fm_admin.specs.Explaining.{IsExplanationOf}
use Rattle.fm_admin.specs.Telling.{TellRefused, TellsBook, WasDrained}
use Rattle.fm_answers.specs.Stops.{of_store}
use Rattle.fm_answers.specs.declared.stops.Stop.{Stop}
use Rattle.fm_core.specs.Book.{ModuleState}
use Rattle.fm_core.specs.Drained.{drained}
use Rattle.fm_core.specs.Hands.{HandOf}
use Rattle.fm_drain.specs.DrainCalls.{AllFollow}
use Rattle.fm_logs.specs.Contents.{Contents, AreTold, WereOnlyRead, disk_named}
use Rattle.fm_logs.specs.StoreBook.{StoreBook, force_now}
use Rattle.fm_logs.specs.declared.disks.DiskName.{DiskName}
use Rattle.fm_logs.specs.declared.disks.DiskName.TheVariants.{Flt}
use Rattle.fm_logs.specs.declared.disks.Disks.{Disks}
use Rattle.fm_logs.specs.declared.fault.StoreFault.{StoreFault}
use Rattle.fm_logs.specs.declared.fault.StoreFault.TheVariants as store
use Rattle.fm_modules.specs.OpenStore.{OpenStoreRefused}
use Rattle.fm_outer.specs.Moments.{OnlyRead}
use Rattle.fm_outer.specs.declared.disk.Disk.{Ghosts}
use Rattle.fm_saved.specs.declared.conf.Conf.{Conf}
use Rattle.fm_drain.specs.BaseLimits.{figures_of}
use Rattle.fm_store.specs.StoreLeft.{store_disk, AreDisksOf}
use Rattle.fm_store.specs.StoreOf.{StoreOf, StoreStandsFor}
use Rattle.fm_top.specs.Accepting.{DisksAccount}
use Rattle.fm_top.specs.Explain.{ExplainDone, ExplainHalts, ExplainOnBook, ExplainTried}
use Rattle.fm_top.specs.Explain.{ExplainedOf}
use Rattle.fm_top.specs.Fmd.{ConcludingStops}
use Rattle.fm_top.specs.Headline.{HoldsOfBook, LikeBook}
use Rattle.fm_top.specs.Kept.{BookAt}
use Rattle.fm_top.specs.Limits.{draining_limit}
use Rattle.fm_top.specs.Outside.{Tells, disks_at}
use Rattle.fm_top.proofs.Accepts.{opening_account, opening_stops}
use Rattle.fm_top.proofs.Exactness.{exact_before}
use Rattle.fm_top.proofs.OpenedDisks.{OpenAt, OpenFor, each_opened, none_rose, open_for, opened_at}
use Rattle.fm_top.proofs.OpenedDisks.{some_rose, store_left}
use Rattle.fm_top.proofs.RowGraphs.{explanation_at}
use Rattle.fm_top.proofs.SixDisks.{all_only_read, rose_any, none_counts}
use Rattle.fm_top.proofs.Texts.{left_drained, same_counts, told_limit}
use Rattle.fm_top.proofs.Texts.{told_refused}
use Rattle.fm_top.proofs.WorkLimits.{work_limit}
use Rattle.fm_core.proofs.Options.{none_some}

-- the bytes of a text, if there is one
abbrev bytes_of : Option (Vec ℕ) → Option (List ℕ)
bytes_of text = option_map (λ t. t.items) text

-- ---- an open store

module _ {D : Type 0} (g : Ghosts D) (uuid : List ℕ) (old new : StoreOf D DiagnoserOf)
    (hands : List (HandOf DiagnoserOf)) (conf : Conf) (open_before : old.logs.closed ≡ None) where
  pub explain_done : (answer : Result (Option (Vec ℕ)) StoreFault)
      → OnOk answer (WasDrained g old new)
      → IfErr answer (TellRefused g diagnosers Flt old new hands)
      → ((fresh : List ModuleState) (k : StoreBook) → StoreStandsFor g fresh old k
      → AllFollow diagnosers k.book hands → TellsBook g fresh Flt old new k answer
      (λ now text. IsExplanationOf conf (force_now k) uuid (drained k.book)
      (option_map (λ t. t.items) text)))
      → ExplainDone g uuid old new hands conf answer
  explain_done (Ok found) drains refused book = record {
    was_open = open_before;
    quiet = same_counts g old new drains;
    refused = tt;
    book = λ fresh k stands follow. let told = book fresh k stands follow in record {
      told = told.done.told;
      after = left_drained g new fresh k (λ now text. IsExplanationOf conf (force_now k) uuid
          (drained k.book) (bytes_of text)) found
          told.done;
      undamaged = tt;
      limit = tt;
      left = told.left;
    };
  }
  explain_done (Err fault) drains refused book = record {
    was_open = open_before;
    quiet = tt;
    refused = told_refused g old new hands conf open_before Flt fault refused;
    book = λ fresh k stands follow. let told = book fresh k stands follow in record {
      told = tt;
      after = tt;
      undamaged = told.undamaged;
      limit = told_limit g old new hands conf open_before Flt fresh k fault stands follow refused;
      left = told.left;
    };
  }

-- ---- a store that was not opened

pub explain_unopened : {D : Type 0} (g : Ghosts D) (disks disks_now : Disks D) (uuid : List ℕ)
    (fault : StoreFault) → OpenStoreRefused g disks disks_now fault
    → WereOnlyRead g disks disks_now
    → ExplainTried uuid (disks_at g disks) (disks_at g disks_now) (Err (of_store fault))
explain_unopened g disks disks_now uuid fault refused read = record {
  went = inl (record {
    untouched = all_only_read g disks disks_now read;
    why = opening_stops g disks disks_now fault refused;
  });
  counts = opening_account g (List ℕ) disks disks_now fault refused;
}

-- ---- the disks of one that was

module _ {D : Type 0} (g : Ghosts D) (disks disks_now : Disks D)
    (first new : StoreOf D DiagnoserOf) (hands : List (HandOf DiagnoserOf)) (conf : Conf)
    (uuid : List ℕ)
    (kept : (name : DiskName)
    → g.failures (store_disk name first) ≡ g.failures (disk_named name disks))
    (opened : (c : Contents) → AreTold g disks c → OpenAt g first hands conf c)
    (are : AreDisksOf new disks_now) where
  at_told : (told : Contents) → Tells (disks_at g disks) told → OpenAt g first hands conf told
  at_told = opened_at g disks disks_now first new hands conf opened

  on_book : (answer : Result (Option (Vec ℕ)) StoreFault) (told : Contents) (stood : BookAt told)
      → OpenFor g first hands conf stood → ExplainDone g uuid first new hands conf answer
      → ExplainOnBook g uuid stood.fresh (figures_of first) new stood.book conf answer
  on_book answer told stood at did = did.book stood.fresh stood.book at.stands at.follow

  explained : (text : Option (Vec ℕ)) → ExplainDone g uuid first new hands conf (Ok text)
      → (told : Contents) → Tells (disks_at g disks) told
      → HoldsOfBook told (ExplainedOf uuid told (disks_at g disks_now) (bytes_of text))
  explained text did told tells =
      each_opened g disks disks_now first new hands conf opened told tells
      (ExplainedOf uuid told (disks_at g disks_now) (bytes_of text))
      (λ book at. let on = on_book (Ok text) told book at did in record {
        left = λ image leaves.
            on.after image (store_left g disks disks_now first new are image leaves);
        text_is = explanation_at uuid told book conf (bytes_of text) at.in_force on.told;
      })

  like_book : (fault : StoreFault) → ExplainDone g uuid first new hands conf (Err fault)
      → (told : Contents) → Tells (disks_at g disks) told
      → HoldsOfBook told (LikeBook told (disks_at g disks_now))
  like_book fault did told tells =
      each_opened g disks disks_now first new hands conf opened told tells
      (LikeBook told (disks_at g disks_now))
      (λ book at. record {
        left = λ image leaves. (on_book (Err fault) told book at did).left image
            (store_left g disks disks_now first new are image leaves);
        exact = exact_before told book;
      })

  -- why it was not told
  untold_why :
      (seen_is_image : (disk : D) (c : List ℕ) → g.seen disk ≡ Some c → g.images disk c)
      (read : (name : DiskName) → OnlyRead g (disk_named name disks) (store_disk name first))
      (fault : StoreFault) → ExplainDone g uuid first new hands conf (Err fault)
      → ConcludingStops draining_limit (disks_at g disks) (of_store fault)
  untold_why seen_is_image read store.Disk did = tt
  untold_why seen_is_image read (store.Full kind) did =
      work_limit g seen_is_image disks first read draining_limit kind
      (λ told tells. (at_told told tells).stood)
      (λ told tells book.
      let at : OpenFor g first hands conf book =
      open_for g first hands conf told (at_told told tells) book in
      (at.stands, (on_book (Err (store.Full kind)) told book at did).limit))
  untold_why seen_is_image read (store.Closed name failures) did = tt
  untold_why seen_is_image read store.NoMemory did = tt
  untold_why seen_is_image read (store.Damaged disk place) did = λ told tells.
      let one = at_told told tells in
      (did.book one.stood.fresh one.stood.book one.stands one.follow).undamaged
  untold_why seen_is_image read store.Exists did = absurd did.refused

  untold_account : (fault : StoreFault) → ExplainDone g uuid first new hands conf (Err fault)
      → DisksAccount {T = List ℕ} (disks_at g disks) (disks_at g disks_now) (Err (of_store fault))
  untold_account store.Disk did =
      rose_any g disks disks_now (some_rose g disks disks_now first new are kept did.refused)
  untold_account (store.Full kind) did = tt
  untold_account (store.Closed name failures) did = absurd (none_some did.was_open did.refused)
  untold_account store.NoMemory did = tt
  untold_account (store.Damaged disk place) did = tt
  untold_account store.Exists did = absurd did.refused

  -- ---- the whole

  pub explain_tried : (text : Vec ℕ) → ExplainDone g uuid first new hands conf (Ok (Some text))
      → ExplainTried uuid (disks_at g disks) (disks_at g disks_now) (Ok text.items)
  explain_tried text did = record {
    went = explained (Some text) did;
    counts = none_counts g disks disks_now
        (none_rose g disks disks_now first new are kept did.quiet);
  }

  pub explain_halted :
      (seen_is_image : (disk : D) (c : List ℕ) → g.seen disk ≡ Some c → g.images disk c)
      (read : (name : DiskName) → OnlyRead g (disk_named name disks) (store_disk name first))
      (stop : Stop) → ExplainHalts g uuid first new hands conf stop
      → ExplainTried uuid (disks_at g disks) (disks_at g disks_now) (Err stop)
  explain_halted seen_is_image read stop (inl (is, did)) =
      subst (λ s. ExplainTried uuid (disks_at g disks) (disks_at g disks_now) (Err s)) (sym is)
      (record {
        went = inr (inl (record { why = refl; holds = explained None did }));
        counts = tt;
      })
  explain_halted seen_is_image read stop (inr (fault, is, did)) =
      subst (λ s. ExplainTried uuid (disks_at g disks) (disks_at g disks_now) (Err s)) (sym is)
      (record {
        went = inr (inr (record {
          why = untold_why seen_is_image read fault did;
          holds = like_book fault did;
        }));
        counts = untold_account fault did;
      })
