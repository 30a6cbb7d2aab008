-- From an open store with which an operator's command is done to what its disks hold.
use Rattle.std.proofs.Common.{◌≡◌, inl, inr, ℕ, List, None, Some, Result, Ok, Err, OnOk}
use Rattle.std.proofs.Common.{IfErr, refl}
use Rattle.std.proofs.Common.{sym, ◌∙◌, ap, subst, arith}
use Rattle.std.specs.Global.{Vec}
use Rattle.dx_engine.specs.Diagnosers.{DiagnoserOf, diagnosers}
use Rattle.fm_admin.specs.Telling.{IsFaultyOf, StandsTold, TellRefused, TellsBook, WasDrained}
use Rattle.fm_admin.proofs.Tellings.{tell_full}
use Rattle.fm_answers.specs.Accounts.{Accounts}
use Rattle.fm_answers.specs.Stops.{of_store}
use Rattle.fm_answers.specs.declared.stops.Stop.{Stop}
use Rattle.fm_command.specs.declared.words.AdminCommand.{AdminCommand}
use Rattle.fm_command.specs.declared.words.AdminCommand.TheVariants.{Faulty}
use Rattle.fm_conclude.specs.Concluding.{NoDiskFailed}
use Rattle.fm_core.specs.Book.{ModuleState}
use Rattle.fm_core.specs.Drained.{drained}
use Rattle.fm_core.specs.Hands.{HandOf}
use Rattle.fm_core.proofs.Drains.{drained_floored}
use Rattle.fm_drain.specs.DrainCalls.{AllFollow}
use Rattle.fm_logs.specs.Contents.{Contents, AreTold, WereOnlyRead, active_of_two}
use Rattle.fm_logs.specs.Contents.{disk_named}
use Rattle.fm_logs.specs.StoreBook.{StoreBook, store_floored}
use Rattle.fm_logs.specs.declared.disks.DiskName.{DiskName}
use Rattle.fm_logs.specs.declared.disks.DiskName.TheVariants.{Conf as ConfDisk, ErrA, ErrB, SlotA}
use Rattle.fm_logs.specs.declared.disks.DiskName.TheVariants.{SlotB, Flt}
use Rattle.fm_logs.specs.declared.disks.Disks.{Disks}
use Rattle.fm_logs.specs.declared.fault.StoreFault.{StoreFault}
use Rattle.fm_logs.specs.declared.fault.StoreFault.TheVariants as store
use Rattle.fm_modules.specs.OpenStore.{OpenStoreRefused}
use Rattle.fm_outer.specs.Moments.{OnlyRead}
use Rattle.fm_outer.specs.declared.disk.Disk.{Ghosts}
use Rattle.fm_saved.specs.declared.conf.Conf.{Conf}
use Rattle.fm_drain.specs.BaseLimits.{figures_of}
use Rattle.fm_store.specs.StoreLeft.{store_disk, AreDisksOf, EachLeft, ReadsLike}
use Rattle.fm_store.specs.StoreOf.{StoreOf, StoreStandsFor}
use Rattle.fm_store.proofs.StoreReads.{left_active, says_left}
use Rattle.fm_top.specs.Accepting.{DisksAccount}
use Rattle.fm_top.specs.Admin.{AdminDone, AdminOnBook, AdminRefused, TextAsked, ToldOf}
use Rattle.fm_top.specs.Admin.{command_limit}
use Rattle.fm_top.specs.DrainedBook.{ReadsDrained}
use Rattle.fm_top.specs.Dump.{IsErrorLogOf, error_log}
use Rattle.fm_top.specs.Fmd.{ConcludingStops}
use Rattle.fm_top.specs.Headline.{HoldsOfBook, LikeBook}
use Rattle.fm_top.specs.Kept.{BookAt}
use Rattle.fm_top.specs.Limits.{DrainLimit}
use Rattle.fm_top.specs.Outside.{Tells, disks_at}
use Rattle.fm_top.proofs.Accepts.{opening_account, opening_stops}
use Rattle.fm_top.proofs.Exactness.{exact_before}
use Rattle.fm_top.proofs.Fmds.{reads_floored}
use Rattle.fm_top.proofs.OpenedDisks.{OpenAt, OpenFor, each_opened, none_rose, open_for, opened_at}
use Rattle.fm_top.proofs.OpenedDisks.{some_rose, store_left}
use Rattle.fm_top.proofs.SixDisks.{all_only_read, rose_any, none_counts}
use Rattle.fm_top.proofs.WorkLimits.{told_seen, work_limit}

-- an object that nothing was done to accounts for any other fault
pub accounts_still : {T : Type 0} (fault : Stop) (n : ℕ) (r : Result T Stop)
    → (r ≡ Err fault → ⊥) → Accounts fault n n r
accounts_still fault n (Ok done) none = refl
accounts_still fault n (Err stop) none =
    (omega arith, λ e. absurd (none (ap (λ s. Err s) e)))

-- ---- a store that was not opened

pub unopened_asked : {D : Type 0} (g : Ghosts D) (disks disks_now : Disks D) (asked : AdminCommand)
    (fault : StoreFault) → OpenStoreRefused g disks disks_now fault
    → WereOnlyRead g disks disks_now
    → TextAsked asked (disks_at g disks) (disks_at g disks_now) (Err (of_store fault))
unopened_asked g disks disks_now asked fault refused read = record {
  went = inl (record {
    untouched = all_only_read g disks disks_now read;
    why = opening_stops g disks disks_now fault refused;
  });
  counts = opening_account g (List ℕ) disks disks_now fault refused;
}

-- ---- an open store

-- a drain that is done leaves the counts of all disks
pub same_counts : {D : Type 0} (g : Ghosts D) (old new : StoreOf D DiagnoserOf)
    → WasDrained g old new → NoDiskFailed g old new
same_counts {D = D} g old new was ConfDisk =
    ap (λ (s : StoreOf D DiagnoserOf). g.failures (store_disk ConfDisk s)) was.only
same_counts {D = D} g old new was ErrA =
    ap (λ (s : StoreOf D DiagnoserOf). g.failures (store_disk ErrA s)) was.only
same_counts {D = D} g old new was ErrB =
    ap (λ (s : StoreOf D DiagnoserOf). g.failures (store_disk ErrB s)) was.only
same_counts {D = D} g old new was SlotA =
    ap (λ (s : StoreOf D DiagnoserOf). g.failures (store_disk SlotA s)) was.only
same_counts {D = D} g old new was SlotB =
    ap (λ (s : StoreOf D DiagnoserOf). g.failures (store_disk SlotB s)) was.only
same_counts g old new was Flt = was.no_failure

-- what is said of a command is said of the one that it is
pub done_as : {D : Type 0} (g : Ghosts D) (asked other : AdminCommand)
    (old new : StoreOf D DiagnoserOf) (hands : List (HandOf DiagnoserOf)) (conf : Conf)
    (answer : Result (Vec ℕ) StoreFault) → asked ≡ other
    → AdminDone g other old new hands conf answer → AdminDone g asked old new hands conf answer
done_as g asked other old new hands conf answer same done =
    subst (λ one. AdminDone g one old new hands conf answer) (sym same) done

-- what reads as a drained book reads like the book
pub like_drained : (fresh : List ModuleState) (k : StoreBook) (c : Contents)
    → ReadsDrained fresh k c → ReadsLike fresh k c
like_drained fresh k c d = record {
  read = store_floored d.now;
  reads = d.reads;
  confs_same = d.drained_is.confs_same;
  alike = λ es. drained_floored d.now.book es ∙ d.drained_is.alike es;
}

-- each image of a drained store reads as a drained book
pub left_drained : {D X : Type 0} (g : Ghosts D) (new : StoreOf D DiagnoserOf)
    (fresh : List ModuleState) (k : StoreBook) (Told : StoreBook → X → Type 0) (x : X)
    → StandsTold g fresh new k Told x → EachLeft g new (ReadsDrained fresh k)
left_drained g new fresh k Told x at c left = record {
  now = at.now;
  drained_is = at.drained_is;
  reads = reads_floored g fresh new at.now at.stands c left;
}

-- what is faulty was told
module _ {D : Type 0} (g : Ghosts D) (old new : StoreOf D DiagnoserOf)
    (hands : List (HandOf DiagnoserOf)) (conf : Conf) (open_before : old.logs.closed ≡ None) where
  pub told_refused : (log : DiskName) (fault : StoreFault)
      → TellRefused g diagnosers log old new hands fault → AdminRefused g old new fault
  told_refused log store.Disk why = elim why.1 [ inl rose ↦ (Flt, rose) | inr rose ↦ (log, rose) ]
  told_refused log (store.Closed name failures) why = why.1
  told_refused log (store.Full kind) why = tt
  told_refused log (store.Damaged name place) why = tt
  told_refused log store.NoMemory why = tt
  told_refused log store.Exists why = absurd why

  -- a limit for which nothing was told is one of the book
  pub told_limit : (log : DiskName) (fresh : List ModuleState) (k : StoreBook)
      (fault : StoreFault) → StoreStandsFor g fresh old k → AllFollow diagnosers k.book hands
      → TellRefused g diagnosers log old new hands fault → DrainLimit (figures_of old) k fault
  told_limit log fresh k (store.Full kind) stands follow why =
      tell_full g diagnosers log fresh old new k hands kind stands follow why
  told_limit log fresh k store.Disk stands follow why = tt
  told_limit log fresh k (store.Closed name failures) stands follow why = tt
  told_limit log fresh k (store.Damaged name place) stands follow why = tt
  told_limit log fresh k store.NoMemory stands follow why = tt
  told_limit log fresh k store.Exists stands follow why = tt

  pub faulty_done : (answer : Result (Vec ℕ) StoreFault) → OnOk answer (WasDrained g old new)
      → IfErr answer (TellRefused g diagnosers Flt old new hands)
      → ((fresh : List ModuleState) (k : StoreBook) → StoreStandsFor g fresh old k
      → AllFollow diagnosers k.book hands → TellsBook g fresh Flt old new k answer
      (λ now text. IsFaultyOf conf.namespace (drained k.book) text.items))
      → AdminDone g Faulty old new hands conf answer
  faulty_done (Ok text) drains refused book = record {
    was_open = open_before;
    quiet = same_counts g old new drains;
    refused = tt;
    book = λ fresh k stands follow. let told = book fresh k stands follow in record {
      text_is = told.done.told;
      after = left_drained g new fresh k
          (λ now text. IsFaultyOf conf.namespace (drained k.book) text.items) text told.done;
      undamaged = tt;
      limit = tt;
      left = told.left;
    };
  }
  faulty_done (Err fault) drains refused book = record {
    was_open = open_before;
    quiet = tt;
    refused = told_refused Flt fault refused;
    book = λ fresh k stands follow. let told = book fresh k stands follow in record {
      text_is = tt;
      after = tt;
      undamaged = told.undamaged;
      limit = told_limit Flt fresh k fault stands follow refused;
      left = told.left;
    };
  }

-- ---- the disks of one

module _ {D : Type 0} (g : Ghosts D) (disks disks_now : Disks D)
    (first new : StoreOf D DiagnoserOf) (hands : List (HandOf DiagnoserOf)) (conf : Conf)
    (asked : AdminCommand)
    (kept : (name : DiskName)
    → g.failures (store_disk name first) ≡ g.failures (disk_named name disks))
    (opened : (c : Contents) → AreTold g disks c → OpenAt g first hands conf c)
    (are : AreDisksOf new disks_now) where
  at_told : (told : Contents) → Tells (disks_at g disks) told → OpenAt g first hands conf told
  at_told = opened_at g disks disks_now first new hands conf opened

  module _ (answer : Result (Vec ℕ) StoreFault)
      (did : AdminDone g asked first new hands conf answer) where
    on_book : (told : Contents) (stood : BookAt told) (at : OpenFor g first hands conf stood)
        → AdminOnBook g asked stood.fresh (figures_of first) new stood.book conf
        (error_log first at.stands.older) answer
    on_book told stood at = did.book stood.fresh stood.book at.stands at.follow

    like_book : (told : Contents) → Tells (disks_at g disks) told
        → HoldsOfBook told (LikeBook told (disks_at g disks_now))
    like_book told tells =
        each_opened g disks disks_now first new hands conf opened told tells
        (LikeBook told (disks_at g disks_now)) (λ book at. record {
          left = λ image leaves.
              (on_book told book at).left image
              (store_left g disks disks_now first new are image leaves);
          exact = exact_before told book;
        })

  module _
      (seen_is_image : (disk : D) (c : List ℕ) → g.seen disk ≡ Some c → g.images disk c)
      (read : (name : DiskName) → OnlyRead g (disk_named name disks) (store_disk name first)) where
    log_of : (told : Contents) → Tells (disks_at g disks) told → (book : BookAt told)
        (at : OpenFor g first hands conf book)
        → IsErrorLogOf book.fresh told book.book (error_log first at.stands.older)
    log_of told tells book at =
        let left = told_seen g seen_is_image disks first read told tells in record {
          second = first.logs.second;
          says = says_left g book.fresh first book.book told at.stands (left ConfDisk) (left SlotA)
              (left SlotB);
          active = record {
            payloads = at.stands.keep.entry_payloads;
            journal = at.stands.keep.entries_keep.left (active_of_two first.logs.second told)
                (left_active g first told (left ErrA) (left ErrB));
            spelled = at.stands.keep.entries_spelled;
          };
        }

    text_told : (text : Vec ℕ) → AdminDone g asked first new hands conf (Ok text)
        → (told : Contents) → Tells (disks_at g disks) told
        → HoldsOfBook told (ToldOf asked told (disks_at g disks_now) text.items)
    text_told text did told tells =
        each_opened g disks disks_now first new hands conf opened told tells
        (ToldOf asked told (disks_at g disks_now) text.items) (λ book at.
        let found = on_book (Ok text) did told book at in record {
          left = λ image leaves.
              found.after image (store_left g disks disks_now first new are image leaves);
          text_is = record {
            conf = conf;
            in_force = at.in_force;
            log = error_log first at.stands.older;
            log_is = log_of told tells book at;
            text_is = found.text_is;
          };
        })

  -- why it was not told
  untold :
      (seen_is_image : (disk : D) (c : List ℕ) → g.seen disk ≡ Some c → g.images disk c)
      (read : (name : DiskName) → OnlyRead g (disk_named name disks) (store_disk name first))
      (fault : StoreFault) → AdminDone g asked first new hands conf (Err fault)
      → ConcludingStops (command_limit asked) (disks_at g disks) (of_store fault)
  untold seen_is_image read store.Disk did = tt
  untold seen_is_image read (store.Full kind) did =
      work_limit g seen_is_image disks first read (command_limit asked) kind
      (λ told tells. (at_told told tells).stood)
      (λ told tells book.
      let at : OpenFor g first hands conf book =
      open_for g first hands conf told (at_told told tells) book in
      (at.stands, (on_book (Err (store.Full kind)) did told book at).limit))
  untold seen_is_image read (store.Closed name failures) did = tt
  untold seen_is_image read store.NoMemory did = tt
  untold seen_is_image read (store.Damaged disk place) did = λ told tells.
      let one = at_told told tells in
      (on_book (Err (store.Damaged disk place)) did told one.stood
      (open_for g first hands conf told one one.stood)).undamaged
  untold seen_is_image read store.Exists did = absurd did.refused

  -- ---- the counts of the disks

  untold_account : (fault : StoreFault) → AdminDone g asked first new hands conf (Err fault)
      → DisksAccount {T = List ℕ} (disks_at g disks) (disks_at g disks_now) (Err (of_store fault))
  untold_account store.Disk did =
      rose_any g disks disks_now (some_rose g disks disks_now first new are kept did.refused)
  untold_account (store.Full kind) did = tt
  untold_account (store.Closed name failures) did =
      absurd (let e : Some (name, failures) ≡ None =
      sym did.refused ∙ did.was_open in let no : ⊥ = cc in no)
  untold_account store.NoMemory did = tt
  untold_account (store.Damaged disk place) did = tt
  untold_account store.Exists did = absurd did.refused

  -- ---- the whole

  pub asked_told :
      (seen_is_image : (disk : D) (c : List ℕ) → g.seen disk ≡ Some c → g.images disk c)
      (read : (name : DiskName) → OnlyRead g (disk_named name disks) (store_disk name first))
      (text : Vec ℕ) → AdminDone g asked first new hands conf (Ok text)
      → TextAsked asked (disks_at g disks) (disks_at g disks_now) (Ok text.items)
  asked_told seen_is_image read text did = record {
    went = text_told seen_is_image read text did;
    counts = none_counts g disks disks_now
        (none_rose g disks disks_now first new are kept did.quiet);
  }

  pub asked_untold :
      (seen_is_image : (disk : D) (c : List ℕ) → g.seen disk ≡ Some c → g.images disk c)
      (read : (name : DiskName) → OnlyRead g (disk_named name disks) (store_disk name first))
      (stop : Stop) (fault : StoreFault) → stop ≡ of_store fault
      → AdminDone g asked first new hands conf (Err fault)
      → TextAsked asked (disks_at g disks) (disks_at g disks_now) (Err stop)
  asked_untold seen_is_image read stop fault is did =
      subst (λ s. TextAsked asked (disks_at g disks) (disks_at g disks_now) (Err s)) (sym is)
      (record {
        went = inr (record {
          why = untold seen_is_image read fault did;
          holds = like_book (Err fault) did;
        });
        counts = untold_account fault did;
      })
