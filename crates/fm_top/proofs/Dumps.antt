-- What is dumped of the logs of a store that was drained.
use Rattle.std.proofs.Common.{◌≡◌, ℕ, ◌+◌, ◌-◌, List, ◌++◌, Bool, true, false, length, None}
use Rattle.std.proofs.Common.{Result, Ok, Err, OnOk, IfOk, IfErr, refl, sym, ◌∙◌, ap, subst, arith}
use Rattle.std.proofs.Common.{length-append}
use Rattle.std.specs.Global.{Vec}
use Rattle.dx_engine.specs.Diagnosers.{DiagnoserOf, diagnosers}
use Rattle.fm_admin.specs.Dumping.{DumpsErrors, IsErrorsOf, IsErrorsText, IsFaultsText}
use Rattle.fm_admin.specs.Telling.{TellRefused, TellsBook, WasDrained}
use Rattle.fm_command.specs.declared.words.AdminCommand.TheVariants.{Dump}
use Rattle.fm_conclude.specs.Concluding.{NoDiskFailed}
use Rattle.fm_core.specs.Book.{ModuleState}
use Rattle.fm_core.specs.Hands.{HandOf}
use Rattle.fm_drain.specs.DrainCalls.{AllFollow, OnlyCommitted}
use Rattle.fm_dump.specs.Errors.{errors_text}
use Rattle.fm_dump.specs.declared.options.DumpOptions.{DumpOptions}
use Rattle.fm_entry.specs.declared.entry.Entry.{Entry}
use Rattle.fm_entry.specs.declared.spoken.Spoken.{Spoken}
use Rattle.fm_journal.specs.Keeps.{Keeps}
use Rattle.fm_logs.specs.LogReads.{ReadsLogged}
use Rattle.fm_logs.specs.LogsOf.{LogsKeep, LogsOf, name_of_two}
use Rattle.fm_payloads.specs.Spelling.{EachSpells}
use Rattle.fm_logs.specs.ReadsAsBook.{SpellsEntry}
use Rattle.fm_logs.specs.StoreBook.{StoreBook}
use Rattle.fm_logs.specs.declared.disks.DiskName.TheVariants.{Conf as ConfDisk, ErrA, ErrB, SlotA}
use Rattle.fm_logs.specs.declared.disks.DiskName.TheVariants.{SlotB, Flt}
use Rattle.fm_logs.specs.declared.fault.StoreFault.{StoreFault}
use Rattle.fm_outer.specs.declared.disk.Disk.{Ghosts}
use Rattle.fm_saved.specs.declared.conf.Conf.{Conf}
use Rattle.fm_store.specs.StoreCalls.{next_entry}
use Rattle.fm_store.specs.StoreOf.{StoreBaseOf, StoreOf, StoreStandsFor, of_two}
use Rattle.fm_top.specs.Admin.{AdminDone}
use Rattle.fm_top.specs.Dump.{IsDump, error_log}
use Rattle.fm_top.proofs.Texts.{left_drained, same_counts, told_limit, told_refused}

module _ {D : Type 0} (g : Ghosts D) where
  -- the count of the one of two disks that was read, and of the other
  of_first : (second : Bool) (now active spare : D) → g.failures now ≡ g.failures active
      → g.failures (of_two second now spare) ≡ g.failures (of_two second active spare)
  of_first true now active spare same = refl
  of_first false now active spare same = same

  of_second : (second : Bool) (now active spare : D) → g.failures now ≡ g.failures active
      → g.failures (of_two second spare now) ≡ g.failures (of_two second spare active)
  of_second true now active spare same = same
  of_second false now active spare same = refl

module _ {D : Type 0} (g : Ghosts D) (options : DumpOptions) (old new : StoreOf D DiagnoserOf)
  where
    -- ---- the active error journal, which is read behind a drain up to `mid`

    module _ (mid : StoreOf D DiagnoserOf) (only : OnlyCommitted old mid)
        (reads : ReadsLogged g mid.logs new.logs) where
      -- the counts of all disks are as after the drain
      read_counts : new.base ≡ mid.base
          → g.failures new.logs.active.disk ≡ g.failures mid.logs.active.disk
          → NoDiskFailed g mid new
      read_counts same still ConfDisk =
          ap (λ (b : StoreBaseOf D DiagnoserOf). g.failures b.conf.disk) same
      read_counts same still ErrA =
          ap (λ (l : LogsOf D). g.failures (of_two l.second l.active.disk new.base.spare))
          reads.logs_are
          ∙ (ap (λ (b : StoreBaseOf D DiagnoserOf).
          g.failures (of_two mid.logs.second new.logs.active.disk b.spare)) same
          ∙ of_first g mid.logs.second new.logs.active.disk mid.logs.active.disk mid.base.spare
          still)
      read_counts same still ErrB =
          ap (λ (l : LogsOf D). g.failures (of_two l.second new.base.spare l.active.disk))
          reads.logs_are
          ∙ (ap (λ (b : StoreBaseOf D DiagnoserOf).
          g.failures (of_two mid.logs.second b.spare new.logs.active.disk)) same
          ∙ of_second g mid.logs.second new.logs.active.disk mid.logs.active.disk mid.base.spare
          still)
      read_counts same still SlotA =
          ap (λ (b : StoreBaseOf D DiagnoserOf). g.failures b.slot_a) same
      read_counts same still SlotB =
          ap (λ (b : StoreBaseOf D DiagnoserOf). g.failures b.slot_b) same
      read_counts same still Flt =
          ap (λ (l : LogsOf D). g.failures l.flt.disk) reads.logs_are

      -- the logs keep the entries of before, and the records of afterwards
      keep_between : (older after : List Entry) (records said : List Spoken)
          → mid.logs.closed ≡ None → LogsKeep g old.logs older records
          → LogsKeep g new.logs after said → LogsKeep g mid.logs older said
      keep_between older after records said is_open keep kept = record {
        is_open = is_open;
        begins = subst (λ (s : StoreOf D DiagnoserOf).
            s.logs.active.first + length older ≡ s.logs.base) (sym only) keep.begins;
        entry_payloads = keep.entry_payloads;
        entries_keep = subst (λ (s : StoreOf D DiagnoserOf).
            Keeps g s.logs.active keep.entry_payloads) (sym only) keep.entries_keep;
        entries_spelled = subst (λ (s : StoreOf D DiagnoserOf).
            EachSpells SpellsEntry keep.entry_payloads (older ++ s.logs.entries)) (sym only)
            keep.entries_spelled;
        record_payloads = kept.record_payloads;
        records_keep = subst (λ (l : LogsOf D). Keeps g l.flt kept.record_payloads) reads.logs_are
            kept.records_keep;
        records_spelled = kept.records_spelled;
      }

      -- the text is that of the entries of before
      errors_told : (older : List Entry) (text : List ℕ)
          → old.logs.active.first + length older ≡ old.logs.base
          → (is : IsErrorsOf g options mid.logs new.logs text)
          → is.found ≡ older ++ mid.logs.entries
          → text ≡ errors_text options old.logs.active.first (older ++ old.logs.entries)
      errors_told older text begins is found =
          let base : mid.logs.base ≡ old.logs.base =
          ap (λ (s : StoreOf D DiagnoserOf). s.logs.base) only in
          let all : length is.found ≡ length older + length mid.logs.entries =
          ap length found ∙ length-append older mid.logs.entries in
          let first : next_entry mid.logs - length is.found ≡ old.logs.active.first =
          omega (arith, begins, base, all) in
          let entries : is.found ≡ older ++ old.logs.entries =
          found ∙ ap (λ (s : StoreOf D DiagnoserOf). older ++ s.logs.entries) only in
          is.text_is ∙ (λ i. errors_text options (first i) (entries i))

    module _ (hands : List (HandOf DiagnoserOf)) (conf : Conf)
        (open_before : old.logs.closed ≡ None) where
      pub errors_done : (answer : Result (Vec ℕ) StoreFault) → options.errors ≡ true
          → IfOk answer (λ text. DumpsErrors g options old new text.items)
          → IfErr answer (TellRefused g diagnosers (name_of_two old.logs.second) old new hands)
          → ((fresh : List ModuleState) (k : StoreBook) → StoreStandsFor g fresh old k
          → AllFollow diagnosers k.book hands
          → TellsBook g fresh (name_of_two old.logs.second) old new k answer
          (λ now text. IsErrorsText options old.logs.active.first now.book text.items))
          → AdminDone g (Dump options) old new hands conf answer
      errors_done (Ok text) asked dumped refused book =
          let mid = dumped.between in
          let only = dumped.drained.only in record {
            was_open = open_before;
            quiet = λ name.
                read_counts mid only dumped.reads dumped.base_same dumped.is.are.no_failure name
                ∙ same_counts g old mid dumped.drained name;
            refused = tt;
            book = λ fresh k stands follow. let told = book fresh k stands follow in record {
              text_is = subst (λ b. IsDump b options conf.namespace (error_log old stands.older) k
                  text.items) (sym asked)
                  (errors_told mid only dumped.reads stands.older text.items stands.keep.begins
                  dumped.is
                  (dumped.is.are.are stands.older told.done.now.book.records
                  (keep_between mid only dumped.reads stands.older told.done.stands.older
                  k.book.records told.done.now.book.records dumped.drained.is_open stands.keep
                  told.done.stands.keep)));
              after = left_drained g new fresh k
                  (λ now text. IsErrorsText options old.logs.active.first now.book text.items)
                  text told.done;
              undamaged = tt;
              limit = tt;
              left = told.left;
            };
          }
      errors_done (Err fault) asked dumped refused book = record {
        was_open = open_before;
        quiet = tt;
        refused = told_refused g old new hands conf open_before (name_of_two old.logs.second) fault
            refused;
        book = λ fresh k stands follow. let told = book fresh k stands follow in record {
          text_is = tt;
          after = tt;
          undamaged = told.undamaged;
          limit = told_limit g old new hands conf open_before (name_of_two old.logs.second) fresh k
              fault stands follow refused;
          left = told.left;
        };
      }

      -- ---- the fault log

      pub faults_done : (answer : Result (Vec ℕ) StoreFault) → options.errors ≡ false
          → OnOk answer (WasDrained g old new)
          → IfErr answer (TellRefused g diagnosers Flt old new hands)
          → ((fresh : List ModuleState) (k : StoreBook) → StoreStandsFor g fresh old k
          → AllFollow diagnosers k.book hands → TellsBook g fresh Flt old new k answer
          (λ now text. IsFaultsText options conf.namespace now.book.records text.items))
          → AdminDone g (Dump options) old new hands conf answer
      faults_done (Ok text) asked drains refused book = record {
        was_open = open_before;
        quiet = same_counts g old new drains;
        refused = tt;
        book = λ fresh k stands follow. let told = book fresh k stands follow in record {
          text_is = subst (λ b. IsDump b options conf.namespace (error_log old stands.older) k
              text.items) (sym asked)
              (record {
                now = told.done.now;
                lawful = told.done.stands.lawful;
                drained_is = told.done.drained_is;
                text_is = told.done.told;
              });
          after = left_drained g new fresh k
              (λ now text. IsFaultsText options conf.namespace now.book.records text.items)
              text told.done;
          undamaged = tt;
          limit = tt;
          left = told.left;
        };
      }
      faults_done (Err fault) asked drains refused book = record {
        was_open = open_before;
        quiet = tt;
        refused = told_refused g old new hands conf open_before Flt fault refused;
        book = λ fresh k stands follow. let told = book fresh k stands follow in record {
          text_is = tt;
          after = tt;
          undamaged = told.undamaged;
          limit = told_limit g old new hands conf open_before Flt fresh k fault stands follow
              refused;
          left = told.left;
        };
      }
