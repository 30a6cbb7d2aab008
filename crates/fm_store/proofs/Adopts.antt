-- An open store with its modules stands for the book that the looks read; or one of the looks at
-- the states and the records finds damage.
use Rattle.std.proofs.Common.{◌≡◌, inl, inr, ℕ, ◌+◌, ◌-◌, ◌≤◌, List, [], ◌++◌, length, take}
use Rattle.std.proofs.Common.{drop, Bool, true, false, Option, Some, None, refl, sym, ◌∙◌, ap}
use Rattle.std.proofs.Common.{subst}
use Rattle.std.proofs.Common.{arith}
use Rattle.std.specs.Prelude.{if◌then◌else◌}
use Rattle.std.specs.Option.{ForSome}
use Rattle.std.proofs.lemmas.List.{take-append-drop, length-take-le}
use Rattle.fm_core.specs.Book.{Book, ModuleState}
use Rattle.fm_core.specs.Hands.{HandOf}
use Rattle.fm_core.specs.Meaning.{Meaning, conf_of}
use Rattle.fm_core.specs.declared.module.Module.{Ghosts as ModuleGhosts}
use Rattle.fm_entry.specs.declared.entry.Entry.{Entry}
use Rattle.fm_init.specs.Making.{AreFirstModules}
use Rattle.fm_journal.specs.JournalOf.{JournalOf}
use Rattle.fm_logs.specs.Contents.{Contents, AreTold}
use Rattle.fm_logs.specs.LogsLimits.{logs_of}
use Rattle.fm_payloads.specs.Spelling.{EachSpells}
use Rattle.fm_logs.specs.ReadsAsBook.{AreLoaded, SpellsConf, SpellsEntry}
use Rattle.fm_logs.specs.StoreBook.{StoreBook, IsLawfulStore}
use Rattle.fm_logs.specs.declared.disks.DiskName.{DiskName}
use Rattle.fm_logs.specs.declared.disks.DiskName.TheVariants.{ErrA, ErrB, SlotA, SlotB, Flt}
use Rattle.fm_logs.specs.declared.disks.Disks.{Disks}
use Rattle.fm_logs.specs.declared.fault.StoreFault.{StoreFault}
use Rattle.fm_logs.specs.declared.fault.StoreFault.TheVariants.{Disk, Damaged, NoMemory}
use Rattle.fm_logs.specs.declared.fault.StoreFault.TheVariants.{Full, Closed, Exists}
use Rattle.fm_outer.specs.declared.disk.Disk.{Ghosts}
use Rattle.fm_retrace.specs.Retracing.{cursors_of, hands_from}
use Rattle.fm_retrace.specs.declared.retraced.Retraced.{Retraced}
use Rattle.fm_saved.specs.declared.checkpoint.Checkpoint.{Checkpoint}
use Rattle.fm_saved.specs.declared.conf.Conf.{Conf}
use Rattle.fm_slots.specs.Format.{SlotOf}
use Rattle.fm_slots.specs.InForce.{in_force}
use Rattle.fm_store.specs.Adopting.{Adopts, AdoptRefused, HandsFollow, KnowAll}
use Rattle.fm_looks.specs.Bases.{newest_of}
use Rattle.fm_looks.specs.FaultLog.{BeginsAt, FaultsDamage, RecordsKept}
use Rattle.fm_store.specs.Loading.{AreAtBase, AreSilent, BaseRefused, states_of}
use Rattle.fm_looks.specs.Looks.{LookCause}
use Rattle.fm_store.specs.Opened.{OpenedOf, Opens, disks_of, fault_at}
use Rattle.fm_looks.specs.Opening.{WasRead, AllStorePass, FirstStoreFinds, FitRecords, LoadsStates}
use Rattle.fm_looks.specs.Opening.{LogDamage, RecordsDamage, SaysCheckpoint, all_looks, book_read}
use Rattle.fm_looks.specs.Opening.{floored_book, from_base, slot_disk, unfloored_book}
use Rattle.fm_store.specs.StoreLimits.{base_of}
use Rattle.fm_store.specs.StoreOf.{StoreOf, StoreStandsFor, KnowConfs, SlotsSay, made_modules}
use Rattle.fm_looks.specs.declared.look.LookFault.{LookFault}
use Rattle.fm_looks.specs.declared.look.LookFault.TheVariants.{Disk as Failed}
use Rattle.fm_looks.specs.declared.look.LookFault.TheVariants.{Damaged as IsDamaged}
use Rattle.fm_looks.specs.declared.look.LookFault.TheVariants.{NoMemory as WantsMemory}
use Rattle.fm_store.proofs.BaseSlots.{images_keep, images_beside}
use Rattle.fm_store.proofs.Loads.{loaded_back}
use Rattle.fm_store.proofs.OpeningLaws.{reads_as_book, says_base}
use Rattle.fm_store.proofs.Retold.{BearNumbers, begins_at, floors_are, hands_follow}

-- the states of the modules at the base load, as the slots say
loads_states : (fresh : List ModuleState) (saves : List (List ℕ)) (modules : List ModuleState)
    (found : Option (Bool × SlotOf)) (newest : Option (Bool × ℕ)) (checkpoint : Checkpoint)
    → newest ≡ newest_of found → AreLoaded fresh saves modules
    → AreAtBase fresh newest checkpoint.conf checkpoint.states saves modules
    → LoadsStates fresh found checkpoint modules
loads_states fresh saves modules None newest checkpoint is loaded at =
    subst (λ (n : Option (Bool × ℕ)).
    AreAtBase fresh n checkpoint.conf checkpoint.states saves modules) is at
loads_states fresh saves modules (Some found) newest checkpoint is loaded at =
    let here = subst (λ (n : Option (Bool × ℕ)).
    AreAtBase fresh n checkpoint.conf checkpoint.states saves modules) is at in
    (subst (λ (l : List (List ℕ)). AreLoaded fresh l modules) here.0 loaded, here.1)

-- or they don't, in the slot in force
states_refused : (fresh : List ModuleState) (known : ℕ) (found : Option (Bool × SlotOf))
    (newest : Option (Bool × ℕ)) (checkpoint : Checkpoint) (disk : DiskName) (place : ℕ)
    → newest ≡ newest_of found → SaysCheckpoint known found checkpoint
    → BaseRefused fresh newest checkpoint.conf checkpoint.states (Damaged disk place)
    → (disk ≡ slot_disk found) × (place ≡ 13) × ((modules : List ModuleState)
    → LoadsStates fresh found checkpoint modules → ⊥)
states_refused fresh known None newest checkpoint disk place is says refused =
    absurd (subst (λ (n : Option (Bool × ℕ)).
    BaseRefused fresh n checkpoint.conf checkpoint.states (Damaged disk place)) is refused)
states_refused fresh known (Some found) newest checkpoint disk place is says refused =
    let here = subst (λ (n : Option (Bool × ℕ)).
    BaseRefused fresh n checkpoint.conf checkpoint.states (Damaged disk place)) is refused in
    (here.0, here.1, λ modules loads. here.2 says.0.states_fit modules loads.0 loads.1)

-- the disk of the error journal that is not active tells its bytes
spare_tells : {D : Type 0} (g : Ghosts D) (second : Bool) (spare active : D) (x y : List ℕ)
    → g.seen (if second then spare else active) ≡ Some x
    → g.seen (if second then active else spare) ≡ Some y
    → (bytes : List ℕ) × (g.seen spare ≡ Some bytes)
spare_tells g true spare active x y a b = (x, a)
spare_tells g false spare active x y a b = (y, b)

module _ {D M : Type 0} (g : Ghosts D) (m : ModuleGhosts M) (o : OpenedOf D) (kept : List M)
    (c : Contents) (opens : Opens g c o) (told : AreTold g (disks_of o) c)
    (first : AreFirstModules (made_modules m kept)) where
  abbrev fresh : List ModuleState
  fresh = made_modules m kept

  abbrev found : Option (Bool × SlotOf)
  found = in_force opens.read.slot_a opens.read.slot_b

  says : SaysCheckpoint (length opens.read.confs) found o.checkpoint
  says =
      subst (SaysCheckpoint (length opens.read.confs) found) (sym opens.checkpoint_is)
      opens.pass.1.1.1.0

  -- damage of the states in the slot in force
  pub base_damaged : (disk : DiskName) (place : ℕ)
      → BaseRefused fresh o.newest o.checkpoint.conf o.checkpoint.states (Damaged disk place)
      → (read : WasRead)
      × FirstStoreFinds fresh c read all_looks (record { disk = disk; place = place })
  base_damaged disk place refused =
      let there = states_refused fresh (length opens.read.confs) found o.newest o.checkpoint disk
      place opens.newest_is says refused in (
        opens.read,
        inr (
          opens.pass.0,
          inr (
            opens.pass.1.0,
            inr (
              opens.pass.1.1.0,
              inr (
                opens.pass.1.1.1.0,
                inr (
                  opens.pass.1.1.1.1.0,
                  inl (
                    there.0,
                    there.1,
                    λ modules loads. there.2 modules
                        (subst (λ (k : Checkpoint). LoadsStates fresh found k modules)
                        (sym opens.checkpoint_is) loads),
                  ),
                ),
              ),
            ),
          ),
        ),
      )

  module _ (saves : List (List ℕ)) (modules : List (Retraced M))
      (loaded : AreLoaded (made_modules m kept) saves (states_of m modules))
      (silent : AreSilent modules)
      (at_base : AreAtBase (made_modules m kept) o.newest o.checkpoint.conf o.checkpoint.states
      saves (states_of m modules)) where
    abbrev at_start : List ModuleState
    at_start = states_of m modules

    abbrev start : Book
    start = unfloored_book o.checkpoint at_start o.entries []

    numbered : BearNumbers at_start
    numbered i p there =
        let of = loaded_back fresh saves at_start i p loaded there in
        ap (λ (x : Meaning). x.own) of.2 ∙ first.numbered i of.0 of.1

    pub begins : BeginsAt m o.checkpoint.base o.entries modules start
    begins = begins_at m start modules refl numbered silent

    loads : LoadsStates fresh found o.checkpoint at_start
    loads =
        loads_states fresh saves at_start found o.newest o.checkpoint opens.newest_is loaded at_base

    loads_read : LoadsStates fresh found opens.read.checkpoint at_start
    loads_read =
        subst (λ (k : Checkpoint). LoadsStates fresh found k at_start) opens.checkpoint_is loads

    -- damage of the fault log
    pub log_damaged : (place : ℕ) → FaultsDamage m o.checkpoint.base o.entries modules c.flt place
        → (read : WasRead)
        × FirstStoreFinds fresh c read all_looks (record { disk = Flt; place = place })
    log_damaged place damage =
        let here : LogDamage (RecordsDamage o.checkpoint at_start o.entries) c.flt place =
        damage start begins in (
          record opens.read { modules = at_start },
          inr (
            opens.pass.0,
            inr (
              opens.pass.1.0,
              inr (
                opens.pass.1.1.0,
                inr (
                  opens.pass.1.1.1.0,
                  inr (
                    opens.pass.1.1.1.1.0,
                    inr (
                      loads_read,
                      inl (
                        refl,
                        subst (λ (l : List Entry).
                            LogDamage (RecordsDamage opens.read.checkpoint at_start l) c.flt place)
                            opens.entries_are
                            (subst (λ (k : Checkpoint).
                            LogDamage (RecordsDamage k at_start o.entries) c.flt place)
                            opens.checkpoint_is here),
                      ),
                    ),
                  ),
                ),
              ),
            ),
          ),
        )

    module _ (know : KnowAll (length o.confs) (made_modules m kept)) (flt : JournalOf D)
        (later : List (Retraced M))
        (retold : RecordsKept g m c.flt (unfloored_book o.checkpoint (states_of m modules)
        o.entries []) flt later) where
      abbrev read : WasRead
      read = record opens.read { modules = at_start; records = retold.records }

      abbrev the_book : StoreBook
      the_book = record {
        book = floored_book o.checkpoint at_start o.entries retold.records;
        confs = o.confs;
        in_force = o.checkpoint.conf;
      }

      abbrev the_store : StoreOf D M
      the_store = record {
        logs = logs_of o.active flt o.checkpoint.second o.checkpoint.base o.entries
            (cursors_of o.checkpoint.base later) None;
        base = base_of o.conf o.spare o.slot_a o.slot_b o.newest o.checkpoint.moment
            o.checkpoint.conf kept saves;
      }

      -- what is open is what was read
      book_is : the_book ≡ book_read read
      book_is =
          ap (λ (k : Checkpoint). of k o.entries o.confs) opens.checkpoint_is
          ∙ ap (λ (l : List Entry). of opens.read.checkpoint l o.confs) opens.entries_are
          ∙ ap (of opens.read.checkpoint (from_base opens.read)) opens.confs_are
        where
          of : Checkpoint → List Entry → List Conf → StoreBook
          of k entries confs = record {
            book = floored_book k at_start entries retold.records;
            confs = confs;
            in_force = k.conf;
          }

      fit : FitRecords opens.read.checkpoint at_start (from_base opens.read) retold.records
      fit =
          subst (λ (l : List Entry). FitRecords opens.read.checkpoint at_start l retold.records)
          opens.entries_are
          (subst (λ (k : Checkpoint). FitRecords k at_start o.entries retold.records)
          opens.checkpoint_is retold.fit)

      pass : AllStorePass fresh c read all_looks
      pass = (
        opens.pass.0,
        (
          opens.pass.1.0,
          (
            opens.pass.1.1.0,
            (
              opens.pass.1.1.1.0,
              (
                opens.pass.1.1.1.1.0,
                (
                  loads_read,
                  (
                    (
                      (
                        flt.first,
                        record {
                          payloads = retold.payloads;
                          journal = retold.is;
                          spelled = retold.spelled;
                        },
                      ),
                      fit,
                    ),
                    tt,
                  ),
                ),
              ),
            ),
          ),
        ),
      )

      lawful : IsLawfulStore the_book
      lawful =
          subst IsLawfulStore (sym book_is) (reads_as_book fresh c read first pass).lawful

      -- the entries before the base, and those from there on
      abbrev older : List Entry
      older = take (o.checkpoint.base - opens.read.first) opens.read.entries

      whole : opens.read.entries ≡ older ++ o.entries
      whole =
          sym (take-append-drop (o.checkpoint.base - opens.read.first) opens.read.entries)
          ∙ ap (λ (k : Checkpoint). older ++ drop (k.base - opens.read.first) opens.read.entries)
          opens.checkpoint_is
          ∙ ap (λ (l : List Entry). older ++ l) (sym opens.entries_are)

      counted : o.active.first + length older ≡ o.checkpoint.base
      counted =
          let entries = opens.pass.1.1.1.1.0 in
          let base : o.checkpoint.base ≡ opens.read.checkpoint.base =
          ap (λ (k : Checkpoint). k.base) opens.checkpoint_is in
          let fits : o.checkpoint.base - opens.read.first ≤ length opens.read.entries =
          omega (arith, base, entries.1, entries.2) in
          omega (
            arith,
            base,
            entries.1,
            opens.first_is,
            length-take-le (o.checkpoint.base - opens.read.first) opens.read.entries fits,
          )

      slots : SlotsSay g fresh o.checkpoint.second the_store.base the_book
      slots = record {
        found = found;
        newest_is = opens.newest_is;
        kept = images_keep g o.slot_a o.slot_b c.slot_a c.slot_b opens.slot_a_settled
            opens.slot_b_settled (told SlotA) (told SlotB) opens.read.slot_a opens.read.slot_b
            opens.pass.1.0 opens.pass.1.1.0 o.newest opens.newest_is;
        beside = images_beside g o.slot_a o.slot_b c.slot_a c.slot_b opens.slot_a_settled
            opens.slot_b_settled (told SlotA) (told SlotB) opens.read.slot_a opens.read.slot_b
            opens.pass.1.0 opens.pass.1.1.0 o.newest opens.newest_is;
        checkpoint = o.checkpoint;
        says = says_base fresh (length opens.read.confs) found o.checkpoint at_start says loads;
        second_is = refl;
        base_is = refl;
        moment_is = refl;
        force_is = refl;
      }

      know_confs : KnowConfs (length o.confs) at_start
      know_confs i p there =
          let of = loaded_back fresh saves at_start i p loaded there in
          subst (λ (x : Meaning). ForSome (conf_of x p.state) (λ conf. x.known ≡ length o.confs))
          (sym of.2) (know i of.0 p.state of.1)

      stands : StoreStandsFor g fresh the_store the_book
      stands = record {
        older = older;
        keep = record {
          is_open = refl;
          begins = counted;
          entry_payloads = opens.payloads;
          entries_keep = opens.active_keeps;
          entries_spelled =
              subst (EachSpells SpellsEntry opens.payloads) whole opens.active_spelled;
          record_payloads = retold.payloads;
          records_keep = retold.keeps;
          records_spelled = retold.spelled;
        };
        base_is = refl;
        entries_are = refl;
        cursors_are = floors_are m start retold.records later retold.fit retold.come;
        conf_payloads = opens.conf_payloads;
        confs_keep = opens.confs_keep;
        confs_spelled =
            subst (EachSpells SpellsConf opens.conf_payloads) (sym opens.confs_are)
            opens.confs_spelled;
        slots = slots;
        spare_told = spare_tells g o.checkpoint.second o.spare o.active.disk c.err_a c.err_b
            (told ErrA) (told ErrB);
        moment_is = refl;
        force_is = refl;
        loaded = loaded;
        know = know_confs;
        lawful = lawful;
      }

      -- the store stands for the book, and the hands follow it
      pub adopts : (store : StoreOf D M) (hands : List (HandOf M)) (cursors : List ℕ)
          → cursors ≡ cursors_of o.checkpoint.base later
          → hands ≡ hands_from o.checkpoint.base 0 later
          → store ≡ record {
            logs = logs_of o.active flt o.checkpoint.second o.checkpoint.base o.entries cursors
                None;
            base = base_of o.conf o.spare o.slot_a o.slot_b o.newest o.checkpoint.moment
                o.checkpoint.conf kept saves;
          }
          → Adopts g m c (made_modules m kept) store hands
      adopts store hands cursors cursors_is hands_is store_is =
          let is : store ≡ the_store =
          store_is ∙ ap (λ (l : List ℕ). record {
            logs = logs_of o.active flt o.checkpoint.second o.checkpoint.base o.entries l None;
            base = base_of o.conf o.spare o.slot_a o.slot_b o.newest o.checkpoint.moment
                o.checkpoint.conf kept saves;
          }) cursors_is in
          record {
            read = read;
            pass = pass;
            stands = subst (λ (s : StoreOf D M). StoreStandsFor g fresh s (book_read read))
                (sym is) (subst (StoreStandsFor g fresh the_store) book_is stands);
            follow = subst (λ (l : List (HandOf M)). HandsFollow m (book_read read).book l)
                (sym hands_is)
                (subst (λ (k : StoreBook). HandsFollow m k.book
                (hands_from o.checkpoint.base 0 later)) book_is
                (hands_follow m start retold.records later retold.fit retold.come));
          }

-- why modules were not adopted, by what refused them
module _ {D M : Type 0} (g : Ghosts D) (m : ModuleGhosts M) (o : OpenedOf D) (kept : List M)
    (first : AreFirstModules (made_modules m kept)) where
  pub base_refused : (new : Disks D) (fault : StoreFault)
      → BaseRefused (made_modules m kept) o.newest o.checkpoint.conf o.checkpoint.states fault
      → AdoptRefused g (made_modules m kept) o new fault
  base_refused new (Damaged disk place) refused = λ c opens told.
      base_damaged g m o kept c opens told first disk place refused
  base_refused new NoMemory refused = tt
  base_refused new Disk refused = none o.newest refused
    where
      none : (n : Option (Bool × ℕ))
          → BaseRefused (made_modules m kept) n o.checkpoint.conf o.checkpoint.states Disk
          → AdoptRefused g (made_modules m kept) o new Disk
      none None r = absurd r
      none (Some x) r = absurd r
  base_refused new (Full kind) refused = none o.newest refused
    where
      none : (n : Option (Bool × ℕ))
          → BaseRefused (made_modules m kept) n o.checkpoint.conf o.checkpoint.states (Full kind)
          → ⊥
      none None r = r
      none (Some x) r = r
  base_refused new (Closed disk count) refused = none o.newest refused
    where
      none : (n : Option (Bool × ℕ)) → BaseRefused (made_modules m kept) n o.checkpoint.conf
          o.checkpoint.states (Closed disk count) → ⊥
      none None r = r
      none (Some x) r = r
  base_refused new Exists refused = none o.newest refused
    where
      none : (n : Option (Bool × ℕ))
          → BaseRefused (made_modules m kept) n o.checkpoint.conf o.checkpoint.states Exists → ⊥
      none None r = r
      none (Some x) r = r

  pub log_refused : (saves : List (List ℕ)) (modules : List (Retraced M))
      → AreLoaded (made_modules m kept) saves (states_of m modules) → AreSilent modules
      → AreAtBase (made_modules m kept) o.newest o.checkpoint.conf o.checkpoint.states saves
      (states_of m modules) → (new : Disks D) (fault : LookFault)
      → LookCause g (FaultsDamage m o.checkpoint.base o.entries modules) o.flt new.flt fault
      → AdoptRefused g (made_modules m kept) o new (fault_at Flt fault)
  log_refused saves modules loaded silent at_base new Failed cause = (Flt, cause)
  log_refused saves modules loaded silent at_base new (IsDamaged place) cause = λ c opens told.
      log_damaged g m o kept c opens told first saves modules loaded silent at_base place
      (cause c.flt (told Flt))
  log_refused saves modules loaded silent at_base new WantsMemory cause = tt
