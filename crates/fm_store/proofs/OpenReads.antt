-- The looks of an opening, one after another: what they read together, or what the first that
-- doesn't pass found.
use Rattle.std.proofs.Common.{◌≡◌, inl, inr, ℕ, ◌≤◌, List, [], length, Option}
use Rattle.std.proofs.Common.{Some, None, Result, Ok, Err, refl, sym, ◌∙◌, ap, subst, Bool, true}
use Rattle.std.proofs.Common.{false}
use Rattle.fm_outer.specs.Failures.{Rose}
use Rattle.fm_outer.specs.Moments.{IsSettled, OnlyRead}
use Rattle.fm_outer.specs.declared.disk.Disk.{Ghosts}
use Rattle.fm_journal.specs.JournalOf.{JournalOf}
use Rattle.fm_journal.specs.Keeps.{Keeps}
use Rattle.fm_saved.specs.declared.checkpoint.Checkpoint.{Checkpoint}
use Rattle.fm_saved.specs.declared.conf.Conf.{Conf}
use Rattle.fm_slots.specs.Format.{SlotOf}
use Rattle.fm_logs.specs.Contents.{Contents, AreTold, WereOnlyRead, active_of_two}
use Rattle.fm_logs.specs.LogsOf.{name_of_two}
use Rattle.fm_logs.specs.ReadsAsBook.{IsLog, SpellsConf}
use Rattle.fm_logs.specs.declared.disks.Disks.{Disks}
use Rattle.fm_logs.specs.declared.disks.DiskName.{DiskName}
use Rattle.fm_logs.specs.declared.disks.DiskName.TheVariants.{Conf as ConfDisk, ErrA, ErrB, SlotA}
use Rattle.fm_logs.specs.declared.disks.DiskName.TheVariants.{SlotB, Flt}
use Rattle.fm_logs.specs.declared.fault.StoreFault.{StoreFault}
use Rattle.fm_logs.specs.declared.fault.StoreFault.TheVariants.{Disk, Full, Closed, Damaged, Exists}
use Rattle.fm_logs.specs.declared.fault.StoreFault.TheVariants.{NoMemory}
use Rattle.fm_looks.specs.Bases.{SlotsKept, SlotsCause}
use Rattle.fm_looks.specs.Entries.{EntriesKept}
use Rattle.fm_looks.specs.Looks.{ConfsKept, LookCause}
use Rattle.fm_store.specs.Opened.{OpenedOf, Opens, OpenDoes, OpenRefused, RoseOnAny, RestOpens}
use Rattle.fm_store.specs.Opened.{RestDamage, RestRefused, RestDoes, ErrorsCause, active_disk}
use Rattle.fm_store.specs.Opened.{fault_at, six_disks}
use Rattle.fm_looks.specs.Opening.{WasRead, StorePasses, FirstStoreFinds, open_looks}
use Rattle.fm_looks.specs.Opening.{LogDamage, ConfsDamage, EntriesDamage, FitConfs}
use Rattle.fm_looks.specs.Opening.{first_checkpoint}
use Rattle.fm_looks.specs.Opening.{at_confs}
use Rattle.fm_looks.specs.declared.look.LookFault.{LookFault}
use Rattle.fm_looks.specs.declared.look.LookFault.TheVariants.{Disk as Failed, Damaged as IsDamaged}
use Rattle.fm_looks.specs.declared.look.LookFault.TheVariants.{NoMemory as WantsMemory}
use Rattle.fm_store.specs.declared.opening.OtherDisks.{OtherDisks}
use Rattle.fm_init.specs.declared.refused.StoreRefused.{StoreRefused}

-- all six were only read
pub were_read : {D : Type 0} (g : Ghosts D) (old new : Disks D) → OnlyRead g old.conf new.conf
    → OnlyRead g old.err_a new.err_a → OnlyRead g old.err_b new.err_b
    → OnlyRead g old.slot_a new.slot_a → OnlyRead g old.slot_b new.slot_b
    → OnlyRead g old.flt new.flt → WereOnlyRead g old new
were_read g old new conf a b slot_a slot_b flt ConfDisk = conf
were_read g old new conf a b slot_a slot_b flt ErrA = a
were_read g old new conf a b slot_a slot_b flt ErrB = b
were_read g old new conf a b slot_a slot_b flt SlotA = slot_a
were_read g old new conf a b slot_a slot_b flt SlotB = slot_b
were_read g old new conf a b slot_a slot_b flt Flt = flt

-- why the active error journal was not read
pub errors_caused : {D : Type 0} (g : Ghosts D) (known : ℕ) (checkpoint : Checkpoint) (old new : D)
    (disk : DiskName) (fault : LookFault) → disk ≡ name_of_two checkpoint.second
    → LookCause g (LogDamage (EntriesDamage known checkpoint)) old new fault
    → ErrorsCause g known checkpoint old new (fault_at disk fault)
errors_caused g known checkpoint old new disk Failed is cause = cause
errors_caused g known checkpoint old new disk (IsDamaged place) is cause = (is, cause)
errors_caused g known checkpoint old new disk WantsMemory is cause = tt

-- the same where it is the second, and where it is the first
pub second_caused : {D : Type 0} (g : Ghosts D) (known : ℕ) (checkpoint : Checkpoint)
    (err_a old new : D) (fault : LookFault) (stored : StoreFault) → checkpoint.second ≡ true
    → stored ≡ fault_at ErrB fault
    → LookCause g (LogDamage (EntriesDamage known checkpoint)) old new fault
    → ErrorsCause g known checkpoint (active_disk checkpoint.second err_a old)
    (active_disk checkpoint.second err_a new) stored
second_caused {D = D} g known checkpoint err_a old new fault stored second is cause =
    subst (λ (s : Bool). ErrorsCause g known checkpoint (active_disk s err_a old)
    (active_disk s err_a new) stored) (sym second)
    (subst (ErrorsCause g known checkpoint old new) (sym is)
    (errors_caused g known checkpoint old new ErrB fault (sym (ap name_of_two second)) cause))

pub first_caused : {D : Type 0} (g : Ghosts D) (known : ℕ) (checkpoint : Checkpoint)
    (err_b old new : D) (fault : LookFault) (stored : StoreFault) → checkpoint.second ≡ false
    → stored ≡ fault_at ErrA fault
    → LookCause g (LogDamage (EntriesDamage known checkpoint)) old new fault
    → ErrorsCause g known checkpoint (active_disk checkpoint.second old err_b)
    (active_disk checkpoint.second new err_b) stored
first_caused {D = D} g known checkpoint err_b old new fault stored second is cause =
    subst (λ (s : Bool). ErrorsCause g known checkpoint (active_disk s old err_b)
    (active_disk s new err_b) stored) (sym second)
    (subst (ErrorsCause g known checkpoint old new) (sym is)
    (errors_caused g known checkpoint old new ErrA fault (sym (ap name_of_two second)) cause))

module _ {D : Type 0} (g : Ghosts D) where
  -- the active journal's disk tells its content
  told_active : (disks : Disks D) (c : Contents) (second : Bool) → AreTold g disks c
      → g.seen (active_disk second disks.err_a disks.err_b) ≡ Some (active_of_two second c)
  told_active disks c true told = told ErrB
  told_active disks c false told = told ErrA

  rose_active : (old new : Disks D) (second : Bool)
      → Rose (g.failures (active_disk second old.err_a old.err_b))
      (g.failures (active_disk second new.err_a new.err_b)) → RoseOnAny g old new
  rose_active old new true rose = (ErrB, rose)
  rose_active old new false rose = (ErrA, rose)

  -- the slots were not read
  pub slots_refused : (known : ℕ) (old new : Disks D) (fault : StoreFault)
      → SlotsCause g known old.slot_a old.slot_b new.slot_a new.slot_b fault
      → RestRefused g known old new fault
  slots_refused known old new Disk (inl rose) = (SlotA, rose)
  slots_refused known old new Disk (inr rose) = (SlotB, rose)
  slots_refused known old new (Damaged disk place) cause = λ c told.
      inl (cause c.slot_a c.slot_b (told SlotA) (told SlotB))
  slots_refused known old new NoMemory cause = tt
  slots_refused known old new (Full kind) cause = absurd cause
  slots_refused known old new (Closed disk count) cause = absurd cause
  slots_refused known old new Exists cause = absurd cause

  -- the active error journal was not read
  pub errors_refused : (known : ℕ) (old new : Disks D) (newest : Option (Bool × ℕ))
      (checkpoint : Checkpoint) (fault : StoreFault)
      → ((x y : List ℕ) → g.seen old.slot_a ≡ Some x → g.seen old.slot_b ≡ Some y
      → SlotsKept x y known newest checkpoint)
      → ErrorsCause g known checkpoint (active_disk checkpoint.second old.err_a old.err_b)
      (active_disk checkpoint.second new.err_a new.err_b) fault
      → RestRefused g known old new fault
  errors_refused known old new newest checkpoint Disk slots cause =
      rose_active old new checkpoint.second cause
  errors_refused known old new newest checkpoint (Damaged disk place) slots cause = λ c told.
      inr (
        newest,
        checkpoint,
        slots c.slot_a c.slot_b (told SlotA) (told SlotB),
        cause.0,
        cause.1 (active_of_two checkpoint.second c) (told_active old c checkpoint.second told),
      )
  errors_refused known old new newest checkpoint NoMemory slots cause = tt
  errors_refused known old new newest checkpoint (Full kind) slots cause = absurd cause
  errors_refused known old new newest checkpoint (Closed disk count) slots cause = absurd cause
  errors_refused known old new newest checkpoint Exists slots cause = absurd cause

  -- both were
  pub rest_opens : (known : ℕ) (old : Disks D) (o : OpenedOf D)
      → ((x y : List ℕ) → g.seen old.slot_a ≡ Some x → g.seen old.slot_b ≡ Some y
      → SlotsKept x y known o.newest o.checkpoint)
      → ((c : List ℕ) → g.seen (active_disk o.checkpoint.second old.err_a old.err_b) ≡ Some c
      → EntriesKept g c known o.checkpoint o.active o.entries)
      → IsSettled g o.slot_a → IsSettled g o.slot_b → (c : Contents) → AreTold g old c
      → RestOpens g c known o
  rest_opens known old o slots entries a b c told = record {
    slots = slots c.slot_a c.slot_b (told SlotA) (told SlotB);
    entries = entries (active_of_two o.checkpoint.second c)
        (told_active old c o.checkpoint.second told);
    slot_a_settled = a;
    slot_b_settled = b;
  }

-- what was read of configurations and slots, before anything else was
abbrev read_so_far : List Conf → Option SlotOf → Option SlotOf → Checkpoint → WasRead
read_so_far confs a b checkpoint = record {
  confs = confs;
  slot_a = a;
  slot_b = b;
  checkpoint = checkpoint;
  first = 0;
  entries = [];
  modules = [];
  records = [];
}

module _ {D : Type 0} (g : Ghosts D) (disks : Disks D) (journal : JournalOf D) (confs : List Conf)
    (others : OtherDisks D) (some : 1 ≤ length confs)
    (same : six_disks disks.conf others ≡ disks) (still : g.seen journal.disk ≡ g.seen disks.conf)
    (counts : g.failures journal.disk ≡ g.failures disks.conf)
    (kept : (c : List ℕ) → g.seen disks.conf ≡ Some c → ConfsKept g c journal confs) where
  -- what the six tell, those beside the configurations' tell after it was read
  told_now : (c : Contents) → AreTold g disks c → AreTold g (six_disks journal.disk others) c
  told_now c told ConfDisk = still ∙ told ConfDisk
  told_now c told ErrA = ap (λ (d : Disks D). g.seen d.err_a) same ∙ told ErrA
  told_now c told ErrB = ap (λ (d : Disks D). g.seen d.err_b) same ∙ told ErrB
  told_now c told SlotA = ap (λ (d : Disks D). g.seen d.slot_a) same ∙ told SlotA
  told_now c told SlotB = ap (λ (d : Disks D). g.seen d.slot_b) same ∙ told SlotB
  told_now c told Flt = ap (λ (d : Disks D). g.seen d.flt) same ∙ told Flt

  -- a count that rose since rose
  rose_before : (new : Disks D) → RoseOnAny g (six_disks journal.disk others) new
      → RoseOnAny g disks new
  rose_before new (ConfDisk, rose) =
      (ConfDisk, subst (λ (n : ℕ). Rose n (g.failures new.conf)) counts rose)
  rose_before new (ErrA, rose) =
      (ErrA, subst (λ (d : Disks D). Rose (g.failures d.err_a) (g.failures new.err_a)) same rose)
  rose_before new (ErrB, rose) =
      (ErrB, subst (λ (d : Disks D). Rose (g.failures d.err_b) (g.failures new.err_b)) same rose)
  rose_before new (SlotA, rose) =
      (SlotA, subst (λ (d : Disks D). Rose (g.failures d.slot_a) (g.failures new.slot_a)) same rose)
  rose_before new (SlotB, rose) =
      (SlotB, subst (λ (d : Disks D). Rose (g.failures d.slot_b) (g.failures new.slot_b)) same rose)
  rose_before new (Flt, rose) =
      (Flt, subst (λ (d : Disks D). Rose (g.failures d.flt) (g.failures new.flt)) same rose)

  confs_pass : (c : Contents) → AreTold g disks c → (o : WasRead) → o.confs ≡ confs
      → StorePasses [] c o at_confs
  confs_pass c told o is =
      let k = kept c.conf (told ConfDisk) in
      subst (λ (l : List Conf). ((first : ℕ) × IsLog SpellsConf c.conf first l) × FitConfs l
      × (1 ≤ length l)) (sym is) (
        (journal.first, record { payloads = k.payloads; journal = k.is; spelled = k.spelled }),
        k.fit,
        some,
      )

  -- the looks beside that at the configurations found damage
  rest_found : (c : Contents) (disk : DiskName) (place : ℕ) → AreTold g disks c
      → RestDamage (length confs) c disk place → (read : WasRead)
      × FirstStoreFinds [] c read open_looks (record { disk = disk; place = place })
  rest_found c disk place told (inl (inl a)) =
      let o = read_so_far confs None None first_checkpoint in
      (o, inr (confs_pass c told o refl, inl a))
  rest_found c disk place told (inl (inr (a, is_a, inl b))) =
      let o = read_so_far confs a None first_checkpoint in
      (o, inr (confs_pass c told o refl, inr (is_a, inl b)))
  rest_found c disk place told (inl (inr (a, is_a, inr (b, is_b, none)))) =
      let o = read_so_far confs a b first_checkpoint in
      (o, inr (confs_pass c told o refl, inr (is_a, inr (is_b, inl none))))
  rest_found c disk place told (inr (newest, checkpoint, slots, is, damage)) =
      let o = read_so_far confs slots.slot_a slots.slot_b checkpoint in (
        o,
        inr (
          confs_pass c told o refl,
          inr (
            slots.a_is,
            inr (
              slots.b_is,
              inr (
                slots.says,
                inl (is, damage),
              ),
            ),
          ),
        ),
      )

  rest_refused : (new : Disks D) (fault : StoreFault)
      → RestRefused g (length confs) (six_disks journal.disk others) new fault
      → OpenRefused g disks new fault
  rest_refused new (Damaged disk place) refused = λ c told.
      rest_found c disk place told (refused c (told_now c told))
  rest_refused new Disk refused = rose_before new refused
  rest_refused new NoMemory refused = tt
  rest_refused new (Full kind) refused = absurd refused
  rest_refused new (Closed disk count) refused = absurd refused
  rest_refused new Exists refused = absurd refused

  rest_opened : (o : OpenedOf D) → o.conf ≡ journal → o.confs ≡ confs → (c : Contents)
      → AreTold g disks c → RestOpens g c (length confs) o → Opens g c o
  rest_opened o conf_is confs_is c told rest =
      let k = kept c.conf (told ConfDisk) in
      let e = rest.entries in
      record {
        read = record {
          confs = confs;
          slot_a = rest.slots.slot_a;
          slot_b = rest.slots.slot_b;
          checkpoint = o.checkpoint;
          first = o.active.first;
          entries = e.all;
          modules = [];
          records = [];
        };
        pass = (
          (
            (
              journal.first,
              record {
                payloads = k.payloads;
                journal = k.is;
                spelled = k.spelled;
              },
            ),
            k.fit,
            some,
          ),
          (
            rest.slots.a_is,
            (
              rest.slots.b_is,
              (
                rest.slots.says,
                (
                  (
                    record { payloads = e.payloads; journal = e.is; spelled = e.spelled },
                    e.begins,
                    e.reaches,
                    e.fit,
                  ),
                  tt,
                ),
              ),
            ),
          ),
        );
        conf_payloads = k.payloads;
        confs_keep = subst (λ (j : JournalOf D). Keeps g j k.payloads) (sym conf_is) k.keeps;
        confs_spelled = k.spelled;
        confs_are = confs_is;
        newest_is = rest.slots.newest_is;
        checkpoint_is = refl;
        payloads = e.payloads;
        active_keeps = e.keeps;
        active_spelled = e.spelled;
        first_is = refl;
        entries_are = e.entries_are;
        slot_a_settled = rest.slot_a_settled;
        slot_b_settled = rest.slot_b_settled;
      }

  -- what the opening does is what the looks beside that at the configurations do
  pub open_does : (result : Result (OpenedOf D) (StoreRefused D))
      → RestDoes g journal confs others result → OpenDoes g disks result
  open_does (Ok o) does = λ c told.
      rest_opened o does.0 does.1 c told (does.2 c (told_now c told))
  open_does (Err refused) does = rest_refused refused.disks refused.fault does

-- the configurations were not read
pub confs_refused : {D : Type 0} (g : Ghosts D) (old new : Disks D) (fault : LookFault)
    → LookCause g (LogDamage ConfsDamage) old.conf new.conf fault
    → OpenRefused g old new (fault_at ConfDisk fault)
confs_refused g old new Failed cause = (ConfDisk, cause)
confs_refused g old new (IsDamaged place) cause = λ c told.
    (read_so_far [] None None first_checkpoint, inl (refl, cause c.conf (told ConfDisk)))
confs_refused g old new WantsMemory cause = tt
