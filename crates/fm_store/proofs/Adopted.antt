-- What an adopting hands back, in terms of the open store that it began with.
use Rattle.std.proofs.Common.{◌≡◌, ℕ, ◌+◌, ◌≤◌, List, [], length, map, Bool, true, false, None}
use Rattle.std.proofs.Common.{refl}
use Rattle.std.proofs.Common.{sym, ◌∙◌, ap, subst, arith, slice_get, Some, max}
use Rattle.std.specs.Prelude.{if◌then◌else◌}
use Rattle.std.proofs.lemmas.List.{length-map}
use Rattle.fm_core.specs.Book.{Book, ModuleState}
use Rattle.fm_core.specs.Hands.{HandOf}
use Rattle.fm_core.specs.Meaning.{Meaning}
use Rattle.fm_core.specs.declared.module.Module.{Ghosts as ModuleGhosts}
use Rattle.fm_core.proofs.Lists.{all_map, map_get, map_got}
use Rattle.fm_entry.specs.declared.entry.Entry.{Entry}
use Rattle.fm_init.specs.Making.{AreFirstModules}
use Rattle.fm_init.specs.declared.refused.StoreRefused.{StoreRefused}
use Rattle.fm_journal.specs.JournalOf.{JournalOf}
use Rattle.fm_logs.specs.Contents.{Contents, AreTold, WereOnlyRead, disk_named}
use Rattle.fm_logs.specs.LogsLimits.{logs_of}
use Rattle.fm_logs.specs.ReadsAsBook.{AreLoaded}
use Rattle.fm_logs.specs.declared.disks.DiskName.{DiskName}
use Rattle.fm_logs.specs.declared.disks.DiskName.TheVariants.{Conf, ErrA, ErrB, SlotA, SlotB, Flt}
use Rattle.fm_logs.specs.declared.fault.StoreFault.{StoreFault}
use Rattle.fm_logs.specs.declared.fault.StoreFault.TheVariants.{NoMemory}
use Rattle.fm_outer.specs.Moments.{OnlyRead}
use Rattle.fm_outer.specs.declared.disk.Disk.{Ghosts}
use Rattle.fm_outer.proofs.Moments.{OnlyNow, read-none}
use Rattle.fm_retrace.specs.Retracing.{AreNumbered, AreWithin, cursors_of, hands_from}
use Rattle.fm_retrace.specs.Retracing.{meanings_of}
use Rattle.fm_retrace.proofs.Come.{all_at}
use Rattle.fm_retrace.specs.declared.retraced.Retraced.{Retraced}
use Rattle.fm_store.specs.Adopting.{Adopts, AdoptRefused, IsAdopted, KnowAll}
use Rattle.fm_store.specs.Cursors.{IsAtCursor}
use Rattle.fm_store.specs.Beside.{beside_of}
use Rattle.fm_looks.specs.FaultLog.{BeginsAt, FaultsDamage, RecordsKept}
use Rattle.fm_store.specs.Loading.{AreAtBase, AreSilent, BaseRefused, states_of}
use Rattle.fm_looks.specs.Looks.{LookCause}
use Rattle.fm_store.specs.Opened.{OpenedOf, Opens, disks_of, fault_at}
use Rattle.fm_looks.specs.Opening.{unfloored_book}
use Rattle.fm_store.specs.StoreLeft.{store_disk}
use Rattle.fm_store.specs.StoreLimits.{base_of}
use Rattle.fm_store.specs.StoreOf.{StoreOf, made_modules, of_two}
use Rattle.fm_store.specs.declared.adopting.Beside.{Beside}
use Rattle.fm_looks.specs.declared.look.LookFault.{LookFault}
use Rattle.fm_store.proofs.Adopts.{adopts, base_refused, begins, log_refused}
use Rattle.fm_store.proofs.Loads.{loaded_back, loaded_length}
use Rattle.fm_store.proofs.Retold.{hands_at, hands_cursors, hands_length}

-- each object has the number of its place
pub loaded_numbers : {M : Type 0} (m : ModuleGhosts M) (fresh : List ModuleState)
    (saves : List (List ℕ)) (modules : List (Retraced M))
    → AreLoaded fresh saves (states_of m modules) → AreFirstModules fresh
    → AreNumbered (meanings_of m modules)
loaded_numbers {M = M} m fresh saves modules loaded first i x there =
    let found = map_got (λ (own : Retraced M). m.meaning own.object) modules i x there in
    let own : Retraced M = found.0 in
    let of = loaded_back fresh saves (states_of m modules) i
    (record { meaning = m.meaning own.object; state = m.state own.object }) loaded
    (map_get (λ (o : Retraced M). record { meaning = m.meaning o.object; state = m.state o.object })
    modules i own found.1) in
    ap (λ (y : Meaning). y.own) (sym found.2) ∙ ap (λ (y : Meaning). y.own) of.2
    ∙ first.numbered i of.0 of.1

-- as many objects as modules were made
pub loaded_objects : {M : Type 0} (m : ModuleGhosts M) (kept : List M) (saves : List (List ℕ))
    (modules : List (Retraced M))
    → AreLoaded (made_modules m kept) saves (states_of m modules) → length modules ≡ length kept
loaded_objects {M = M} m kept saves modules loaded =
    sym (length-map modules (λ (own : Retraced M). record {
      meaning = m.meaning own.object;
      state = m.state own.object;
    }))
    ∙ loaded_length (made_modules m kept) saves (states_of m modules) loaded
    ∙ length-map kept (λ (x : M). record { meaning = m.meaning x; state = m.state x })

-- as many objects as before
pub same_many : {M : Type 0} (m : ModuleGhosts M) (old new : List (Retraced M))
    → meanings_of m new ≡ meanings_of m old → length new ≡ length old
same_many {M = M} m old new same =
    sym (length-map new (λ (own : Retraced M). m.meaning own.object))
    ∙ ap (λ (l : List Meaning). length l) same
    ∙ length-map old (λ (own : Retraced M). m.meaning own.object)

pub cursors_length : {M : Type 0} (base : ℕ) (modules : List (Retraced M))
    → length (cursors_of base modules) ≡ length modules
cursors_length {M = M} base modules = length-map modules (λ (own : Retraced M). max base own.past)

-- the disk of two
two_is : {X : Type 0} (s : Bool) (a b : X) → (if s then b else a) ≡ of_two s a b
two_is true a b = refl
two_is false a b = refl

two_other : {X : Type 0} (s : Bool) (a b : X) → (if s then a else b) ≡ of_two s b a
two_other true a b = refl
two_other false a b = refl

module _ {D : Type 0} (g : Ghosts D) (only_now : OnlyNow g) (o : OpenedOf D) (b : Beside D)
    (is : b ≡ beside_of o) (flt : D) (fault : StoreFault) (r : StoreRefused D)
    (r_is : r ≡ record {
      disks = record {
        conf = b.conf.disk;
        err_a = if b.second then b.spare else b.active.disk;
        err_b = if b.second then b.active.disk else b.spare;
        slot_a = b.slot_a;
        slot_b = b.slot_b;
        flt = flt;
      };
      fault = fault;
    }) where
  back : r ≡ record { disks = record (disks_of o) { flt = flt }; fault = fault }
  back =
      r_is
      ∙ ap (λ (x : Beside D). of x) is
    where
      of : Beside D → StoreRefused D
      of x = record {
        disks = record {
          conf = x.conf.disk;
          err_a = if x.second then x.spare else x.active.disk;
          err_b = if x.second then x.active.disk else x.spare;
          slot_a = x.slot_a;
          slot_b = x.slot_b;
          flt = flt;
        };
        fault = fault;
      }

  -- the disks come back
  pub refused_back : OnlyRead g o.flt flt → WereOnlyRead g (disks_of o) r.disks
  refused_back still =
      subst (λ (x : StoreRefused D). WereOnlyRead g (disks_of o) x.disks) (sym back)
      (each still)
    where
      each : OnlyRead g o.flt flt
          → WereOnlyRead g (disks_of o) (record (disks_of o) { flt = flt })
      each s Conf = read-none g only_now o.conf.disk
      each s ErrA = read-none g only_now (disks_of o).err_a
      each s ErrB = read-none g only_now (disks_of o).err_b
      each s SlotA = read-none g only_now o.slot_a
      each s SlotB = read-none g only_now o.slot_b
      each s Flt = s

  pub unread_back : flt ≡ o.flt → WereOnlyRead g (disks_of o) r.disks
  unread_back same =
      refused_back (subst (OnlyRead g o.flt) (sym same) (read-none g only_now o.flt))

  module _ {M : Type 0} (m : ModuleGhosts M) (kept : List M)
      (first : AreFirstModules (made_modules m kept)) where
    pub refused_memory : fault ≡ NoMemory → AdoptRefused g (made_modules m kept) o r.disks r.fault
    refused_memory none =
        subst (λ (x : StoreRefused D). AdoptRefused g (made_modules m kept) o x.disks x.fault)
        (sym back)
        (subst (AdoptRefused g (made_modules m kept) o (record (disks_of o) { flt = flt }))
        (sym none) tt)

    pub refused_base : (states : List (List ℕ)) → states ≡ o.checkpoint.states
        → BaseRefused (made_modules m kept) b.newest b.in_force states fault
        → AdoptRefused g (made_modules m kept) o r.disks r.fault
    refused_base states same refused =
        subst (λ (x : StoreRefused D). AdoptRefused g (made_modules m kept) o x.disks x.fault)
        (sym back)
        (base_refused g m o kept first (record (disks_of o) { flt = flt }) fault
        (subst (λ (x : Beside D). BaseRefused (made_modules m kept) x.newest x.in_force
        o.checkpoint.states fault) is
        (subst (λ (l : List (List ℕ)).
        BaseRefused (made_modules m kept) b.newest b.in_force l fault) same refused)))

    pub refused_log : (states saves : List (List ℕ)) (entries : List Entry) (disk : D)
        (modules : List (Retraced M)) (look : LookFault) → states ≡ o.checkpoint.states
        → entries ≡ o.entries → disk ≡ o.flt → fault ≡ fault_at Flt look
        → AreLoaded (made_modules m kept) saves (states_of m modules) → AreSilent modules
        → AreAtBase (made_modules m kept) b.newest b.in_force states saves (states_of m modules)
        → LookCause g (FaultsDamage m b.base entries modules) disk flt look
        → AdoptRefused g (made_modules m kept) o r.disks r.fault
    refused_log states saves entries disk modules look states_are entries_are disk_is fault_is
        loaded silent at cause =
        subst (λ (x : StoreRefused D). AdoptRefused g (made_modules m kept) o x.disks x.fault)
        (sym back)
        (subst (AdoptRefused g (made_modules m kept) o (record (disks_of o) { flt = flt }))
        (sym fault_is)
        (log_refused g m o kept first saves modules loaded silent
        (subst (λ (x : Beside D). AreAtBase (made_modules m kept) x.newest x.in_force
        o.checkpoint.states saves (states_of m modules)) is
        (subst (λ (l : List (List ℕ)). AreAtBase (made_modules m kept) b.newest b.in_force l saves
        (states_of m modules)) states_are at))
        (record (disks_of o) { flt = flt }) look
        (subst (λ (x : Beside D). LookCause g (FaultsDamage m x.base o.entries modules) o.flt flt
        look) is
        (subst (λ (l : List Entry). LookCause g (FaultsDamage m b.base l modules) o.flt flt look)
        entries_are
        (subst (λ (d : D). LookCause g (FaultsDamage m b.base entries modules) d flt look) disk_is
        cause)))))

-- the store of these parts
abbrev pub store_over : {D M : Type 0} → Beside D → JournalOf D → List Entry → List ℕ → List M
    → List (List ℕ) → StoreOf D M
store_over b flt entries cursors kept saves = record {
  logs = logs_of b.active flt b.second b.base entries cursors None;
  base = base_of b.conf b.spare b.slot_a b.slot_b b.newest b.moment b.in_force kept saves;
}

module _ {D M : Type 0} (o : OpenedOf D) (b : Beside D) (is : b ≡ beside_of o) (flt : JournalOf D)
    (entries : List Entry) (entries_are : entries ≡ o.entries) (cursors : List ℕ) (kept : List M)
    (saves : List (List ℕ)) (store : StoreOf D M)
    (store_is : store ≡ store_over b flt entries cursors kept saves) where
  pub whole_store : store ≡ store_over (beside_of o) flt o.entries cursors kept saves
  whole_store =
      store_is
      ∙ ap (λ (x : Beside D). store_over x flt entries cursors kept saves) is
      ∙ ap (λ (l : List Entry). store_over (beside_of o) flt l cursors kept saves) entries_are

  pub adopted_read : (g : Ghosts D) → OnlyNow g → OnlyRead g o.flt flt.disk → (name : DiskName)
      → OnlyRead g (disk_named name (disks_of o)) (store_disk name store)
  adopted_read g only_now still name =
      subst (λ (s : StoreOf D M). OnlyRead g (disk_named name (disks_of o)) (store_disk name s))
      (sym whole_store) (each name)
    where
      each : (n : DiskName) → OnlyRead g (disk_named n (disks_of o))
          (store_disk n (store_over (beside_of o) flt o.entries cursors kept saves))
      each Conf = read-none g only_now o.conf.disk
      each ErrA =
          subst (OnlyRead g (disks_of o).err_a) (two_is o.checkpoint.second o.active.disk o.spare)
          (read-none g only_now (disks_of o).err_a)
      each ErrB =
          subst (OnlyRead g (disks_of o).err_b)
          (two_other o.checkpoint.second o.active.disk o.spare)
          (read-none g only_now (disks_of o).err_b)
      each SlotA = read-none g only_now o.slot_a
      each SlotB = read-none g only_now o.slot_b
      each Flt = still

  -- no call of a disk failed
  pub adopted_counts : (g : Ghosts D) → g.failures flt.disk ≡ g.failures o.flt
      → (name : DiskName)
      → g.failures (store_disk name store) ≡ g.failures (disk_named name (disks_of o))
  adopted_counts g kept_count name =
      subst (λ (s : StoreOf D M).
      g.failures (store_disk name s) ≡ g.failures (disk_named name (disks_of o)))
      (sym whole_store) (each name)
    where
      each : (n : DiskName) → g.failures (store_disk n
          (store_over (beside_of o) flt o.entries cursors kept saves))
          ≡ g.failures (disk_named n (disks_of o))
      each Conf = refl
      each ErrA = ap g.failures (sym (two_is o.checkpoint.second o.active.disk o.spare))
      each ErrB = ap g.failures (sym (two_other o.checkpoint.second o.active.disk o.spare))
      each SlotA = refl
      each SlotB = refl
      each Flt = kept_count

  -- each hand is that of its module
  hand_of : (m : ModuleGhosts M) (modules later : List (Retraced M))
      → AreLoaded (made_modules m kept) saves (states_of m modules)
      → AreFirstModules (made_modules m kept) → meanings_of m later ≡ meanings_of m modules
      → AreWithin (b.base + length entries) later → cursors ≡ cursors_of b.base later → (i : ℕ)
      (h : HandOf M) → slice_get (hands_from b.base 0 later) i ≡ Some h
      → IsAtCursor m (store_over (beside_of o) flt o.entries cursors kept saves).logs i h
  hand_of m modules later loaded first same within cursors_are i h there =
      let found = hands_at b.base 0 later i h there in
      let own : Retraced M = found.0 in
      let numbered : AreNumbered (meanings_of m later) =
      subst AreNumbered (sym same)
      (loaded_numbers m (made_modules m kept) saves modules loaded first) in
      let base : b.base ≡ o.checkpoint.base = ap (λ (x : Beside D). x.base) is in
      let low : own.past ≤ b.base + length entries =
      all_at (λ (x : Retraced M). x.past ≤ b.base + length entries) later i own within found.1 in
      let at : h.cursor ≡ max b.base own.past = ap (λ (x : HandOf M). x.cursor) found.2 in
      record {
        number_is = omega (arith, ap (λ (x : HandOf M). x.number) found.2);
        own_is = ap (λ (x : HandOf M). (m.meaning x.object).own) found.2
            ∙ numbered i (m.meaning own.object)
            (map_get (λ (x : Retraced M). m.meaning x.object) later i own found.1);
        cursor_is = ap (λ (l : List ℕ). slice_get l i) cursors_are
            ∙ map_get (λ (x : Retraced M). max b.base x.past) later i own found.1
            ∙ ap Some (sym at);
        from_base = omega (arith, at, base);
        to_end =
            omega (arith, at, base, low, ap (λ (l : List Entry). length l) entries_are);
      }

  pub is_adopted : (m : ModuleGhosts M) (modules later : List (Retraced M))
      (hands : List (HandOf M)) → AreLoaded (made_modules m kept) saves (states_of m modules)
      → AreFirstModules (made_modules m kept) → AreSilent modules
      → (AreWithin (b.base + length entries) modules → AreWithin (b.base + length entries) later)
      → meanings_of m later ≡ meanings_of m modules → cursors ≡ cursors_of b.base later
      → hands ≡ hands_from b.base 0 later → IsAdopted m o kept store hands
  is_adopted m modules later hands loaded first silent within same cursors_are hands_are =
      let start : AreWithin (b.base + length entries) modules =
      all_map (λ (x : Retraced M). x.past ≡ 0)
      (λ (x : Retraced M). x.past ≤ b.base + length entries) modules
      (λ x none. omega (arith, none)) silent in
      subst (λ (s : StoreOf D M). IsAdopted m o kept s hands) (sym whole_store) (record {
        is_open = refl;
        second_is = refl;
        base_is = refl;
        entries_are = refl;
        newest_is = refl;
        moment_is = refl;
        force_is = refl;
        kept_are = refl;
        hands_are =
            ap (λ (l : List (HandOf M)). map (λ h. h.cursor) l) hands_are
            ∙ hands_cursors b.base 0 later ∙ sym cursors_are;
        as_many =
            ap (λ (l : List (HandOf M)). length l) hands_are ∙ hands_length b.base 0 later
            ∙ same_many m modules later same ∙ loaded_objects m kept saves modules loaded;
        each = λ i h there.
            hand_of m modules later loaded first same (within start) cursors_are i h
            (ap (λ (l : List (HandOf M)). slice_get l i) (sym hands_are) ∙ there);
      })

  -- the store stands for the book that was read
  pub store_adopts : (g : Ghosts D) (m : ModuleGhosts M) (disk : D) (states : List (List ℕ))
      (modules later : List (Retraced M)) (hands : List (HandOf M)) → disk ≡ o.flt
      → states ≡ o.checkpoint.states → AreFirstModules (made_modules m kept)
      → KnowAll (length o.confs) (made_modules m kept)
      → AreLoaded (made_modules m kept) saves (states_of m modules) → AreSilent modules
      → AreAtBase (made_modules m kept) b.newest b.in_force states saves (states_of m modules)
      → ((x : List ℕ) (k : Book) → g.seen disk ≡ Some x → BeginsAt m b.base entries modules k
      → RecordsKept g m x k flt later)
      → cursors ≡ cursors_of b.base later → hands ≡ hands_from b.base 0 later
      → (c : Contents) → Opens g c o → AreTold g (disks_of o) c
      → Adopts g m c (made_modules m kept) store hands
  store_adopts g m disk states modules later hands disk_is states_are first know loaded silent at
      passes cursors_are hands_are c opens told =
      let at_o : AreAtBase (made_modules m kept) o.newest o.checkpoint.conf o.checkpoint.states
      saves
      (states_of m modules) =
      subst (λ (x : Beside D). AreAtBase (made_modules m kept) x.newest x.in_force
      o.checkpoint.states saves (states_of m modules)) is
      (subst (λ (l : List (List ℕ)). AreAtBase (made_modules m kept) b.newest b.in_force l saves
      (states_of m modules)) states_are at) in
      let begun : BeginsAt m b.base entries modules
      (unfloored_book o.checkpoint (states_of m modules) o.entries []) =
      subst (λ (x : Beside D). BeginsAt m x.base entries modules
      (unfloored_book o.checkpoint (states_of m modules) o.entries [])) (sym is)
      (subst (λ (l : List Entry). BeginsAt m o.checkpoint.base l modules
      (unfloored_book o.checkpoint (states_of m modules) o.entries [])) (sym entries_are)
      (begins g m o kept c opens told first saves modules loaded silent at_o)) in
      let retold = passes c.flt (unfloored_book o.checkpoint (states_of m modules) o.entries [])
      (subst (λ (d : D). g.seen d ≡ Some c.flt) (sym disk_is) (told Flt)) begun in
      adopts g m o kept c opens told first saves modules loaded silent at_o know flt later retold
      store hands cursors
      (cursors_are ∙ ap (λ (x : Beside D). cursors_of x.base later) is)
      (hands_are ∙ ap (λ (x : Beside D). hands_from x.base 0 later) is) whole_store
