-- Contents that pass all looks read as the book that was read; contents that read as a book pass
-- them, in one way, and aren't damaged.
use Rattle.std.proofs.Common.{◌≡◌, inl, inr, ℕ, ◌+◌, ◌-◌, ◌<◌, ◌≤◌, List, [], length}
use Rattle.std.proofs.Common.{drop, Option, Some, None, refl, sym, ◌∙◌, ap, subst, arith}
use Rattle.std.specs.Prelude.{Bool}
use Rattle.fm_core.specs.Book.{Book, ModuleState, IsLawful, floored}
use Rattle.fm_entry.specs.declared.entry.Entry.{Entry}
use Rattle.fm_entry.specs.declared.spoken.Spoken.{Spoken}
use Rattle.fm_logs.specs.Contents.{Contents, active_of_two}
use Rattle.fm_logs.specs.ReadsAsBook.{IsLog, SpellsConf, SpellsEntry, SpellsSpoken}
use Rattle.fm_logs.specs.ReadsAsBook.{IsFirstBase, SaysBase, ReadsAsBook}
use Rattle.fm_logs.specs.StoreBook.{StoreBook, HaveConf, ReloadsRise}
use Rattle.fm_saved.specs.declared.checkpoint.Checkpoint.{Checkpoint}
use Rattle.fm_saved.specs.declared.conf.Conf.{Conf}
use Rattle.fm_slots.specs.Format.{SlotOf}
use Rattle.fm_slots.specs.InForce.{in_force}
use Rattle.fm_slots.proofs.Forces.{same_slot, damaged_no_slot}
use Rattle.fm_outer.specs.declared.disk.Disk.{Ghosts}
use Rattle.fm_init.specs.Making.{AreFirstModules}
use Rattle.fm_store.specs.Opened.{OpenedOf, Opens, OpensBook}
use Rattle.fm_looks.specs.Opening.{WasRead, DamageAt, AllStorePass, FirstStoreFinds, open_looks}
use Rattle.fm_looks.specs.Opening.{book_read, slot_found, SaysCheckpoint, LoadsStates}
use Rattle.fm_looks.specs.Opening.{first_checkpoint, StorePasses, at_confs, at_slot_a}
use Rattle.fm_looks.specs.Opening.{at_slot_b, at_checkpoint, at_entries, at_states}
use Rattle.fm_looks.specs.Opening.{all_looks, from_base, floored_book, LogDamage, EntriesDamage}
use Rattle.fm_looks.specs.Opening.{RecordsDamage}
use Rattle.fm_store.proofs.Damages.{same_log, confs_sound, entries_sound, records_sound}
use Rattle.fm_store.proofs.Damages.{same_checkpoint, same_states}
use Rattle.fm_logs.proofs.SpelledOnce.{entry_once, spoken_once}
use Rattle.fm_looks.proofs.Spelled.{conf_once}

-- what a slot, or the want of one, says of the base
pub says_base : (fresh : List ModuleState) (known : ℕ) (found : Option (Bool × SlotOf))
    (checkpoint : Checkpoint) (modules : List ModuleState) → SaysCheckpoint known found checkpoint
    → LoadsStates fresh found checkpoint modules → SaysBase fresh found checkpoint modules
says_base fresh known None checkpoint modules says loads = (
  subst IsFirstBase (sym says) (record {
    in_first = refl;
    at_start = refl;
    no_moment = refl;
    first_conf = refl;
  }),
  loads,
)
says_base fresh known (Some found) checkpoint modules says loads = (says.0, says.1, loads.0)

-- the number in force is one of the configurations, and that of the modules
known_conf : (known : ℕ) (found : Option (Bool × SlotOf)) (checkpoint : Checkpoint) → 1 ≤ known
    → SaysCheckpoint known found checkpoint → checkpoint.conf < known
known_conf known None checkpoint some says =
    let none : checkpoint.conf ≡ 0 = ap (λ (c : Checkpoint). c.conf) says in omega arith
known_conf known (Some found) checkpoint some says = says.2

of_conf : (fresh : List ModuleState) (known : ℕ) (found : Option (Bool × SlotOf))
    (checkpoint : Checkpoint) (modules : List ModuleState) → HaveConf 0 fresh
    → SaysCheckpoint known found checkpoint → LoadsStates fresh found checkpoint modules
    → HaveConf checkpoint.conf modules
of_conf fresh known None checkpoint modules first says loads =
    subst (λ (n : ℕ). HaveConf n modules) (sym (ap (λ (c : Checkpoint). c.conf) says))
    (subst (HaveConf 0) (sym loads) first)
of_conf fresh known (Some found) checkpoint modules first says loads = loads.1

-- contents that pass all looks read as the book
pub reads_as_book : (fresh : List ModuleState) (c : Contents) (o : WasRead)
    → AreFirstModules fresh → AllStorePass fresh c o all_looks → ReadsAsBook fresh c (book_read o)
reads_as_book fresh c o first pass =
    let confs = pass.0 in
    let says = pass.1.1.1.0 in
    let entries = pass.1.1.1.1.0 in
    let states = pass.1.1.1.1.1.0 in
    let records = pass.1.1.1.1.1.1.0 in
    record {
      second = o.checkpoint.second;
      says = record {
        conf_first = confs.0.0;
        confs = confs.0.1;
        found = slot_found o;
        in_force = (o.slot_a, o.slot_b, pass.1.0, pass.1.1.0, refl);
        checkpoint = o.checkpoint;
        says = says_base fresh (length o.confs) (slot_found o) o.checkpoint o.modules says states;
        second_is = refl;
        base_is = refl;
        moment_is = refl;
        force_is = refl;
      };
      first = o.first;
      entries = o.entries;
      active = entries.0;
      begins = entries.1;
      reaches = entries.2;
      entries_are = refl;
      flt_first = records.0.0;
      records = records.0.1;
      at_floors = refl;
      lawful = record {
        some_confs = confs.2;
        few_confs = confs.1.1;
        confs_are = confs.1.0;
        known = known_conf (length o.confs) (slot_found o) o.checkpoint confs.2 says;
        of_conf = of_conf fresh (length o.confs) (slot_found o) o.checkpoint o.modules
            first.of_first says states;
        reloads = entries.3;
        lawful = records.1;
      };
    }

-- what is known at the base, as the looks have it
settled_base : (fresh : List ModuleState) (known : ℕ) (found : Option (Bool × SlotOf))
    (checkpoint : Checkpoint) (modules : List ModuleState)
    → SaysBase fresh found checkpoint modules → checkpoint.conf < known
    → HaveConf checkpoint.conf modules
    → (said : Checkpoint) × SaysCheckpoint known found said × LoadsStates fresh found said modules
    × (said.second ≡ checkpoint.second) × (said.base ≡ checkpoint.base)
    × (said.moment ≡ checkpoint.moment) × (said.conf ≡ checkpoint.conf)
settled_base fresh known None checkpoint modules says below have = (
  first_checkpoint,
  refl,
  says.1,
  sym says.0.in_first,
  sym says.0.at_start,
  sym says.0.no_moment,
  sym says.0.first_conf,
)
settled_base fresh known (Some found) checkpoint modules says below have =
    (checkpoint, (says.0, says.1, below), (says.2, have), refl, refl, refl, refl)

-- a book at its floors, from what was read
book_is : (k : Book) (said : Checkpoint) (first : ℕ) (entries : List Entry) → floored k ≡ k
    → said.base ≡ k.base → said.moment ≡ k.moment → k.entries ≡ drop (k.base - first) entries
    → floored_book said k.modules (drop (said.base - first) entries) k.records ≡ k
book_is k said first entries floors base moment is =
    ap (λ (b : ℕ). of b said.moment (drop (b - first) entries)) base
    ∙ ap (λ (m : ℕ). of k.base m (drop (k.base - first) entries)) moment
    ∙ ap (of k.base k.moment) (sym is) ∙ floors
  where
    of : ℕ → ℕ → List Entry → Book
    of b m es = floored (record {
      base = b;
      moment = m;
      modules = k.modules;
      entries = es;
      cursors = [];
      records = k.records;
    })

-- contents that read as a book pass all looks, and the book is what these read
pub passes_looks : (fresh : List ModuleState) (c : Contents) (k : StoreBook)
    → ReadsAsBook fresh c k
    → (o : WasRead) × AllStorePass fresh c o all_looks × (book_read o ≡ k)
passes_looks fresh c k r =
    let says = r.says in
    let lawful = r.lawful in
    let base = settled_base fresh (length k.confs) says.found says.checkpoint k.book.modules
    says.says
    (subst (λ (n : ℕ). n < length k.confs) (sym says.force_is) lawful.known)
    (subst (λ (n : ℕ). HaveConf n k.book.modules) (sym says.force_is) lawful.of_conf) in
    let said : Checkpoint = base.0 in
    let second : said.second ≡ r.second = base.3 ∙ says.second_is in
    let at : said.base ≡ k.book.base = base.4 ∙ says.base_is in
    let moment : said.moment ≡ k.book.moment = base.5 ∙ says.moment_is in
    let force : said.conf ≡ k.in_force = base.6 ∙ says.force_is in
    let found : in_force says.in_force.0 says.in_force.1 ≡ says.found = says.in_force.4 in
    let same : floored_book said k.book.modules (drop (said.base - r.first) r.entries)
    k.book.records ≡ k.book =
    book_is k.book said r.first r.entries r.at_floors at moment r.entries_are in
    let reloads : ReloadsRise (length k.confs) said.conf (drop (said.base - r.first) r.entries) =
    subst (λ (n : ℕ). ReloadsRise (length k.confs) n (drop (said.base - r.first) r.entries))
    (sym force)
    (subst (λ (b : ℕ). ReloadsRise (length k.confs) k.in_force (drop (b - r.first) r.entries))
    (sym at)
    (subst (ReloadsRise (length k.confs) k.in_force) r.entries_are lawful.reloads)) in (
      record {
        confs = k.confs;
        slot_a = says.in_force.0;
        slot_b = says.in_force.1;
        checkpoint = said;
        first = r.first;
        entries = r.entries;
        modules = k.book.modules;
        records = k.book.records;
      },
      (
        ((says.conf_first, says.confs), (lawful.confs_are, lawful.few_confs), lawful.some_confs),
        (
          says.in_force.2,
          (
            says.in_force.3,
            (
              subst (λ (f : Option (Bool × SlotOf)). SaysCheckpoint (length k.confs) f said)
                  (sym found) base.1,
              (
                (
                  subst (λ (s : Bool). IsLog SpellsEntry (active_of_two s c) r.first r.entries)
                      (sym second) r.active,
                  subst (λ (b : ℕ). r.first ≤ b) (sym at) r.begins,
                  subst (λ (b : ℕ). b ≤ r.first + length r.entries) (sym at) r.reaches,
                  reloads,
                ),
                (
                  subst (λ (f : Option (Bool × SlotOf)). LoadsStates fresh f said k.book.modules)
                      (sym found) base.2,
                  (
                    ((r.flt_first, r.records), subst IsLawful (sym same) lawful.lawful),
                    tt,
                  ),
                ),
              ),
            ),
          ),
        ),
      ),
      ap (λ (b : Book). record { book = b; confs = k.confs; in_force = said.conf }) same
          ∙ ap (λ (n : ℕ). record { book = k.book; confs = k.confs; in_force = n }) force,
    )

-- what the looks read is one, look by look, where the contents pass them all in another reading
module _ (fresh : List ModuleState) (c : Contents) (o p : WasRead)
    (pass : AllStorePass fresh c p all_looks) where
  confs_same : StorePasses fresh c o at_confs → o.confs ≡ p.confs
  confs_same confs =
      (same_log SpellsConf conf_once c.conf confs.0.0 pass.0.0.0 o.confs p.confs confs.0.1
      pass.0.0.1).1

  found_same : StorePasses fresh c o at_slot_a → StorePasses fresh c o at_slot_b
      → slot_found o ≡ slot_found p
  found_same a b =
      ap (λ (s : Option SlotOf). in_force s o.slot_b)
      (same_slot c.slot_a o.slot_a p.slot_a a pass.1.0)
      ∙ ap (in_force p.slot_a) (same_slot c.slot_b o.slot_b p.slot_b b pass.1.1.0)

  checkpoint_same : o.confs ≡ p.confs → slot_found o ≡ slot_found p
      → StorePasses fresh c o at_checkpoint → o.checkpoint ≡ p.checkpoint
  checkpoint_same confs found says =
      same_checkpoint (length p.confs) (slot_found p) o.checkpoint p.checkpoint
      (subst (λ (f : Option (Bool × SlotOf)). SaysCheckpoint (length p.confs) f o.checkpoint) found
      (subst (λ (l : List Conf). SaysCheckpoint (length l) (slot_found o) o.checkpoint) confs says))
      pass.1.1.1.0

  entries_same : o.checkpoint ≡ p.checkpoint → StorePasses fresh c o at_entries
      → (o.first ≡ p.first) × (o.entries ≡ p.entries)
  entries_same checkpoint entries =
      same_log SpellsEntry entry_once (active_of_two p.checkpoint.second c) o.first p.first
      o.entries
      p.entries
      (subst (λ (k : Checkpoint). IsLog SpellsEntry (active_of_two k.second c) o.first o.entries)
      checkpoint entries.0)
      pass.1.1.1.1.0.0

  from_same : o.checkpoint ≡ p.checkpoint → (o.first ≡ p.first) × (o.entries ≡ p.entries)
      → from_base o ≡ from_base p
  from_same checkpoint entries =
      ap (λ (k : Checkpoint). drop (k.base - o.first) o.entries) checkpoint
      ∙ ap (λ (n : ℕ). drop (p.checkpoint.base - n) o.entries) entries.0
      ∙ ap (λ (l : List Entry). drop (p.checkpoint.base - p.first) l) entries.1

  modules_same : slot_found o ≡ slot_found p → o.checkpoint ≡ p.checkpoint
      → StorePasses fresh c o at_states → o.modules ≡ p.modules
  modules_same found checkpoint loads =
      same_states fresh (length p.confs) (slot_found p) p.checkpoint o.modules p.modules
      pass.1.1.1.0
      (subst (λ (k : Checkpoint). LoadsStates fresh (slot_found p) k o.modules) checkpoint
      (subst (λ (f : Option (Bool × SlotOf)). LoadsStates fresh f o.checkpoint o.modules) found
      loads))
      pass.1.1.1.1.1.0

  -- damage that a look finds is not there
  no_entries_damage : (place : ℕ) → o.confs ≡ p.confs → o.checkpoint ≡ p.checkpoint
      → LogDamage (EntriesDamage (length o.confs) o.checkpoint)
      (active_of_two o.checkpoint.second c) place → ⊥
  no_entries_damage place confs checkpoint damaged =
      let there = pass.1.1.1.1.0 in
      entries_sound (length p.confs) p.checkpoint (active_of_two p.checkpoint.second c) p.first
      place
      p.entries there.0 there.1 there.2 there.3
      (subst (λ (k : Checkpoint). LogDamage (EntriesDamage (length p.confs) k)
      (active_of_two k.second c) place) checkpoint
      (subst (λ (l : List Conf). LogDamage (EntriesDamage (length l) o.checkpoint)
      (active_of_two o.checkpoint.second c) place) confs damaged))

  no_records_damage : (place : ℕ) → o.checkpoint ≡ p.checkpoint → o.modules ≡ p.modules
      → from_base o ≡ from_base p
      → LogDamage (RecordsDamage o.checkpoint o.modules (from_base o)) c.flt place → ⊥
  no_records_damage place checkpoint modules entries damaged =
      let there = pass.1.1.1.1.1.1.0 in
      records_sound p.checkpoint p.modules (from_base p) c.flt there.0.0 place p.records there.0.1
      there.1
      (subst (λ (k : Checkpoint). LogDamage (RecordsDamage k p.modules (from_base p)) c.flt place)
      checkpoint
      (subst (λ (l : List ModuleState). LogDamage (RecordsDamage o.checkpoint l (from_base p)) c.flt
      place) modules
      (subst (λ (l : List Entry). LogDamage (RecordsDamage o.checkpoint o.modules l) c.flt place)
      entries damaged)))

  -- contents in which the looks find damage don't pass them
  pub finds_or_passes : (d : DamageAt) → FirstStoreFinds fresh c o all_looks d → ⊥
  finds_or_passes d (inl found) =
      confs_sound c.conf pass.0.0.0 d.place p.confs pass.0.0.1 pass.0.1 pass.0.2 found.1
  finds_or_passes d (inr (confs, inl found)) =
      damaged_no_slot c.slot_a p.slot_a found.2 pass.1.0
  finds_or_passes d (inr (confs, inr (a, inl found))) =
      damaged_no_slot c.slot_b p.slot_b found.2 pass.1.1.0
  finds_or_passes d (inr (confs, inr (a, inr (b, inl found)))) =
      found.2 p.checkpoint
      (subst (λ (f : Option (Bool × SlotOf)). SaysCheckpoint (length o.confs) f p.checkpoint)
      (sym (found_same a b))
      (subst (λ (l : List Conf). SaysCheckpoint (length l) (slot_found p) p.checkpoint)
      (sym (confs_same confs)) pass.1.1.1.0))
  finds_or_passes d (inr (confs, inr (a, inr (b, inr (says, inl found))))) =
      no_entries_damage d.place (confs_same confs)
      (checkpoint_same (confs_same confs) (found_same a b) says) found.1
  finds_or_passes d (inr (confs, inr (a, inr (b, inr (says, inr (entries, inl found)))))) =
      found.2 p.modules
      (subst (λ (k : Checkpoint). LoadsStates fresh (slot_found o) k p.modules)
      (sym (checkpoint_same (confs_same confs) (found_same a b) says))
      (subst (λ (f : Option (Bool × SlotOf)). LoadsStates fresh f p.checkpoint p.modules)
      (sym (found_same a b)) pass.1.1.1.1.1.0))
  finds_or_passes d
      (inr (confs, inr (a, inr (b, inr (says, inr (entries, inr (states, inl found))))))) =
      let checkpoint = checkpoint_same (confs_same confs) (found_same a b) says in
      no_records_damage d.place checkpoint (modules_same (found_same a b) checkpoint states)
      (from_same checkpoint (entries_same checkpoint entries)) found.1
  finds_or_passes d
      (inr (
        confs,
        inr (
          a,
          inr (
            b,
            inr (
              says,
              inr (
                entries,
                inr (
                  states,
                  inr (records, none),
                ),
              ),
            ),
          ),
        ),
      )) =
      none

  -- and what they read is what they read in the other way
  pub same_read : AllStorePass fresh c o all_looks → book_read o ≡ book_read p
  same_read passed =
      let confs : o.confs ≡ p.confs = confs_same passed.0 in
      let found = found_same passed.1.0 passed.1.1.0 in
      let checkpoint : o.checkpoint ≡ p.checkpoint =
      checkpoint_same confs found passed.1.1.1.0 in
      let entries : from_base o ≡ from_base p =
      from_same checkpoint (entries_same checkpoint passed.1.1.1.1.0) in
      let modules : o.modules ≡ p.modules =
      modules_same found checkpoint passed.1.1.1.1.1.0 in
      let records : o.records ≡ p.records =
      (same_log SpellsSpoken spoken_once c.flt passed.1.1.1.1.1.1.0.0.0 pass.1.1.1.1.1.1.0.0.0
      o.records p.records passed.1.1.1.1.1.1.0.0.1 pass.1.1.1.1.1.1.0.0.1).1 in
      ap (λ (k : Checkpoint). of k o.confs o.modules (from_base o) o.records) checkpoint
      ∙ ap (λ (l : List Conf). of p.checkpoint l o.modules (from_base o) o.records) confs
      ∙ ap (λ (l : List ModuleState). of p.checkpoint p.confs l (from_base o) o.records) modules
      ∙ ap (λ (l : List Entry). of p.checkpoint p.confs p.modules l o.records) entries
      ∙ ap (of p.checkpoint p.confs p.modules (from_base p)) records
    where
      of : Checkpoint → List Conf → List ModuleState → List Entry → List Spoken → StoreBook
      of k confs modules entries records = record {
        book = floored_book k modules entries records;
        confs = confs;
        in_force = k.conf;
      }

-- contents read as one book at most
pub books_are_one : (fresh : List ModuleState) (c : Contents) (k l : StoreBook)
    → ReadsAsBook fresh c k → ReadsAsBook fresh c l → k ≡ l
books_are_one fresh c k l one other =
    let a = passes_looks fresh c k one in
    let b = passes_looks fresh c l other in
    sym a.2 ∙ same_read fresh c a.0 b.0 b.1 a.1 ∙ b.2

-- and contents in which the looks find damage read as none
pub damaged_no_book : (fresh : List ModuleState) (c : Contents) (o : WasRead) (d : DamageAt)
    (k : StoreBook) → FirstStoreFinds fresh c o all_looks d → ReadsAsBook fresh c k → ⊥
damaged_no_book fresh c o d k finds reads =
    let b = passes_looks fresh c k reads in finds_or_passes fresh c o b.0 b.1 d finds

-- damage that the looks of `open` find first is what all looks find first
first_found : (fresh : List ModuleState) (c : Contents) (o : WasRead) (d : DamageAt)
    → FirstStoreFinds [] c o open_looks d → FirstStoreFinds fresh c o all_looks d
first_found fresh c o d (inl found) = inl found
first_found fresh c o d (inr (confs, inl found)) = inr (confs, inl found)
first_found fresh c o d (inr (confs, inr (a, inl found))) = inr (confs, inr (a, inl found))
first_found fresh c o d (inr (confs, inr (a, inr (b, inl found)))) =
    inr (confs, inr (a, inr (b, inl found)))
first_found fresh c o d (inr (confs, inr (a, inr (b, inr (says, inl found))))) =
    inr (confs, inr (a, inr (b, inr (says, inl found))))
first_found fresh c o d (inr (confs, inr (a, inr (b, inr (says, inr (entries, none)))))) =
    absurd none

-- so contents in which they find damage read as no book
pub open_damaged_no_book : (fresh : List ModuleState) (c : Contents) (o : WasRead) (d : DamageAt)
    (k : StoreBook) → FirstStoreFinds [] c o open_looks d → ReadsAsBook fresh c k → ⊥
open_damaged_no_book fresh c o d k finds reads =
    damaged_no_book fresh c o d k (first_found fresh c o d finds) reads

-- and what an opening has is what the book has
pub opens_book : {D : Type 0} (g : Ghosts D) (fresh : List ModuleState) (c : Contents)
    (o : OpenedOf D) (k : StoreBook) → Opens g c o → ReadsAsBook fresh c k → OpensBook o k
opens_book g fresh c o k opens reads =
    let b = passes_looks fresh c k reads in
    let r : WasRead = opens.read in
    let confs : r.confs ≡ b.0.confs = confs_same fresh c r b.0 b.1 opens.pass.0 in
    let found : slot_found r ≡ slot_found b.0 =
    found_same fresh c r b.0 b.1 opens.pass.1.0 opens.pass.1.1.0 in
    let checkpoint : r.checkpoint ≡ b.0.checkpoint =
    checkpoint_same fresh c r b.0 b.1 confs found opens.pass.1.1.1.0 in
    let at : o.checkpoint ≡ b.0.checkpoint = opens.checkpoint_is ∙ checkpoint in
    let entries : from_base r ≡ from_base b.0 =
    from_same fresh c r b.0 b.1 checkpoint
    (entries_same fresh c r b.0 b.1 checkpoint opens.pass.1.1.1.1.0) in
    record {
      confs_are = opens.confs_are ∙ confs ∙ ap (λ (l : StoreBook). l.confs) b.2;
      base_is = ap (λ (s : Checkpoint). s.base) at ∙ ap (λ (l : StoreBook). l.book.base) b.2;
      moment_is = ap (λ (s : Checkpoint). s.moment) at
          ∙ ap (λ (l : StoreBook). l.book.moment) b.2;
      force_is = ap (λ (s : Checkpoint). s.conf) at ∙ ap (λ (l : StoreBook). l.in_force) b.2;
      entries_are = opens.entries_are ∙ entries ∙ ap (λ (l : StoreBook). l.book.entries) b.2;
    }
