-- The store with its modules, or the disks and what was damaged.
use Rattle.std.proofs.Common.{◌≡◌, ◌+◌, List, ℕ, Some, All, sym, ap, subst, arith, length}
use Rattle.fm_core.specs.Book.{Book}
use Rattle.fm_entry.specs.Entries.{IsSpelled}
use Rattle.fm_entry.specs.declared.entry.Entry.{Entry}
use Rattle.fm_logs.specs.ReadsAsBook.{AreLoaded}
use Rattle.fm_outer.specs.Moments.{OnlyRead}
use Rattle.fm_retrace.specs.Retracing.{AreNumbered, AreWithin}
use Rattle.fm_looks.specs.FaultLog.{BeginsAt, FaultsDamage, RecordsKept}
use Rattle.fm_store.specs.Loading.{AreAtBase, BaseRefused, states_of}
use Rattle.fm_looks.specs.Looks.{LookCause}
use Rattle.fm_store.specs.StoreOf.{made_modules}
use Rattle.fm_store.proofs.Adopted.{adopted_read, cursors_length, is_adopted, loaded_numbers}
use Rattle.fm_store.proofs.Adopted.{refused_back, refused_base, refused_log, same_many}
use Rattle.fm_store.proofs.Adopted.{adopted_counts, store_adopts}
use Rattle.fm_store.proofs.opened.Opened.adopt.Goals as goal

pub returns-in-Err-clause-refused : goal.returns-in-Err-clause-refused
returns-in-Err-clause-refused g c =
    let apart = c.apart-beside.result in
    refused_base g.D.Disk g.met.D.Disk.only_now c.args.self apart.beside
    c.apart-beside.ensures.beside apart.flt c.in-Err.fault c.refuse.result c.refuse.ensures
    g.M.Module c.args.kept.items c.requires.made apart.states c.apart-beside.ensures.states
    (subst (λ l. BaseRefused (made_modules g.M.Module l) apart.beside.newest
    apart.beside.in_force apart.states c.in-Err.fault) c.deref.ensures.value
    c.in-Err.ensures.cause)

pub open_records-requires-clause-numbered : goal.open_records-requires-clause-numbered
open_records-requires-clause-numbered g c κs within =
    loaded_numbers g.M.Module (made_modules g.M.Module c.args.kept.items) c.in-Ok.found.saves
    c.in-Ok.found.modules.items
    (subst (λ l. AreLoaded (made_modules g.M.Module l) c.in-Ok.found.saves
    (states_of g.M.Module c.in-Ok.found.modules.items)) c.deref.ensures.value
    c.in-Ok.ensures.loaded) c.requires.made

pub returns-in-Err-open_records-clause-refused : goal.returns-in-Err-open_records-clause-refused
returns-in-Err-open_records-clause-refused g c =
    let apart = c.apart-beside.result in
    refused_log g.D.Disk g.met.D.Disk.only_now c.args.self apart.beside
    c.apart-beside.ensures.beside c.in-Err-open_records.refused.disk c.store_fault-fault.result
    c.refuse-in-Err-open_records.result c.refuse-in-Err-open_records.ensures g.M.Module
    c.args.kept.items c.requires.made apart.states c.in-Ok.found.saves apart.entries.items
    apart.flt c.in-Ok.found.modules.items c.in-Err-open_records.refused.fault
    c.apart-beside.ensures.states c.apart-beside.ensures.entries c.apart-beside.ensures.flt
    c.store_fault-fault.ensures
    (subst (λ l. AreLoaded (made_modules g.M.Module l) c.in-Ok.found.saves
    (states_of g.M.Module c.in-Ok.found.modules.items)) c.deref.ensures.value
    c.in-Ok.ensures.loaded) c.in-Ok.ensures.silent
    (subst (λ l. AreAtBase (made_modules g.M.Module l) apart.beside.newest apart.beside.in_force
    apart.states c.in-Ok.found.saves (states_of g.M.Module c.in-Ok.found.modules.items))
    c.deref.ensures.value c.in-Ok.ensures.at_base)
    (subst (λ (l : List Entry). LookCause g.D.Disk (FaultsDamage g.M.Module apart.beside.base l
    c.in-Ok.found.modules.items) apart.flt c.in-Err-open_records.refused.disk
    c.in-Err-open_records.refused.fault) c.deref-2.ensures.value
    c.in-Err-open_records.ensures.cause)

pub returns-in-Err-open_records-clause-back : goal.returns-in-Err-open_records-clause-back
returns-in-Err-open_records-clause-back g c =
    refused_back g.D.Disk g.met.D.Disk.only_now c.args.self c.apart-beside.result.beside
    c.apart-beside.ensures.beside c.in-Err-open_records.refused.disk c.store_fault-fault.result
    c.refuse-in-Err-open_records.result c.refuse-in-Err-open_records.ensures
    (subst (λ d. OnlyRead g.D.Disk d c.in-Err-open_records.refused.disk)
    c.apart-beside.ensures.flt c.in-Err-open_records.ensures.still)

pub hands_of-requires-clause-few : goal.hands_of-requires-clause-few
hands_of-requires-clause-few g c κs within =
    omega (
      arith,
      same_many g.M.Module c.in-Ok.found.modules.items c.in-Ok-open_records.read.modules.items
          c.in-Ok-open_records.ensures.kept,
      c.if-len.false,
      c.len.ensures,
      c.in-Ok.found.modules.ok.0,
    )

pub hands_of-requires-clause-numbered : goal.hands_of-requires-clause-numbered
hands_of-requires-clause-numbered g c κs within =
    subst AreNumbered (sym c.in-Ok-open_records.ensures.kept)
    (loaded_numbers g.M.Module (made_modules g.M.Module c.args.kept.items) c.in-Ok.found.saves
    c.in-Ok.found.modules.items
    (subst (λ l. AreLoaded (made_modules g.M.Module l) c.in-Ok.found.saves
    (states_of g.M.Module c.in-Ok.found.modules.items)) c.deref.ensures.value
    c.in-Ok.ensures.loaded) c.requires.made)

pub store-requires-clause-spelled : goal.store-requires-clause-spelled
store-requires-clause-spelled g c =
    subst (All IsSpelled) (sym c.apart-beside.ensures.entries)
    c.apart-beside.ensures.opened.spelled

pub store-requires-clause-few_modules : goal.store-requires-clause-few_modules
store-requires-clause-few_modules g c =
    omega (
      arith,
      ap (λ (l : List ℕ). length l) c.in-Ok-hands_of.ensures.cursors,
      cursors_length c.apart-beside.result.beside.base c.in-Ok-open_records.read.modules.items,
      same_many g.M.Module c.in-Ok.found.modules.items c.in-Ok-open_records.read.modules.items
          c.in-Ok-open_records.ensures.kept,
      c.if-len.false,
      c.len.ensures,
      c.in-Ok.found.modules.ok.0,
    )

pub returns-in-Ok-hands_of-clause-adopts : goal.returns-in-Ok-hands_of-clause-adopts
returns-in-Ok-hands_of-clause-adopts g c =
    let apart = c.apart-beside.result in
    store_adopts c.args.self apart.beside c.apart-beside.ensures.beside
    c.in-Ok-open_records.read.journal apart.entries.items c.apart-beside.ensures.entries
    c.in-Ok-hands_of.cursors.items c.args.kept.items c.in-Ok.found.saves c.store.result
    c.store.ensures g.D.Disk g.M.Module apart.flt apart.states c.in-Ok.found.modules.items
    c.in-Ok-open_records.read.modules.items c.in-Ok-hands_of.hands.items
    c.apart-beside.ensures.flt c.apart-beside.ensures.states c.requires.made c.requires.know
    (subst (λ l. AreLoaded (made_modules g.M.Module l) c.in-Ok.found.saves
    (states_of g.M.Module c.in-Ok.found.modules.items)) c.deref.ensures.value
    c.in-Ok.ensures.loaded) c.in-Ok.ensures.silent
    (subst (λ l. AreAtBase (made_modules g.M.Module l) apart.beside.newest apart.beside.in_force
    apart.states c.in-Ok.found.saves (states_of g.M.Module c.in-Ok.found.modules.items))
    c.deref.ensures.value c.in-Ok.ensures.at_base)
    (subst (λ (l : List Entry). (x : List ℕ) (k : Book) → g.D.Disk.seen apart.flt ≡ Some x
    → BeginsAt g.M.Module apart.beside.base l c.in-Ok.found.modules.items k
    → RecordsKept g.D.Disk g.M.Module x k c.in-Ok-open_records.read.journal
    c.in-Ok-open_records.read.modules.items) c.deref-2.ensures.value
    c.in-Ok-open_records.ensures.passes)
    c.in-Ok-hands_of.ensures.cursors c.in-Ok-hands_of.ensures.hands

pub returns-in-Ok-hands_of-clause-is : goal.returns-in-Ok-hands_of-clause-is
returns-in-Ok-hands_of-clause-is g c =
    let apart = c.apart-beside.result in
    is_adopted c.args.self apart.beside c.apart-beside.ensures.beside
    c.in-Ok-open_records.read.journal apart.entries.items c.apart-beside.ensures.entries
    c.in-Ok-hands_of.cursors.items c.args.kept.items c.in-Ok.found.saves c.store.result
    c.store.ensures g.M.Module c.in-Ok.found.modules.items
    c.in-Ok-open_records.read.modules.items c.in-Ok-hands_of.hands.items
    (subst (λ l. AreLoaded (made_modules g.M.Module l) c.in-Ok.found.saves
    (states_of g.M.Module c.in-Ok.found.modules.items)) c.deref.ensures.value
    c.in-Ok.ensures.loaded) c.requires.made c.in-Ok.ensures.silent
    (subst (λ (l : List Entry). AreWithin (apart.beside.base + length l)
    c.in-Ok.found.modules.items → AreWithin (apart.beside.base + length l)
    c.in-Ok-open_records.read.modules.items) c.deref-2.ensures.value
    c.in-Ok-open_records.ensures.within)
    c.in-Ok-open_records.ensures.kept c.in-Ok-hands_of.ensures.cursors
    c.in-Ok-hands_of.ensures.hands

pub returns-in-Ok-hands_of-clause-read : goal.returns-in-Ok-hands_of-clause-read
returns-in-Ok-hands_of-clause-read g c =
    adopted_read c.args.self c.apart-beside.result.beside c.apart-beside.ensures.beside
    c.in-Ok-open_records.read.journal c.apart-beside.result.entries.items
    c.apart-beside.ensures.entries c.in-Ok-hands_of.cursors.items c.args.kept.items
    c.in-Ok.found.saves c.store.result c.store.ensures g.D.Disk g.met.D.Disk.only_now
    (subst (λ d. OnlyRead g.D.Disk d c.in-Ok-open_records.read.journal.disk)
    c.apart-beside.ensures.flt c.in-Ok-open_records.ensures.still)

pub returns-in-Ok-hands_of-clause-counts_kept : goal.returns-in-Ok-hands_of-clause-counts_kept
returns-in-Ok-hands_of-clause-counts_kept g c =
    adopted_counts c.args.self c.apart-beside.result.beside c.apart-beside.ensures.beside
    c.in-Ok-open_records.read.journal c.apart-beside.result.entries.items
    c.apart-beside.ensures.entries c.in-Ok-hands_of.cursors.items c.args.kept.items
    c.in-Ok.found.saves c.store.result c.store.ensures g.D.Disk
    (subst (λ d. g.D.Disk.failures c.in-Ok-open_records.read.journal.disk ≡ g.D.Disk.failures d)
    c.apart-beside.ensures.flt c.in-Ok-open_records.ensures.count_kept)

pub returns-in-Err-hands_of-clause-back : goal.returns-in-Err-hands_of-clause-back
returns-in-Err-hands_of-clause-back g c =
    refused_back g.D.Disk g.met.D.Disk.only_now c.args.self c.apart-beside.result.beside
    c.apart-beside.ensures.beside c.into_disk.result _ c.refuse-in-Err-hands_of.result
    c.refuse-in-Err-hands_of.ensures
    (subst (OnlyRead g.D.Disk c.args.self.flt) (sym c.into_disk.ensures)
    (subst (λ d. OnlyRead g.D.Disk d c.in-Ok-open_records.read.journal.disk)
    c.apart-beside.ensures.flt c.in-Ok-open_records.ensures.still))
