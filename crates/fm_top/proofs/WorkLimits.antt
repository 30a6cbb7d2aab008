-- A limit that work on an opened store reached, as one of the book that its contents read as.
use Rattle.std.proofs.Common.{◌≡◌, ℕ, List, Some, ◌∙◌, ap}
use Rattle.dx_engine.specs.Diagnosers.{DiagnoserOf}
use Rattle.fm_core.specs.Book.{ModuleState}
use Rattle.fm_journal.specs.declared.fault.FullKind.{FullKind}
use Rattle.fm_logs.specs.Contents.{Contents, content_named, disk_named}
use Rattle.fm_logs.specs.StoreBook.{StoreBook}
use Rattle.fm_logs.specs.declared.disks.DiskName.{DiskName}
use Rattle.fm_logs.specs.declared.disks.DiskName.TheVariants.{Conf as ConfDisk, SlotA, SlotB, Flt}
use Rattle.fm_logs.specs.declared.disks.Disks.{Disks}
use Rattle.fm_outer.specs.Moments.{OnlyRead}
use Rattle.fm_outer.specs.declared.disk.Disk.{Ghosts}
use Rattle.fm_drain.specs.BaseLimits.{figures_of}
use Rattle.fm_store.specs.StoreLeft.{store_disk, StoreIsLeft}
use Rattle.fm_store.specs.StoreOf.{StoreOf, StoreStandsFor, fills_second, newest_sequence}
use Rattle.fm_store.proofs.StoreReads.{in_force_of, says_left}
use Rattle.fm_top.specs.Kept.{BookAt}
use Rattle.fm_top.specs.Limits.{HasFigures, ReachesWorkLimit, WorkLimit}
use Rattle.fm_top.specs.Outside.{Tells, disks_at}
use Rattle.fm_top.proofs.SixDisks.{told_all}

-- the figures of a store are those of the contents that it reads as
pub figures_told : {D M : Type 0} (g : Ghosts D) (fresh : List ModuleState) (store : StoreOf D M)
    (k : StoreBook) (c : Contents) → StoreStandsFor g fresh store k → StoreIsLeft g store c
    → HasFigures c fresh k (figures_of store)
figures_told g fresh store k c st left = record {
  says = says_left g fresh store k c st (left ConfDisk) (left SlotA) (left SlotB);
  found = st.slots.found;
  in_force = in_force_of g (fills_second store.base.newest) store.base.slot_a store.base.slot_b
      c.slot_a c.slot_b st.slots.found st.slots.beside (left SlotA) (left SlotB);
  sequence_is = ap newest_sequence st.slots.newest_is;
  records = record {
    payloads = st.keep.record_payloads;
    journal = st.keep.records_keep.left c.flt (left Flt);
    spelled = st.keep.records_spelled;
  };
}

module _ {D : Type 0} (g : Ghosts D)
    (seen_is_image : (disk : D) (c : List ℕ) → g.seen disk ≡ Some c → g.images disk c)
    (disks : Disks D) (first : StoreOf D DiagnoserOf)
    (read : (name : DiskName) → OnlyRead g (disk_named name disks) (store_disk name first)) where
  -- what the disks tell is left of the opened store
  pub told_seen : (told : Contents) → Tells (disks_at g disks) told → StoreIsLeft g first told
  told_seen told tells name =
      seen_is_image (store_disk name first) (content_named name told)
      ((read name).same ∙ told_all g disks told tells name)

  pub work_limit : (limit : WorkLimit) (kind : FullKind)
      → ((told : Contents) → Tells (disks_at g disks) told → BookAt told)
      → ((told : Contents) (tells : Tells (disks_at g disks) told) (book : BookAt told)
      → StoreStandsFor g book.fresh first book.book × limit told book (figures_of first) kind)
      → ReachesWorkLimit limit (disks_at g disks) kind
  work_limit limit kind stood each told tells = record {
    stood = stood told tells;
    each = λ book. let one = each told tells book in record {
      figures = figures_of first;
      are = figures_told g book.fresh first book.book told one.0 (told_seen told tells);
      reached = one.1;
    };
  }
