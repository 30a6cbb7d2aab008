-- What the opening does, by its looks.
use Rattle.std.proofs.Common.{refl, subst, sym}
use Rattle.fm_store.specs.Opened.{OpenRefused}
use Rattle.fm_store.proofs.OpenReads.{confs_refused, open_does}
use Rattle.fm_store.proofs.opened.Opened.open.Goals as goal

pub returns-in-Ok-clause-does : goal.returns-in-Ok-clause-does
returns-in-Ok-clause-does g c =
    open_does g.D.Disk c.args.disks c.in-Ok.confs.journal c.in-Ok.confs.confs.items (record {
      err_a = c.args.disks.err_a;
      err_b = c.args.disks.err_b;
      slot_a = c.args.disks.slot_a;
      slot_b = c.args.disks.slot_b;
      flt = c.args.disks.flt;
    }) c.in-Ok.ensures.some refl c.in-Ok.ensures.still.same c.in-Ok.ensures.count_kept
    c.in-Ok.ensures.passes c.open_rest.result c.open_rest.ensures.does

pub returns-in-Err-clause-does : goal.returns-in-Err-clause-does
returns-in-Err-clause-does g c =
    subst (OpenRefused g.D.Disk c.args.disks (record {
      conf = c.in-Err.refused.disk;
      err_a = c.args.disks.err_a;
      err_b = c.args.disks.err_b;
      slot_a = c.args.disks.slot_a;
      slot_b = c.args.disks.slot_b;
      flt = c.args.disks.flt;
    })) (sym c.store_fault-fault.ensures)
    (confs_refused g.D.Disk c.args.disks (record {
      conf = c.in-Err.refused.disk;
      err_a = c.args.disks.err_a;
      err_b = c.args.disks.err_b;
      slot_a = c.args.disks.slot_a;
      slot_b = c.args.disks.slot_b;
      flt = c.args.disks.flt;
    }) c.in-Err.refused.fault c.in-Err.ensures.cause)
