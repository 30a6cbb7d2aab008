-- The slots and the active error journal were read, or were not.
use Rattle.std.proofs.Common.{◌≡◌, ℕ, arith, List, Some, Err, length, refl, sym, subst}
use Rattle.fm_looks.specs.Bases.{SlotsCause, SlotsKept}
use Rattle.fm_init.specs.declared.refused.StoreRefused.{StoreRefused}
use Rattle.fm_store.specs.Opened.{ErrorsCause, RestDoes, RestOpens, active_disk, opened_of}
use Rattle.fm_store.specs.Opened.{six_disks}
use Rattle.fm_store.proofs.OpenReads.{errors_refused, rest_opens, slots_refused}
use Rattle.fm_store.proofs.opening.open_rest.Goals as goal

pub returns-in-Err-clause-does : goal.returns-in-Err-clause-does
returns-in-Err-clause-does g c =
    let many : c.len-known.result ≡ length c.args.confs.confs.items =
    omega (arith, c.len-known.ensures) in
    subst (λ (r : StoreRefused _). RestDoes g.D.Disk c.args.confs.journal c.args.confs.confs.items
    c.args.others (Err r)) (sym c.refuse_rest.ensures)
    (slots_refused g.D.Disk (length c.args.confs.confs.items)
    (six_disks c.args.confs.journal.disk c.args.others) (record {
      conf = c.args.confs.journal.disk;
      err_a = c.args.others.err_a;
      err_b = c.args.others.err_b;
      slot_a = c.read_base.new.slot_a;
      slot_b = c.read_base.new.slot_b;
      flt = c.args.others.flt;
    }) c.in-Err.fault
    (subst (λ (n : ℕ). SlotsCause g.D.Disk n c.args.others.slot_a c.args.others.slot_b
    c.read_base.new.slot_a c.read_base.new.slot_b c.in-Err.fault) many
    c.in-Err.ensures.cause))

pub returns-in-Ok-open_errors-clause-does : goal.returns-in-Ok-open_errors-clause-does
returns-in-Ok-open_errors-clause-does g c =
    let many : c.len-known.result ≡ length c.args.confs.confs.items =
    omega (arith, c.len-known.ensures) in (
      refl,
      refl,
      λ contents told.
          subst (λ (n : ℕ). RestOpens g.D.Disk contents n (opened_of c.args.confs.journal
          c.args.confs.confs.items c.read_base.new.slot_a c.read_base.new.slot_b c.in-Ok.base.newest
          c.in-Ok.base.checkpoint c.in-Ok-open_errors.read.active c.in-Ok-open_errors.read.spare
          c.args.others.flt c.in-Ok-open_errors.read.entries.items)) many
          (rest_opens g.D.Disk c.len-known.result
          (six_disks c.args.confs.journal.disk c.args.others)
          (opened_of c.args.confs.journal c.args.confs.confs.items c.read_base.new.slot_a
          c.read_base.new.slot_b c.in-Ok.base.newest c.in-Ok.base.checkpoint
          c.in-Ok-open_errors.read.active c.in-Ok-open_errors.read.spare c.args.others.flt
          c.in-Ok-open_errors.read.entries.items) c.in-Ok.ensures.passes
          c.in-Ok-open_errors.ensures.passes c.in-Ok.ensures.read.settled_a
          c.in-Ok.ensures.read.settled_b
          contents told),
    )

pub returns-in-Err-open_errors-clause-does : goal.returns-in-Err-open_errors-clause-does
returns-in-Err-open_errors-clause-does g c =
    let many : c.len-known.result ≡ length c.args.confs.confs.items =
    omega (arith, c.len-known.ensures) in
    subst (λ (r : StoreRefused _). RestDoes g.D.Disk c.args.confs.journal c.args.confs.confs.items
    c.args.others (Err r)) (sym c.refuse_rest-in-Err-open_errors.ensures)
    (errors_refused g.D.Disk (length c.args.confs.confs.items)
    (six_disks c.args.confs.journal.disk c.args.others) (record {
      conf = c.args.confs.journal.disk;
      err_a = c.in-Err-open_errors.refused.err_a;
      err_b = c.in-Err-open_errors.refused.err_b;
      slot_a = c.read_base.new.slot_a;
      slot_b = c.read_base.new.slot_b;
      flt = c.args.others.flt;
    }) c.in-Ok.base.newest c.in-Ok.base.checkpoint c.in-Err-open_errors.refused.fault
    (subst (λ (n : ℕ). (x y : List ℕ) → g.D.Disk.seen c.args.others.slot_a ≡ Some x
    → g.D.Disk.seen c.args.others.slot_b ≡ Some y
    → SlotsKept x y n c.in-Ok.base.newest c.in-Ok.base.checkpoint) many
    c.in-Ok.ensures.passes)
    (subst (λ (n : ℕ). ErrorsCause g.D.Disk n c.in-Ok.base.checkpoint
    (active_disk c.in-Ok.base.checkpoint.second c.args.others.err_a c.args.others.err_b)
    (active_disk c.in-Ok.base.checkpoint.second c.in-Err-open_errors.refused.err_a
    c.in-Err-open_errors.refused.err_b) c.in-Err-open_errors.refused.fault) many
    c.in-Err-open_errors.ensures.cause))
