-- Each of the four was made.
use Rattle.fm_init.proofs.Stores.{others_ready}
use Rattle.fm_init.proofs.making.make_others.Goals as goal

pub returns-in-Ok-made-2-clause-ready : goal.returns-in-Ok-made-2-clause-ready
returns-in-Ok-made-2-clause-ready g c = λ contents told.
    others_ready g.D.Disk c.args.disks (record {
      conf = c.args.disks.conf;
      err_a = c.make_log-err_a.result.0;
      err_b = c.args.disks.err_b;
      slot_a = c.close_slots.new.slot_a;
      slot_b = c.close_slots.new.slot_b;
      flt = c.make_log-flt.result.0;
    }) c.make_log-err_a.result.1 c.make_log-flt.result.1 _ _ c.in-Ok-made.is c.in-Ok-made-2.is
    c.make_log-err_a.ensures.made c.make_log-flt.ensures.made c.in-Ok.ensures.first
    c.in-Ok.ensures.second contents told
