use Rattle.fm_lent.proofs.Lending.{six_paired_same}
use Rattle.fm_store.specs.StoreLeft.{store_disk}
use Rattle.fm_top.proofs.Accepts.{same_back, read_back}
use Rattle.fm_top.proofs.Fmds.{open_at, opened_few, opened_hands}
use Rattle.fm_top.proofs.TasksDone.{task_ran, task_unopened}
use Rattle.fm_top.proofs.opened.task_on.Goals as goal

pub do_task-requires-clause-few : goal.do_task-requires-clause-few
do_task-requires-clause-few g c = opened_few c.in-Ok.opened c.in-Ok.ensures.is

pub do_task-requires-clause-at_cursors : goal.do_task-requires-clause-at_cursors
do_task-requires-clause-at_cursors g c = opened_hands c.in-Ok.opened c.in-Ok.ensures.is

pub returns-in-Ok-clause-ran : goal.returns-in-Ok-clause-ran
returns-in-Ok-clause-ran g c =
    task_ran g.D.Disk g.met.D.Disk.seen_is_image c.args.disks c.into_disks.result
    c.in-Ok.opened.store c.do_task.new.store c.in-Ok.opened.hands.items c.in-Ok.opened.conf
    _ _ _ _ c.in-Ok.ensures.read c.in-Ok.ensures.counts_kept
    (λ contents told. open_at g.D.Disk contents c.in-Ok.opened
    (c.in-Ok.ensures.opens contents told)) c.into_disks.ensures c.args.streams.now.task.now
    c.do_task.result c.do_task.ensures.does c.do_task.ensures.counts_input
    c.do_task.ensures.counts_out

pub returns-in-Ok-clause-same_disks : goal.returns-in-Ok-clause-same_disks
returns-in-Ok-clause-same_disks g c =
    same_back g.D.Disk c.args.disks c.into_disks.result c.in-Ok.opened.store
    c.do_task.new.store c.in-Ok.ensures.read
    (six_paired_same (λ n. g.D.Disk.name (store_disk n c.do_task.new.store))
    (λ n. g.D.Disk.name (store_disk n c.in-Ok.opened.store)) c.do_task.ensures.same_disks)
    c.into_disks.ensures

pub returns-in-Err-clause-ran : goal.returns-in-Err-clause-ran
returns-in-Err-clause-ran g c =
    rw c.from.ensures
    (task_unopened g.D.Disk c.args.disks c.in-Err.refused.disks c.args.streams.now.task.now _ _
    c.in-Err.refused.fault c.in-Err.ensures.refused c.in-Err.ensures.back)

pub returns-in-Err-clause-same_disks : goal.returns-in-Err-clause-same_disks
returns-in-Err-clause-same_disks g c =
    read_back g.D.Disk c.args.disks c.in-Err.refused.disks c.in-Err.ensures.back
