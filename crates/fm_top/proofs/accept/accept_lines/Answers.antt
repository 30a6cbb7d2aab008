use Rattle.fm_lent.proofs.Lending.{six_of_paired}
use Rattle.fm_store.specs.StoreLeft.{store_disk}
use Rattle.fm_top.proofs.accept.accept_lines.Goals as goal

pub returns-in-Ok-clause-same_disks : goal.returns-in-Ok-clause-same_disks
returns-in-Ok-clause-same_disks g c =
    six_of_paired (λ n. g.D.Disk.name (store_disk n c.run.new.taker))
    (λ n. g.D.Disk.name (store_disk n c.args.store.now)) c.run.ensures.same_taker

pub returns-in-Err-clause-same_disks : goal.returns-in-Err-clause-same_disks
returns-in-Err-clause-same_disks g c =
    six_of_paired (λ n. g.D.Disk.name (store_disk n c.run.new.taker))
    (λ n. g.D.Disk.name (store_disk n c.args.store.now)) c.run.ensures.same_taker
