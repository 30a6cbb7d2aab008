use Rattle.fm_lent.proofs.Lending.{six_paired_same}
use Rattle.fm_store.specs.StoreLeft.{store_disk}
use Rattle.fm_answers.proofs.Recordings.{taken_one, refused_one}
use Rattle.fm_answers.proofs.recording.StoreTaker.take.Goals as goal

pub returns-in-Ok-clause-ok : goal.returns-in-Ok-clause-ok
returns-in-Ok-clause-ok g c =
    taken_one g.D.Disk c.args.self.now c.accept.new.self c.args.entry c.in-Ok.number
    c.requires.admitted c.in-Ok.ensures.does c.accept.ensures.base_same c.in-Ok.ensures.book

pub returns-in-Ok-clause-same_taker : goal.returns-in-Ok-clause-same_taker
returns-in-Ok-clause-same_taker g c =
    six_paired_same (λ n. g.D.Disk.name (store_disk n c.accept.new.self))
    (λ n. g.D.Disk.name (store_disk n c.args.self.now)) c.accept.ensures.same_disks

pub returns-in-Err-clause-same_taker : goal.returns-in-Err-clause-same_taker
returns-in-Err-clause-same_taker g c =
    six_paired_same (λ n. g.D.Disk.name (store_disk n c.accept.new.self))
    (λ n. g.D.Disk.name (store_disk n c.args.self.now)) c.accept.ensures.same_disks

pub returns-in-Err-clause-err : goal.returns-in-Err-clause-err
returns-in-Err-clause-err g c =
    rw c.from.ensures
    (refused_one g.D.Disk c.args.self.now c.accept.new.self c.args.entry c.in-Err.fault
    c.requires.admitted c.requires.ready c.in-Err.ensures.does c.accept.ensures.base_same
    c.in-Err.ensures.book)
