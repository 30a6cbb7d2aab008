-- The store stands for the same book, and the records are its records, in order.
use Rattle.std.proofs.Common.{rules}
use Rattle.fm_store.proofs.StoreReading.{records_told, spoken_same, spoken_sound, stands_spoken}
use Rattle.fm_store.proofs.StoreReading.{told_undamaged}
use Rattle.fm_store.specs.StoreLimits.{store_of}
use Rattle.fm_store.proofs.store.Store.spoken.Goals as goal

pub invariant_of-self : goal.invariant_of-self
invariant_of-self g c =
    spoken_sound g.D.Disk c.self.inside.logs c.spoken.new.self c.self.inside.base
    c.self.inside.greatest c.self.inside.in_force c.self.invariant c.spoken.ensures.reads

pub returns-clause-same_disks : goal.returns-clause-same_disks
returns-clause-same_disks g c =
    rw (← c.self.view_is)
    (spoken_same g.D.Disk c.self.inside.logs c.spoken.new.self c.self.inside.base
    c.spoken.ensures.reads)

pub returns-clause-book : goal.returns-clause-book
returns-clause-book g c fresh k =
    rw (← c.self.view_is)
    (λ stands. stands_spoken g.D.Disk fresh _ k stands
    (store_of c.spoken.new.self c.self.inside.base)
    (search rules) c.spoken.ensures.reads)

pub returns-clause-records : goal.returns-clause-records
returns-clause-records g c fresh k =
    rw (← c.self.view_is)
    (λ stands. records_told g.D.Disk fresh _ k stands c.spoken.new.self c.spoken.result
    c.spoken.ensures.found)

pub returns-clause-undamaged : goal.returns-clause-undamaged
returns-clause-undamaged g c fresh k =
    rw (← c.self.view_is)
    (λ stands. told_undamaged g.D.Disk fresh _ k stands _ c.spoken.new.self _ _ c.spoken.result
    c.spoken.ensures.refused)

pub returns-clause-refused : goal.returns-clause-refused
returns-clause-refused g c = rw (← c.self.view_is) c.spoken.ensures.refused
