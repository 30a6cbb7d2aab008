-- The store stands for the same book, and the entries are its entries, behind older ones.
use Rattle.std.proofs.Common.{rules}
use Rattle.fm_store.proofs.StoreReading.{entries_told, logged_same, logged_sound, stands_logged}
use Rattle.fm_store.proofs.StoreReading.{told_undamaged}
use Rattle.fm_store.specs.StoreLimits.{store_of}
use Rattle.fm_store.proofs.store.Store.logged.Goals as goal

pub invariant_of-self : goal.invariant_of-self
invariant_of-self g c =
    logged_sound g.D.Disk c.self.inside.logs c.logged.new.self c.self.inside.base
    c.self.inside.greatest c.self.inside.in_force c.self.invariant c.logged.ensures.reads

pub returns-clause-same_disks : goal.returns-clause-same_disks
returns-clause-same_disks g c =
    rw (← c.self.view_is)
    (logged_same g.D.Disk c.self.inside.logs c.logged.new.self c.self.inside.base
    c.logged.ensures.reads)

pub returns-clause-book : goal.returns-clause-book
returns-clause-book g c fresh k =
    rw (← c.self.view_is)
    (λ stands. stands_logged g.D.Disk fresh _ k stands
    (store_of c.logged.new.self c.self.inside.base)
    (search rules) c.logged.ensures.reads)

pub returns-clause-entries : goal.returns-clause-entries
returns-clause-entries g c fresh k =
    rw (← c.self.view_is)
    (λ stands. entries_told g.D.Disk fresh _ k stands c.logged.new.self c.logged.result
    c.logged.ensures.found)

pub returns-clause-undamaged : goal.returns-clause-undamaged
returns-clause-undamaged g c fresh k =
    rw (← c.self.view_is)
    (λ stands. told_undamaged g.D.Disk fresh _ k stands _ c.logged.new.self _ _ c.logged.result
    c.logged.ensures.refused)

pub returns-clause-refused : goal.returns-clause-refused
returns-clause-refused g c = rw (← c.self.view_is) c.logged.ensures.refused
