-- The entry is in the logs, and the greatest moment is known.
use Rattle.std.proofs.Common.{rules, refl, Ok, Err}
use Rattle.fm_store.specs.StoreLimits.{store_of}
use Rattle.fm_store.proofs.StoreAccepts.{accepts_on_book, accept_keeps, accept_sound, same_store}
use Rattle.fm_store.proofs.store.Store.accept.Goals as goal

pub invariant_of-self : goal.invariant_of-self
invariant_of-self g c =
    accept_sound g.D.Disk c.self.inside.logs c.accept.new.self c.self.inside.base c.args.entry
    c.in-Ok.number c.self.inside.greatest c.self.inside.in_force c.max-greatest.result
    c.force_after-in_force.result c.self.invariant c.requires.spelled c.in-Ok.ensures.does
    (search rules) (search rules)

pub returns-in-Ok-clause-book : goal.returns-in-Ok-clause-book
returns-in-Ok-clause-book g c =
    rw (← c.self.view_is) (λ fresh k st lawful.
    accepts_on_book g.D.Disk g.met.D.Disk.counts_now fresh
    (store_of c.self.inside.logs c.self.inside.base) c.accept.new.self k c.args.entry _
    c.in-Ok.ensures.does c.in-Ok.ensures.any_moment st lawful)

pub returns-in-Ok-clause-same_disks : goal.returns-in-Ok-clause-same_disks
returns-in-Ok-clause-same_disks g c =
    rw (← c.self.view_is) (same_store g.D.Disk (store_of c.self.inside.logs c.self.inside.base)
    (store_of c.accept.new.self c.self.inside.base)
    (accept_keeps g.D.Disk c.self.inside.logs c.accept.new.self c.args.entry (Ok c.in-Ok.number)
    c.in-Ok.ensures.does).0.keeps.second_same refl
    c.in-Ok.ensures.same_disks)

pub returns-in-Err-clause-book : goal.returns-in-Err-clause-book
returns-in-Err-clause-book g c =
    rw (← c.self.view_is) (λ fresh k st lawful.
    accepts_on_book g.D.Disk g.met.D.Disk.counts_now fresh
    (store_of c.self.inside.logs c.self.inside.base) c.accept.new.self k c.args.entry _
    c.in-Err.ensures.does c.in-Err.ensures.any_moment st lawful)

pub returns-in-Err-clause-same_disks : goal.returns-in-Err-clause-same_disks
returns-in-Err-clause-same_disks g c =
    rw (← c.self.view_is) (same_store g.D.Disk (store_of c.self.inside.logs c.self.inside.base)
    (store_of c.accept.new.self c.self.inside.base)
    (accept_keeps g.D.Disk c.self.inside.logs c.accept.new.self c.args.entry (Err c.in-Err.fault)
    c.in-Err.ensures.does).0.keeps.second_same refl
    c.in-Err.ensures.same_disks)
