-- The journal is changed, and the base moves to the end.
use Rattle.std.proofs.Common.{ap, subst, not, ◌∙◌}
use Rattle.fm_journal.specs.declared.fault.FullKind.TheVariants.{Numbers}
use Rattle.fm_logs.specs.declared.fault.StoreFault.TheVariants.{Full, Disk as DiskFailed}
use Rattle.fm_store.specs.StoreCalls.{IsNextFrame, saves_of}
use Rattle.fm_store.specs.StoreLimits.{store_of}
use Rattle.fm_store.proofs.StoreCheckpoints.{PutsAtEnd}
use Rattle.fm_store.proofs.StoreChanges.{failed_same}
use Rattle.fm_store.proofs.StoreRotations.{rotation_refused, rotation_done, rotation_closed}
use Rattle.fm_store.proofs.store.Store.rotate.Goals as goal

pub returns-in-Ok-change_journal-clause-book : goal.returns-in-Ok-change_journal-clause-book
returns-in-Ok-change_journal-clause-book g c =
    rw (← c.self.view_is) (λ fresh k st done.
    rotation_done g.D.Disk g.M.Module fresh (store_of c.self.inside.logs c.self.inside.base) k
    c.args.hands.now c.in-Ok.frame st done (rw (← c.self.view_is) at c.requires.at_end)
    c.in-Ok.ensures.lawful
    (subst (λ b. IsNextFrame (store_of c.self.inside.logs c.self.inside.base) b
    (saves_of g.M.Module c.args.hands.now) c.in-Ok.frame)
    (ap not c.is_second.ensures) (rw (← c.self.view_is) at c.in-Ok.ensures.frame))
    (store_of c.change_journal.new.logs c.change_journal.new.self) c.move_base.new.self
    c.next_entry-number.result c.in-Ok-change_journal.ensures
    (subst (PutsAtEnd (store_of c.change_journal.new.logs c.change_journal.new.self)
    c.move_base.new.self) c.in-Ok.ensures.states
    (record { base_is = c.move_base.ensures.base })) c.move_base.ensures.logs)

pub returns-clause-book : goal.returns-clause-book
returns-clause-book g c = λ fresh k st done.
    rotation_refused g.D.Disk g.met.D.Disk.only_now fresh c.args.self.now k c.in-Err.fault st

pub returns-then-is_none-clause-book : goal.returns-then-is_none-clause-book
returns-then-is_none-clause-book g c = λ fresh k st done.
    rotation_refused g.D.Disk g.met.D.Disk.only_now fresh c.args.self.now k (Full Numbers) st

pub returns-in-Ok-clause-book : goal.returns-in-Ok-clause-book
returns-in-Ok-clause-book g c =
    rw (← c.self.view_is) (λ fresh k st done.
    rotation_closed g.D.Disk g.M.Module fresh (store_of c.self.inside.logs c.self.inside.base) k
    c.args.hands.now c.in-Ok.frame st done (rw (← c.self.view_is) at c.requires.at_end)
    c.in-Ok.ensures.lawful
    (subst (λ b. IsNextFrame (store_of c.self.inside.logs c.self.inside.base) b
    (saves_of g.M.Module c.args.hands.now) c.in-Ok.frame)
    (ap not c.is_second.ensures) (rw (← c.self.view_is) at c.in-Ok.ensures.frame))
    g.met.D.Disk.only_now g.met.D.Disk.counts_now c.change_journal.new.logs c.close.new.self
    c.change_journal.new.self DiskFailed c.in-Err-change_journal.disk
    c.in-Err-change_journal.faults _ c.in-Err-change_journal.ensures.0 c.close.ensures
    c.in-Err-change_journal.ensures.1)

pub returns-in-Ok-clause-same_disks : goal.returns-in-Ok-clause-same_disks
returns-in-Ok-clause-same_disks g c =
    rw (← c.self.view_is)
    (failed_same g.D.Disk (store_of c.self.inside.logs c.self.inside.base) c.close.new.self
    c.change_journal.new.self
    (ap (λ l. l.second) c.close.ensures ∙ ap (λ l. l.second) c.in-Err-change_journal.ensures.0)
    (ap (λ l. l.active) c.close.ensures ∙ ap (λ l. l.active) c.in-Err-change_journal.ensures.0)
    (ap (λ l. l.flt) c.close.ensures ∙ ap (λ l. l.flt) c.in-Err-change_journal.ensures.0)
    c.change_journal.new.logs c.in-Ok.frame c.in-Err-change_journal.disk
    c.in-Err-change_journal.faults c.in-Err-change_journal.ensures.1)
