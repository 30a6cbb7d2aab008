-- The slot is written, and the base moves to the end.
use Rattle.std.proofs.Common.{ap, subst}
use Rattle.fm_store.specs.StoreCalls.{IsNextFrame, saves_of}
use Rattle.fm_store.proofs.StoreCheckpoints.{refused_on_book, failed_on_book, done_on_book}
use Rattle.fm_store.proofs.StoreCheckpoints.{PutsAtEnd}
use Rattle.fm_store.proofs.store.Store.checkpoint.Goals as goal

pub returns-in-Ok-write_slot-clause-book : goal.returns-in-Ok-write_slot-clause-book
returns-in-Ok-write_slot-clause-book g c = λ fresh k st done.
    done_on_book g.D.Disk g.M.Module fresh c.args.self.now k c.args.hands.now c.in-Ok.frame st done
    c.requires.at_end c.in-Ok.ensures.lawful
    (subst (λ b. IsNextFrame c.args.self.now b (saves_of g.M.Module c.args.hands.now) c.in-Ok.frame)
    (rw (← c.self.view_is) c.is_second.ensures) c.in-Ok.ensures.frame)
    c.write_slot.new.self c.move_base.new.self c.in-Ok-write_slot.ensures.base_is
    c.in-Ok-write_slot.ensures.kept_same c.in-Ok-write_slot.ensures.ok
    c.in-Ok-write_slot.ensures.replaces
    (subst (PutsAtEnd c.write_slot.new.self c.move_base.new.self) c.in-Ok.ensures.states
    (record { base_is = c.move_base.ensures.base })) c.move_base.ensures.logs

pub returns-in-Ok-clause-book : goal.returns-in-Ok-clause-book
returns-in-Ok-clause-book g c = λ fresh k st done.
    failed_on_book g.D.Disk g.M.Module fresh c.args.self.now k c.args.hands.now c.in-Ok.frame st
    done c.requires.at_end c.in-Ok.ensures.lawful
    (subst (λ b. IsNextFrame c.args.self.now b (saves_of g.M.Module c.args.hands.now) c.in-Ok.frame)
    (rw (← c.self.view_is) c.is_second.ensures) c.in-Ok.ensures.frame)
    g.met.D.Disk.counts_now c.write_slot.new.self c.in-Err-write_slot.fault
    c.in-Err-write_slot.ensures.base_is c.in-Err-write_slot.ensures.kept_same
    (ap (λ l. l.second) c.in-Err-write_slot.ensures.err.1)
    (ap (λ l. l.active) c.in-Err-write_slot.ensures.err.1)
    (ap (λ l. l.flt) c.in-Err-write_slot.ensures.err.1) c.in-Err-write_slot.ensures.replaces

pub returns-clause-book : goal.returns-clause-book
returns-clause-book g c = λ fresh k st done.
    refused_on_book g.D.Disk g.met.D.Disk.only_now fresh c.args.self.now k c.in-Err.fault st
