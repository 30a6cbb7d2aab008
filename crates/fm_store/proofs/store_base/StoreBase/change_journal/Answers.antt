-- The journal, the slot and the spare disk, step by step.
use Rattle.std.proofs.Common.{refl, inr}
use Rattle.fm_store.proofs.StoreChanges.{journal_changed, slot_failed}
use Rattle.fm_store.proofs.store_base.StoreBase.change_journal.Goals as goal

pub returns-in-Ok-replace_of_two : goal.returns-in-Ok-replace_of_two
returns-in-Ok-replace_of_two g c =
    rw (← c.self.view_is)
    (journal_changed g.D.Disk c.args.logs.now c.self.inside.conf c.self.inside.spare
    c.self.inside.slot_a c.self.inside.slot_b c.self.inside.newest c.self.inside.moment
    c.self.inside.in_force c.self.inside.kept.items c.self.inside.states c.args.frame.now
    c.in-Ok.journal c.next_entry.result c.fills_second-second.result c.self.invariant.has_spare
    (rw (← c.self.view_is) at c.fills_second-second.ensures) c.next_entry.ensures.value
    c.in-Ok.ensures.begins.1 c.in-Ok.ensures.begins.2 c.change_active-before.new.self
    c.put_back.new.spare c.replace_of_two.new.slot_a c.replace_of_two.new.slot_b c.into_disk.result
    c.change_active-before.result c.change_active-before.ensures.changed
    c.change_active-before.ensures.before c.into_disk.ensures c.put_back.ensures
    c.in-Ok-replace_of_two.ensures.kept_same c.in-Ok-replace_of_two.ensures.replaces)

pub returns-in-Err-replace_of_two : goal.returns-in-Err-replace_of_two
returns-in-Err-replace_of_two g c =
    rw (← c.self.view_is) (
      refl,
      inr (slot_failed g.D.Disk c.args.logs.now c.self.inside.conf
          c.self.inside.spare c.self.inside.slot_a c.self.inside.slot_b c.self.inside.newest
          c.self.inside.moment c.self.inside.in_force c.self.inside.kept.items c.self.inside.states
          c.args.frame.now c.in-Ok.journal c.next_entry.result c.fills_second-second.result
          c.self.invariant.has_spare (rw (← c.self.view_is) at c.fills_second-second.ensures)
          c.next_entry.ensures.value c.in-Ok.ensures.begins.1 c.in-Ok.ensures.begins.2
          c.put_back-in-Err-replace_of_two.new.spare c.replace_of_two.new.slot_a
          c.replace_of_two.new.slot_b c.into_disk-in-Err-replace_of_two.result c.slot_disk.result
          c.slot_faults.result c.into_disk-in-Err-replace_of_two.ensures
          c.put_back-in-Err-replace_of_two.ensures c.in-Err-replace_of_two.ensures.kept_same
          c.in-Err-replace_of_two.ensures.replaces c.slot_disk.ensures c.slot_faults.ensures),
    )
