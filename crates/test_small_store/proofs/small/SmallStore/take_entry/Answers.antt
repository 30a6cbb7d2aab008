-- The hands are at their cursors after an entry more.
use Rattle.fm_core.specs.Counter.{counters}
use Rattle.test_small_store.proofs.Ready.{taken_cursors}
use Rattle.test_small_store.proofs.small.SmallStore.take_entry.Goals as goal

pub returns-in-Ok : goal.returns-in-Ok
returns-in-Ok c = record {
  two = c.requires.ready.two;
  at_cursors = taken_cursors counters _ c.args.self.store.logs c.accept.new.self.logs _ _
      c.args.self.hands.items c.in-Ok.ensures.does c.requires.ready.at_cursors;
}
