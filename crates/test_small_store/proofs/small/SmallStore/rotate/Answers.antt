-- The hands are at their cursors after a rotation.
use Rattle.fm_core.specs.Counter.{counters}
use Rattle.test_small_store.proofs.Ready.{rotated_cursors}
use Rattle.test_small_store.proofs.small.SmallStore.rotate.Goals as goal

pub returns-in-Ok : goal.returns-in-Ok
returns-in-Ok c = record {
  two = c.requires.ready.two;
  at_cursors = rotated_cursors counters _ c.args.self.store c.rotate.new.self _ _
      c.args.self.hands.items c.in-Ok.ensures.does c.requires.at_end c.requires.ready.at_cursors;
}
