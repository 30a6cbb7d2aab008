-- The hands are at their cursors after a checkpoint.
use Rattle.fm_core.specs.Counter.{counters}
use Rattle.test_small_store.proofs.Ready.{checkpointed_cursors}
use Rattle.test_small_store.proofs.small.SmallStore.checkpoint.Goals as goal

pub returns-in-Ok : goal.returns-in-Ok
returns-in-Ok c = record {
  two = c.requires.ready.two;
  at_cursors = checkpointed_cursors counters _ c.args.self.store c.checkpoint.new.self _
      c.args.self.hands.items c.in-Ok.ensures.does c.requires.at_end c.requires.ready.at_cursors;
}
