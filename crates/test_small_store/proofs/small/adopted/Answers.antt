-- The hands of modules that were adopted are at their cursors.
use Rattle.std.proofs.Common.{List, length, ap, ◌∙◌}
use Rattle.fm_core.specs.Counter.{CounterOf, counters}
use Rattle.fm_store.proofs.Cursors.{adopted_cursors}
use Rattle.test_small_store.proofs.small.adopted.Goals as goal

pub returns-in-Ok-adopt : goal.returns-in-Ok-adopt
returns-in-Ok-adopt c = record {
  two = c.in-Ok-adopt.ensures.is.as_many
      ∙ ap (λ (l : List CounterOf). length l) c.requires.kept;
  at_cursors = adopted_cursors counters c.in-Ok.open c.args.kept.items c.in-Ok-adopt.store
      c.in-Ok-adopt.hands.items c.in-Ok-adopt.ensures.is;
}
