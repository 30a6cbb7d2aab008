-- The hands are at their cursors once the store is drained with its base at its end.
use Rattle.std.proofs.Common.{◌∙◌, OnOk, subst}
use Rattle.fm_core.specs.Counter.{counters}
use Rattle.fm_drain.specs.ToBase.{IsAtBase}
use Rattle.test_stores.proofs.BaseHands.{base_hands}
use Rattle.test_stores.proofs.runs.to_base.Goals as goal

pub returns-in-Ok : goal.returns-in-Ok
returns-in-Ok c = record {
  two = base_hands _ counters c.args.small.store.logs.closed c.args.small.store.logs.entries
      c.args.small.store c.drain_to_base-hands.new.store c.args.small.hands.items
      c.drain_to_base-hands.result.0.items c.drain_to_base-hands.result.1
      c.drain_to_base-hands.ensures.does ∙ c.requires.two;
  at_cursors = (subst (λ r. OnOk r (IsAtBase counters c.args.small.store
      c.drain_to_base-hands.new.store c.drain_to_base-hands.result.0.items)) c.in-Ok.is
      c.drain_to_base-hands.ensures.at_base).at_cursors;
}
