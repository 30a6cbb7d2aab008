use Rattle.std.proofs.Common.{◌≡◌, ◌<◌, ℕ, true, length, slice_index}
use Rattle.ev_incidence.specs.Sets.{is_member}
use Rattle.ev_graph.specs.Kinds.{is_upset_node}
use Rattle.ev_graph.proofs.trips.upsets_of.Given as goal

abbrev pub invariant-loop-node : goal.invariant-loop-node
invariant-loop-node l = record {
  each : (i : ℕ) → i < length l.upsets.items
      → is_upset_node l.nodes (slice_index l.upsets.items i) ≡ true;
  all : (e : ℕ) → e < l.node → is_upset_node l.nodes e ≡ true → is_member l.upsets.items e ≡ true;
}
