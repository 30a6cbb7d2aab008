-- What a graph says of its instances.
use Rattle.std.proofs.Common.{◌≡◌, ◌<◌, ◌&&◌, not, ℕ, zero, suc, true, false, leb, ltb, List}
use Rattle.std.proofs.Common.{[], ◌∷◌}
use Rattle.std.proofs.Common.{length, slice_get}
use Rattle.std.specs.List.{list_all}
use Rattle.std.proofs.lemmas.Bool.{and_parts, ltb-true, false≢true, not-true}
use Rattle.ev_incidence.specs.Sets.{is_member}
use Rattle.ev_graph.specs.Kinds.{is_root_node, is_report_node, has_limits}
use Rattle.ev_graph.specs.Wired.{wiring, effects_if_any, k_if_any}
use Rattle.ev_graph.specs.Lawful.{GraphValue, IsGraph, has_counts, keeps_kinds, has_engine_limits}
use Rattle.ev_graph.specs.declared.nodes.Node.{Node}
use Rattle.ev_graph.specs.declared.nodes.EngineSpec.{EngineSpec}
use Rattle.ev_graph.specs.declared.instances.Instance.{Instance}
use Rattle.ev_incidence.proofs.Occurrences.{all_in}
use Rattle.dx_live.specs.Region.{AreCounted, AreRising}

counted_at : (is : List Instance) → list_all has_counts is ≡ true → (j e : ℕ)
    → is_member (effects_if_any (slice_get is j)) e ≡ true → 0 < k_if_any (slice_get is j)
counted_at [] h j e i = absurd (false≢true i)
counted_at (x ∷ xs) h zero e i =
    let p = and_parts (has_counts x) (list_all has_counts xs) h in
    let q = and_parts (leb x.n (length x.effects))
    (ltb 0 x.k && (leb x.k (length x.causes) && ltb 0 (length x.effects))) p.0 in
    ltb-true 0 x.k (and_parts (ltb 0 x.k) (leb x.k (length x.causes) && ltb 0 (length x.effects))
    q.1).0
counted_at (x ∷ xs) h (suc j) e i =
    counted_at xs (and_parts (has_counts x) (list_all has_counts xs) h).1 j e i

no_root_at : (nodes : List Node) (is : List Instance) → list_all (keeps_kinds nodes) is ≡ true
    → (j e : ℕ) → is_member (effects_if_any (slice_get is j)) e ≡ true
    → is_root_node nodes e ≡ false
no_root_at nodes [] h j e i = absurd (false≢true i)
no_root_at nodes (x ∷ xs) h zero e i =
    let p = and_parts (keeps_kinds nodes x) (list_all (keeps_kinds nodes) xs) h in
    let q = and_parts (list_all (λ c. not (is_report_node nodes c)) x.causes)
    (list_all (λ c. not (is_root_node nodes c)) x.effects) p.0 in
    not-true (is_root_node nodes e) (all_in (λ c. not (is_root_node nodes c)) x.effects e q.1 i)
no_root_at nodes (x ∷ xs) h (suc j) e i =
    no_root_at nodes xs (and_parts (keeps_kinds nodes x) (list_all (keeps_kinds nodes) xs) h).1 j e
    i

module _ (g : GraphValue) (h : IsGraph g) where
  pub graph_counted : AreCounted (wiring g.instances)
  graph_counted = record {
    each = λ j e i.
        let p = and_parts (list_all (λ (node : Node). has_limits node.kind) g.nodes)
        (list_all has_engine_limits g.engines && list_all has_counts g.instances)
        h.counted.counts in
        let q = and_parts (list_all has_engine_limits g.engines)
        (list_all has_counts g.instances) p.1 in
        counted_at g.instances q.1 j e i;
  }

  pub graph_rising : AreRising (wiring g.instances) h.rank
  graph_rising = record { each = h.rises }

  pub no_root_effect : (j e : ℕ) → is_member ((wiring g.instances).effects j) e ≡ true
      → is_root_node g.nodes e ≡ false
  no_root_effect j e i =
      let p = and_parts (list_all (λ (engine : EngineSpec). is_report_node g.nodes engine.trip)
      g.engines) (list_all (keeps_kinds g.nodes) g.instances) h.counted.kindred.kinds in
      no_root_at g.nodes g.instances p.1 j e i
