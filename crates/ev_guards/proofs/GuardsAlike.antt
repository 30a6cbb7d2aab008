-- Guards that are equal but for where their conditions lie in memory: the same links are guarded,
-- and each payload breaks the same ones.
use Rattle.std.proofs.Common.{◌≡◌, ◌+◌, ◌++◌, ◌^◌, ◌&&◌, ℕ, zero, suc, Bool, nat_lt, List, [], ◌∷◌}
use Rattle.std.proofs.Common.{length, map, filter, slice_get, Option, Some, None, refl, sym, ap}
use Rattle.std.proofs.Common.{◌∙◌, ◌==◌, arith, length-append}
use Rattle.std.specs.List.{list_all}
use Rattle.std.proofs.lemmas.Bool.{ne_eqb}
use Rattle.std.proofs.lemmas.List.{length-map}
use Rattle.std.proofs.lemmas.List.Folds.{list_all-append}
use Rattle.fm_topo.specs.Topology.{Topology}
use Rattle.ev_expr.specs.declared.settings.Prop.{Prop}
use Rattle.ev_graph.specs.declared.instances.Link.{Link}
use Rattle.ev_guards.specs.Watched.{Watched, view_node}
use Rattle.ev_guards.specs.Guards.{GuardAlike, GuardsValue, broken_on}
use Rattle.ev_guards.specs.Guards.{guard_count, has_instance_number}
use Rattle.ev_guards.specs.Guards.{is_numbered_link, link_to, links_to}
use Rattle.ev_guards.specs.declared.guards.Guard.{Guard}
use Rattle.ev_guards.specs.declared.guards.GuardedNode.{GuardedNode}
use Rattle.ev_guards.proofs.Watching.{broken_map, guarded_instance, is_unmet, links_here}
use Rattle.ev_guards.proofs.Watching.{watched_link}

-- ---- the links
abbrev watched_links : ℕ → List Watched → List Link
watched_links e [] = []
watched_links e (n ∷ ns) = map (watched_link e) n.guards ++ watched_links (suc e) ns

links_watched : (e : ℕ) (ns : List GuardedNode)
    → links_to e ns ≡ watched_links e (map view_node ns)
links_watched e [] = refl
links_watched e (n ∷ ns) =
    λ i. links_here e n.guards.items i ++ links_watched (suc e) ns i

-- ---- what payloads break
abbrev broken_watched : Topology → List Prop → Option Watched → List ℕ
broken_watched topology props None = []
broken_watched topology props (Some n) =
    map guarded_instance (filter (λ v. is_unmet topology n.path props v.asked) n.guards)

broken_at_node : (topology : Topology) (props : List Prop) (ns : List GuardedNode) (e : ℕ)
    → broken_on topology props (slice_get ns e)
    ≡ broken_watched topology props (slice_get (map view_node ns) e)
broken_at_node topology props [] e = refl
broken_at_node topology props (n ∷ ns) zero = broken_map topology n.path props n.guards.items
broken_at_node topology props (n ∷ ns) (suc e) = broken_at_node topology props ns e

pub alike : (v w : GuardsValue) → w.topology ≡ v.topology
    → map view_node w.nodes ≡ map view_node v.nodes → GuardAlike v w
alike v w topology nodes = record {
  links =
      links_watched 0 w.nodes ∙ ap (watched_links 0) nodes ∙ sym (links_watched 0 v.nodes);
  broken = λ e props. broken_at_node w.topology props w.nodes e
      ∙ (λ i. broken_watched (topology i) props (slice_get (nodes i) e))
      ∙ sym (broken_at_node v.topology props v.nodes e);
}

-- ---- how many there are
counted : (e : ℕ) (ns : List GuardedNode) → length (links_to e ns) ≡ guard_count ns
counted e [] = refl
counted e (n ∷ ns) =
    length-append (map (link_to e) n.guards.items) (links_to (suc e) ns)
    ∙ (λ i. length-map n.guards.items (link_to e) i + counted (suc e) ns i)

numbered_here : (e : ℕ) (gs : List Guard)
    → list_all is_numbered_link (map (link_to e) gs) ≡ list_all has_instance_number gs
numbered_here e [] = refl
numbered_here e (g ∷ gs) = ap (λ (b : Bool). has_instance_number g && b) (numbered_here e gs)

numbered : (e : ℕ) (ns : List GuardedNode) → list_all is_numbered_link (links_to e ns)
    ≡ list_all (λ n. list_all has_instance_number n.guards.items) ns
numbered e [] = refl
numbered e (n ∷ ns) =
    list_all-append is_numbered_link (map (link_to e) n.guards.items) (links_to (suc e) ns)
    ∙ (λ i. numbered_here e n.guards.items i && numbered (suc e) ns i)

pub few_links : (ns : List GuardedNode)
    → (nat_lt (guard_count ns) (2 ^ 32) && list_all (λ n. list_all has_instance_number
    n.guards.items) ns)
    ≡ (nat_lt (length (links_to 0 ns)) (2 ^ 32) && list_all is_numbered_link (links_to 0 ns))
few_links ns = λ i. nat_lt (sym (counted 0 ns) i) (2 ^ 32) && sym (numbered 0 ns) i

-- nobody guards: how many there are is 0
none_more : (k m : ℕ) (b : Bool) → b ≡ (m == 0) → ((k == 0) && b) ≡ (k + m == 0)
none_more zero m b h = h ∙ ap (λ (k : ℕ). k == 0) (omega arith)
none_more (suc k) m b h =
    (λ i. ne_eqb (suc k) 0 (λ same. omega (arith, same)) i && b)
    ∙ sym (ne_eqb (suc k + m) 0 (λ same. omega (arith, same)))

bare_counted : (ns : List GuardedNode)
    → list_all (λ n. length n.guards.items == 0) ns ≡ (guard_count ns == 0)
bare_counted [] = refl
bare_counted (n ∷ ns) =
    none_more (length n.guards.items) (guard_count ns)
    (list_all (λ n. length n.guards.items == 0) ns) (bare_counted ns)

pub none_links : (ns : List GuardedNode)
    → list_all (λ n. length n.guards.items == 0) ns ≡ (length (links_to 0 ns) == 0)
none_links ns = bare_counted ns ∙ ap (λ (k : ℕ). k == 0) (sym (counted 0 ns))
