-- What has a spelling passes the tests of the reader, and a graph that passes them has a spelling.
use Rattle.std.proofs.Common.{◌≡◌, ℕ, ◌-◌, ◌^◌, ◌<◌, ◌≤◌, true, ◌&&◌}
use Rattle.std.proofs.Common.{nat_lt, nat_le, IsTrue, All, List, [], ◌∷◌, ◌++◌, length, take, drop}
use Rattle.std.proofs.Common.{get_or, Some, None, refl, sym, ap, ◌∙◌, arith, subst}
use Rattle.std.proofs.Common.{length-append}
use Rattle.std.specs.List.{list_all}
use Rattle.std.proofs.lemmas.Bool.{ltb-true, lt-ltb, leb-true}
use Rattle.std.proofs.lemmas.List.{take-append-drop, take-append-le, take_all, length-take-le}
use Rattle.std.proofs.lemmas.List.Sums.{AllPass-from_list_all, list_all-from_AllPass, sum_by-cons}
use Rattle.std.proofs.lemmas.List.Sums.{get_or-le-sum_by}
use Rattle.fm_bytes.specs.Numbers.{AllBytes, is_unsigned}
use Rattle.fm_bytes.proofs.Booleans.{and_parts, and_true}
use Rattle.fm_bytes.proofs.Readers.{counted_fits, some_same}
use Rattle.fm_name.specs.Class.{is_class}
use Rattle.fm_name.specs.Path.{is_path}
use Rattle.fm_name.specs.declared.events.EventName.{EventName}
use Rattle.fm_entry.specs.Words.{IsEvent, event_fits}
use Rattle.ev_graph.specs.Kinds.{has_limits, has_engine_below}
use Rattle.ev_graph.specs.Lawful.{GraphValue, IsGraph, links, links_of, has_counts, is_in_range}
use Rattle.ev_graph.specs.Lawful.{has_engine_limits, are_below}
use Rattle.ev_graph.specs.declared.nodes.Node.{Node}
use Rattle.ev_graph.specs.declared.nodes.NodeKind.{NodeKind}
use Rattle.ev_graph.specs.declared.nodes.NodeKind.TheVariants.{Fault, Defect, Upset, Inner, Report}
use Rattle.ev_graph.specs.declared.nodes.EngineSpec.{EngineSpec}
use Rattle.ev_graph.specs.declared.instances.Instance.{Instance}
use Rattle.ev_file.specs.Files.{FitsKind, IsFileNode, IsSpelledFile, IsFileFront, has_category}
use Rattle.ev_file.specs.Files.{file_bytes}
use Rattle.ev_file.specs.FileReading.{file_from, IsNoFile}
use Rattle.ev_file.specs.declared.made.Made.{Made}
use Rattle.ev_file.proofs.KindReader.{kind_fits}
use Rattle.ev_file.proofs.FileReader.{node_fits, engine_spec_fits, instance_fits, body_fits}
use Rattle.ev_file.proofs.FileReader.{file_reader}

-- events
event_is : (event : EventName) → IsTrue (event_fits event) → IsEvent event
event_is event h =
    let parts = and_parts (is_class event.class) (is_path event.path) h in
    record { class_is = parts.0; path_is = parts.1 }

event_back : (event : EventName) → IsEvent event → IsTrue (event_fits event)
event_back event h =
    and_true (is_class event.class) (is_path event.path) h.class_is h.path_is

-- nodes
kind_is : (kind : NodeKind) → IsTrue (kind_fits kind) → FitsKind kind
kind_is (Fault fit retire) h = ltb-true fit (2 ^ 32) h
kind_is (Defect fit retire) h = ltb-true fit (2 ^ 32) h
kind_is (Upset engine) h = tt
kind_is Inner h = tt
kind_is (Report within) h = tt

kind_back : (kind : NodeKind) (engines : ℕ) → engines < 2 ^ 32 → FitsKind kind
    → has_engine_below engines kind ≡ true → has_limits kind ≡ true → IsTrue (kind_fits kind)
kind_back (Fault fit retire) engines few fits below limits = lt-ltb fit (2 ^ 32) fits
kind_back (Defect fit retire) engines few fits below limits = lt-ltb fit (2 ^ 32) fits
kind_back (Upset None) engines few fits below limits = refl
kind_back (Upset (Some e)) engines few fits below limits =
    let less = ltb-true e engines below in lt-ltb e 4294967295 (omega (arith, less, few))
kind_back Inner engines few fits below limits = refl
kind_back (Report within) engines few fits below limits =
    let most = leb-true within (2 ^ 50) limits in lt-ltb within (2 ^ 64) (omega (arith, most))

node_is : (node : Node) → IsTrue (node_fits node) → IsFileNode node
node_is node h =
    let one = and_parts (event_fits node.name && kind_fits node.kind) (has_category node) h in
    let two = and_parts (event_fits node.name) (kind_fits node.kind) one.0 in
    record { event = event_is node.name two.0; category = one.1; fits = kind_is node.kind two.1 }

node_back : (node : Node) (engines : ℕ) → engines < 2 ^ 32 → IsFileNode node
    → has_engine_below engines node.kind ≡ true → has_limits node.kind ≡ true
    → IsTrue (node_fits node)
node_back node engines few is below limits =
    and_true (event_fits node.name && kind_fits node.kind) (has_category node)
    (and_true (event_fits node.name) (kind_fits node.kind) (event_back node.name is.event)
    (kind_back node.kind engines few is.fits below limits))
    is.category

-- engines
engine_back : (engine : EngineSpec) (nodes : ℕ) → nodes ≤ 65536 → IsEvent engine.name
    → nat_lt engine.trip nodes ≡ true → has_engine_limits engine ≡ true
    → IsTrue (engine_spec_fits engine)
engine_back engine nodes few is below limits =
    let trip = ltb-true engine.trip nodes below in
    let one = and_parts (nat_lt 0 engine.n) _ limits in
    let two = and_parts (nat_le engine.n 1024) _ one.1 in
    let three = and_parts (nat_lt 0 engine.t) _ two.1 in
    let n = leb-true engine.n 1024 two.0 in
    let t = leb-true engine.t (2 ^ 60) three.1 in
    and_true (event_fits engine.name) _ (event_back engine.name is)
    (and_true (nat_lt engine.n (2 ^ 32)) _ (lt-ltb engine.n (2 ^ 32) (omega (arith, n)))
    (and_true (is_unsigned engine.t) _ (lt-ltb engine.t (2 ^ 64) (omega (arith, t)))
    (lt-ltb engine.trip (2 ^ 32) (omega (arith, trip, few)))))

-- instances
pub numbers_back : (xs : List ℕ) (nodes : ℕ) → nodes ≤ 65536 → length xs < 2 ^ 32
    → are_below nodes xs ≡ true
    → IsTrue (counted_fits 4 (λ n. nat_lt n (2 ^ 32)) xs)
numbers_back xs nodes few short below =
    and_true (nat_lt (length xs) (256 ^ 4)) _ (lt-ltb (length xs) (256 ^ 4) (omega (arith, short)))
    (list_all-from_AllPass (λ n. nat_lt n (2 ^ 32)) xs (λ i d less.
    let one = ltb-true (get_or xs i d) nodes
    (AllPass-from_list_all (λ n. nat_lt n nodes) xs below i d less) in
    lt-ltb (get_or xs i d) (2 ^ 32) (omega (arith, one, few))))

instance_back : (i : Instance) (nodes all : ℕ) → nodes ≤ 65536 → all ≤ 1048576 → links_of i ≤ all
    → is_in_range nodes i ≡ true → has_counts i ≡ true → IsTrue (instance_fits i)
instance_back i nodes all few most inside below counts =
    let one = and_parts (nat_le i.n (length i.effects)) _ counts in
    let two = and_parts (nat_lt 0 i.k) _ one.1 in
    let three = and_parts (nat_le i.k (length i.causes)) _ two.1 in
    let n = leb-true i.n (length i.effects) one.0 in
    let k = leb-true i.k (length i.causes) three.0 in
    let range = and_parts (are_below nodes i.causes) (are_below nodes i.effects) below in
    and_true (nat_lt i.n (2 ^ 32)) _ (lt-ltb i.n (2 ^ 32) (omega (arith, n, inside, most)))
    (and_true (nat_lt i.k (2 ^ 32)) _ (lt-ltb i.k (2 ^ 32) (omega (arith, k, inside, most)))
    (and_true (counted_fits 4 (λ n. nat_lt n (2 ^ 32)) i.causes) _
    (numbers_back i.causes nodes few (omega (arith, inside, most)) range.0)
    (numbers_back i.effects nodes few (omega (arith, inside, most)) range.1)))

-- each instance has an effect, so there are no more instances than links
few_instances : (is : List Instance) → list_all has_counts is ≡ true → length is ≤ links is
few_instances [] h = omega arith
few_instances (i ∷ is) h =
    let parts = and_parts (has_counts i) (list_all has_counts is) h in
    let one = and_parts (nat_le i.n (length i.effects)) _ parts.0 in
    let two = and_parts (nat_lt 0 i.k) _ one.1 in
    let three = and_parts (nat_le i.k (length i.causes)) _ two.1 in
    let some = ltb-true 0 (length i.effects) three.1 in
    let rest = few_instances is parts.1 in
    let sum = sum_by-cons links_of i is in
    omega (arith, some, rest, sum)

module _ (g : GraphValue) (graph : IsGraph g) where
  small : links g.instances ≤ 1048576
  small = graph.counted.kindred.numbered.sorted.small.few_links

  few : length g.nodes ≤ 65536
  few = graph.counted.kindred.numbered.sorted.small.few_nodes

  counts : list_all (λ node. has_limits node.kind) g.nodes ≡ true
      × (list_all has_engine_limits g.engines ≡ true × (list_all has_counts g.instances ≡ true))
  counts =
      let one = and_parts (list_all (λ node. has_limits node.kind) g.nodes) _ graph.counted.counts
      in
      let two = and_parts (list_all has_engine_limits g.engines) _ one.1 in
      (one.0, (two.0, two.1))

  ranges : list_all (λ node. has_engine_below (length g.engines) node.kind) g.nodes ≡ true
      × (list_all (λ engine. nat_lt engine.trip (length g.nodes)) g.engines ≡ true
      × (list_all (is_in_range (length g.nodes)) g.instances ≡ true))
  ranges =
      let one = and_parts (list_all (λ node. has_engine_below (length g.engines) node.kind) g.nodes)
      _ graph.counted.kindred.numbered.in_range in
      let two = and_parts (list_all (λ engine. nat_lt engine.trip (length g.nodes)) g.engines) _
      one.1 in
      (one.0, (two.0, two.1))

  pub short_instances : length g.instances < 2 ^ 32
  short_instances =
      let less = few_instances g.instances counts.1.1 in omega (arith, less, small)

  pub instances_fit : IsTrue (counted_fits 4 instance_fits g.instances)
  instances_fit =
      and_true (nat_lt (length g.instances) (256 ^ 4)) _
      (lt-ltb (length g.instances) (256 ^ 4) (omega (arith, short_instances)))
      (list_all-from_AllPass instance_fits g.instances (λ i d less.
      instance_back (get_or g.instances i d) (length g.nodes) (links g.instances) few small
      (get_or-le-sum_by links_of g.instances i d less)
      (AllPass-from_list_all (is_in_range (length g.nodes)) g.instances ranges.1.1 i d less)
      (AllPass-from_list_all has_counts g.instances counts.1.1 i d less)))

  -- the causes and effects of each instance are few
  pub short_links : All (λ i. (length i.causes < 2 ^ 32) × (length i.effects < 2 ^ 32)) g.instances
  short_links i d less =
      let inside = get_or-le-sum_by links_of g.instances i d less in
      (omega (arith, inside, small), omega (arith, inside, small))

  pub nodes_fit : length g.engines < 2 ^ 32 → All IsFileNode g.nodes
      → IsTrue (counted_fits 4 node_fits g.nodes)
  nodes_fit short are =
      and_true (nat_lt (length g.nodes) (256 ^ 4)) _
      (lt-ltb (length g.nodes) (256 ^ 4) (omega (arith, few)))
      (list_all-from_AllPass node_fits g.nodes (λ i d less.
      node_back (get_or g.nodes i d) (length g.engines) short (are i d less)
      (AllPass-from_list_all (λ node. has_engine_below (length g.engines) node.kind) g.nodes
      ranges.0 i d less)
      (AllPass-from_list_all (λ node. has_limits node.kind) g.nodes counts.0 i d less)))

  pub engines_fit : length g.engines < 2 ^ 32 → All (λ engine. IsEvent engine.name) g.engines
      → IsTrue (counted_fits 4 engine_spec_fits g.engines)
  engines_fit short are =
      and_true (nat_lt (length g.engines) (256 ^ 4)) _
      (lt-ltb (length g.engines) (256 ^ 4) (omega (arith, short)))
      (list_all-from_AllPass engine_spec_fits g.engines (λ i d less.
      engine_back (get_or g.engines i d) (length g.nodes) few (are i d less)
      (AllPass-from_list_all (λ engine. nat_lt engine.trip (length g.nodes)) g.engines
      ranges.1.0 i d less)
      (AllPass-from_list_all has_engine_limits g.engines counts.1.0 i d less)))

file_fits : (made : Made) → IsSpelledFile made → IsTrue (body_fits made)
file_fits made h =
    and_true (counted_fits 4 node_fits made.graph.nodes) _
    (nodes_fit made.graph h.graph h.few_engines h.nodes_are)
    (and_true (counted_fits 4 engine_spec_fits made.graph.engines) _
    (engines_fit made.graph h.graph h.few_engines h.engines_are)
    (and_true (counted_fits 4 instance_fits made.graph.instances) _
    (instances_fit made.graph h.graph) (lt-ltb made.skipped (2 ^ 64) h.skipped_fits)))

file_is : (made : Made) → IsGraph made.graph → IsTrue (body_fits made) → IsSpelledFile made
file_is made graph h =
    let one = and_parts (counted_fits 4 node_fits made.graph.nodes) _ h in
    let two = and_parts (counted_fits 4 engine_spec_fits made.graph.engines) _ one.1 in
    let three = and_parts (counted_fits 4 instance_fits made.graph.instances) _ two.1 in
    let nodes = and_parts (nat_lt (length made.graph.nodes) (256 ^ 4)) _ one.0 in
    let engines = and_parts (nat_lt (length made.graph.engines) (256 ^ 4)) _ two.0 in
    let some = ltb-true (length made.graph.engines) (256 ^ 4) engines.0 in
    record {
      graph = graph;
      nodes_are = λ i d less.
          node_is (get_or made.graph.nodes i d)
          (AllPass-from_list_all node_fits made.graph.nodes nodes.1 i d less);
      engines_are = λ i d less.
          let e = get_or made.graph.engines i d in
          event_is e.name (and_parts (event_fits e.name) _
          (AllPass-from_list_all engine_spec_fits made.graph.engines engines.1 i d less)).0;
      few_engines = omega (arith, some);
      skipped_fits = ltb-true made.skipped (2 ^ 64) three.1;
    }

-- what was read is spelled at the front
pub file_found : (bytes rest : List ℕ) (made : Made) (size : ℕ) → AllBytes bytes
    → file_from bytes ≡ Some (made, rest) → IsGraph made.graph → size ≡ length bytes - length rest
    → IsSpelledFile made × IsFileFront made size bytes
file_found bytes rest made size all h graph sized =
    let known = file_reader.sound bytes (made, rest) all h in
    let long = ap length known.1 ∙ length-append (file_bytes made) rest in
    let same : size ≡ length (file_bytes made) = omega (arith, sized, long) in (
      file_is made graph known.0,
      record {
        inside = omega (arith, same, long);
        spelled = (λ i. take (same i) (known.1 i))
            ∙ take-append-le (length (file_bytes made)) (file_bytes made) rest (omega arith)
            ∙ take_all (length (file_bytes made)) (file_bytes made) (omega arith);
      },
    )

-- what is spelled at the front is read
pub file_there : (bytes : List ℕ) (made : Made) (size : ℕ) → IsSpelledFile made
    → IsFileFront made size bytes → file_from bytes ≡ Some (made, drop size bytes)
file_there bytes made size spelled front =
    ap file_from (sym (take-append-drop size bytes)
    ∙ ap (λ (xs : List ℕ). xs ++ drop size bytes) front.spelled)
    ∙ file_reader.whole made (drop size bytes) (file_fits made spelled)

left_of : (bytes : List ℕ) (size : ℕ) → size ≤ length bytes
    → size ≡ length bytes - length (drop size bytes)
left_of bytes size inside =
    let front = length-take-le size bytes inside in
    let both = length-append (take size bytes) (drop size bytes) in
    let all = ap length (take-append-drop size bytes) in
    omega (arith, front, both, all)

-- just what was read is spelled at the front
pub file_only : (bytes rest : List ℕ) (made other : Made) (size taken : ℕ)
    → file_from bytes ≡ Some (made, rest)
    → taken ≡ length bytes - length rest → IsSpelledFile other → IsFileFront other size bytes
    → ◌≡◌ {A = Made × ℕ} (made, taken) (other, size)
file_only bytes rest made other size taken read sized spelled front =
    let same = some_same (made, rest) (other, drop size bytes)
    (sym read ∙ file_there bytes other size spelled front) in
    let left = left_of bytes size front.inside in
    let rests = ap (λ (t : Made × List ℕ). length t.1) same in
    let sizes : taken ≡ size = omega (arith, sized, left, rests) in
    λ i. ((same i).0, sizes i)

-- nothing is spelled at the front
pub file_missing : (bytes : List ℕ) (made : Made) (size : ℕ) → IsNoFile (file_from bytes)
    → IsSpelledFile made → IsFileFront made size bytes → ⊥
file_missing bytes made size none spelled front =
    subst IsNoFile (file_there bytes made size spelled front) none spelled.graph

-- no more is left than was there
pub file_left : (bytes rest : List ℕ) (made : Made) → AllBytes bytes
    → file_from bytes ≡ Some (made, rest) → length rest ≤ length bytes
file_left bytes rest made all h =
    let long = ap length (file_reader.sound bytes (made, rest) all h).1
    ∙ length-append (file_bytes made) rest in
    omega (arith, long)
