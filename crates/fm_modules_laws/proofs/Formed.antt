-- What the rule files of kept configurations make is what a module can be made with.
use Rattle.std.proofs.Common.{◌≡◌, ℕ, zero, suc, ◌<◌, ◌≤◌, ◌^◌, ◌==◌, ◌&&◌, Bool, true, nat_lt}
use Rattle.std.proofs.Common.{nat_le, IsTrue, List, [], ◌∷◌, length, get_or, slice_get}
use Rattle.std.proofs.Common.{refl, sym, ap, ◌∙◌, subst, arith}
use Rattle.std.specs.List.{list_all}
use Rattle.std.proofs.lemmas.Bool.{and_from, eq-eqb, false≢true, le-leb, lt-ltb, or_left, or_right}
use Rattle.std.proofs.lemmas.List.{length-map}
use Rattle.std.proofs.lemmas.List.Sums.{list_all-from_AllPass}
use Rattle.fm_entry.specs.Words.{event_fits}
use Rattle.fm_name.specs.Class.{is_class}
use Rattle.fm_name.specs.Path.{is_path}
use Rattle.fm_saved.specs.declared.conf.Conf.{Conf}
use Rattle.fm_topo.specs.Lawful.{IsTopology}
use Rattle.fm_topo.specs.Topology.{Topology}
use Rattle.fm_topo.proofs.Kept.{lawful}
use Rattle.ev_file.specs.Files.{IsFileNode, IsSpelledFile}
use Rattle.ev_file.specs.declared.made.Made.{Made}
use Rattle.ev_file.proofs.SpelledFiles.{short_instances}
use Rattle.ev_graph.specs.Cutting.{is_cut}
use Rattle.ev_graph.specs.Lawful.{GraphValue, IsGraph}
use Rattle.ev_graph.specs.Wired.{wiring}
use Rattle.ev_graph.specs.declared.instances.Instance.{Instance}
use Rattle.ev_graph.specs.declared.instances.Link.{Link}
use Rattle.ev_graph.specs.declared.nodes.Node.{Node}
use Rattle.ev_guards.specs.Guards.{AreGuardsFor, GuardsValue, guarded_links, is_numbered_link}
use Rattle.ev_guards.proofs.GuardedLinks.{cut_same}
use Rattle.ev_incidence.specs.Sets.{is_member}
use Rattle.dx_engine.proofs.Forming.{formed_graph}
use Rattle.dx_engine.specs.Guarding.{are_few}
use Rattle.dx_rules.specs.Payloads.{guarding_of}
use Rattle.dx_state.specs.Configured.{Configuration, Guarding, no_configuration, or_none}
use Rattle.dx_state.specs.LawfulState.{is_formed, is_formed_configuration}
use Rattle.dx_state.proofs.Facts.{formed_back}
use Rattle.dx_step.specs.Lawful.{are_rules}
use Rattle.dx_step.specs.Longer.{rules_of}
use Rattle.fm_esc_laws.proofs.Spelled.{made_spelled}
use Rattle.fm_modules.specs.KeptTexts.{ConfMakes, EachHas, TextMakes}
use Rattle.fm_modules.specs.Modules.{configurations_at}

-- ---- the graph of a rule file
node_named : (node : Node) → IsFileNode node → IsTrue (event_fits node.name)
node_named node is =
    and_from (is_class node.name.class) (is_path node.name.path) is.event.class_is is.event.path_is

graph_formed : (made : Made) → IsSpelledFile made → IsTrue (is_formed made.graph)
graph_formed made is =
    let nodes = made.graph.nodes in
    formed_graph made.graph is.graph
    ∙ and_from (list_all (λ node. event_fits node.name) nodes) _
    (list_all-from_AllPass (λ node. event_fits node.name) nodes (λ i d less.
    node_named (get_or nodes i d) (is.nodes_are i d less)))
    (lt-ltb (length made.graph.engines) (2 ^ 32) is.few_engines)

-- ---- its guarded links

-- an instance that has an effect is there
effect_inside : (is : List Instance) (i e : ℕ) → is_member ((wiring is).effects i) e ≡ true
    → i < length is
effect_inside [] i e has = absurd (false≢true has)
effect_inside (x ∷ is) zero e has = omega arith
effect_inside (x ∷ is) (suc i) e has =
    let less = effect_inside is i e has in omega (arith, less)

-- each of some links has P, where each link that they have does
each_link : (P : Link → Bool) (ls : List Link)
    → ((l : Link) → is_cut ls l.instance l.effect ≡ true → IsTrue (P l)) → IsTrue (list_all P ls)
each_link P [] holds = refl
each_link P (l ∷ ls) holds =
    and_from (P l) (list_all P ls)
    (holds l (or_left (l.instance == l.instance && l.effect == l.effect)
    (is_cut ls l.instance l.effect)
    (and_from (l.instance == l.instance) (l.effect == l.effect)
    (eq-eqb l.instance l.instance refl) (eq-eqb l.effect l.effect refl))))
    (each_link P ls (λ m has.
    holds m (or_right (l.instance == m.instance && l.effect == m.effect)
    (is_cut ls m.instance m.effect) has)))

guards_few : (g : GraphValue) (v : GuardsValue) → IsGraph g → AreGuardsFor g v
    → IsTrue (are_few (guarding_of v))
guards_few g v is fits =
    let few = fits.few in
    let small = is.counted.kindred.numbered.sorted.small.few_links in
    and_from (nat_lt (length (guarded_links v)) (2 ^ 32))
    (list_all is_numbered_link (guarded_links v))
    (lt-ltb (length (guarded_links v)) (2 ^ 32) (omega (arith, few, small)))
    (each_link is_numbered_link (guarded_links v) (λ l has.
    let inside = effect_inside g.instances l.instance l.effect
    (fits.links_are l.instance l.effect (sym (cut_same v l.instance l.effect) ∙ has)) in
    let most = short_instances g is in
    lt-ltb l.instance (2 ^ 32) (omega (arith, inside, most))))

-- ---- the configuration that a rule file makes
text_formed : (topo : Topology) (text : List ℕ) (x : Configuration) → IsTopology topo
    → TextMakes topo text x → IsTrue (is_formed_configuration x)
text_formed topo text x topology makes =
    let one = makes.makes in
    let spelled = made_spelled topo topology text makes.checked makes.is_rules one.made one.is_made
    in
    and_from (is_formed x.graph) (are_few x.guarding)
    (subst (λ (g : GraphValue). IsTrue (is_formed g)) (sym one.graph_is)
    (graph_formed one.made spelled))
    (subst (λ (y : Guarding). IsTrue (are_few y)) (sym one.guarding.guarding_is)
    (guards_few x.graph one.guarding.guards one.is_graph one.guarding.are.fits))

-- the one without events
none_formed : IsTrue (is_formed_configuration no_configuration)
none_formed =
    formed_back no_configuration (record {
      few_nodes = omega arith;
      names = refl;
      ordered = refl;
      few_engines = omega arith;
      engines = refl;
      few_guarded = omega arith;
      guarded = refl;
    })

row_formed : (topo : Topology) (texts : List (List ℕ)) (row : List Configuration) (i : ℕ)
    → IsTopology topo → EachHas (TextMakes topo) texts row
    → IsTrue (is_formed_configuration (or_none (slice_get row i)))
row_formed topo [] [] i topology each = none_formed
row_formed topo (text ∷ texts) (x ∷ row) zero topology each =
    text_formed topo text x topology each.0
row_formed topo (text ∷ texts) (x ∷ row) (suc i) topology each =
    row_formed topo texts row i topology each.1
row_formed topo [] (x ∷ row) i topology each = absurd each
row_formed topo (text ∷ texts) [] i topology each = absurd each

-- ---- the rules of a module
rows_formed : (confs : List Conf) (rows : List (List Configuration)) (i : ℕ)
    → EachHas ConfMakes confs rows
    → IsTrue (list_all is_formed_configuration (configurations_at i rows))
rows_formed [] [] i each = refl
rows_formed (conf ∷ confs) (row ∷ rows) i each =
    and_from (is_formed_configuration (or_none (slice_get row i)))
    (list_all is_formed_configuration (configurations_at i rows))
    (row_formed each.0.topo conf.rules row i
    (lawful each.0.topo conf.topo each.0.topo_is.clean each.0.topo_is.topology_is) each.0.files)
    (rows_formed confs rows i each.1)
rows_formed [] (row ∷ rows) i each = absurd each
rows_formed (conf ∷ confs) [] i each = absurd each

rows_count : (confs : List Conf) (rows : List (List Configuration))
    → EachHas ConfMakes confs rows → length rows ≡ length confs
rows_count [] [] each = refl
rows_count (conf ∷ confs) (row ∷ rows) each = ap suc (rows_count confs rows each.1)
rows_count [] (row ∷ rows) each = absurd each
rows_count (conf ∷ confs) [] each = absurd each

-- as many as there are configurations
pub configuration_count : (confs : List Conf) (rows : List (List Configuration)) (i : ℕ)
    → EachHas ConfMakes confs rows → length (configurations_at i rows) ≡ length confs
configuration_count confs rows i each =
    length-map rows (λ row. or_none (slice_get row i)) ∙ rows_count confs rows each

pub rules_formed : (confs : List Conf) (rows : List (List Configuration)) (i : ℕ)
    → EachHas ConfMakes confs rows → length confs ≤ 16 → i < 8
    → IsTrue (are_rules (rules_of i (configurations_at i rows)))
rules_formed confs rows i each few low =
    let many = configuration_count confs rows i each in
    and_from (nat_lt i 8) _ (lt-ltb i 8 low)
    (and_from (nat_le (length (configurations_at i rows)) (2 ^ 32))
    (list_all is_formed_configuration (configurations_at i rows))
    (le-leb (length (configurations_at i rows)) (2 ^ 32) (omega (arith, few, many)))
    (rows_formed confs rows i each))
