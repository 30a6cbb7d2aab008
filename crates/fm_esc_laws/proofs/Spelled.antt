-- What rule files come to over a topology has a spelling.
use Rattle.std.proofs.Common.{◌≡◌, ◌<◌, ◌^◌, ℕ, zero, suc, List, [], ◌∷◌, map}
use Rattle.std.proofs.Common.{get_or, slice_get, Option, Some, None, IsTrue, sym, ap, ◌∙◌, subst}
use Rattle.std.proofs.Common.{arith, inl, inr}
use Rattle.std.proofs.Math.Nat.{min-le_right}
use Rattle.std.proofs.lemmas.List.Elements.{All-cons, All-nil}
use Rattle.std.proofs.lemmas.Option.{same_Some, slice_get-get_or}
use Rattle.std.specs.List.{All, AllByRecursion}
use Rattle.std.specs.Map.{keys_of}
use Rattle.std.specs.Option.{unwrap_or}
use Rattle.fm_name.specs.Category.{category_of}
use Rattle.fm_name.specs.Class.{is_class}
use Rattle.fm_name.specs.Path.{is_path}
use Rattle.fm_name.specs.declared.classes.Category.{Category}
use Rattle.fm_name.specs.declared.classes.Category.TheVariants as categories
use Rattle.fm_name.specs.declared.events.EventName.{EventName}
use Rattle.fm_entry.specs.Words.{IsEvent}
use Rattle.fm_topo.specs.Lawful.{IsPlace, IsTopology}
use Rattle.fm_topo.specs.Topology.{Topology}
use Rattle.ev_tree.specs.Grammar.{class, declared, file, statement}
use Rattle.ev_tree.specs.Language.{each}
use Rattle.ev_tree.specs.Rule.{Rule, EventRule, EngineRule, PropRule, view_statement, view_tree}
use Rattle.ev_tree.specs.Tok.{Tok}
use Rattle.ev_tree.specs.declared.tree.Declared.{Declared}
use Rattle.ev_tree.specs.declared.tree.EventAttr.{EventAttr}
use Rattle.ev_tree.specs.declared.tree.Statement.{Statement}
use Rattle.ev_tree.specs.declared.tree.Statement.TheVariants as statements
use Rattle.ev_words.specs.Attributes.{fit_value}
use Rattle.ev_check.specs.CheckedFile.{CheckedFile, event_spec, kind_of, serd_spec}
use Rattle.ev_check.specs.Declarations.{engines_in, events_in}
use Rattle.ev_check.specs.Defaults.{first_by, fit_of}
use Rattle.ev_check.specs.declared.checked.DeclKind.{DeclKind}
use Rattle.ev_check.specs.declared.checked.DeclKind.TheVariants as kinds
use Rattle.ev_check.specs.declared.checked.EventSpec.{EventSpec}
use Rattle.ev_check.specs.declared.checked.SerdSpec.{SerdSpec}
use Rattle.ev_graph.specs.declared.nodes.EngineSpec.{EngineSpec}
use Rattle.ev_graph.specs.declared.nodes.Node.{Node}
use Rattle.ev_graph.specs.declared.nodes.NodeKind.{NodeKind}
use Rattle.ev_graph.specs.declared.nodes.NodeKind.TheVariants as nodes
use Rattle.ev_file.specs.Files.{FitsKind, IsFileNode, IsSpelledFile, is_category_for}
use Rattle.ev_file.specs.declared.made.Made.{Made}
use Rattle.ev_events.specs.Nodes.{IsEngineOf, IsKindAt, IsNodeOf, engine_name, node_name}
use Rattle.ev_events.specs.Placed.{IsDeclaredAt}
use Rattle.ev_events.proofs.Places.{map_there, none_is_not}
use Rattle.ev_events.proofs.Wholeness.{given_at, whole_file}
use Rattle.ev_inst.specs.Instances.{IsMadeOf}
use Rattle.ev_inst.proofs.Kindred.{categories_fit, kind_facts}
use Rattle.fm_sources.specs.Rules.{IsRuleFile}
use Rattle.fm_sources.specs.Sources.{FilesGave, Given}
use Rattle.fm_sources.specs.declared.files.RuleFile.{RuleFile}
use Rattle.fm_outer.specs.declared.source.Source.{Ghosts}
use Rattle.fm_esc.specs.Compiling.{AreGraphs, IsCompiled}
use Rattle.ev_listing.specs.declared.form.GraphForm.{GraphForm}
use Rattle.fm_esc_laws.proofs.OneText.{sound_of}

-- ---- what the grammar says of declared classes
abbrev HasClass : Rule → Type 0
HasClass (EventRule d attrs) = IsTrue (is_class d.class)
HasClass (EngineRule d attrs) = IsTrue (is_class d.class)
HasClass (PropRule left n k right) = Unit {0}

declared_class : (d : Declared) (ts : List Tok) → declared d ts → IsTrue (is_class d.class)
unfolding declared class
declared_class d ts h = h.first.0

rule_class : (r : Rule) (ts : List Tok) → statement r ts → HasClass r
unfolding statement
rule_class r ts h = elim h [
  | inl event ↦
      subst HasClass event.value
      (declared_class event.from.0 event.spelled.second.front event.spelled.second.first)
  | inr other ↦
      elim other [
        | inl engine ↦
            subst HasClass engine.value
            (declared_class engine.from.0 engine.spelled.second.front engine.spelled.second.first)
        | inr prop ↦ subst HasClass prop.value tt
      ]
]

rules_class : (rs : List Rule) (ts : List Tok) → each statement rs ts → (j : ℕ) (r : Rule)
    → slice_get rs j ≡ Some r → HasClass r
rules_class [] ts h j r s = none_is_not r s
rules_class (q ∷ rs) ts h zero r s =
    subst HasClass (same_Some q r s) (rule_class q h.front h.first)
rules_class (q ∷ rs) ts h (suc j) r s = rules_class rs h.back h.second j r s

tree_class : (rs : List Rule) (ts : List Tok) → file rs ts → (j : ℕ) (r : Rule)
    → slice_get rs j ≡ Some r → HasClass r
unfolding file
tree_class rs ts h j r s = rules_class rs ts h j r s

-- ---- what is declared has a class, and a FIT of four bytes
abbrev FitsDecl : DeclKind → Type 0
FitsDecl (kinds.Fault fit retire) = fit < 2 ^ 32
FitsDecl (kinds.Defect fit retire) = fit < 2 ^ 32
FitsDecl (kinds.Upset engine) = Unit {0}
FitsDecl kinds.Inner = Unit {0}
FitsDecl (kinds.Report within) = Unit {0}

fit_small : (attrs : List EventAttr) → fit_of attrs < 2 ^ 32
fit_small attrs =
    let most = min-le_right (unwrap_or (first_by fit_value attrs) 1) 4294967295 in
    omega (arith, most)

decl_fits : (engines : List Declared) (d : Declared) (attrs : List EventAttr)
    (c : Option Category) → FitsDecl (kind_of engines d attrs c)
decl_fits engines d attrs None = tt
decl_fits engines d attrs (Some categories.Ereport) = tt
decl_fits engines d attrs (Some categories.Error) = tt
decl_fits engines d attrs (Some categories.Fault) = fit_small attrs
decl_fits engines d attrs (Some categories.Defect) = fit_small attrs
decl_fits engines d attrs (Some categories.Upset) = tt
decl_fits engines d attrs (Some categories.List) = tt
decl_fits engines d attrs (Some categories.Serd) = tt

record FitsEvent (e : EventSpec) : Type 0 where
  class_is : IsTrue (is_class e.event.class)
  fits : FitsDecl e.kind

event_fits : (engines : List Declared) (s : Statement) (e : EventSpec)
    → HasClass (view_statement s) → event_spec engines s ≡ Some e → FitsEvent e
event_fits engines (statements.Event place d attrs) e is h =
    subst FitsEvent (same_Some _ e h) (record {
      class_is = is;
      fits = decl_fits engines d attrs (category_of d.class);
    })
event_fits engines (statements.Engine place d attrs) e is h = none_is_not e h
event_fits engines (statements.Prop place left n k right) e is h = none_is_not e h

engine_class : (events : List Declared) (s : Statement) (e : SerdSpec)
    → HasClass (view_statement s) → serd_spec events s ≡ Some e → IsTrue (is_class e.engine.class)
engine_class events (statements.Event place d attrs) e is h = none_is_not e h
engine_class events (statements.Engine place d attrs) e is h =
    subst (λ (x : SerdSpec). IsTrue (is_class x.engine.class)) (same_Some _ e h) is
engine_class events (statements.Prop place left n k right) e is h = none_is_not e h

module _ (text : List ℕ) (f : CheckedFile) (rules : IsRuleFile text f) where
  statement_class : (j : ℕ) (s : Statement) → slice_get rules.tree.statements j ≡ Some s
      → HasClass (view_statement s)
  statement_class j s at =
      tree_class (view_tree rules.tree) _ rules.has.grammar j (view_statement s)
      (map_there view_statement rules.tree.statements j s at)

  event_at : (k : ℕ) (e : EventSpec) → slice_get f.events k ≡ Some e → FitsEvent e
  event_at k e at =
      let ss = rules.tree.statements in
      let from = given_at (event_spec (engines_in ss)) ss k e
      (subst (λ (es : List EventSpec). slice_get es k ≡ Some e) rules.file_is.events_are at) in
      event_fits (engines_in ss) from.1 e (statement_class from.0 from.1 from.2) from.3

  engine_at : (k : ℕ) (e : SerdSpec) → slice_get f.engines k ≡ Some e
      → IsTrue (is_class e.engine.class)
  engine_at k e at =
      let ss = rules.tree.statements in
      let from = given_at (serd_spec (events_in ss)) ss k e
      (subst (λ (es : List SerdSpec). slice_get es k ≡ Some e) rules.file_is.engines_are at) in
      engine_class (events_in ss) from.1 e (statement_class from.0 from.1 from.2) from.3

-- ---- the nodes and engines
kind_fits : (specs : List SerdSpec) (engines : List EventName) (path : List ℕ)
    (k : DeclKind) (kind : NodeKind) → FitsDecl k → IsKindAt specs engines path k kind
    → FitsKind kind
kind_fits specs engines path k (nodes.Upset engine) fits h = tt
kind_fits specs engines path k nodes.Inner fits h = tt
kind_fits specs engines path k (nodes.Report within) fits h = tt
kind_fits specs engines path (kinds.Fault fit retire) (nodes.Fault rate gone) fits h =
    subst (λ (n : ℕ). n < 2 ^ 32) (sym h.0) fits
kind_fits specs engines path (kinds.Fault fit retire) (nodes.Defect rate gone) fits h = absurd h
kind_fits specs engines path (kinds.Defect fit retire) (nodes.Fault rate gone) fits h = absurd h
kind_fits specs engines path (kinds.Defect fit retire) (nodes.Defect rate gone) fits h =
    subst (λ (n : ℕ). n < 2 ^ 32) (sym h.0) fits
kind_fits specs engines path (kinds.Upset None) (nodes.Fault rate gone) fits h = absurd h
kind_fits specs engines path (kinds.Upset None) (nodes.Defect rate gone) fits h = absurd h
kind_fits specs engines path (kinds.Upset (Some e)) (nodes.Fault rate gone) fits h = absurd h
kind_fits specs engines path (kinds.Upset (Some e)) (nodes.Defect rate gone) fits h = absurd h
kind_fits specs engines path kinds.Inner (nodes.Fault rate gone) fits h = absurd h
kind_fits specs engines path kinds.Inner (nodes.Defect rate gone) fits h = absurd h
kind_fits specs engines path (kinds.Report within) (nodes.Fault rate gone) fits h = absurd h
kind_fits specs engines path (kinds.Report within) (nodes.Defect rate gone) fits h = absurd h

path_at : (topo : Topology) (n : ℕ) (path : List ℕ) → AllByRecursion IsPlace topo
    → slice_get (keys_of topo) n ≡ Some path → IsTrue (is_path path)
path_at [] n path places s = none_is_not path s
path_at (place ∷ topo) zero path places s =
    subst (λ (p : List ℕ). IsTrue (is_path p)) (same_Some place.0 path s) places.0.path
path_at (place ∷ topo) (suc n) path places s = path_at topo n path places.1 s

all_from : {X : Type 0} (P : X → Type 0) (xs : List X)
    → ((i : ℕ) (x : X) → slice_get xs i ≡ Some x → P x) → All P xs
all_from P xs h i d less = h i (get_or xs i d) (slice_get-get_or xs i d less)

module _ (topo : Topology) (lawful : IsTopology topo) where
  event_named : (d : Declared) (name : EventName) → IsTrue (is_class d.class)
      → IsDeclaredAt topo d name → IsEvent name
  event_named d name is at = record {
    class_is = subst (λ (c : List ℕ). IsTrue (is_class c)) (sym at.class) is;
    path_is = path_at topo at.number name.path lawful.places at.there;
  }

  module _ (text : List ℕ) (f : CheckedFile) (rules : IsRuleFile text f) where
    node_fits : (engines : List EngineSpec) (node : Node)
        → IsNodeOf f topo (map engine_name engines) node → IsFileNode node
    node_fits engines node is =
        let spec = event_at text f rules is.number is.spec is.declared in
        let whole = (whole_file f (sound_of text f rules)).events is.number is.spec is.declared in
        let facts = kind_facts f.engines (map engine_name engines) node.name.path is.spec.kind
        node.kind whole.limits is.kind in
        record {
          event = event_named is.spec.event node.name spec.class_is is.at;
          category =
              ap (is_category_for node.kind)
              (ap category_of is.at.class ∙ whole.category ∙ ap Some facts.category)
              ∙ categories_fit node.kind;
          fits = kind_fits f.engines (map engine_name engines) node.name.path is.spec.kind
              node.kind spec.fits is.kind;
        }

    engine_named : (ns : List Node) (engine : EngineSpec)
        → IsEngineOf f topo (map node_name ns) engine → IsEvent engine.name
    engine_named ns engine h =
        event_named h.is.spec.engine engine.name
        (engine_at text f rules h.number h.is.spec h.is.declared) h.at

    pub made_spelled : (made : Made) → IsMadeOf f topo made → IsSpelledFile made
    made_spelled made is = record {
      graph = is.is_graph;
      nodes_are = all_from IsFileNode made.graph.nodes (λ i node s.
          node_fits made.graph.engines node (is.graph.nodes.each i node s));
      engines_are = all_from (λ (engine : EngineSpec). IsEvent engine.name) made.graph.engines
          (λ i engine s. engine_named made.graph.nodes engine (is.graph.engines.each i engine s));
      few_engines = is.few_engines;
      skipped_fits = is.skipped_fits;
    }

module _ {S : Type 0} (g : Ghosts S) where
  -- what rule files that were given come to
  graphs_spelled : (topo : Topology) → IsTopology topo → (olds news : List S)
      (files : List RuleFile) (mades : List Made) → FilesGave g olds news files
      → AreGraphs topo files mades → All IsSpelledFile mades
  graphs_spelled topo lawful olds news [] [] gave made = All-nil IsSpelledFile
  graphs_spelled topo lawful olds news [] (m ∷ mades) gave made = absurd made
  graphs_spelled topo lawful olds news (f ∷ files) [] gave made = absurd made
  graphs_spelled topo lawful [] [] (f ∷ files) (m ∷ mades) gave made = absurd gave
  graphs_spelled topo lawful [] (n ∷ news) (f ∷ files) (m ∷ mades) gave made = absurd gave
  graphs_spelled topo lawful (o ∷ olds) [] (f ∷ files) (m ∷ mades) gave made = absurd gave
  graphs_spelled topo lawful (o ∷ olds) (n ∷ news) (f ∷ files) (m ∷ mades) gave made =
      All-cons IsSpelledFile m mades
      (made_spelled topo lawful f.text.items f.checked gave.0.is_rules m made.0)
      (graphs_spelled topo lawful olds news files mades gave.1 made.1)

  pub compiled_spelled : (form : GraphForm) (old new : Given S) (text : List ℕ)
      (put : IsCompiled g form old new text) → All IsSpelledFile put.mades
  compiled_spelled form old new text put =
      graphs_spelled put.got.topo put.read.1.lawful old.rules new.rules put.got.files.items
      put.mades put.read.0 put.graphs
