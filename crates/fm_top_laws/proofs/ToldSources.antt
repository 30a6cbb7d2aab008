-- Sources that tell rule files which come to graphs over a topology are not refused.
use Rattle.std.proofs.Common.{◌≡◌, ℕ, zero, suc, ◌≤◌, List, [], ◌∷◌, ◌++◌}
use Rattle.std.proofs.Common.{length, map, Option, Some, None, Ok, slice_get, refl, sym, ◌∙◌, ap}
use Rattle.std.proofs.Common.{subst, arith, append-nil, length-append}
use Rattle.std.proofs.lemmas.List.Elements.{All-head, All-tail}
use Rattle.std.proofs.lemmas.Option.{none-some, same_Some}
use Rattle.std.specs.Io.KnownBytes.{Consumes, IsAtEnd}
use Rattle.std.specs.Prelude.{All}
use Rattle.ev_check.specs.CheckedFile.{CheckedFile}
use Rattle.fm_answers.specs.StreamsAt.{SourceAt}
use Rattle.fm_esc.specs.Compiling.{IsFirstPast, IsPastLimit}
use Rattle.fm_esc.specs.declared.faults.GraphLimit.{GraphLimit}
use Rattle.fm_esc.specs.declared.faults.GraphLimit.TheVariants.{Links, Nodes}
use Rattle.fm_sources.specs.Rules.{IsRuleFile, IsRulesFault}
use Rattle.fm_sources.specs.Sources.{FilesGave, Given, ReadsSources, RefusedAt}
use Rattle.fm_sources.specs.Sources.{TopologyRefused}
use Rattle.fm_sources.specs.Texts.{GaveText}
use Rattle.fm_sources.specs.declared.faults.RulesKind.{RulesKind}
use Rattle.fm_sources.specs.declared.faults.SourceFault.TheVariants as faults
use Rattle.fm_sources.specs.declared.files.RuleFile.{RuleFile}
use Rattle.fm_sources.specs.declared.sources.Sources.{Sources}
use Rattle.fm_sources_laws.proofs.OneFile.{rule_files_one}
use Rattle.fm_topo.specs.Fault.{IsFirstFault}
use Rattle.fm_topo.specs.Topology.{Topology, topology_of}
use Rattle.fm_topo.specs.declared.faults.TopoFault.TheVariants.{At}
use Rattle.fm_topo.specs.declared.faults.TopoKind.{TopoKind}
use Rattle.fm_top.specs.Outside.{standing}
use Rattle.fm_top_laws.proofs.NoDamage.{RulesHaveNoFault, clean_unfaulted}
use Rattle.fm_top_laws.proofs.WithinLimits.{links_in_limit, nodes_in_limit}
use Rattle.fm_top_laws.specs.Suiting.{ComesToGraph, TellGraphs}

-- ---- texts

heads : {X : Type 0} (x y : X) (xs ys : List X) → x ∷ xs ≡ y ∷ ys → (x ≡ y) × (xs ≡ ys)
heads x y xs ys same = (cc, cc)

-- what is given of a source is no longer than what it tells
given_short : (old new : Option (List ℕ)) (bytes text : List ℕ) → old ≡ Some bytes
    → Consumes old new text → length text ≤ length bytes
given_short None new bytes text is gave = absurd (none-some bytes is)
given_short (Some xs) None bytes text is gave = absurd gave
given_short (Some xs) (Some ys) bytes text is gave =
    omega (
      arith,
      ap (λ (l : List ℕ). length l) gave,
      length-append text ys,
      ap (λ (l : List ℕ). length l) (same_Some xs bytes is),
    )

given_all : (old new : Option (List ℕ)) (bytes text : List ℕ) → old ≡ Some bytes
    → Consumes old new text → IsAtEnd new → text ≡ bytes
given_all None new bytes text is gave end = absurd (none-some bytes is)
given_all (Some xs) None bytes text is gave end = absurd gave
given_all (Some xs) (Some ys) bytes text is gave end =
    sym (append-nil text) ∙ ap (λ (zs : List ℕ). text ++ zs) (sym end) ∙ sym gave
    ∙ same_Some xs bytes is

-- a source that tells no more than the limit gives just what it tells
pub given_told : (limit : ℕ) (old new : SourceAt) (bytes text : List ℕ) → old.left ≡ Some bytes
    → GaveText standing limit old new text → length text ≤ limit → text ≡ bytes
given_told limit old new bytes text is gave short =
    given_all old.left new.left bytes text is gave.consumed (gave.whole short)

pub given_whole : (limit : ℕ) (old new : SourceAt) (bytes text : List ℕ) → old.left ≡ Some bytes
    → length bytes ≤ limit → GaveText standing limit old new text → text ≡ bytes
given_whole limit old new bytes text is short gave =
    given_told limit old new bytes text is gave
    (omega (arith, given_short old.left new.left bytes text is gave.consumed, short))

rules_short : (text : List ℕ) (f : CheckedFile) → IsRuleFile text f → length text ≤ 1048576
rules_short text f is = is.has.has.short

-- ---- rule files

rules_unrefused : RulesHaveNoFault → (topo : Topology) (number at file place : ℕ) (kind : RulesKind)
    (olds news : List SourceAt) (texts : List (List ℕ))
    → map (λ (s : SourceAt). s.left) olds ≡ map Some texts → All (ComesToGraph topo) texts
    → RefusedAt standing number at olds news (faults.Rules file place kind) → ⊥
rules_unrefused no_fault topo number zero file place kind (old ∷ olds) (new ∷ news) (t ∷ texts)
    told graphs ((file_is, text, gave, fault), same) =
    let graph = All-head (ComesToGraph topo) t texts graphs in
    let left = heads old.left (Some t) (map (λ (s : SourceAt). s.left) olds) (map Some texts) told
    in
    let whole : text ≡ t = given_whole 1048576 old new t text left.0
    (rules_short t graph.checked graph.is_rules) gave in
    no_fault t graph.checked place kind graph.is_rules
    (subst (λ (l : List ℕ). IsRulesFault l place kind) whole fault)
rules_unrefused no_fault topo number (suc at) file place kind (old ∷ olds) (new ∷ news)
    (t ∷ texts) told graphs (gave, more) =
    let left = heads old.left (Some t) (map (λ (s : SourceAt). s.left) olds) (map Some texts) told
    in
    rules_unrefused no_fault topo (suc number) at file place kind olds news texts left.1
    (All-tail (ComesToGraph topo) t texts graphs) more
rules_unrefused no_fault topo number zero file place kind (old ∷ olds) (new ∷ news) [] told graphs
    refused =
    absurd (let no : ⊥ = cc in no)
rules_unrefused no_fault topo number (suc at) file place kind (old ∷ olds) (new ∷ news) [] told
    graphs refused =
    absurd (let no : ⊥ = cc in no)
rules_unrefused no_fault topo number at file place kind olds news texts told graphs refused =
    absurd refused

-- ---- what was read

-- each file was read of the text that its source tells, which comes to a graph
abbrev pub ReadFrom : Topology → List (List ℕ) → List RuleFile → Type 0
ReadFrom topo [] [] = Unit {0}
ReadFrom topo (text ∷ texts) (file ∷ files) =
    (file.text.items ≡ text) × IsRuleFile text file.checked × ComesToGraph topo text
    × ReadFrom topo texts files
ReadFrom topo _ _ = ⊥

read_from : (topo : Topology) (olds news : List SourceAt) (files : List RuleFile)
    (texts : List (List ℕ)) → map (λ (s : SourceAt). s.left) olds ≡ map Some texts
    → All (ComesToGraph topo) texts → FilesGave standing olds news files → ReadFrom topo texts files
read_from topo [] [] [] [] told graphs gave = tt
read_from topo [] [] [] (t ∷ texts) told graphs gave = absurd (let no : ⊥ = cc in no)
read_from topo (old ∷ olds) (new ∷ news) (file ∷ files) [] told graphs gave =
    absurd (let no : ⊥ = cc in no)
read_from topo (old ∷ olds) (new ∷ news) (file ∷ files) (t ∷ texts) told graphs gave =
    let graph = All-head (ComesToGraph topo) t texts graphs in
    let left = heads old.left (Some t) (map (λ (s : SourceAt). s.left) olds) (map Some texts) told
    in
    let whole : file.text.items ≡ t = given_whole 1048576 old new t file.text.items left.0
    (rules_short t graph.checked graph.is_rules) gave.0.gave in (
      whole,
      subst (λ (l : List ℕ). IsRuleFile l file.checked) whole gave.0.is_rules,
      graph,
      read_from topo olds news files texts left.1 (All-tail (ComesToGraph topo) t texts graphs)
          gave.1,
    )
read_from topo olds news files texts told graphs gave = absurd gave

pub texts_read : (topo : Topology) (texts : List (List ℕ)) (files : List RuleFile)
    → ReadFrom topo texts files → map (λ (f : RuleFile). f.text.items) files ≡ texts
texts_read topo [] [] read = refl
texts_read topo (text ∷ texts) (file ∷ files) (same, is, graph, more) =
    let rest = texts_read topo texts files more in λ i. same i ∷ rest i
texts_read topo [] (file ∷ files) read = absurd read
texts_read topo (text ∷ texts) [] read = absurd read

graph_in_limit : (topo : Topology) (text : List ℕ) (f : CheckedFile) (limit : GraphLimit)
    → ComesToGraph topo text → IsRuleFile text f → IsPastLimit limit f topo → ⊥
graph_in_limit topo text f Nodes graph is past =
    nodes_in_limit graph.checked f topo graph.made
    (rule_files_one text graph.checked f graph.is_rules is) graph.is_made past
graph_in_limit topo text f Links graph is past =
    links_in_limit graph.checked f topo graph.made
    (rule_files_one text graph.checked f graph.is_rules is) graph.is_made past

past_none : (topo : Topology) (texts : List (List ℕ)) (files : List RuleFile) (at : ℕ)
    (file : RuleFile) (limit : GraphLimit) → ReadFrom topo texts files
    → slice_get files at ≡ Some file → IsPastLimit limit file.checked topo → ⊥
past_none topo [] [] at file limit read there past = none-some file there
past_none topo [] (f ∷ files) at file limit read there past = absurd read
past_none topo (text ∷ texts) [] at file limit read there past = absurd read
past_none topo (text ∷ texts) (f ∷ files) (suc at) file limit (same, is, graph, more) there past =
    past_none topo texts files at file limit more there past
past_none topo (text ∷ texts) (f ∷ files) zero file limit (same, is, graph, more) there past =
    graph_in_limit topo text f.checked limit graph is
    (subst (λ (r : RuleFile). IsPastLimit limit r.checked topo) (sym (same_Some f file there)) past)

module _ (old new : Given SourceAt) (tell : TellGraphs old) where
  pub no_rules_refused : RulesHaveNoFault → (at file place : ℕ) (kind : RulesKind)
      → RefusedAt standing 0 at old.rules new.rules (faults.Rules file place kind) → ⊥
  no_rules_refused no_fault at file place kind refused =
      rules_unrefused no_fault (topology_of tell.told.topo) 0 at file place kind old.rules new.rules
      tell.told.texts tell.told.rules_are tell.graphs refused

  pub no_topology_refused : (line : ℕ) (kind : TopoKind)
      → TopologyRefused standing old.topo new.topo (faults.Topology line kind) → ⊥
  no_topology_refused line kind (text, gave, fault) =
      let whole : text ≡ tell.told.topo =
      given_whole 16777216 old.topo new.topo tell.told.topo text tell.told.topo_is tell.told.short
      gave in
      clean_unfaulted tell.told.topo line kind tell.clean
      (subst (λ (l : List ℕ). IsFirstFault l (At line kind)) whole fault)

  pub files_from : (got : Sources) → ReadsSources standing old new (Ok got)
      → ReadFrom (topology_of tell.told.topo) tell.told.texts got.files.items
  files_from got reads =
      read_from (topology_of tell.told.topo) old.rules new.rules got.files.items tell.told.texts
      tell.told.rules_are tell.graphs reads.0

  pub topo_from : (got : Sources) → ReadsSources standing old new (Ok got)
      → got.topo_text.items ≡ tell.told.topo
  topo_from got reads =
      given_whole 16777216 old.topo new.topo tell.told.topo got.topo_text.items tell.told.topo_is
      tell.told.short reads.1.gave

  pub no_graph_past : (got : Sources) (at : ℕ) (limit : GraphLimit)
      → ReadsSources standing old new (Ok got) → IsFirstPast got.topo got.files.items at limit → ⊥
  no_graph_past got at limit reads past =
      past_none (topology_of tell.told.topo) tell.told.texts got.files.items at past.file limit
      (files_from got reads) past.there
      (subst (λ (t : Topology). IsPastLimit limit past.file.checked t)
      (reads.1.topology_is ∙ ap topology_of (topo_from got reads)) past.past)
