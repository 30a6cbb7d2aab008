-- What a configuration makes is one row, and the modules of configurations are one list.
use Rattle.std.proofs.Common.{◌≡◌, ℕ, zero, suc, List, [], ◌∷◌, Option, Some, None, refl, sym, ap}
use Rattle.std.proofs.Common.{◌∙◌, subst}
use Rattle.std.specs.List.{slice_get}
use Rattle.std.specs.Option.{option_map}
use Rattle.std.proofs.lemmas.Option.{none-some, same_Some}
use Rattle.fm_core.specs.Book.{ModuleState}
use Rattle.fm_saved.specs.declared.conf.Conf.{Conf}
use Rattle.fm_topo.specs.Topology.{Topology, topology_of}
use Rattle.ev_check.specs.CheckedFile.{CheckedFile}
use Rattle.ev_check.specs.Sound.{IsSound}
use Rattle.ev_graph.specs.Lawful.{GraphValue}
use Rattle.ev_inst.specs.GuardsOf.{AreGuardsOf}
use Rattle.ev_inst.specs.Instances.{IsGraphOf}
use Rattle.ev_inst.proofs.OneGuards.{guards_alike}
use Rattle.ev_inst_laws.proofs.OneGraph.{graphs_one}
use Rattle.dx_rules.proofs.Alike.{same_guarding}
use Rattle.dx_state.specs.Configured.{Configuration}
use Rattle.fm_sources.specs.Rules.{IsRuleFile}
use Rattle.fm_sources_laws.proofs.OneFile.{rule_files_one}
use Rattle.fm_modules.specs.KeptTexts.{ConfMakes, EachHas, TextMakes}
use Rattle.fm_modules.specs.Modules.{AreModulesOf, file_count, first_modules}
use Rattle.fm_modules_laws.proofs.CopiedGuards.{guards_of_copy}

sound_of : (text : List ℕ) (f : CheckedFile) → IsRuleFile text f → IsSound f
sound_of text f h = record {
  statements = h.tree.statements;
  checked = h.passes;
  file = h.file_is;
}

text_one : (topo : Topology) (text : List ℕ) (x y : Configuration) → TextMakes topo text x
    → TextMakes topo text y → x ≡ y
text_one topo text x y a b =
    let one = a.makes.made in
    let other = b.makes.made in
    let graph : one.graph ≡ other.graph =
    (graphs_one a.checked b.checked topo one.graph other.graph one.skipped other.skipped
    (sound_of text a.checked a.is_rules)
    (rule_files_one text a.checked b.checked a.is_rules b.is_rules) a.makes.is_made.graph
    b.makes.is_made.graph).0 in
    let same : x.graph ≡ y.graph = a.makes.graph_is ∙ graph ∙ sym b.makes.graph_is in
    let others : AreGuardsOf a.checked topo x.graph b.makes.guarding.guards =
    guards_of_copy a.checked b.checked topo x.graph b.makes.guarding.guards
    (rule_files_one text a.checked b.checked a.is_rules b.is_rules)
    (subst (λ (g : GraphValue). AreGuardsOf b.checked topo g b.makes.guarding.guards) (sym same)
    b.makes.guarding.are) in
    let guarding : x.guarding ≡ y.guarding =
    a.makes.guarding.guarding_is
    ∙ same_guarding b.makes.guarding.guards a.makes.guarding.guards
    (guards_alike a.checked topo x.graph b.makes.guarding.guards a.makes.guarding.guards others
    a.makes.guarding.are)
    ∙ sym b.makes.guarding.guarding_is in
    λ i. record { graph = same i; guarding = guarding i }

each_one : {A B : Type 0} (has : A → B → Type 0)
    → ((x : A) (y z : B) → has x y → has x z → y ≡ z) → (xs : List A) (ys zs : List B)
    → EachHas has xs ys → EachHas has xs zs → ys ≡ zs
each_one has one [] [] [] a b = refl
each_one has one [] [] (z ∷ zs) a b = absurd b
each_one has one [] (y ∷ ys) zs a b = absurd a
each_one has one (x ∷ xs) [] zs a b = absurd a
each_one has one (x ∷ xs) (y ∷ ys) [] a b = absurd b
each_one has one (x ∷ xs) (y ∷ ys) (z ∷ zs) a b =
    let first : y ≡ z = one x y z a.0 b.0 in
    let more = each_one has one xs ys zs a.1 b.1 in
    λ i. first i ∷ more i

pub row_one : (conf : Conf) (row other : List Configuration) → ConfMakes conf row
    → ConfMakes conf other → row ≡ other
row_one conf row other a b =
    let topo : a.topo ≡ b.topo = a.topo_is.topology_is ∙ sym b.topo_is.topology_is in
    let files : EachHas (TextMakes a.topo) conf.rules other =
    subst (λ (t : Topology). EachHas (TextMakes t) conf.rules other) (sym topo) b.files in
    each_one (TextMakes a.topo) (text_one a.topo) conf.rules row other a.files files

pub rows_one : (confs : List Conf) (rows others : List (List Configuration))
    → EachHas ConfMakes confs rows → EachHas ConfMakes confs others → rows ≡ others
rows_one confs rows others a b = each_one ConfMakes row_one confs rows others a b

pub modules_one : (confs : List Conf) (modules others : List ModuleState)
    → AreModulesOf confs modules → AreModulesOf confs others → modules ≡ others
modules_one confs modules others a b =
    let rows : a.rows ≡ b.rows = rows_one confs a.rows b.rows a.make b.make in
    a.modules_are ∙ ap (first_modules (file_count confs)) rows ∙ sym b.modules_are

-- a rule file has the graph that it makes of a module
graph_one : (topo : Topology) (text : List ℕ) (x : Configuration) (f : CheckedFile)
    (g : GraphValue) (skipped : ℕ) → TextMakes topo text x → IsRuleFile text f
    → IsGraphOf f topo g skipped → x.graph ≡ g
graph_one topo text x f g skipped a is_rules is_graph =
    let one = a.makes.made in
    a.makes.graph_is
    ∙ (graphs_one a.checked f topo one.graph g one.skipped skipped
    (sound_of text a.checked a.is_rules) (rule_files_one text a.checked f a.is_rules is_rules)
    a.makes.is_made.graph is_graph).0

-- one of a list, and its own in another
pub each_at : {A B : Type 0} (has : A → B → Type 0) (xs : List A) (ys : List B) (i : ℕ) (x : A)
    → EachHas has xs ys → slice_get xs i ≡ Some x
    → (y : B) × (slice_get ys i ≡ Some y) × has x y
each_at has [] [] i x each at = absurd (none-some x at)
each_at has [] (y ∷ ys) i x each at = absurd each
each_at has (w ∷ xs) [] i x each at = absurd each
each_at has (w ∷ xs) (y ∷ ys) zero x each at =
    (y, refl, subst (λ v. has v y) (same_Some w x at) each.0)
each_at has (w ∷ xs) (y ∷ ys) (suc i) x each at = each_at has xs ys i x each.1 at

-- past the end of the one is past that of the other
each_past : {A B : Type 0} (has : A → B → Type 0) (xs : List A) (ys : List B) (i : ℕ)
    → EachHas has xs ys → slice_get xs i ≡ None → slice_get ys i ≡ None
each_past has [] [] i each past = refl
each_past has [] (y ∷ ys) i each past = absurd each
each_past has (x ∷ xs) [] i each past = absurd each
each_past has (x ∷ xs) (y ∷ ys) zero each past = absurd (none-some x (sym past))
each_past has (x ∷ xs) (y ∷ ys) (suc i) each past = each_past has xs ys i each.1 past

-- the graph of a rule file of a configuration stands in the row
pub row_has : (conf : Conf) (row : List Configuration) (file : ℕ) (text : List ℕ)
    (f : CheckedFile) (g : GraphValue) (skipped : ℕ) → ConfMakes conf row
    → slice_get conf.rules file ≡ Some text → IsRuleFile text f
    → IsGraphOf f (topology_of conf.topo) g skipped
    → option_map (λ x. x.graph) (slice_get row file) ≡ Some g
row_has conf row file text f g skipped makes there is_rules is_graph =
    let at = each_at (TextMakes makes.topo) conf.rules row file text makes.files there in
    ap (λ (o : Option Configuration). option_map (λ x. x.graph) o) at.1
    ∙ ap Some (graph_one makes.topo text at.0 f g skipped at.2 is_rules
    (subst (λ (t : Topology). IsGraphOf f t g skipped) (sym makes.topo_is.topology_is) is_graph))

-- where it has no such file, the row has nothing there
pub row_lacks : (conf : Conf) (row : List Configuration) (file : ℕ) → ConfMakes conf row
    → slice_get conf.rules file ≡ None → slice_get row file ≡ None
row_lacks conf row file makes none =
    each_past (TextMakes makes.topo) conf.rules row file makes.files none
