-- What payloads break by the guards of a graph.
use Rattle.std.specs.Prelude.{ℕ, List, [], ◌∷◌, ◌++◌, map, Option, Some, None}
use Rattle.fm_nv.specs.Data.{Pairs, Data, no_pairs, pair, unsigned, text}
use Rattle.fm_topo.specs.declared.values.TopoValue.{TopoValue}
use Rattle.fm_topo.specs.declared.values.TopoValue.TheVariants.{Number, Text}
use Rattle.ev_expr.specs.declared.settings.Prop.{Prop}
use Rattle.ev_graph.specs.declared.instances.Link.{Link}
use Rattle.ev_guards.specs.Guards.{GuardsValue, guarded_links, broken_by}
use Rattle.ev_guards.proofs.GuardedLinks.{only_cut}
use Rattle.dx_state.specs.Configured.{Guarding}

-- the value of a pair, where a condition can ask it: a number from 0 or a text
abbrev pub value_in : Data → Option TopoValue
value_in (unsigned n) = Some (Number n)
value_in (text bytes) = Some (Text bytes)
value_in _ = None

abbrev pub prop_if_any : List ℕ → Option TopoValue → List Prop
prop_if_any name None = []
prop_if_any name (Some value) = record { name = name; value = value } ∷ []

-- the pairs of a payload that a condition can ask
abbrev pub props_of : Pairs → List Prop
props_of no_pairs = []
props_of (pair name d ps) = prop_if_any name (value_in d) ++ props_of ps

-- what guards say of payloads: just the links that they guard are guarded, and a payload breaks
-- those of which no condition holds with its pairs
abbrev pub guarding_of : GuardsValue → Guarding
guarding_of v = record {
  guarded = guarded_links v;
  breaks = λ node payload. broken_by v node (props_of payload);
  breaks_guarded = λ node payload. only_cut v node (props_of payload);
}

-- the links of these instances to a node
abbrev pub links_to_node : ℕ → List ℕ → List Link
links_to_node node instances = map (λ i. record { instance = i; effect = node }) instances
