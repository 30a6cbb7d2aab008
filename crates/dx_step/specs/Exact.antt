-- What it is for a word to name just the roots that explain what it observed.
use Rattle.std.specs.Prelude.{◌≡◌, ◌↔◌, ◌<◌, ℕ, Bool, true, List, [], ◌∷◌, length, slice_get}
use Rattle.std.specs.Prelude.{None, IsTrue, ◌⊎◌}
use Rattle.std.specs.List.{list_all}
use Rattle.fm_name.specs.declared.events.EventName.{EventName}
use Rattle.fm_entry.specs.declared.list_event.ListKind.{ListKind}
use Rattle.fm_entry.specs.declared.list_event.ListKind.TheVariants.{Suspect as SuspectKind}
use Rattle.fm_entry.specs.declared.list_event.ListKind.TheVariants.{Undiagnosable}
use Rattle.fm_entry.specs.declared.list_event.ListKind.TheVariants.{Upset as UpsetWord}
use Rattle.fm_entry.specs.declared.list_event.ListEvent.{ListEvent}
use Rattle.fm_core.specs.Meaning.{OpenCase}
use Rattle.ev_incidence.specs.Sets.{ascends, is_member}
use Rattle.ev_graph.specs.Kinds.{has_kind, is_report_node, is_root_kind, is_upset_kind}
use Rattle.ev_graph.specs.Lawful.{GraphValue, IsGraph}
use Rattle.ev_graph.specs.declared.nodes.NodeKind.{NodeKind}
use Rattle.dx_explain.specs.Laws.{Explains}
use Rattle.dx_explain.specs.Stories.{explains}
use Rattle.dx_explain.specs.Cases.{cuts_of, is_solving_kind}
use Rattle.dx_state.specs.Configured.{Rules, configuration_at}
use Rattle.dx_step.specs.Said.{nodes_of, event_names, suspects_of, upsets_named}
use Rattle.dx_step.specs.Reports.{report_named}

-- the word is on a case that observed these reports of the graph, and these links are broken
pub record IsOn (g : GraphValue) (c : OpenCase) (w : ListEvent) : Type 0 where
  pub number : w.case.case ≡ c.number
  pub observed : w.observed ≡ event_names g c.observed
  pub broken : w.broken ≡ c.broken
  pub some : 0 < length c.observed
  pub ascend : IsTrue (ascends c.observed)
  pub reports : IsTrue (list_all (is_report_node g.nodes) c.observed)

-- which roots explain a case, as a test that computes or as the relation of stories
abbrev pub Explaining : Type 1
Explaining = GraphValue → OpenCase → ℕ → Type 0

abbrev pub ByTest : Explaining
ByTest g c e = explains g (cuts_of c) c.observed e ≡ true

abbrev pub ByStories : Explaining
ByStories g c e = Explains g (cuts_of c) e (is_member c.observed)

-- these are all roots of a kind that explain the case, in event order, and no other
pub record AreAll (X : Explaining) (kind : NodeKind → Bool) (g : GraphValue) (c : OpenCase)
    (es : List ℕ) : Type 0 where
  pub ascend : IsTrue (ascends es)
  pub each : (e : ℕ)
      → (is_member es e ≡ true) ↔ ((has_kind kind (slice_get g.nodes e) ≡ true) × X g c e)

-- no root of a kind explains the case
abbrev pub HasNone : Explaining → (NodeKind → Bool) → GraphValue → OpenCase → Type 0
HasNone X kind g c = (e : ℕ) → has_kind kind (slice_get g.nodes e) ≡ true → X g c e → ⊥

-- the suspects are all faults and defects that explain the case, and there is one
pub record HasSuspects (X : Explaining) (g : GraphValue) (w : ListEvent) : Type 0 where
  pub of : OpenCase
  pub on : IsOn g of w
  pub faults : List ℕ
  pub some : 0 < length faults
  pub all : AreAll X is_solving_kind g of faults
  pub suspects : w.suspects ≡ suspects_of (nodes_of g faults)

-- no fault or defect explains the case; the suspects are all upsets that do, and there is one
pub record HasUpsets (X : Explaining) (g : GraphValue) (w : ListEvent) : Type 0 where
  pub of : OpenCase
  pub on : IsOn g of w
  pub none : HasNone X is_solving_kind g of
  pub upsets : List ℕ
  pub some : 0 < length upsets
  pub all : AreAll X is_upset_kind g of upsets
  pub suspects : w.suspects ≡ upsets_named (nodes_of g upsets)

-- no root explains the case
pub record HasNoRoot (X : Explaining) (g : GraphValue) (w : ListEvent) : Type 0 where
  pub of : OpenCase
  pub on : IsOn g of w
  pub none : HasNone X is_root_kind g of
  pub suspects : w.suspects ≡ []

-- the graph has no report of the event that was observed
pub record IsUnknown (g : GraphValue) (w : ListEvent) : Type 0 where
  pub name : EventName
  pub observed : w.observed ≡ name ∷ []
  pub none : report_named g name ≡ None
  pub suspects : w.suspects ≡ []

abbrev pub IsExactFor : Explaining → GraphValue → ListKind → ListEvent → Type 0
IsExactFor X g SuspectKind w = HasSuspects X g w
IsExactFor X g UpsetWord w = HasUpsets X g w
IsExactFor X g Undiagnosable w = HasNoRoot X g w ⊎ IsUnknown g w
IsExactFor X g _ w = Unit {0}

-- the word names just the roots that explain what it observed, in the graph of its configuration
abbrev pub IsExact : Explaining → Rules → ListEvent → Type 0
IsExact X r w = IsExactFor X (configuration_at r w.conf).graph w.kind w

-- each configuration that a module is made with has a graph that is one
abbrev pub HaveGraphs : Rules → Type 0
HaveGraphs r = (n : ℕ) → IsGraph (configuration_at r n).graph
