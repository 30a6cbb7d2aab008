-- Stories: which sets of events one root accounts for.
use Rattle.std.specs.Prelude.{◌≡◌, ◌<◌, ◌&&◌, ◌||◌, ℕ, true, List, length, slice_index}
use Rattle.ev_incidence.specs.Sets.{NodeSet, is_member, ascends}
use Rattle.ev_graph.specs.Kinds.{is_root_node, is_report_node}
use Rattle.ev_incidence.specs.Wiring.{Wiring}
use Rattle.ev_graph.specs.Wired.{wiring}
use Rattle.ev_graph.specs.Rules.{IsProduced, IsShown}
use Rattle.ev_graph.specs.Cutting.{is_cut, without}
use Rattle.ev_graph.specs.Lawful.{GraphValue}
use Rattle.ev_graph.specs.declared.nodes.Node.{Node}
use Rattle.ev_graph.specs.declared.instances.Link.{Link}

-- X is a story of the root: it has the root and no other root, each other member is caused, and
-- each member is shown
pub record IsStory (nodes : List Node) (w : Wiring) (root : ℕ) (X : NodeSet) : Type 0 where
  pub root_kind : is_root_node nodes root ≡ true
  pub has_root : X root ≡ true
  pub only_root : (e : ℕ) → X e ≡ true → is_root_node nodes e ≡ true → e ≡ root
  pub caused : (e : ℕ) → X e ≡ true → (e ≡ root → ⊥) → IsProduced w X e
  pub shown : (e : ℕ) → X e ≡ true → IsShown w X e

-- the wiring of a graph less some links
abbrev pub wiring_less : GraphValue → List Link → Wiring
wiring_less g less = without (wiring g.instances) (is_cut less)

-- both lists ascend and are in range, some report is seen, and the story is one of the root, in the
-- graph less the links, whose reports are exactly those seen
pub record IsExactStory (g : GraphValue) (less : List Link) (root : ℕ) (seen story : List ℕ) : Type
    0
  where
    pub seen_ascends : ascends seen ≡ true
    pub seen_below : (i : ℕ) → i < length seen → slice_index seen i < length g.nodes
    pub seen_some : 0 < length seen
    pub story_ascends : ascends story ≡ true
    pub story_below : (i : ℕ) → i < length story → slice_index story i < length g.nodes
    pub is_story : IsStory g.nodes (wiring_less g less) root (is_member story)
    pub reports : (e : ℕ) → is_member seen e ≡ (is_report_node g.nodes e && is_member story e)

abbrev pub union : NodeSet → NodeSet → NodeSet
union X Y e = X e || Y e

-- the union of two stories of a root is one
abbrev pub UnionIsStory : Type 0
UnionIsStory = (nodes : List Node) (w : Wiring) (root : ℕ) (X Y : NodeSet) → IsStory nodes w root X
    → IsStory nodes w root Y → IsStory nodes w root (union X Y)
