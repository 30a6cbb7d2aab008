-- What becomes of a candidate: it is dropped, skipped, or an instance.
use Rattle.std.specs.Prelude.{ℕ, suc, Bool, true, false, not, ◌&&◌, ◌==◌, nat_lt}
use Rattle.std.specs.Prelude.{nat_le}
use Rattle.std.specs.Prelude.{List, [], ◌∷◌, length}
use Rattle.std.specs.Prelude.{if◌then◌else◌}
use Rattle.std.specs.List.{list_any}
use Rattle.fm_topo.specs.Topology.{Topology}
use Rattle.ev_tree.specs.Pattern.{Pattern}
use Rattle.ev_tree.specs.declared.tree.At.{At}
use Rattle.ev_tree.specs.declared.tree.At.TheVariants as ats
use Rattle.ev_tree.specs.declared.tree.Part.{Part}
use Rattle.ev_tree.specs.declared.tree.Count.{Count}
use Rattle.ev_tree.specs.declared.tree.Count.TheVariants as counts
use Rattle.ev_check.specs.CheckedFile.{Linking}
use Rattle.ev_words.specs.Iterators.{same_name}
use Rattle.ev_graph.specs.declared.nodes.Node.{Node}
use Rattle.ev_graph.specs.declared.instances.Instance.{Instance}
use Rattle.ev_events.specs.Names.{iterators}
use Rattle.ev_events.specs.Bindings.{patterns_of}
use Rattle.ev_events.specs.Giving.{gives, giving}

-- a node is an event of a pattern under a binding, of one of some patterns
abbrev pub is_event_of : Topology → List (List ℕ) → List ℕ → Node → Pattern → Bool
is_event_of topology vs b node q =
    same_name node.name.class q.class && gives topology vs b q node.name.path

abbrev pub is_event_among : Topology → List (List ℕ) → List ℕ → List Pattern → Node → Bool
is_event_among topology vs b qs node = list_any (is_event_of topology vs b node) qs

-- the numbers of the items that pass a test, where the first has a number
abbrev pub numbers_with : {X : Type 0} → (X → Bool) → ℕ → List X → List ℕ
numbers_with test at [] = []
numbers_with test at (x ∷ more) =
    if test x then at ∷ numbers_with test (suc at) more else numbers_with test (suc at) more

-- the events of patterns under a binding: the numbers of their nodes, ascending
abbrev pub events_of : Topology → List Node → List (List ℕ) → List ℕ → List Pattern → List ℕ
events_of topology nodes vs b qs = numbers_with (is_event_among topology vs b qs) 0 nodes

-- a pattern has a horizontal part
abbrev pub is_across : At → Bool
is_across (ats.Across v) = true
is_across _ = false

abbrev pub has_across : Pattern → Bool
has_across q = list_any (λ (p : Part). is_across p.at) q.parts

-- a pattern without horizontal parts has no event
abbrev pub is_bare : Topology → List (List ℕ) → List ℕ → Pattern → Bool
is_bare topology vs b q = not (has_across q) && (length (giving topology vs b q) == 0)

abbrev pub is_dropped : Topology → Linking → List ℕ → Bool
is_dropped topology l b = list_any (is_bare topology (iterators l) b) (patterns_of l)

-- the number at an arrow, `A` being all of so many
abbrev pub count_at_arrow : Count → ℕ → ℕ
count_at_arrow counts.All all = all
count_at_arrow (counts.Number n) all = n

-- the instance of causes and effects: `A` for N is the number of the effects, and for K that of
-- the causes
abbrev pub instance_with : List ℕ → List ℕ → Count → Count → Instance
instance_with causes effects n k = record {
  causes = causes;
  effects = effects;
  n = count_at_arrow n (length effects);
  k = count_at_arrow k (length causes);
}

-- the instance that a candidate comes to where it is not dropped
abbrev pub instance_of : Topology → List Node → Linking → List ℕ → Instance
instance_of topology nodes l b =
    instance_with (events_of topology nodes (iterators l) b l.left)
    (events_of topology nodes (iterators l) b l.right) l.n l.k

-- it has an effect, N effects, a cause and K causes
abbrev pub is_complete : Instance → Bool
is_complete i =
    nat_lt 0 (length i.effects)
    && (nat_le i.n (length i.effects) && (nat_lt 0 (length i.causes) && nat_le i.k
    (length i.causes)))

-- the candidate is an instance; it is counted as skipped
abbrev pub is_made : Topology → List Node → Linking → List ℕ → Bool
is_made topology nodes l b =
    not (is_dropped topology l b) && is_complete (instance_of topology nodes l b)

abbrev pub is_skipped : Topology → List Node → Linking → List ℕ → Bool
is_skipped topology nodes l b =
    not (is_dropped topology l b) && not (is_complete (instance_of topology nodes l b))
