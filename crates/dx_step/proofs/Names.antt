-- Nodes by their numbers, and their names.
use Rattle.std.proofs.Common.{◌≡◌, ℕ, zero, suc, ◌<◌, ◌≤◌, Bool, ◌&&◌, nat_lt, IsTrue}
use Rattle.std.proofs.Common.{List, [], ◌∷◌, length, map, refl, sym, ap, ◌∙◌, arith, Option, Some}
use Rattle.std.proofs.Common.{None, slice_get}
use Rattle.std.specs.List.{list_all, cons_option}
use Rattle.std.specs.Ordering.{is_lt}
use Rattle.std.specs.declared.cmp.Ordering.{Ordering}
use Rattle.std.specs.declared.cmp.Ordering.TheVariants.{Less, Equal, Greater}
use Rattle.std.proofs.lemmas.Bool.{false≢true, and_from, and_parts, ltb-true}
use Rattle.fm_name.specs.Events.{event_cmp, event_cmp_total}
use Rattle.fm_name.specs.declared.events.EventName.{EventName}
use Rattle.ev_incidence.specs.Sets.{ascends, ascends_by}
use Rattle.ev_graph.specs.Lawful.{GraphValue, is_before_node}
use Rattle.ev_graph.specs.declared.nodes.Node.{Node}
use Rattle.dx_state.specs.LawfulState.{events_ascend}
use Rattle.dx_state.proofs.Lists.{all_other, all_at}
use Rattle.dx_step.specs.Said.{nodes_of}

pub record IsFound (nodes : List Node) (e : ℕ) : Type 0 where
  pub node : Node
  pub stands : slice_get nodes e ≡ Some node

pub found : (nodes : List Node) (e : ℕ) → e < length nodes → IsFound nodes e
found [] e h = absurd (omega arith)
found (n ∷ ns) zero h = record { node = n; stands = refl }
found (n ∷ ns) (suc e) h =
    let rest = found ns e (omega arith) in record { node = rest.node; stands = rest.stands }

-- the nodes of numbers, the first of which is found
pub nodes_first : (g : GraphValue) (e : ℕ) (es : List ℕ) (node : Node)
    → slice_get g.nodes e ≡ Some node → nodes_of g (e ∷ es) ≡ node ∷ nodes_of g es
nodes_first g e es node h = ap (λ (o : Option Node). cons_option o (nodes_of g es)) h

-- what all nodes of a graph pass
pub nodes_all : (g : GraphValue) (p : Node → Bool) (es : List ℕ) → IsTrue (list_all p g.nodes)
    → IsTrue (list_all p (nodes_of g es))
nodes_all g p [] h = refl
nodes_all g p (e ∷ es) h =
    let rest = nodes_all g p es h in
    elim (slice_get g.nodes e) as (λ (o : Option Node). slice_get g.nodes e ≡ o
    → IsTrue (list_all p (cons_option o (nodes_of g es)))) [
      | None ↦ λ is. rest
      | Some node ↦ λ is.
          and_from (p node) (list_all p (nodes_of g es)) (all_at p g.nodes e node h is) rest
    ] refl

pub nodes_few : (g : GraphValue) (es : List ℕ) → length (nodes_of g es) ≤ length es
nodes_few g [] = omega arith
nodes_few g (e ∷ es) =
    let rest = nodes_few g es in
    elim (slice_get g.nodes e) as (λ (o : Option Node).
    length (cons_option o (nodes_of g es)) ≤ length (e ∷ es)) [
      | None ↦ omega arith
      | Some node ↦ omega arith
    ]

-- none is missing where all numbers are those of nodes
pub nodes_many : (g : GraphValue) (es : List ℕ)
    → IsTrue (list_all (λ e. nat_lt e (length g.nodes)) es) → length (nodes_of g es) ≡ length es
nodes_many g [] h = refl
nodes_many g (e ∷ es) h =
    let parts = and_parts (nat_lt e (length g.nodes)) _ h in
    let one = found g.nodes e (ltb-true e (length g.nodes) parts.0) in
    ap length (nodes_first g e es one.node one.stands) ∙ ap suc (nodes_many g es parts.1)

less_is : (o : Ordering) → IsTrue (is_lt o) → o ≡ Less
less_is Less h = refl
less_is Equal h = absurd (false≢true h)
less_is Greater h = absurd (false≢true h)

pub before_more : (a b c : EventName) → IsTrue (is_lt (event_cmp a b))
    → IsTrue (is_lt (event_cmp b c)) → IsTrue (is_lt (event_cmp a c))
before_more a b c h k =
    ap is_lt (event_cmp_total.trans a b c (less_is (event_cmp a b) h) (less_is (event_cmp b c) k))

first_before : (a : Node) (nodes : List Node) → IsTrue (ascends_by is_before_node (a ∷ nodes))
    → IsTrue (list_all (is_before_node a) nodes)
first_before a [] h = refl
first_before a (b ∷ nodes) h =
    let parts = and_parts (is_before_node a b) (ascends_by is_before_node (b ∷ nodes)) h in
    and_from (is_before_node a b) (list_all (is_before_node a) nodes) parts.0
    (all_other (is_before_node b) (is_before_node a)
    (λ c k. before_more a.name b.name c.name parts.0 k) nodes (first_before b nodes parts.1))

rest_ascends : (a : Node) (nodes : List Node) → IsTrue (ascends_by is_before_node (a ∷ nodes))
    → IsTrue (ascends_by is_before_node nodes)
rest_ascends a [] h = refl
rest_ascends a (b ∷ nodes) h = (and_parts (is_before_node a b) _ h).1

-- nodes stand in the order of their numbers
pub in_order : (nodes : List Node) (d e : ℕ) (a b : Node)
    → IsTrue (ascends_by is_before_node nodes) → d < e → slice_get nodes d ≡ Some a
    → slice_get nodes e ≡ Some b → IsTrue (is_before_node a b)
in_order [] d e a b h l i j = absurd (let never : ⊥ = cc in never)
in_order (n ∷ nodes) d zero a b h l i j = absurd (omega arith)
in_order (n ∷ nodes) zero (suc e) a b h l i j =
    let same : n ≡ a = cc in
    ap (λ (c : Node). is_before_node c b) (sym same)
    ∙ all_at (is_before_node n) nodes e b (first_before n nodes h) j
in_order (n ∷ nodes) (suc d) (suc e) a b h l i j =
    in_order nodes d e a b (rest_ascends n nodes h) (omega arith) i j

pub nodes_ascend : (g : GraphValue) (es : List ℕ) → IsTrue (ascends_by is_before_node g.nodes)
    → IsTrue (list_all (λ e. nat_lt e (length g.nodes)) es) → IsTrue (ascends es)
    → IsTrue (ascends_by is_before_node (nodes_of g es))
nodes_ascend g [] o h k = refl
nodes_ascend g (d ∷ []) o h k =
    let one = found g.nodes d (ltb-true d (length g.nodes)
    (and_parts (nat_lt d (length g.nodes)) _ h).0) in
    ap (ascends_by is_before_node) (nodes_first g d [] one.node one.stands)
nodes_ascend g (d ∷ e ∷ es) o h k =
    let here = and_parts (nat_lt d (length g.nodes)) _ h in
    let next = and_parts (nat_lt e (length g.nodes)) _ here.1 in
    let parts = and_parts (nat_lt d e) (ascends (e ∷ es)) k in
    let one = found g.nodes d (ltb-true d (length g.nodes) here.0) in
    let two = found g.nodes e (ltb-true e (length g.nodes) next.0) in
    let rest = nodes_ascend g (e ∷ es) o here.1 parts.1 in
    let second = nodes_first g e es two.node two.stands in
    ap (ascends_by is_before_node) (nodes_first g d (e ∷ es) one.node one.stands
    ∙ ap (λ ns. one.node ∷ ns) second)
    ∙ and_from (is_before_node one.node two.node) _
    (in_order g.nodes d e one.node two.node o (ltb-true d e parts.0) one.stands two.stands)
    (sym (ap (ascends_by is_before_node) second) ∙ rest)

names_same : (nodes : List Node)
    → events_ascend (map (λ n. n.name) nodes) ≡ ascends_by is_before_node nodes
names_same [] = refl
names_same (a ∷ []) = refl
names_same (a ∷ b ∷ nodes) =
    ap (λ (t : Bool). is_before_node a b && t) (names_same (b ∷ nodes))

pub names_ascend : (nodes : List Node) → IsTrue (ascends_by is_before_node nodes)
    → IsTrue (events_ascend (map (λ n. n.name) nodes))
names_ascend nodes h = names_same nodes ∙ h
