-- What patterns ask, pattern by pattern.
use Rattle.std.proofs.Common.{◌≡◌, ◌<◌, ◌+◌, ◌++◌, ◌&&◌, ◌||◌, ℕ, zero, suc, Bool, true}
use Rattle.std.proofs.Common.{false, List, [], ◌∷◌, length, map, take, get_or}
use Rattle.std.proofs.Common.{slice_get, filter_map, Option, Some, None, refl, sym, ap, ◌∙◌, subst}
use Rattle.std.proofs.Common.{if◌then◌else◌, append-nil, append_assoc}
use Rattle.std.specs.List.{list_any, list_all}
use Rattle.std.specs.Map.{keys_of}
use Rattle.std.proofs.lemmas.Bool.{false≢true, or_right}
use Rattle.std.proofs.lemmas.List.Elements.{filter_map-append}
use Rattle.std.proofs.lemmas.Option.{same_Some}
use Rattle.fm_name.specs.Path.{names_of}
use Rattle.fm_topo.specs.Topology.{Topology}
use Rattle.ev_tree.specs.Pattern.{Pattern, view_option, view_pattern}
use Rattle.ev_tree.specs.declared.tree.SidePattern.{SidePattern}
use Rattle.ev_check.specs.Declarations.{name_of}
use Rattle.ev_join.specs.Tables.{RisesFrom, TableValue}
use Rattle.ev_incidence.specs.Sets.{is_member}
use Rattle.ev_graph.specs.declared.nodes.Node.{Node}
use Rattle.ev_events.proofs.Joining.{pattern_there}
use Rattle.ev_events.proofs.Places.{none_is_not}
use Rattle.ev_events.specs.Giving.{giving}
use Rattle.ev_events.specs.Nodes.{node_name}
use Rattle.ev_events.specs.Placed.{IsAmongNames}
use Rattle.ev_inst.specs.Asked.{AreEventsOf, AreEventsOfAll, AreGivenAt, asked_by, asked_if}
use Rattle.ev_guards.specs.Watched.{Asked}
use Rattle.ev_guards.specs.Watched.{Guarded, view_question}
use Rattle.ev_inst.specs.Asked.{asked_of, guard_if}
use Rattle.ev_inst.specs.Gathering.{AreOrderedNodes, IsSideReady, some_passes}
use Rattle.ev_inst.specs.Gathering.{is_node_on}
use Rattle.ev_inst.specs.Guarding.{asks_if, is_guard}
use Rattle.ev_inst.specs.Outcomes.{is_event_of}
use Rattle.ev_guards.specs.declared.guards.Question.{Question}
use Rattle.ev_inst.proofs.Buildable.{rising_ascends}
use Rattle.ev_inst.proofs.Gathering.{table_there, taken}
use Rattle.ev_inst.proofs.Numbering.{event_on}

module _ (topology : Topology) (nodes : List Node) (vs : List (List ℕ)) (b : List ℕ) where
  -- ---- the nodes that a pattern gives
  pub events_are : AreOrderedNodes topology nodes → (q : Pattern)
      (first places numbers set : List ℕ) → first ≡ [] → places ≡ giving topology vs b q
      → ((n : ℕ) → is_member numbers n
      ≡ (is_member first n || is_node_on topology nodes q.class places n))
      → RisesFrom 0 set → ((n : ℕ) → is_member set n ≡ is_member numbers n)
      → AreEventsOf topology nodes vs b q set
  events_are ordered q first places numbers set none is step rises same = record {
    ascend = rising_ascends 0 set rises;
    members = λ n. same n ∙ step n
        ∙ ap (λ (xs : List ℕ). is_member xs n || is_node_on topology nodes q.class places n) none
        ∙ ap (λ (ps : List ℕ). is_node_on topology nodes q.class ps n) is
        ∙ event_on topology nodes ordered vs b q n;
  }

  given_push : (qs : List Pattern) (given : List (List ℕ)) (q : Pattern) (xs : List ℕ)
      → AreEventsOfAll topology nodes vs b qs given → AreEventsOf topology nodes vs b q xs
      → AreEventsOfAll topology nodes vs b (qs ++ q ∷ []) (given ++ xs ∷ [])
  given_push [] [] q xs h own = (own, tt)
  given_push [] (ys ∷ given) q xs h own = absurd h
  given_push (p ∷ qs) [] q xs h own = absurd h
  given_push (p ∷ qs) (ys ∷ given) q xs h own = (h.0, given_push qs given q xs h.1 own)

  pub given_step : (ps : List SidePattern) (i : ℕ) (p : SidePattern) → i < length ps
      → p ≡ get_or ps i p → (old new : List (List ℕ)) (xs : List ℕ)
      → AreEventsOfAll topology nodes vs b (map view_pattern (take i ps)) old
      → AreEventsOf topology nodes vs b (view_pattern p) xs → new ≡ old ++ xs ∷ []
      → AreEventsOfAll topology nodes vs b (map view_pattern (take (i + 1) ps)) new
  given_step ps i p less is old new xs before own put =
      subst (λ (qs : List Pattern). AreEventsOfAll topology nodes vs b qs new)
      (sym (taken topology nodes vs b ps i p p less is))
      (subst (AreEventsOfAll topology nodes vs b (map view_pattern (take i ps) ++ view_pattern p
      ∷ [])) (sym put) (given_push (map view_pattern (take i ps)) old (view_pattern p) xs before
      own))

  -- one pattern of a side is a side
  pub side_one : (ps : List SidePattern) (ts : List TableValue) (i : ℕ) (p : SidePattern)
      (t : TableValue) → IsSideReady topology nodes vs b (map view_pattern ps) ts
      → i < length ps → p ≡ get_or ps i p → i < length ts → t ≡ get_or ts i t
      → IsSideReady topology nodes vs b (view_pattern p ∷ []) (t ∷ [])
  side_one ps ts i p t ready less is within same = record {
    nodes_are = ready.nodes_are;
    full = ready.full;
    tables = (table_there topology vs ps ts i p t ready.tables less is within same, tt);
    known = record {
      each = known;
    };
  } where
    known : (j : ℕ) (q : Pattern) (at : ℕ) (path : List ℕ)
        → slice_get (view_pattern p ∷ []) j ≡ Some q → slice_get (keys_of topology) at ≡ Some path
        → names_of path ≡ map name_of q.parts
        → IsAmongNames (map node_name nodes) (record { class = q.class; path = path })
    known zero q at path s =
        let there = pattern_there ps i p p less is in
        ready.known.each i q at path (there ∙ s)
    known (suc j) q at path s = none_is_not q s

  pub given_at : (e : ℕ) (node : Node) → slice_get nodes e ≡ Some node → (qs : List Pattern)
      (given : List (List ℕ)) → AreEventsOfAll topology nodes vs b qs given
      → AreGivenAt topology vs b e node qs given
  given_at e node s [] [] h = tt
  given_at e node s [] (xs ∷ given) h = absurd h
  given_at e node s (q ∷ qs) [] h = absurd h
  given_at e node s (q ∷ qs) (xs ∷ given) h = (
    h.0.ascend,
    (
      h.0.members e ∙ ap (some_passes (λ n. is_event_of topology vs b n q)) s,
      given_at e node s qs given h.1,
    ),
  )

-- ---- what one pattern asks
module _ (topology : Topology) (vs : List (List ℕ)) (b : List ℕ) (node : Node) (q : Pattern)
  where
    pub not_given : is_event_of topology vs b node q ≡ false
        → (is_guard topology vs b node q ≡ true) × (asked_by topology vs b node q ≡ None)
    not_given is = (
      ap (λ (e : Bool). if e then asks_if q.cond else true) is,
      ap (λ (e : Bool). if e then asked_if vs b node q q.cond else None) is,
    )

    pub is_given_by : is_event_of topology vs b node q ≡ true
        → (is_guard topology vs b node q ≡ asks_if q.cond)
        × (asked_by topology vs b node q ≡ asked_if vs b node q q.cond)
    is_given_by is = (
      ap (λ (e : Bool). if e then asks_if q.cond else true) is,
      ap (λ (e : Bool). if e then asked_if vs b node q q.cond else None) is,
    )

mapped_push : (qs : List Question) (q : Question)
    → map view_question (qs ++ q ∷ []) ≡ map view_question qs ++ view_question q ∷ []
mapped_push [] q = refl
mapped_push (x ∷ qs) q = ap (λ (xs : List Asked). view_question x ∷ xs) (mapped_push qs q)

-- what one pattern asks, as a list
abbrev list_of : Option Asked → List Asked
list_of o = filter_map (λ (x : Option Asked). x) (o ∷ [])

pub none_asked : (topology : Topology) (vs : List (List ℕ)) (b : List ℕ) (node : Node)
    (q : Pattern) (found : List Question) → asked_by topology vs b node q ≡ None
    → map view_question found
    ≡ map view_question found ++ filter_map (asked_by topology vs b node) (q ∷ [])
none_asked topology vs b node q found none =
    sym (append-nil (map view_question found))
    ∙ ap (λ (o : Option Asked). map view_question found ++ list_of o) (sym none)

pub one_asked : (topology : Topology) (vs : List (List ℕ)) (b : List ℕ) (node : Node)
    (q : Pattern) (old new : List Question) (one : Question) → new ≡ old ++ one ∷ []
    → asked_by topology vs b node q ≡ Some (view_question one)
    → map view_question new
    ≡ map view_question old ++ filter_map (asked_by topology vs b node) (q ∷ [])
one_asked topology vs b node q old new one put is =
    ap (map view_question) put ∙ mapped_push old one
    ∙ ap (λ (o : Option Asked). map view_question old ++ list_of o) (sym is)

-- ---- one pattern more of those that are left
module _ (topology : Topology) (vs : List (List ℕ)) (b : List ℕ) (node : Node) where
  pub asked_step : (q : Pattern) (qs all : List Pattern) (old new : List Question)
      → map view_question new
      ≡ map view_question old ++ filter_map (asked_by topology vs b node) (q ∷ [])
      → map view_question old ++ asked_of topology vs b node (q ∷ qs)
      ≡ asked_of topology vs b node all
      → map view_question new ++ asked_of topology vs b node qs
      ≡ asked_of topology vs b node all
  asked_step q qs all old new put before =
      ap (λ (xs : List Asked). xs ++ asked_of topology vs b node qs) put
      ∙ append_assoc (map view_question old) (filter_map (asked_by topology vs b node) (q ∷ []))
      (asked_of topology vs b node qs)
      ∙ ap (λ (xs : List Asked). map view_question old ++ xs)
      (sym (filter_map-append (asked_by topology vs b node) (q ∷ []) qs)) ∙ before

-- ---- patterns of which none asks
module _ {P : Type 0} (event asks : P → Bool) where
  none_asks : (qs : List P) → list_any asks qs ≡ false
      → (list_any event qs && list_all (λ q. if event q then asks q else true) qs) ≡ false
  none_asks [] h = refl
  none_asks (q ∷ qs) h = by (event q) refl (asks q) refl h (none_asks qs) where
    by : (e : Bool) → event q ≡ e → (a : Bool) → asks q ≡ a
        → list_any asks (q ∷ qs) ≡ false
        → (list_any asks qs ≡ false
        → (list_any event qs && list_all (λ z. if event z then asks z else true) qs) ≡ false)
        → (list_any event (q ∷ qs)
        && list_all (λ z. if event z then asks z else true) (q ∷ qs)) ≡ false
    by e is true asked h rest = absurd (false≢true (sym (rw asked at h)))
    by true is false asked h rest = rw (is, asked) refl
    by false is false asked h rest = rw is (rest (rw asked at h))

-- a guard, where its link is guarded
abbrev pub where_guarded : Guarded → Bool → List Guarded
where_guarded g is = if is then g ∷ [] else []

pub none_guarded : (topology : Topology) (vs : List (List ℕ)) (b : List ℕ) (qs : List Pattern)
    → list_any (λ q. asks_if q.cond) qs ≡ false → (at : ℕ) (node : Node)
    → guard_if topology vs b qs at node ≡ []
none_guarded topology vs b qs none at node =
    ap (where_guarded (record { instance = at; asked = asked_of topology vs b node qs }))
    (none_asks (is_event_of topology vs b node) (λ q. asks_if q.cond) qs none)

-- ---- the pattern at a place asks
pub asks_at : (ps : List SidePattern) (i : ℕ) (p : SidePattern) → i < length ps
    → p ≡ get_or ps i p → asks_if (view_option p.cond) ≡ true
    → list_any (λ q. asks_if q.cond) (map view_pattern ps) ≡ true
asks_at ps i p less is asks =
    at_place (map view_pattern ps) i (pattern_there ps i p p less is) where
      at_place : (qs : List Pattern) (j : ℕ) → slice_get qs j ≡ Some (view_pattern p)
          → list_any (λ q. asks_if q.cond) qs ≡ true
      at_place [] j h = none_is_not (view_pattern p) h
      at_place (q ∷ qs) zero h =
          let same = same_Some q (view_pattern p) h in
          ap (λ (x : Bool). x || list_any (λ z. asks_if z.cond) qs)
          (ap (λ (z : Pattern). asks_if z.cond) same ∙ asks)
      at_place (q ∷ qs) (suc j) h =
          or_right (asks_if q.cond) (list_any (λ z. asks_if z.cond) qs) (at_place qs j h)
