-- The nodes that a pattern gives are those of its class at the places where it gives its event.
use Rattle.std.proofs.Common.{◌≡◌, ◌<◌, ◌≤◌, ◌+◌, ◌==◌, ◌&&◌, ◌||◌, ◌++◌, ℕ, zero, suc, Bool, true}
use Rattle.std.proofs.Common.{false}
use Rattle.std.proofs.Common.{List, [], ◌∷◌, length, map, take, get_or, slice_get, Option, Some}
use Rattle.std.proofs.Common.{None}
use Rattle.std.proofs.Common.{refl, sym, ap, ◌∙◌, subst, arith, inl, inr, nat_lt}
use Rattle.std.proofs.Common.{if◌then◌else◌}
use Rattle.std.specs.List.{list_any}
use Rattle.std.specs.Map.{keys_of}
use Rattle.std.specs.Ordering.{is_lt}
use Rattle.std.specs.declared.cmp.Ordering.TheVariants.{Equal}
use Rattle.std.specs.Cmp.{tied_itself}
use Rattle.std.proofs.lemmas.Bool.{cases_Bool, eq-eqb, eqb-true, false≢true, and_parts, or_right}
use Rattle.std.proofs.lemmas.Bool.Decides.{nat_tests}
use Rattle.std.proofs.lemmas.List.Folds.{list_any_more, list_any-append}
use Rattle.std.proofs.lemmas.Option.{get_or_from_slice_get, slice_get-get_or, same_Some}
use Rattle.fm_bytes.proofs.Booleans.{and_true}
use Rattle.fm_name.specs.Path.{names_of}
use Rattle.fm_name.specs.Events.{event_cmp, event_cmp_total}
use Rattle.fm_name.specs.declared.events.EventName.{EventName}
use Rattle.fm_topo.specs.Topology.{Topology}
use Rattle.ev_tree.specs.Pattern.{Pattern}
use Rattle.ev_check.specs.Declarations.{name_of}
use Rattle.ev_words.specs.Iterators.{same_name}
use Rattle.ev_graph.specs.Lawful.{name_in}
use Rattle.ev_incidence.specs.Sets.{ascends_by, is_member}
use Rattle.ev_graph.specs.declared.nodes.Node.{Node}
use Rattle.ev_incidence.proofs.Ascending.{rises_by}
use Rattle.ev_events.specs.Fits.{fits, fitting, has_names, places_with}
use Rattle.ev_events.proofs.Places.{any_found, none_is_not, same_tests, within_is}
use Rattle.ev_events.proofs.Agreeing.{names_same, same_from}
use Rattle.ev_events.proofs.Grouped.{names_all}
use Rattle.ev_events.specs.Nodes.{node_name}
use Rattle.ev_events.specs.Giving.{gives, giving, passes}
use Rattle.ev_events.specs.Placed.{is_before_name}
use Rattle.ev_events.proofs.Declaring.{ascends_named}
use Rattle.ev_events.proofs.Finding.{before_trans}
use Rattle.ev_inst.specs.Gathering.{AreOnPaths, AreOrderedNodes, ArePatternsKnown}
use Rattle.ev_inst.specs.Gathering.{some_passes, is_node_at}
use Rattle.ev_inst.specs.Gathering.{is_node_on, is_at_path}
use Rattle.ev_inst.specs.Outcomes.{is_event_of}

-- ---- places that pass a test
place_is : (test : List ℕ → Bool) (at : ℕ) (more : Topology) (k n : ℕ)
    → slice_get (places_with test at more) k ≡ Some n
    → (i : ℕ) × (path : List ℕ) × (n ≡ at + i) × (slice_get (keys_of more) i ≡ Some path)
    × (test path ≡ true)
place_is test at [] k n h = none_is_not n h
place_is test at (place ∷ more) k n h =
    by (place_is test (suc at) more) (test place.0) refl k h where
      Placed : ℕ → Topology → Type 0
      Placed low rest = (i : ℕ) × (path : List ℕ) × (n ≡ low + i)
          × (slice_get (keys_of rest) i ≡ Some path) × (test path ≡ true)

      later : Placed (suc at) more → Placed at (place ∷ more)
      later p =
          let is = p.2 in
          (suc p.0, p.1, (let e : n ≡ at + suc p.0 = omega (arith, is) in e), p.3, p.4)

      by : ((j m : ℕ) → slice_get (places_with test (suc at) more) j ≡ Some m
          → (i : ℕ) × (path : List ℕ) × (m ≡ suc at + i)
          × (slice_get (keys_of more) i ≡ Some path) × (test path ≡ true))
          → (b : Bool) → test place.0 ≡ b → (j : ℕ)
          → slice_get (if b then at ∷ places_with test (suc at) more
          else places_with test (suc at) more) j ≡ Some n
          → Placed at (place ∷ more)
      by again true so zero e =
          let is = same_Some at n e in
          (0, place.0, (let z : n ≡ at + 0 = omega (arith, is) in z), refl, so)
      by again true so (suc j) e = later (again j n e)
      by again false so j e = later (again j n e)

in_places : (f : ℕ → Bool) (test : List ℕ → Bool) (at : ℕ) (more : Topology) (i : ℕ)
    (path : List ℕ) → slice_get (keys_of more) i ≡ Some path → test path ≡ true
    → f (at + i) ≡ true → list_any f (places_with test at more) ≡ true
in_places f test at [] i path s t h = none_is_not path s
in_places f test at (place ∷ more) zero path s t h =
    let so : test place.0 ≡ true = ap test (same_Some place.0 path s) ∙ t in
    let same : at + 0 ≡ at = omega arith in
    rw so (ap (λ (b : Bool). b || list_any f (places_with test (suc at) more))
    (ap f (sym same) ∙ h))
in_places f test at (place ∷ more) (suc i) path s t h =
    let same : at + suc i ≡ suc at + i = omega arith in
    let later = in_places f test (suc at) more i path s t (ap f (sym same) ∙ h) in
    elim (cases_Bool (test place.0)) [
      | inl so ↦ rw so (or_right (f at) _ later)
      | inr not_so ↦ rw not_so later
    ]

fewer_places : (p r : List ℕ → Bool) (at : ℕ) (more : Topology)
    → length (places_with (λ path. p path && r path) at more) ≤ length (places_with p at more)
fewer_places p r at [] = omega arith
fewer_places p r at (place ∷ more) =
    let rest = fewer_places p r (suc at) more in
    elim (cases_Bool (p place.0)) [
      | inl so ↦ elim (cases_Bool (r place.0)) [
        | inl too ↦ rw (so, too) (omega (arith, rest))
        | inr not_too ↦ rw (so, not_too) (omega (arith, rest))
      ]
      | inr not_so ↦ rw not_so rest
    ]

-- ---- names in order are each there once
lt_not_tied : (a b : EventName) → is_before_name a b ≡ true → a ≡ b → ⊥
lt_not_tied a b h e =
    let tied : event_cmp a b ≡ Equal =
    subst (λ (x : EventName). event_cmp a x ≡ Equal) e (tied_itself event_cmp_total a) in
    absurd (false≢true (ap is_lt (sym tied) ∙ h))

pub once : (names : List EventName) → ascends_by is_before_name names ≡ true → (i j : ℕ)
    (name : EventName) → slice_get names i ≡ Some name → slice_get names j ≡ Some name → i ≡ j
once names up i j name s t =
    let at_i = get_or_from_slice_get names i name name s in
    let at_j = get_or_from_slice_get names j name name t in
    elim (cases_Bool (nat_lt i j)) [
      | inl less ↦
          absurd (lt_not_tied (get_or names i name) (get_or names j name)
          (rises_by is_before_name before_trans names i j name up (grind (arith, nat_tests))
          (within_is names j name t)) (at_i ∙ sym at_j))
      | inr no_less ↦ elim (cases_Bool (nat_lt j i)) [
        | inl less ↦
            absurd (lt_not_tied (get_or names j name) (get_or names i name)
            (rises_by is_before_name before_trans names j i name up (grind (arith, nat_tests))
            (within_is names i name s)) (at_j ∙ sym at_i))
        | inr neither ↦ grind (arith, nat_tests)
      ]
    ]

is_of_itself : (class path : List ℕ)
    → is_at_path class (Some path) (Some (record { class = class; path = path })) ≡ true
is_of_itself class path =
    and_true (same_name class class) (same_name path path) (same_from class class refl)
    (same_from path path refl)

is_of_same : (class path : List ℕ) (name : EventName)
    → is_at_path class (Some path) (Some name) ≡ true → name ≡ record { class = class; path = path }
is_of_same class path name h =
    let p = and_parts (same_name name.class class) (same_name name.path path) h in
    let c = names_same name.class class p.0 in
    let d = names_same name.path path p.1 in
    λ i. record { class = c i; path = d i }

module _ (topology : Topology) (nodes : List Node) (ordered : AreOrderedNodes topology nodes) where
  -- one number more
  pub added : (class : List ℕ) (at m : ℕ) (path : List ℕ)
      → slice_get (keys_of topology) at ≡ Some path
      → slice_get (map node_name nodes) m ≡ Some (record { class = class; path = path })
      → (n : ℕ) → (m == n) ≡ is_node_at topology nodes class n at
  added class at m path s t n =
      let whole : is_node_at topology nodes class n at
      ≡ is_at_path class (Some path) (slice_get (map node_name nodes) n) =
      ap (λ (o : Option (List ℕ)). is_at_path class o (slice_get (map node_name nodes) n)) s in
      same_tests (m == n) (is_node_at topology nodes class n at)
      (λ h. let e = eqb-true m n h in
      whole ∙ ap (is_at_path class (Some path)) (ap (slice_get (map node_name nodes)) (sym e) ∙ t)
      ∙ is_of_itself class path)
      (λ h. by (slice_get (map node_name nodes) n) refl (sym whole ∙ h)) where
        by : (o : Option EventName) → slice_get (map node_name nodes) n ≡ o
            → is_at_path class (Some path) (slice_get (map node_name nodes) n) ≡ true
            → (m == n) ≡ true
        by None e h = absurd (false≢true (rw e at h))
        by (Some name) e h =
            let is = is_of_same class path name (rw e at h) in
            eq-eqb m n (once (map node_name nodes)
            (sym (ascends_named node_name nodes) ∙ ordered.ascend) m n
            (record { class = class; path = path }) t (e ∙ ap Some is))

  -- a pattern under a binding
  module _ (vs : List (List ℕ)) (b : List ℕ) (q : Pattern) where
    gives_names : (path : List ℕ) → gives topology vs b q path ≡ true
        → names_of path ≡ map name_of q.parts
    gives_names path h =
        let fit = (and_parts (fits vs b q.parts path) _ h).0 in
        names_all (names_of path) (map name_of q.parts)
        (and_parts (has_names q.parts path) _ fit).0

    pub on_paths : (j : ℕ) (qs : List Pattern) → slice_get qs j ≡ Some q
        → ArePatternsKnown topology nodes qs
        → AreOnPaths topology nodes q.class (giving topology vs b q)
    on_paths j qs stands known = record {
      each = λ k at s.
          let p = place_is (gives topology vs b q) 0 topology k at s in
          let number : slice_get (keys_of topology) at ≡ Some p.1 =
          ap (slice_get (keys_of topology)) (p.2 ∙ (let e : 0 + p.0 ≡ p.0 = omega arith in e)) ∙ p.3
          in
          (p.1, number, known.each j q at p.1 stands number (gives_names p.1 p.4));
    }

    pub few_given : length (giving topology vs b q) ≤ length (fitting topology vs b q.parts)
    few_given =
        fewer_places (fits vs b q.parts) (λ path. passes topology vs b q path q.cond) 0 topology

    -- a node is on one of the places just where it is an event of the pattern
    pub event_on : (n : ℕ)
        → is_node_on topology nodes q.class (giving topology vs b q) n
        ≡ some_passes (λ node. is_event_of topology vs b node q) (slice_get nodes n)
    event_on n = by (slice_get nodes n) refl where
      test : ℕ → Bool
      test at = is_node_at topology nodes q.class n at

      none_on : (o : Option Node) → slice_get nodes n ≡ o → (at : ℕ) → o ≡ None
          → slice_get (map node_name nodes) n ≡ None
      none_on o e at is = mapped nodes n (e ∙ is) where
        mapped : (xs : List Node) (i : ℕ) → ◌≡◌ {A = Option Node} (slice_get xs i) None
            → slice_get (map node_name xs) i ≡ None
        mapped [] i h = refl
        mapped (x ∷ xs) zero h = none_is_not x (sym h)
        mapped (x ∷ xs) (suc i) h = mapped xs i h

      by : (o : Option Node) → slice_get nodes n ≡ o
          → is_node_on topology nodes q.class (giving topology vs b q) n
          ≡ some_passes (λ node. is_event_of topology vs b node q) (slice_get nodes n)
      by None e =
          same_tests (list_any test (giving topology vs b q))
          (some_passes (λ node. is_event_of topology vs b node q) (slice_get nodes n))
          (λ h. let found = any_found test (giving topology vs b q) h in
          absurd (false≢true (sym (no_name (slice_get (keys_of topology) found.1)) ∙ found.3)))
          (λ h. absurd (false≢true (rw e at h))) where
            no_name : (o : Option (List ℕ))
                → is_at_path q.class o (slice_get (map node_name nodes) n) ≡ false
            no_name None = ap (is_at_path q.class None) (none_on None e 0 refl)
            no_name (Some path) = ap (is_at_path q.class (Some path)) (none_on None e 0 refl)
      by (Some node) e =
          let named : slice_get (map node_name nodes) n ≡ Some node.name =
          mapped_at nodes n e in
          same_tests (list_any test (giving topology vs b q))
          (some_passes (λ node. is_event_of topology vs b node q) (slice_get nodes n))
          (λ h. let found = any_found test (giving topology vs b q) h in
          let p = place_is (gives topology vs b q) 0 topology found.0 found.1 found.2 in
          let number : slice_get (keys_of topology) found.1 ≡ Some p.1 =
          ap (slice_get (keys_of topology)) (p.2 ∙ (let z : 0 + p.0 ≡ p.0 = omega arith in z)) ∙ p.3
          in
          let whole : is_at_path q.class (Some p.1) (Some node.name) ≡ true =
          (λ i. is_at_path q.class (sym number i) (sym named i)) ∙ found.3 in
          let is = is_of_same q.class p.1 node.name whole in
          ap (some_passes (λ node. is_event_of topology vs b node q)) e
          ∙ and_true (same_name node.name.class q.class) (gives topology vs b q node.name.path)
          (same_from node.name.class q.class (ap (λ (x : EventName). x.class) is))
          (ap (λ (x : EventName). gives topology vs b q x.path) is ∙ p.4))
          (λ h. let event : is_event_of topology vs b node q ≡ true = rw e at h in
          let p = and_parts (same_name node.name.class q.class) _ event in
          let placed = ordered.placed n node e in
          in_places test (gives topology vs b q) 0 topology placed.0 node.name.path placed.1 p.1
          ((λ i. is_at_path q.class ((ap (slice_get (keys_of topology))
          (let z : 0 + placed.0 ≡ placed.0 = omega arith in z) ∙ placed.1) i) (named i))
          ∙ and_true (same_name node.name.class q.class) (same_name node.name.path node.name.path)
          p.0 (same_from node.name.path node.name.path refl))) where
            mapped_at : (xs : List Node) (i : ℕ) → slice_get xs i ≡ Some node
                → slice_get (map node_name xs) i ≡ Some node.name
            mapped_at [] i h = none_is_not node h
            mapped_at (x ∷ xs) zero h = ap (λ o. Some (node_name o)) (same_Some x node h)
            mapped_at (x ∷ xs) (suc i) h = mapped_at xs i h

  or_again : (a b c : Bool) → ((a || b) || c) ≡ (a || (b || c))
  or_again true b c = refl
  or_again false b c = refl

  or_none : (a : Bool) → (a || false) ≡ a
  or_none true = refl
  or_none false = refl

  -- the number of one path more
  pub numbers_added : (class ats : List ℕ) (i m : ℕ) (path first found new : List ℕ)
      → i < length ats → slice_get (keys_of topology) (get_or ats i 0) ≡ Some path
      → slice_get (map node_name nodes) m ≡ Some (record { class = class; path = path })
      → ((n : ℕ) → is_member found n
      ≡ (is_member first n || is_node_on topology nodes class (take i ats) n))
      → new ≡ found ++ m ∷ [] → (n : ℕ) → is_member new n
      ≡ (is_member first n || is_node_on topology nodes class (take (i + 1) ats) n)
  numbers_added class ats i m path first found new less s t before put n =
      let at = get_or ats i 0 in
      ap (λ (xs : List ℕ). is_member xs n) put
      ∙ list_any-append (λ x. x == n) found (m ∷ [])
      ∙ (λ j. before n j || (or_none (m == n) ∙ added class at m path s t n) j)
      ∙ or_again (is_member first n) (is_node_on topology nodes class (take i ats) n)
      (is_node_at topology nodes class n at)
      ∙ ap (λ (b : Bool). is_member first n || b)
      (sym (list_any_more (is_node_at topology nodes class n) ats i 0 less))

-- ---- a node by its name
pub named_at : (nodes : List Node) (at : ℕ) (name : EventName)
    → name_in (slice_get nodes at) ≡ Some name → slice_get (map node_name nodes) at ≡ Some name
named_at [] at name h = none_is_not name h
named_at (node ∷ nodes) zero name h = h
named_at (node ∷ nodes) (suc at) name h = named_at nodes at name h

-- the node of a place is the event of its class at its path
pub event_at : (nodes : List Node) (at : ℕ) (other : Node) (class path : List ℕ)
    → at < length nodes → (get_or nodes at other).name.class ≡ class
    → (get_or nodes at other).name.path ≡ path
    → slice_get (map node_name nodes) at ≡ Some (record { class = class; path = path })
event_at nodes at other class path h c d =
    named_at nodes at (record { class = class; path = path })
    (ap name_in (slice_get-get_or nodes at other h)
    ∙ ap Some (λ i. record { class = c i; path = d i }))

pub name_there : (nodes : List Node) (at : ℕ) (name : EventName)
    → slice_get (map node_name nodes) at ≡ Some name → name_in (slice_get nodes at) ≡ Some name
name_there [] at name h = none_is_not name h
name_there (node ∷ nodes) zero name h = h
name_there (node ∷ nodes) (suc at) name h = name_there nodes at name h
