-- One pattern more, one candidate more, one propagation more.
use Rattle.std.proofs.Common.{◌≡◌, ◌<◌, ◌≤◌, ◌+◌, ◌++◌, ◌&&◌, ◌||◌, ℕ, zero, suc, Bool, true}
use Rattle.std.proofs.Common.{false}
use Rattle.std.proofs.Common.{List, [], ◌∷◌, length, map, take, get_or, slice_get, filter, cond}
use Rattle.std.proofs.Common.{not}
use Rattle.std.proofs.Common.{Option, Some, None, refl, sym, ap, ◌∙◌, subst, arith, inl, inr}
use Rattle.std.proofs.Common.{append_assoc, append-nil, if◌then◌else◌, drop, length-append}
use Rattle.std.specs.List.{list_any, count_by, sum_by}
use Rattle.std.proofs.lemmas.Bool.{cases_Bool, false≢true}
use Rattle.std.proofs.lemmas.List.{map_more, take_more}
use Rattle.std.proofs.lemmas.List.Folds.{list_any-append}
use Rattle.std.proofs.lemmas.List.Sums.{sum_by-cons, sum_by-append}
use Rattle.std.proofs.lemmas.Option.{slice_get-get_or, same_Some}
use Rattle.fm_topo.specs.Topology.{Topology}
use Rattle.ev_tree.specs.Pattern.{Pattern, view_pattern}
use Rattle.ev_tree.specs.declared.tree.SidePattern.{SidePattern}
use Rattle.ev_check.specs.CheckedFile.{Linking, view_prop}
use Rattle.ev_check.specs.declared.checked.PropSpec.{PropSpec}
use Rattle.ev_join.specs.Tables.{RisesFrom, TableValue}
use Rattle.ev_graph.specs.Lawful.{links, links_of}
use Rattle.ev_incidence.specs.Sets.{is_member}
use Rattle.ev_graph.specs.declared.instances.Instance.{Instance}
use Rattle.ev_graph.specs.declared.nodes.Node.{Node}
use Rattle.ev_events.specs.Bindings.{AreAllBindings, AreBindings, candidate_links, patterns_of}
use Rattle.ev_events.specs.Fits.{fitting}
use Rattle.ev_events.specs.Names.{iterators}
use Rattle.ev_events.specs.Sheets.{AreTablesOf, IsTableOf}
use Rattle.ev_events.proofs.Joining.{pattern_there, table_at}
use Rattle.ev_events.proofs.Places.{none_is_not}
use Rattle.ev_events.specs.Giving.{giving}
use Rattle.ev_inst.specs.Gathering.{AddsCandidates, AddsOutcome, AreEventNumbers, AreOrderedNodes}
use Rattle.ev_inst.specs.Gathering.{IsGatheredTo, IsOutcome, IsReady}
use Rattle.ev_inst.specs.Gathering.{IsSideReady, fitting_links, some_passes}
use Rattle.ev_inst.specs.Gathering.{is_node_on, outcome_links}
use Rattle.ev_inst.specs.Instances.{AreCandidatesOf, AreSomeCandidatesOf, HaveMoreLinks}
use Rattle.ev_inst.specs.Instances.{instances_of_all, links_of_all, skipped_of_all}
use Rattle.ev_inst.specs.Outcomes.{events_of, instance_of, is_bare, is_dropped}
use Rattle.ev_inst.specs.Outcomes.{is_event_among}
use Rattle.ev_inst.specs.Outcomes.{is_event_of, is_made, is_skipped}
use Rattle.ev_inst.specs.declared.gathered.Gathered.{Gathered}
use Rattle.ev_inst.specs.declared.outcomes.Outcome.{Outcome}
use Rattle.ev_inst.specs.declared.outcomes.Outcome.TheVariants.{Dropped, Made, Skipped}
use Rattle.ev_inst.proofs.NodeSets.{numbers_few, numbers_member, numbers_rise, same_rising}
use Rattle.ev_inst.proofs.Numbering.{event_on, few_given}

-- ---- one pattern more
none_given : (topology : Topology) (vs : List (List ℕ)) (b : List ℕ) (o : Option Node)
    → some_passes (is_event_among topology vs b []) o ≡ false
none_given topology vs b None = refl
none_given topology vs b (Some node) = refl

given_more : (topology : Topology) (vs : List (List ℕ)) (b : List ℕ) (qs : List Pattern)
    (q : Pattern) (o : Option Node)
    → some_passes (is_event_among topology vs b (qs ++ q ∷ [])) o
    ≡ (some_passes (is_event_among topology vs b qs) o || some_passes
    (λ node. is_event_of topology vs b node q) o)
given_more topology vs b qs q None = refl
given_more topology vs b qs q (Some node) =
    list_any-append (is_event_of topology vs b node) qs (q ∷ [])
    ∙ ap (λ (x : Bool). list_any (is_event_of topology vs b node) qs || x)
    (or_false (is_event_of topology vs b node q)) where
      or_false : (a : Bool) → (a || false) ≡ a
      or_false true = refl
      or_false false = refl

pub none_gathered : (topology : Topology) (nodes : List Node) (vs : List (List ℕ)) (b : List ℕ)
    (found : List ℕ) → found ≡ [] → AreEventNumbers topology nodes vs b [] found
none_gathered topology nodes vs b found none = record {
  members = λ n. ap (λ (xs : List ℕ). is_member xs n) none
      ∙ sym (none_given topology vs b (slice_get nodes n));
  few = let zero_long = ap length none in omega (arith, zero_long);
}

module _ (topology : Topology) (nodes : List Node) (vs : List (List ℕ)) (b : List ℕ)
    (ps : List SidePattern) (i : ℕ) (p d : SidePattern) (less : i < length ps)
    (is : p ≡ get_or ps i d) where
  pub taken : map view_pattern (take (i + 1) ps)
      ≡ map view_pattern (take i ps) ++ view_pattern p ∷ []
  taken = map_more view_pattern ps i d less
      ∙ ap (λ (x : SidePattern). map view_pattern (take i ps) ++ view_pattern x ∷ []) (sym is)

  pub gathered_more : AreOrderedNodes topology nodes → (old new : List ℕ)
      → AreEventNumbers topology nodes vs b (map view_pattern (take i ps)) old
      → ((n : ℕ) → is_member new n ≡ (is_member old n
      || is_node_on topology nodes p.class (giving topology vs b (view_pattern p)) n))
      → length new ≡ length old + length (giving topology vs b (view_pattern p))
      → AreEventNumbers topology nodes vs b (map view_pattern (take (i + 1) ps)) new
  gathered_more ordered old new before step long =
      subst (λ (qs : List Pattern). AreEventNumbers topology nodes vs b qs new) (sym taken)
      (record {
        members = λ n.
            step n ∙ (λ j. before.members n j
            || event_on topology nodes ordered vs b (view_pattern p) n j)
            ∙ sym (given_more topology vs b (map view_pattern (take i ps)) (view_pattern p)
            (slice_get nodes n));
        few =
            let was = before.few in
            let more = few_given topology nodes ordered vs b (view_pattern p) in
            let size = λ (q : Pattern). length (fitting topology vs b q.parts) in
            let sum : sum_by size (map view_pattern (take i ps) ++ view_pattern p ∷ [])
            ≡ sum_by size (map view_pattern (take i ps)) + size (view_pattern p) =
            sum_by-append size (map view_pattern (take i ps)) (view_pattern p ∷ [])
            ∙ ap (λ (n : ℕ). sum_by size (map view_pattern (take i ps)) + n)
            (sum_by-cons size (view_pattern p) [] ∙ (let z : size (view_pattern p) + 0
            ≡ size (view_pattern p) = omega arith in z)) in
            omega (arith, was, more, sum, long);
      })

  -- the places may be given otherwise
  pub gathered_step : AreOrderedNodes topology nodes → (old new places : List ℕ)
      → places ≡ giving topology vs b (view_pattern p)
      → AreEventNumbers topology nodes vs b (map view_pattern (take i ps)) old
      → ((n : ℕ) → is_member new n
      ≡ (is_member old n || is_node_on topology nodes p.class places n))
      → length new ≡ length old + length places
      → AreEventNumbers topology nodes vs b (map view_pattern (take (i + 1) ps)) new
  gathered_step ordered old new places same before step long =
      gathered_more ordered old new before
      (λ n. step n ∙ ap (λ (xs : List ℕ).
      is_member old n || is_node_on topology nodes p.class xs n) same)
      (long ∙ ap (λ (xs : List ℕ). length old + length xs) same)

  pub bare_more : list_any (is_bare topology vs b) (map view_pattern (take i ps)) ≡ false
      → is_bare topology vs b (view_pattern p) ≡ false
      → list_any (is_bare topology vs b) (map view_pattern (take (i + 1) ps)) ≡ false
  bare_more before one =
      ap (list_any (is_bare topology vs b)) taken
      ∙ list_any-append (is_bare topology vs b) (map view_pattern (take i ps)) (view_pattern p ∷ [])
      ∙ rw (before, one) refl

  pub bare_at : is_bare topology vs b (view_pattern p) ≡ true
      → list_any (is_bare topology vs b) (map view_pattern ps) ≡ true
  bare_at one = any_at (map view_pattern ps) i (mapped ps i
      (slice_get-get_or ps i d less ∙ ap Some (sym is))) where
        mapped : (xs : List SidePattern) (j : ℕ) → slice_get xs j ≡ Some p
            → slice_get (map view_pattern xs) j ≡ Some (view_pattern p)
        mapped [] j h = none_is_not p h
        mapped (x ∷ xs) zero h = ap (λ z. Some (view_pattern z)) (same_Some x p h)
        mapped (x ∷ xs) (suc j) h = mapped xs j h

        any_at : (qs : List Pattern) (j : ℕ) → slice_get qs j ≡ Some (view_pattern p)
            → list_any (is_bare topology vs b) qs ≡ true
        any_at [] j h = none_is_not (view_pattern p) h
        any_at (q ∷ qs) zero h =
            rw (ap (is_bare topology vs b) (same_Some q (view_pattern p) h) ∙ one) refl
        any_at (q ∷ qs) (suc j) h = by (is_bare topology vs b q) (any_at qs j h) where
          by : (a : Bool) → list_any (is_bare topology vs b) qs ≡ true
              → (a || list_any (is_bare topology vs b) qs) ≡ true
          by true e = refl
          by false e = e

-- ---- sets of events
pub set_is : (topology : Topology) (nodes : List Node) (vs : List (List ℕ)) (b : List ℕ)
    (qs : List Pattern) (found set : List ℕ) → AreEventNumbers topology nodes vs b qs found
    → RisesFrom 0 set → ((n : ℕ) → is_member set n ≡ is_member found n)
    → set ≡ events_of topology nodes vs b qs
set_is topology nodes vs b qs found set numbers rises same =
    same_rising 0 set (events_of topology nodes vs b qs) rises
    (numbers_rise (is_event_among topology vs b qs) 0 nodes)
    (λ n. same n ∙ numbers.members n
    ∙ sym (numbers_member (is_event_among topology vs b qs) nodes n))

-- ---- the sides of a propagation
pub view_long : (ps : List SidePattern) → length (map view_pattern ps) ≡ length ps
view_long [] = refl
view_long (p ∷ ps) = ap suc (view_long ps)

append_right : {X : Type 0} (xs ys : List X) (j : ℕ) → slice_get (xs ++ ys) (length xs + j)
    ≡ slice_get ys j
append_right [] ys j = let same : 0 + j ≡ j = omega arith in ap (slice_get ys) same
append_right (x ∷ xs) ys j =
    let same : suc (length xs) + j ≡ suc (length xs + j) = omega arith in
    ap (slice_get (x ∷ xs ++ ys)) same ∙ append_right xs ys j

append_left : {X : Type 0} (xs ys : List X) (j : ℕ) (x : X) → slice_get xs j ≡ Some x
    → slice_get (xs ++ ys) j ≡ Some x
append_left [] ys j x h = none_is_not x h
append_left (z ∷ xs) ys zero x h = h
append_left (z ∷ xs) ys (suc j) x h = append_left xs ys j x h

module _ (topology : Topology) (vs : List (List ℕ)) where
  pub tables_long : (qs : List Pattern) (ts : List TableValue) → AreTablesOf topology vs qs ts
      → length ts ≡ length qs
  tables_long [] [] h = refl
  tables_long [] (t ∷ ts) h = absurd h
  tables_long (q ∷ qs) [] h = absurd h
  tables_long (q ∷ qs) (t ∷ ts) h = ap suc (tables_long qs ts h.1)

  tables_left : (qs rs : List Pattern) (ts : List TableValue)
      → AreTablesOf topology vs (qs ++ rs) ts → AreTablesOf topology vs qs (take (length qs) ts)
  tables_left [] rs ts h = tt
  tables_left (q ∷ qs) rs [] h = absurd h
  tables_left (q ∷ qs) rs (t ∷ ts) h = (h.0, tables_left qs rs ts h.1)

  tables_right : (qs rs : List Pattern) (ts : List TableValue)
      → AreTablesOf topology vs (qs ++ rs) ts → AreTablesOf topology vs rs (drop (length qs) ts)
  tables_right [] rs ts h = h
  tables_right (q ∷ qs) rs [] h = absurd h
  tables_right (q ∷ qs) rs (t ∷ ts) h = tables_right qs rs ts h.1

  -- the table of the pattern at a place
  pub table_there : (ps : List SidePattern) (ts : List TableValue) (i : ℕ) (p : SidePattern)
      (t : TableValue) → AreTablesOf topology vs (map view_pattern ps) ts → i < length ps
      → p ≡ get_or ps i p → i < length ts → t ≡ get_or ts i t → IsTableOf topology vs p.parts t
  table_there ps ts i p t h less is within same =
      let found = table_at topology vs (map view_pattern ps) ts i (view_pattern p) h
      (pattern_there ps i p p less is) in
      let one : found.0 ≡ t =
      same_Some found.0 t (sym found.1 ∙ slice_get-get_or ts i t within ∙ ap Some (sym same)) in
      subst (IsTableOf topology vs p.parts) one found.2

-- names, patterns and tables may be given otherwise
pub side_left : (topology : Topology) (nodes : List Node) (l : Linking) (ts own : List TableValue)
    (ready : IsReady topology nodes l ts) (vs : List (List ℕ)) (b : List ℕ)
    (ps : List SidePattern) → vs ≡ iterators l → length b ≡ length vs
    → map view_pattern ps ≡ l.left → own ≡ take (length ps) ts
    → IsSideReady topology nodes vs b (map view_pattern ps) own
side_left topology nodes l ts own ready vs b ps names full is part =
    let long : length ps ≡ length l.left = sym (view_long ps) ∙ ap length is in
    let tables = tables_left topology (iterators l) l.left l.right ts ready.tables in
    subst (λ (us : List (List ℕ)). IsSideReady topology nodes us b (map view_pattern ps) own)
    (sym names)
    (subst (λ (qs : List Pattern). IsSideReady topology nodes (iterators l) b qs own) (sym is)
    (record {
      nodes_are = ready.nodes_are;
      full = full ∙ ap length names;
      tables = subst (AreTablesOf topology (iterators l) l.left)
          (sym (part ∙ ap (λ (n : ℕ). take n ts) long)) tables;
      known = record {
        each = λ j q at path s t u.
            ready.known.each j q at path (append_left l.left l.right j q s) t u;
      };
    }))

pub side_right : (topology : Topology) (nodes : List Node) (l : Linking) (ts own : List TableValue)
    (ready : IsReady topology nodes l ts) (vs : List (List ℕ)) (b : List ℕ)
    (ps others : List SidePattern) → vs ≡ iterators l → length b ≡ length vs
    → map view_pattern ps ≡ l.right → map view_pattern others ≡ l.left
    → own ≡ drop (length others) ts
    → IsSideReady topology nodes vs b (map view_pattern ps) own
side_right topology nodes l ts own ready vs b ps others names full is left part =
    let long : length others ≡ length l.left = sym (view_long others) ∙ ap length left in
    let tables = tables_right topology (iterators l) l.left l.right ts ready.tables in
    subst (λ (us : List (List ℕ)). IsSideReady topology nodes us b (map view_pattern ps) own)
    (sym names)
    (subst (λ (qs : List Pattern). IsSideReady topology nodes (iterators l) b qs own) (sym is)
    (record {
      nodes_are = ready.nodes_are;
      full = full ∙ ap length names;
      tables = subst (AreTablesOf topology (iterators l) l.right)
          (sym (part ∙ ap (λ (n : ℕ). drop n ts) long)) tables;
      known = record {
        each = λ j q at path s t u.
            ready.known.each (length l.left + j) q at path (append_right l.left l.right j ∙ s) t u;
      };
    }))

-- the tables of the left are no more than all
pub left_within : (topology : Topology) (nodes : List Node) (l : Linking) (ts : List TableValue)
    → IsReady topology nodes l ts → (ps : List SidePattern) → map view_pattern ps ≡ l.left
    → length ps ≤ length ts
left_within topology nodes l ts ready ps is =
    let all = tables_long topology (iterators l) (patterns_of l) ts ready.tables in
    let long = view_long ps in
    let same = ap length is in
    let both = length-append l.left l.right in
    omega (arith, all, long, same, both)

-- ---- outcomes
pub all_links : (topology : Topology) (l : Linking) (b : List ℕ)
    → candidate_links topology l b ≡ fitting_links topology (iterators l) b l.left
    + fitting_links topology (iterators l) b l.right
all_links topology l b =
    sum_by-append (λ (q : Pattern). length (fitting topology
    (iterators l) b q.parts)) l.left l.right

pub few_events : (topology : Topology) (nodes : List Node) (vs : List (List ℕ)) (b : List ℕ)
    (qs : List Pattern) (found : List ℕ) → length nodes ≤ 65536
    → found ≡ events_of topology nodes vs b qs → length found ≤ 65536
few_events topology nodes vs b qs found few is =
    let long = ap length is in
    let most = numbers_few (is_event_among topology vs b qs) 0 nodes in
    omega (arith, few, long, most)

pub few_links : (topology : Topology) (l : Linking) (vs : List (List ℕ)) (b : List ℕ)
    (left right : List Pattern) (causes effects : List ℕ) (i : Instance) → vs ≡ iterators l
    → left ≡ l.left → right ≡ l.right
    → length causes ≤ fitting_links topology vs b left
    → length effects ≤ fitting_links topology vs b right → i.causes ≡ causes
    → i.effects ≡ effects → length i.causes + length i.effects ≤ candidate_links topology l b
few_links topology l vs b left right causes effects i names ls rs a c e f =
    let all = all_links topology l b in
    let one = ap length e in
    let two = ap length f in
    let first : fitting_links topology vs b left ≡ fitting_links topology (iterators l) b l.left =
    λ j. fitting_links topology (names j) b (ls j) in
    let second : fitting_links topology vs b right
    ≡ fitting_links topology (iterators l) b l.right =
    λ j. fitting_links topology (names j) b (rs j) in
    omega (arith, all, one, two, first, second, a, c)

pub dropped_by : (topology : Topology) (l : Linking) (b : List ℕ)
    → ((list_any (is_bare topology (iterators l) b) l.left
    || list_any (is_bare topology (iterators l) b) l.right) ≡ true)
    → is_dropped topology l b ≡ true
dropped_by topology l b h =
    list_any-append (is_bare topology (iterators l) b) l.left l.right ∙ h

pub not_dropped : (topology : Topology) (l : Linking) (b : List ℕ)
    → list_any (is_bare topology (iterators l) b) l.left ≡ false
    → list_any (is_bare topology (iterators l) b) l.right ≡ false
    → is_dropped topology l b ≡ false
not_dropped topology l b h k =
    list_any-append (is_bare topology (iterators l) b) l.left l.right ∙ rw (h, k) refl

-- ---- one candidate more
links_push : (is : List Instance) (i : Instance) → links (is ++ i ∷ []) ≡ links is + links_of i
links_push is i =
    sum_by-append links_of is (i ∷ [])
    ∙ ap (λ (n : ℕ). links is + n)
    (sum_by-cons links_of i [] ∙ (let z : links_of i + 0 ≡ links_of i = omega arith in z))

map_filter_push : {X Y : Type 0} (f : X → Y) (p : X → Bool) (xs : List X) (x : X)
    → map f (filter p (xs ++ x ∷ [])) ≡ map f (filter p xs) ++ (if p x then f x ∷ [] else [])
map_filter_push f p [] x = elim (cases_Bool (p x)) [
  | inl so ↦ rw so refl
  | inr not_so ↦ rw not_so refl
]
map_filter_push f p (y ∷ xs) x = elim (cases_Bool (p y)) [
  | inl so ↦ rw so (ap (λ (l : List _). f y ∷ l) (map_filter_push f p xs x))
  | inr not_so ↦ rw not_so (map_filter_push f p xs x)
]

count_push : {X : Type 0} (p : X → Bool) (xs : List X) (x : X)
    → count_by p (xs ++ x ∷ []) ≡ count_by p xs + cond (p x) 1 0
count_push p xs x =
    sum_by-append (λ y. cond (p y) 1 0) xs (x ∷ [])
    ∙ ap (λ (n : ℕ). count_by p xs + n)
    (sum_by-cons (λ y. cond (p y) 1 0) x []
    ∙ (let z : ◌≡◌ {A = ℕ} (cond (p x) 1 0 + 0) (cond (p x) 1 0) =
    omega arith in z))

sum_push : {X : Type 0} (f : X → ℕ) (xs : List X) (x : X)
    → sum_by f (xs ++ x ∷ []) ≡ sum_by f xs + f x
sum_push f xs x =
    sum_by-append f xs (x ∷ [])
    ∙ ap (λ (n : ℕ). sum_by f xs + n)
    (sum_by-cons f x [] ∙ (let z : f x + 0 ≡ f x = omega arith in z))

both_false : (a c : Bool) → a ≡ true → (not a && c) ≡ false
both_false a c h = rw h refl

module _ (topology : Topology) (nodes : List Node) (l : Linking) where
  none_pushed : (bs : List (List ℕ)) (b : List ℕ) → is_made topology nodes l b ≡ false
      → map (instance_of topology nodes l) (filter (is_made topology nodes l) (bs ++ b ∷ []))
      ≡ map (instance_of topology nodes l) (filter (is_made topology nodes l) bs)
  none_pushed bs b not_made =
      let own = map (instance_of topology nodes l) (filter (is_made topology nodes l) bs) in
      map_filter_push (instance_of topology nodes l) (is_made topology nodes l) bs b
      ∙ ap (λ (x : Bool). own ++ (if x then instance_of topology nodes l b ∷ [] else [])) not_made
      ∙ append-nil own

  pub none_added : (g : Gathered) → AddsCandidates topology nodes l [] g g
  none_added g = record {
    instances_are = sym (append-nil g.instances.items);
    skipped_are = omega arith;
    few = omega arith;
  }

  pub candidate_added : (bs : List (List ℕ)) (b : List ℕ) (o : Outcome) (old mid new : Gathered)
      → AddsCandidates topology nodes l bs old mid → IsOutcome topology nodes l b o
      → outcome_links o ≤ candidate_links topology l b → AddsOutcome o mid new
      → AddsCandidates topology nodes l (bs ++ b ∷ []) old new
  candidate_added bs b Dropped old mid new before is few step =
      let a = before.few in
      let not_made : is_made topology nodes l b
      ≡ false = both_false (is_dropped topology l b) _ is in
      let not_skipped : is_skipped topology nodes l b ≡ false =
      both_false (is_dropped topology l b) _ is in
      let same = ap links step.0 in
      let count = count_push (is_skipped topology nodes l) bs b in
      let none : ◌≡◌ {A = ℕ} (cond (is_skipped topology nodes l b) 1 0) 0 =
      ap (λ (x : Bool). cond x 1 0) not_skipped in
      let was = before.skipped_are in
      let now = step.1 in
      let sum = sum_push (candidate_links topology l) bs b in
      record {
        instances_are = step.0 ∙ before.instances_are
            ∙ ap (λ (xs : List Instance). old.instances.items ++ xs)
            (sym (none_pushed bs b not_made));
        skipped_are = omega (arith, was, now, count, none);
        few = omega (arith, a, same, sum);
      }
  candidate_added bs b Skipped old mid new before is few step =
      let a = before.few in
      let not_made : is_made topology nodes l b ≡ false = skipped_not_made is in
      let same = ap links step.0 in
      let count = count_push (is_skipped topology nodes l) bs b in
      let one : ◌≡◌ {A = ℕ} (cond (is_skipped topology nodes l b) 1 0) 1 =
      ap (λ (x : Bool). cond x 1 0) is in
      let was = before.skipped_are in
      let now = step.1 in
      let sum = sum_push (candidate_links topology l) bs b in
      record {
        instances_are = step.0 ∙ before.instances_are
            ∙ ap (λ (xs : List Instance). old.instances.items ++ xs)
            (sym (none_pushed bs b not_made));
        skipped_are = omega (arith, was, now, count, one);
        few = omega (arith, a, same, sum);
      } where
        apart : (d c : Bool) → (not d && not c) ≡ true → (not d && c) ≡ false
        apart true c h = refl
        apart false true h = absurd (false≢true h)
        apart false false h = refl

        skipped_not_made : is_skipped topology nodes l b ≡ true
            → is_made topology nodes l b ≡ false
        skipped_not_made h = apart (is_dropped topology l b) _ h
  candidate_added bs b (Made i) old mid new before is few step =
      let a = before.few in
      let not_skipped : is_skipped topology nodes l b ≡ false = made_not_skipped is.0 in
      let same = ap links step.0 ∙ links_push mid.instances.items i in
      let count = count_push (is_skipped topology nodes l) bs b in
      let none : ◌≡◌ {A = ℕ} (cond (is_skipped topology nodes l b) 1 0) 0 =
      ap (λ (x : Bool). cond x 1 0) not_skipped in
      let was = before.skipped_are in
      let now = step.1 in
      let sum = sum_push (candidate_links topology l) bs b in
      let made = map_filter_push (instance_of topology nodes l) (is_made topology nodes l) bs b in
      let made_one : (if is_made topology nodes l b then instance_of topology nodes l b ∷ [] else
      [])
      ≡ i ∷ [] =
      ap (λ (x : Bool). if x then instance_of topology nodes l b ∷ [] else []) is.0
      ∙ ap (λ (x : Instance). x ∷ []) (sym is.1) in
      record {
        instances_are = step.0
            ∙ ap (λ (xs : List Instance). xs ++ i ∷ []) before.instances_are
            ∙ append_assoc old.instances.items
            (map (instance_of topology nodes l) (filter (is_made topology nodes l) bs)) (i ∷ [])
            ∙ ap (λ (xs : List Instance). old.instances.items ++ xs)
            (sym (made ∙ ap (λ (xs : List Instance).
            map (instance_of topology nodes l) (filter (is_made topology nodes l) bs) ++ xs)
            made_one));
        skipped_are = omega (arith, was, now, count, none);
        few = omega (arith, a, same, sum, few);
      } where
        apart : (d c : Bool) → (not d && c) ≡ true → (not d && not c) ≡ false
        apart true c h = refl
        apart false true h = refl
        apart false false h = absurd (false≢true h)

        made_not_skipped : is_made topology nodes l b ≡ true
            → is_skipped topology nodes l b ≡ false
        made_not_skipped h = apart (is_dropped topology l b) _ h

  -- the candidate at a place
  pub candidate_step : (bindings seen : List (List ℕ)) → seen ≡ bindings → (i : ℕ)
      (b own : List ℕ) → i < length seen → b ≡ get_or seen i b → own ≡ b → (o : Outcome)
      (old mid new : Gathered) → AddsCandidates topology nodes l (take i bindings) old mid
      → IsOutcome topology nodes l own o → outcome_links o ≤ candidate_links topology l own
      → AddsOutcome o mid new → AddsCandidates topology nodes l (take (i + 1) bindings) old new
  candidate_step bindings seen same i b own less is owned o old mid new before told few step =
      let more : take (i + 1) bindings ≡ take i bindings ++ b ∷ [] =
      ap (take (i + 1)) (sym same) ∙ take_more seen i b less
      ∙ (λ j. take i (same j) ++ sym is j ∷ []) in
      subst (λ (bs : List (List ℕ)). AddsCandidates topology nodes l bs old new) (sym more)
      (candidate_added (take i bindings) b o old mid new before
      (subst (λ (x : List ℕ). IsOutcome topology nodes l x o) owned told)
      (subst (λ (x : List ℕ). outcome_links o ≤ candidate_links topology l x) owned few) step)

-- ---- one propagation more
pub candidates_push : (topology : Topology) (ls : List Linking) (css : List (List (List ℕ)))
    (l : Linking) (bs : List (List ℕ)) → AreCandidatesOf topology ls css
    → AreAllBindings topology l bs → AreCandidatesOf topology (ls ++ l ∷ []) (css ++ bs ∷ [])
candidates_push topology [] [] l bs h own = (own, tt)
candidates_push topology [] (c ∷ css) l bs h own = absurd h
candidates_push topology (k ∷ ls) [] l bs h own = absurd h
candidates_push topology (k ∷ ls) (c ∷ css) l bs h own =
    (h.0, candidates_push topology ls css l bs h.1 own)

instances_push : (topology : Topology) (nodes : List Node) (ls : List Linking)
    (css : List (List (List ℕ))) (l : Linking) (bs : List (List ℕ))
    → AreCandidatesOf topology ls css
    → instances_of_all topology nodes (ls ++ l ∷ []) (css ++ bs ∷ [])
    ≡ instances_of_all topology nodes ls css
    ++ map (instance_of topology nodes l) (filter (is_made topology nodes l) bs)
instances_push topology nodes [] [] l bs h =
    append-nil (map (instance_of topology nodes l) (filter (is_made topology nodes l) bs))
instances_push topology nodes [] (c ∷ css) l bs h = absurd h
instances_push topology nodes (k ∷ ls) [] l bs h = absurd h
instances_push topology nodes (k ∷ ls) (c ∷ css) l bs h =
    let own = map (instance_of topology nodes k) (filter (is_made topology nodes k) c) in
    ap (λ (xs : List Instance). own ++ xs) (instances_push topology nodes ls css l bs h.1)
    ∙ sym (append_assoc own (instances_of_all topology nodes ls css) _)

skipped_push : (topology : Topology) (nodes : List Node) (ls : List Linking)
    (css : List (List (List ℕ))) (l : Linking) (bs : List (List ℕ))
    → AreCandidatesOf topology ls css
    → skipped_of_all topology nodes (ls ++ l ∷ []) (css ++ bs ∷ [])
    ≡ skipped_of_all topology nodes ls css + count_by (is_skipped topology nodes l) bs
skipped_push topology nodes [] [] l bs h = omega arith
skipped_push topology nodes [] (c ∷ css) l bs h = absurd h
skipped_push topology nodes (k ∷ ls) [] l bs h = absurd h
skipped_push topology nodes (k ∷ ls) (c ∷ css) l bs h =
    let more = skipped_push topology nodes ls css l bs h.1 in omega (arith, more)

links_of_push : (topology : Topology) (ls : List Linking) (css : List (List (List ℕ)))
    (l : Linking) (bs : List (List ℕ)) → AreCandidatesOf topology ls css
    → links_of_all topology (ls ++ l ∷ []) (css ++ bs ∷ [])
    ≡ links_of_all topology ls css + sum_by (candidate_links topology l) bs
links_of_push topology [] [] l bs h = omega arith
links_of_push topology [] (c ∷ css) l bs h = absurd h
links_of_push topology (k ∷ ls) [] l bs h = absurd h
links_of_push topology (k ∷ ls) (c ∷ css) l bs h =
    let more = links_of_push topology ls css l bs h.1 in omega (arith, more)

pub none_gathered_to : (topology : Topology) (nodes : List Node) (g : Gathered)
    → g.instances.items ≡ [] → g.skipped ≡ 0 → IsGatheredTo topology nodes [] 1048576 g
none_gathered_to topology nodes g none zero_skipped = record {
  candidates = [];
  all = tt;
  instances_are = none;
  skipped_are = zero_skipped;
  room = omega arith;
  few = let no_links : links g.instances.items ≡ 0 = ap links none in omega (arith, no_links);
}

pub linking_gathered : (topology : Topology) (nodes : List Node) (ls : List Linking) (l : Linking)
    (bs : List (List ℕ)) (left rest : ℕ) (old new : Gathered)
    → IsGatheredTo topology nodes ls left old → AreAllBindings topology l bs
    → rest + sum_by (candidate_links topology l) bs ≡ left
    → AddsCandidates topology nodes l bs old new
    → IsGatheredTo topology nodes (ls ++ l ∷ []) rest new
linking_gathered topology nodes ls l bs left rest old new before all room step =
    let was = before.skipped_are in
    let now = step.skipped_are in
    let push = skipped_push topology nodes ls before.candidates l bs before.all in
    let sum = links_of_push topology ls before.candidates l bs before.all in
    let space = before.room in
    let few = before.few in
    let more = step.few in
    record {
      candidates = before.candidates ++ bs ∷ [];
      all = candidates_push topology ls before.candidates l bs before.all all;
      instances_are = step.instances_are
          ∙ ap (λ (xs : List Instance).
          xs ++ map (instance_of topology nodes l) (filter (is_made topology nodes l) bs))
          before.instances_are
          ∙ sym (instances_push topology nodes ls before.candidates l bs before.all);
      skipped_are = omega (arith, was, now, push);
      room = omega (arith, sum, space, room);
      few = omega (arith, few, more, room);
    }

-- ---- too many links
no_bindings : (topology : Topology) (l : Linking) → AreBindings topology l []
no_bindings topology l = record {
  each = λ i b s. none_is_not b s;
  ascend = λ i j a b less s t. none_is_not a s;
}

some_of : (topology : Topology) (ls : List Linking) (css : List (List (List ℕ)))
    → AreCandidatesOf topology ls css → (l : Linking) (bs : List (List ℕ))
    → AreBindings topology l bs → (more : List Linking)
    → (found : List (List (List ℕ))) × AreSomeCandidatesOf topology (ls ++ l ∷ more) found
    × (links_of_all topology (ls ++ l ∷ more) found
    ≡ links_of_all topology ls css + sum_by (candidate_links topology l) bs)
some_of topology [] [] h l bs own more =
    let rest = nothing more in
    (bs ∷ rest.0, (own, rest.1), (let zero_links = rest.2 in omega (arith, zero_links))) where
      nothing : (ks : List Linking) → (found : List (List (List ℕ)))
          × AreSomeCandidatesOf topology ks found × (links_of_all topology ks found ≡ 0)
      nothing [] = ([], tt, refl)
      nothing (k ∷ ks) =
          let rest = nothing ks in (
            [] ∷ rest.0,
            (no_bindings topology k, rest.1),
            (let zero_links = rest.2 in omega (arith, zero_links)),
          )
some_of topology [] (c ∷ css) h l bs own more = absurd h
some_of topology (k ∷ ls) [] h l bs own more = absurd h
some_of topology (k ∷ ls) (c ∷ css) h l bs own more =
    let rest = some_of topology ls css h.1 l bs own more in
    (c ∷ rest.0, (h.0.bindings, rest.1), (let same = rest.2 in omega (arith, same)))

pub more_links : (topology : Topology) (nodes : List Node) (ls all : List Linking) (l : Linking)
    (more : List Linking) (bs : List (List ℕ)) (left : ℕ) (g : Gathered)
    → IsGatheredTo topology nodes ls left g → AreBindings topology l bs
    → left < sum_by (candidate_links topology l) bs → all ≡ ls ++ l ∷ more
    → HaveMoreLinks topology all 1048576
more_links topology nodes ls all l more bs left g before own less is =
    let found = some_of topology ls before.candidates before.all l bs own more in
    let room = before.room in
    let sum = found.2 in
    subst (λ (ks : List Linking). HaveMoreLinks topology ks 1048576) (sym is) (record {
      candidates = found.0;
      some = found.1;
      many = omega (arith, room, sum, less);
    })

-- ---- the propagation at a place
prop_there : (ps : List PropSpec) (i : ℕ) (p : PropSpec) → i < length ps → p ≡ get_or ps i p
    → slice_get ps i ≡ Some p
prop_there ps i p less is = slice_get-get_or ps i p less ∙ ap Some (sym is)

pub linking_there : (ps : List PropSpec) (i : ℕ) (p : PropSpec) → i < length ps
    → p ≡ get_or ps i p → slice_get (map view_prop ps) i ≡ Some (view_prop p)
linking_there ps i p less is = mapped ps i (prop_there ps i p less is) where
  mapped : (xs : List PropSpec) (j : ℕ) → slice_get xs j ≡ Some p
      → slice_get (map view_prop xs) j ≡ Some (view_prop p)
  mapped [] j h = none_is_not p h
  mapped (x ∷ xs) zero h = ap (λ z. Some (view_prop z)) (same_Some x p h)
  mapped (x ∷ xs) (suc j) h = mapped xs j h

parted : (xs : List PropSpec) (i : ℕ) (p : PropSpec) → slice_get xs i ≡ Some p
    → map view_prop xs
    ≡ map view_prop (take i xs) ++ view_prop p ∷ map view_prop (drop (suc i) xs)
parted [] i p h = none_is_not p h
parted (x ∷ xs) zero p h = ap (λ z. view_prop z ∷ map view_prop xs) (same_Some x p h)
parted (x ∷ xs) (suc i) p h = ap (λ (ls : List Linking). view_prop x ∷ ls) (parted xs i p h)

pub props_step : (topology : Topology) (nodes : List Node) (ps : List PropSpec) (i : ℕ)
    (p : PropSpec) → i < length ps → p ≡ get_or ps i p → (bs : List (List ℕ)) (left rest : ℕ)
    (old new : Gathered) → IsGatheredTo topology nodes (map view_prop (take i ps)) left old
    → AreAllBindings topology (view_prop p) bs
    → rest + sum_by (candidate_links topology (view_prop p)) bs ≡ left
    → AddsCandidates topology nodes (view_prop p) bs old new
    → IsGatheredTo topology nodes (map view_prop (take (i + 1) ps)) rest new
props_step topology nodes ps i p less is bs left rest old new before all room step =
    let more : map view_prop (take (i + 1) ps)
    ≡ map view_prop (take i ps) ++ view_prop p ∷ [] =
    map_more view_prop ps i p less
    ∙ ap (λ (x : PropSpec). map view_prop (take i ps) ++ view_prop x ∷ []) (sym is) in
    subst (λ (ls : List Linking). IsGatheredTo topology nodes ls rest new) (sym more)
    (linking_gathered topology nodes (map view_prop (take i ps)) (view_prop p) bs left rest old new
    before all room step)

pub props_more : (topology : Topology) (nodes : List Node) (ps : List PropSpec) (i : ℕ)
    (p : PropSpec) → i < length ps → p ≡ get_or ps i p → (left : ℕ) (g : Gathered)
    → IsGatheredTo topology nodes (map view_prop (take i ps)) left g
    → (bs : List (List ℕ)) × (AreBindings topology (view_prop p) bs
    × (left < sum_by (candidate_links topology (view_prop p)) bs))
    → HaveMoreLinks topology (map view_prop ps) 1048576
props_more topology nodes ps i p less is left g before found =
    more_links topology nodes (map view_prop (take i ps)) (map view_prop ps) (view_prop p)
    (map view_prop (drop (suc i) ps)) found.0 left g before found.1.0 found.1.1
    (parted ps i p (prop_there ps i p less is))
