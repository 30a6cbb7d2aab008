-- What is kept for a name is the number of a declared event or engine at a path with its names.
use Rattle.std.proofs.Common.{◌≡◌, ◌<◌, ◌≤◌, ◌+◌, ◌&&◌, ◌||◌, ℕ, suc, zero, Bool, true, false}
use Rattle.std.proofs.Common.{List, [], ◌∷◌, length, map, take, zip, slice_get, get_or, Bor}
use Rattle.std.proofs.Common.{nat_lt}
use Rattle.std.proofs.Common.{Option, Some, None, refl, sym, ap, ◌∙◌, subst, arith, inl, inr}
use Rattle.std.proofs.Common.{if◌then◌else◌, bytes_eq}
use Rattle.std.specs.BTreeMap.{is_at, BTreeMap, IsOrdered}
use Rattle.std.specs.Cmp.{tied_itself}
use Rattle.std.specs.Cmp.Lexicographic.{pointwise}
use Rattle.std.specs.List.{list_all, list_any}
use Rattle.std.specs.List.Sorted.{IsStrictlySortedBy}
use Rattle.std.specs.Map.{keys_of, values_of}
use Rattle.std.specs.Ordering.{is_eq, is_lt}
use Rattle.std.specs.declared.cmp.Ordering.{Ordering}
use Rattle.std.specs.declared.cmp.Ordering.TheVariants.{Less, Equal, Greater}
use Rattle.std.proofs.lemmas.Bool.{cases_Bool, false≢true, and_from, or_right}
use Rattle.std.proofs.lemmas.Bool.Decides.{nat_tests}
use Rattle.std.proofs.lemmas.List.Folds.{list_any_more}
use Rattle.std.proofs.lemmas.Map.Entries.{place_from_lookup, btree_map_get_place}
use Rattle.std.proofs.lemmas.Map.Entries.{length-keys_of, length-values_of}
use Rattle.std.proofs.lemmas.Option.{same_Some}
use Rattle.std.proofs.lemmas.Slice.Eq.{bytes_eq-Decides}
use Rattle.fm_name.specs.Path.{names_of}
use Rattle.fm_name.specs.Events.{event_cmp, event_cmp_total, event_tie}
use Rattle.fm_name.specs.declared.events.EventName.{EventName}
use Rattle.fm_topo.specs.Topology.{Topology}
use Rattle.fm_topo.specs.Groups.{names_text, text_places, group_of}
use Rattle.ev_tree.specs.declared.tree.Declared.{Declared}
use Rattle.ev_incidence.specs.Sets.{ascends_by}
use Rattle.ev_words.specs.Iterators.{same_name}
use Rattle.ev_events.proofs.Places.{none_is_not, any_found, within_is, get_map, map_there}
use Rattle.ev_events.proofs.Agreeing.{same_from}
use Rattle.ev_events.proofs.Grouped.{names_all, text_of_names}
use Rattle.ev_events.specs.Placed.{AreKept, AreMore, ArePlaced, IsDeclaredAt, IsDeclaredName}
use Rattle.ev_events.specs.Placed.{event_at, is_before_name, is_name_at, is_that_name, names_joined}
use Rattle.ev_events.specs.Placed.{number_of_name}

-- ---- names
pub names_zipped : (ns : List (Bor (List ℕ))) (ps : List (List ℕ)) → length ns ≡ length ps
    → pointwise same_name (map (λ n. n.now) ns) ps
    ≡ list_all (λ p. same_name p.0.now p.1) (zip ns ps)
names_zipped [] [] e = refl
names_zipped [] (p ∷ ps) e = absurd (omega (arith, e))
names_zipped (n ∷ ns) [] e = absurd (omega (arith, e))
names_zipped (n ∷ ns) (p ∷ ps) e =
    ap (λ (b : Bool). same_name n.now p && b) (names_zipped ns ps (omega (arith, e)))

pub all_names : (xs : List (List ℕ)) → pointwise same_name xs xs ≡ true
all_names [] = refl
all_names (x ∷ xs) = rw (same_from x x refl) (all_names xs)

eq_is : (o : Ordering) → is_eq o ≡ true → o ≡ Equal
eq_is Less e = cc
eq_is Equal e = refl
eq_is Greater e = cc

-- ---- one path more
pub put_more : (topology : Topology) (d : Declared) (number : ℕ) (ats : List ℕ) (i at : ℕ)
    (first mid last : EventName → Option ℕ) (name : Option EventName) → i < length ats
    → at ≡ get_or ats i 0 → name ≡ event_at d (slice_get (keys_of topology) at)
    → ((q : EventName) → mid q
    ≡ (if is_name_at topology d (take i ats) q then Some number else first q))
    → ((q : EventName) → last q ≡ (if is_that_name name q then Some number else mid q))
    → (q : EventName) → last q
    ≡ (if is_name_at topology d (take (i + 1) ats) q then Some number else first q)
put_more topology d number ats i at first mid last name less is named before step q =
    let test = λ (n : ℕ). is_that_name (event_at d (slice_get (keys_of topology) n)) q in
    let more : is_name_at topology d (take (i + 1) ats) q
    ≡ (is_name_at topology d (take i ats) q || is_that_name name q) =
    list_any_more test ats i 0 less
    ∙ ap (λ (b : Bool). is_name_at topology d (take i ats) q || b)
    (ap test (sym is) ∙ ap (λ (o : Option EventName). is_that_name o q) (sym named)) in
    given (is_name_at topology d (take i ats) q) (is_that_name name q) refl refl more where
      given : (a b : Bool) → is_name_at topology d (take i ats) q ≡ a → is_that_name name q ≡ b
          → is_name_at topology d (take (i + 1) ats) q ≡ (a || b)
          → last q ≡ (if is_name_at topology d (take (i + 1) ats) q then Some number else first q)
      given true true e f w =
          step q ∙ ap (λ (x : Bool). if x then Some number else mid q) f
          ∙ sym (ap (λ (x : Bool). if x then Some number else first q) w)
      given true false e f w =
          step q ∙ ap (λ (x : Bool). if x then Some number else mid q) f ∙ before q
          ∙ ap (λ (x : Bool). if x then Some number else first q) e
          ∙ sym (ap (λ (x : Bool). if x then Some number else first q) w)
      given false true e f w =
          step q ∙ ap (λ (x : Bool). if x then Some number else mid q) f
          ∙ sym (ap (λ (x : Bool). if x then Some number else first q) w)
      given false false e f w =
          step q ∙ ap (λ (x : Bool). if x then Some number else mid q) f ∙ before q
          ∙ ap (λ (x : Bool). if x then Some number else first q) e
          ∙ sym (ap (λ (x : Bool). if x then Some number else first q) w)

-- ---- a declared one is at just the paths of its group
at_from : (topology : Topology) (d : Declared) (q : EventName) (at : ℕ) (o : Option (List ℕ))
    → slice_get (keys_of topology) at ≡ o → is_that_name (event_at d o) q ≡ true
    → IsDeclaredAt topology d q
at_from topology d q at None e h = absurd (false≢true h)
at_from topology d q at (Some path) e h =
    elim (cases_Bool (pointwise same_name (names_of path) d.names)) [
      | inl so ↦
          let tied = eq_is (event_cmp (record { class = d.class; path = path }) q) (rw so at h) in
          let is = event_tie (record { class = d.class; path = path }) q tied in
          subst (IsDeclaredAt topology d) is (record {
            class = refl;
            number = at;
            there = e;
            named = names_all (names_of path) d.names so;
          })
      | inr not_so ↦ absurd (false≢true (rw not_so at h))
    ]

pub name_is_at : (topology : Topology) (d : Declared) (ats : List ℕ) (q : EventName)
    → is_name_at topology d ats q ≡ true → IsDeclaredAt topology d q
name_is_at topology d ats q h =
    let test = λ (n : ℕ). is_that_name (event_at d (slice_get (keys_of topology) n)) q in
    let found = any_found test ats h in
    at_from topology d q found.1 (slice_get (keys_of topology) found.1) refl found.3

-- a number at which a text stands is among its places
in_places : (test : ℕ → Bool) (text : List ℕ) (more : Topology) (at i : ℕ) (path : List ℕ)
    → slice_get (keys_of more) i ≡ Some path → names_text path ≡ text → test (at + i) ≡ true
    → list_any test (text_places text at (map (λ place. names_text place.0) more)) ≡ true
in_places test text [] at i path s t h = none_is_not path s
in_places test text (place ∷ more) at zero path s t h =
    let here : bytes_eq (names_text place.0) text ≡ true =
    (bytes_eq-Decides (names_text place.0) text).1
    (ap names_text (same_Some place.0 path s) ∙ t) in
    let same : at + 0 ≡ at = omega arith in
    rw here (ap (λ (b : Bool).
    b || list_any test (text_places text (suc at) (map (λ p. names_text p.0) more)))
    (ap test (sym same) ∙ h))
in_places test text (place ∷ more) at (suc i) path s t h =
    let same : at + suc i ≡ suc at + i = omega arith in
    let later = in_places test text more (suc at) i path s t (ap test (sym same) ∙ h) in
    elim (cases_Bool (bytes_eq (names_text place.0) text)) [
      | inl so ↦ rw so (or_right (test at) _ later)
      | inr not_so ↦ rw not_so later
    ]

pub at_is_name : (topology : Topology) (d : Declared) (q : EventName) → IsDeclaredAt topology d q
    → is_name_at topology d (group_of (names_joined d.names) topology) q ≡ true
at_is_name topology d q h =
    let test = λ (n : ℕ). is_that_name (event_at d (slice_get (keys_of topology) n)) q in
    let named : pointwise same_name (names_of q.path) d.names ≡ true =
    ap (λ (ns : List (List ℕ)). pointwise same_name ns d.names) h.named ∙ all_names d.names in
    let whole : event_at d (slice_get (keys_of topology) h.number) ≡ Some q =
    ap (event_at d) h.there ∙ rw named
    (ap (λ (c : List ℕ). Some (record { class = c; path = q.path })) (sym h.class)) in
    let same : 0 + h.number ≡ h.number = omega arith in
    let passes : test (0 + h.number) ≡ true =
    ap test same ∙ ap (λ (o : Option EventName). is_that_name o q) whole
    ∙ ap is_eq (tied_itself event_cmp_total q) in
    in_places test (names_joined d.names) topology 0 h.number q.path h.there
    (text_of_names q.path ∙ ap names_joined h.named) passes

-- ---- entries
sorted_ascend : (xs : List EventName) → IsStrictlySortedBy event_cmp xs
    → ascends_by is_before_name xs ≡ true
unfolding IsStrictlySortedBy
sorted_ascend [] h = refl
sorted_ascend (x ∷ []) h = refl
sorted_ascend (x ∷ y ∷ ys) h =
    and_from (is_before_name x y) (ascends_by is_before_name (y ∷ ys)) (ap is_lt h.0.0)
    (sorted_ascend (y ∷ ys) h.1)

entry_at : (es : List (EventName × ℕ)) (i k : ℕ) (name : EventName)
    → slice_get (keys_of es) i ≡ Some name → slice_get (values_of es) i ≡ Some k
    → slice_get es i ≡ Some (name, k)
entry_at [] i k name s t = none_is_not name s
entry_at (e ∷ es) zero k name s t =
    let a = same_Some e.0 name s in let b = same_Some e.1 k t in λ i. Some (a i, b i)
entry_at (e ∷ es) (suc i) k name s t = entry_at es i k name s t

key_at : (es : List (EventName × ℕ)) (i : ℕ) (e : EventName × ℕ) → slice_get es i ≡ Some e
    → slice_get (keys_of es) i ≡ Some e.0
key_at es i e h = map_there (λ (p : EventName × ℕ). p.0) es i e h

-- ---- one declared one more
module _ (topology : Topology) (ds : List Declared) where
  pub none_kept : (entries : List (EventName × ℕ)) → entries ≡ [] → AreKept topology ds 0 entries
  none_kept entries none = record {
    each = λ name k h.
        none_is_not k (ap (λ (es : List (EventName × ℕ)). number_of_name es name) (sym none) ∙ h);
    all = λ k name less h. absurd (omega (arith, less));
  }

  pub kept_more : (i : ℕ) (d : Declared) (old new : List (EventName × ℕ)) → slice_get ds i ≡ Some d
      → ((q : EventName) → number_of_name new q
      ≡ (if is_name_at topology d (group_of (names_joined d.names) topology) q then Some i
      else number_of_name old q))
      → AreKept topology ds i old → AreKept topology ds (i + 1) new
  kept_more i d old new stands step kept =
      let here = λ (q : EventName).
      is_name_at topology d (group_of (names_joined d.names) topology) q in
      record {
        each = λ name k h. elim (cases_Bool (here name)) [
          | inl so ↦
              let is : i ≡ k = same_Some i k (sym (step name ∙ rw so refl) ∙ h) in
              let placed : IsDeclaredName topology ds i name = record {
                declared = d;
                stands = stands;
                at = name_is_at topology d (group_of (names_joined d.names) topology) name so;
              } in
              subst (λ (n : ℕ). IsDeclaredName topology ds n name) is placed
          | inr not_so ↦ kept.each name k (sym (step name ∙ rw not_so refl) ∙ h)
        ];
        all = λ k name less h. elim (cases_Bool (here name)) [
          | inl so ↦ (i, step name ∙ rw so refl)
          | inr not_so ↦ elim (cases_Bool (nat_lt k i)) [
            | inl early ↦
                let was = kept.all k name (grind (arith, nat_tests)) h in
                (was.0, step name ∙ rw not_so was.1)
            | inr late ↦
                let last : k ≡ i = grind (arith, nat_tests) in
                let same : h.declared ≡ d =
                same_Some h.declared d
                (sym h.stands ∙ ap (slice_get ds) last ∙ stands) in
                let at = subst (λ (x : Declared). IsDeclaredAt topology x name) same h.at in
                absurd (false≢true (sym not_so ∙ at_is_name topology d name at))
          ]
        ];
      }

  -- ---- what is kept, in order
  module _ (m : BTreeMap EventName ℕ) (order : IsOrdered event_cmp m) where
    kept_at : (count : ℕ) → AreKept topology ds count m.entries → (i k : ℕ) (name : EventName)
        → slice_get m.entries i ≡ Some (name, k) → IsDeclaredName topology ds k name
    kept_at count kept i k name h =
        kept.each name k (btree_map_get_place event_cmp_total m i name k order h)

    pub kept_placed : (count : ℕ) → length ds ≤ count → AreKept topology ds count m.entries
        → ArePlaced topology ds (keys_of m.entries) (values_of m.entries)
    kept_placed count long kept = record {
      ascend = sorted_ascend (keys_of m.entries) order;
      long = length-values_of m.entries ∙ sym (length-keys_of m.entries);
      each = λ i k name s t. kept_at count kept i k name (entry_at m.entries i k name s t);
      all = λ k name placed.
          let within = within_is ds k placed.declared placed.stands in
          let there = kept.all k name (omega (arith, within, long)) placed in
          let found = place_from_lookup (is_at (event_cmp name)) m.entries there.0 there.1 in
          let same = event_tie name found.1 (eq_is (event_cmp name found.1) found.3) in
          record {
            place = found.0;
            stands = key_at m.entries found.0 (found.1, there.0) found.2 ∙ ap Some (sym same);
          };
    }

    pub kept_many : (count limit : ℕ) → AreKept topology ds count m.entries
        → limit < length m.entries → AreMore topology ds limit
    kept_many count limit kept many = record {
      names = keys_of m.entries;
      ascend = sorted_ascend (keys_of m.entries) order;
      each = λ i name s.
          let e = get_map (λ (p : EventName × ℕ). p.0) m.entries i name s in
          let whole : slice_get m.entries i ≡ Some (name, e.0.1) =
          e.1 ∙ ap (λ (x : EventName). Some (x, e.0.1)) e.2 in
          (e.0.1, kept_at count kept i e.0.1 name whole);
      many = let long = length-keys_of m.entries in omega (arith, long, many);
    }
