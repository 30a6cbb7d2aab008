-- The candidates over the names in another order, with their instances back in the order of the
-- names, are the candidates.
use Rattle.std.proofs.Common.{◌≡◌, ◌<◌, ◌+◌, ◌||◌, ◌&&◌, ℕ, suc, zero, Bool, true, false, cond}
use Rattle.std.proofs.Common.{List, [], ◌∷◌, ◌++◌, length, map, slice_get, slice_index, position}
use Rattle.std.proofs.Common.{Option, Some, None, option_and_then, unwrap_or}
use Rattle.std.proofs.Common.{refl, sym, ap, ◌∙◌, subst, arith, inl, inr, ltb, zip}
use Rattle.std.specs.List.{list_any, list_all, position_or_len, sum_by}
use Rattle.std.proofs.lemmas.Bool.{cases_Bool, false≢true, or_left, or_right}
use Rattle.std.proofs.lemmas.List.{length-map}
use Rattle.std.proofs.lemmas.List.Folds.{list_any-append}
use Rattle.std.proofs.lemmas.List.Sums.{sum_by-cons}
use Rattle.std.proofs.lemmas.List.Sorted.{sum_by-IsPermutation}
use Rattle.std.proofs.lemmas.Option.{same_Some}
use Rattle.fm_name.specs.Path.{instances_of}
use Rattle.fm_topo.specs.Topology.{Topology}
use Rattle.ev_tree.specs.Pattern.{Pattern}
use Rattle.ev_tree.specs.declared.tree.At.{At}
use Rattle.ev_tree.specs.declared.tree.At.TheVariants as ats
use Rattle.ev_tree.specs.declared.tree.Part.{Part}
use Rattle.ev_check.specs.CheckedFile.{Linking}
use Rattle.ev_words.specs.Iterators.{same_name}
use Rattle.ev_join.specs.Order.{AreSmall, IsNotBefore}
use Rattle.ev_join.specs.Tables.{TableValue}
use Rattle.ev_join.specs.Candidates.{IsJoined, AreJoined, AreAllCandidates}
use Rattle.ev_join.specs.Candidates.{AreInOrder, links_at}
use Rattle.ev_join.proofs.Ordered.{among_before, among_ordered, ascend_apart, some_order}
use Rattle.ev_join.proofs.Ordering.{not_before_itself}
use Rattle.ev_events.specs.Names.{iterator_of, with_any, with_name, with_parts, with_patterns}
use Rattle.ev_events.specs.Names.{iterators}
use Rattle.ev_events.specs.Fits.{is_that, instance_bound, fits_at, fits, fitting, has_names}
use Rattle.ev_events.specs.Fits.{places_with}
use Rattle.ev_events.specs.Bindings.{IsBinding, AreBindings, AreAllBindings, candidate_links}
use Rattle.ev_events.specs.Bindings.{patterns_of}
use Rattle.ev_events.specs.Sheets.{AreTablesOf}
use Rattle.ev_events.specs.Slots.{first_place}
use Rattle.ev_events.specs.Turned.{instances_at, places_among, turned_names, with_names}
use Rattle.ev_events.specs.Turned.{with_numbered}
use Rattle.ev_events.proofs.Agreeing.{names_same, same_from}
use Rattle.ev_events.proofs.Joining.{links_same, pattern_at, row_there, rows_there}
use Rattle.ev_events.proofs.Joining.{sums_same, table_at}
use Rattle.ev_events.proofs.Known.{or_false}
use Rattle.ev_events.proofs.Places.{FirstAt, any_found, first_found, first_is, get_is, get_map}
use Rattle.ev_events.proofs.Places.{index_is, none_is_not, there_is, within_is, map_there}

-- ---- the same names, each once
-- no name stands at two places
abbrev pub AreApart : List (List ℕ) → Type 0
AreApart vs = (i j : ℕ) (v : List ℕ) → slice_get vs i ≡ Some v → slice_get vs j ≡ Some v → i ≡ j

there_any : (vs : List (List ℕ)) (i : ℕ) (v : List ℕ) → slice_get vs i ≡ Some v
    → list_any (same_name v) vs ≡ true
there_any [] i v at = none_is_not v at
there_any (w ∷ vs) zero v at = or_left (same_name v w) _ (same_from v w (sym (same_Some w v at)))
there_any (w ∷ vs) (suc i) v at = or_right (same_name v w) _ (there_any vs i v at)

-- a name that is behind others is one of them or the last
data IsEither (vs : List (List ℕ)) (w : List ℕ) (i : ℕ) (v : List ℕ) : Type 0 where
  Among : slice_get vs i ≡ Some v → IsEither vs w i v
  Last : i ≡ length vs → w ≡ v → IsEither vs w i v

either : (vs : List (List ℕ)) (w : List ℕ) (i : ℕ) (v : List ℕ)
    → slice_get (vs ++ w ∷ []) i ≡ Some v → IsEither vs w i v
either [] w zero v at = Last refl (same_Some w v at)
either [] w (suc i) v at = none_is_not v at
either (u ∷ vs) w zero v at = Among at
either (u ∷ vs) w (suc i) v at = deeper (either vs w i v at) where
  deeper : IsEither vs w i v → IsEither (u ∷ vs) w (suc i) v
  deeper (Among h) = Among h
  deeper (Last e same) = Last (ap suc e) same

apart_push : (vs : List (List ℕ)) (w : List ℕ) → AreApart vs → list_any (same_name w) vs ≡ false
    → AreApart (vs ++ w ∷ [])
apart_push vs w h none i j v at to = both (either vs w i v at) (either vs w j v to) where
  not_there : (k : ℕ) → slice_get vs k ≡ Some v → w ≡ v → ⊥
  not_there k there same =
      false≢true (sym none ∙ there_any vs k w (there ∙ ap Some (sym same)))

  both : IsEither vs w i v → IsEither vs w j v → i ≡ j
  both (Among p) (Among q) = h i j v p q
  both (Among p) (Last e same) = absurd (not_there i p same)
  both (Last e same) (Among q) = absurd (not_there j q same)
  both (Last e same) (Last f other) = e ∙ sym f

apart_name : (vs : List (List ℕ)) (w : List ℕ) → AreApart vs → AreApart (with_name vs w)
apart_name vs w h = elim (cases_Bool (list_any (same_name w) vs)) [
  | inl so ↦ rw so h
  | inr not_so ↦ rw not_so (apart_push vs w h not_so)
]

apart_any : (vs : List (List ℕ)) (o : Option (List ℕ)) → AreApart vs → AreApart (with_any vs o)
apart_any vs None h = h
apart_any vs (Some w) h = apart_name vs w h

apart_parts : (ps : List Part) (vs : List (List ℕ)) → AreApart vs → AreApart (with_parts vs ps)
apart_parts [] vs h = h
apart_parts (p ∷ ps) vs h =
    apart_parts ps (with_any vs (iterator_of p)) (apart_any vs (iterator_of p) h)

apart_patterns : (qs : List Pattern) (vs : List (List ℕ)) → AreApart vs
    → AreApart (with_patterns vs qs)
apart_patterns [] vs h = h
apart_patterns (q ∷ qs) vs h =
    apart_patterns qs (with_parts vs q.parts) (apart_parts q.parts vs h)

apart_numbered : (ns : List ℕ) (us vs : List (List ℕ)) → AreApart us
    → AreApart (with_numbered us vs ns)
apart_numbered [] us vs h = h
apart_numbered (n ∷ ns) us vs h =
    apart_numbered ns (with_any us (slice_get vs n)) vs (apart_any us (slice_get vs n) h)

apart_names : (vs us : List (List ℕ)) → AreApart us → AreApart (with_names us vs)
apart_names [] us h = h
apart_names (v ∷ vs) us h = apart_names vs (with_name us v) (apart_name us v h)

none_apart : AreApart []
none_apart i j v at to = none_is_not v at

pub iterators_apart : (l : Linking) → AreApart (iterators l)
iterators_apart l =
    apart_patterns l.right (with_patterns [] l.left) (apart_patterns l.left [] none_apart)

pub turned_apart : (vs : List (List ℕ)) (ns : List ℕ) → AreApart (turned_names vs ns)
turned_apart vs ns = apart_names vs (with_numbered [] vs ns) (apart_numbered ns [] vs none_apart)

-- ---- the same names
module _ (v : List ℕ) where
  abbrev has : List (List ℕ) → Bool
  has vs = list_any (same_name v) vs

  or_assoc : (a b c : Bool) → ((a || b) || c) ≡ (a || (b || c))
  or_assoc true b c = refl
  or_assoc false b c = refl

  has_more : (vs : List (List ℕ)) (w : List ℕ) → has (with_name vs w) ≡ (has vs || same_name v w)
  has_more vs w = elim (cases_Bool (list_any (same_name w) vs)) [
    | inl so ↦ rw so (sym (known so))
    | inr not_so ↦
        rw not_so (list_any-append (same_name v) vs (w ∷ [])
        ∙ ap (λ (b : Bool). has vs || b) (or_false (same_name v w)))
  ] where
    known : list_any (same_name w) vs ≡ true → (has vs || same_name v w) ≡ has vs
    known so = elim (cases_Bool (same_name v w)) [
      | inl same ↦
          let here : has vs ≡ true =
          ap (λ (u : List ℕ). list_any (same_name u) vs) (names_same v w same) ∙ so in
          or_left (has vs) _ here ∙ sym here
      | inr other ↦ ap (λ (b : Bool). has vs || b) other ∙ or_false (has vs)
    ]

  has_names_too : (vs us : List (List ℕ)) → has (with_names us vs) ≡ (has us || has vs)
  has_names_too [] us = sym (or_false (has us))
  has_names_too (w ∷ vs) us =
      has_names_too vs (with_name us w) ∙ ap (λ (b : Bool). b || has vs) (has_more us w)
      ∙ or_assoc (has us) (same_name v w) (has vs)

  -- names of some are no others
  only_any : (vs us : List (List ℕ)) (n : ℕ) → (has us ≡ true → has vs ≡ true)
      → has (with_any us (slice_get vs n)) ≡ true → has vs ≡ true
  only_any vs us n h = by (slice_get vs n) refl where
    by : (o : Option (List ℕ)) → slice_get vs n ≡ o → has (with_any us o) ≡ true → has vs ≡ true
    by None at k = h k
    by (Some w) at k = elim (cases_Bool (has us)) [
      | inl so ↦ h so
      | inr not_so ↦
          let same : same_name v w ≡ true =
          sym (ap (λ (b : Bool). b || same_name v w) not_so) ∙ sym (has_more us w) ∙ k in
          there_any vs n v (at ∙ ap Some (sym (names_same v w same)))
    ]

  only_numbered : (ns : List ℕ) (us vs : List (List ℕ)) → (has us ≡ true → has vs ≡ true)
      → has (with_numbered us vs ns) ≡ true → has vs ≡ true
  only_numbered [] us vs h k = h k
  only_numbered (n ∷ ns) us vs h k =
      only_numbered ns (with_any us (slice_get vs n)) vs (only_any vs us n h) k

  pub turned_alike : (vs : List (List ℕ)) (ns : List ℕ) → has (turned_names vs ns) ≡ has vs
  turned_alike vs ns = has_names_too vs (with_numbered [] vs ns) ∙ same where
    first : List (List ℕ)
    first = with_numbered [] vs ns

    same : (has (with_numbered [] vs ns) || has vs) ≡ has vs
    same = elim (cases_Bool (has (with_numbered [] vs ns))) [
      | inl so ↦
          or_left (has (with_numbered [] vs ns)) _ so
          ∙ sym (only_numbered ns [] vs (λ no. absurd (false≢true no)) so)
      | inr not_so ↦ ap (λ (b : Bool). b || has vs) not_so
    ]

-- ---- bindings over the names in another order
-- what a binding of some names gives to others
abbrev pub rebound : List (List ℕ) → List (List ℕ) → List ℕ → List ℕ
rebound ws vs c = instances_at (places_among ws vs) c

none_first : {X : Type 0} (test : X → Bool) (xs : List X) → list_any test xs ≡ false
    → position_or_len test xs ≡ length xs
none_first test [] h = refl
none_first test (x ∷ xs) h = elim (cases_Bool (test x)) [
  | inl so ↦
      absurd (false≢true (sym h ∙ or_left (test x) (list_any test xs) so))
  | inr not_so ↦
      let first = first_is test x xs false not_so in
      let more = none_first test xs (sym (ap (λ (b : Bool). b || list_any test xs) not_so) ∙ h) in
      omega (arith, first, more)
]

no_place : {X : Type 0} (test : X → Bool) (xs : List X) → list_any test xs ≡ false
    → position test xs ≡ None
no_place test xs h =
    let last = none_first test xs h in
    let past : ltb (position_or_len test xs) (length xs) ≡ false = grind (arith, last) in
    ap (λ (b : Bool). cond b (Some (position_or_len test xs)) None) past

place_in : (us : List (List ℕ)) (v : List ℕ) → list_any (same_name v) us ≡ true
    → FirstAt (same_name v) us
place_in us v h =
    let found = any_found (same_name v) us h in
    first_found (same_name v) us found.0 found.1 found.2 found.3

module _ (vs ws : List (List ℕ))
    (same : (v : List ℕ) → list_any (same_name v) ws ≡ list_any (same_name v) vs) (c : List ℕ)
    (full : length c ≡ length ws) where
  abbrev given : List ℕ → ℕ
  given v = slice_index c (first_place (same_name v) ws)

  rebound_at : (i : ℕ) (v : List ℕ) → slice_get vs i ≡ Some v
      → slice_get (rebound ws vs c) i ≡ Some (given v)
  rebound_at i v at =
      map_there (slice_index c) (places_among ws vs) i (first_place (same_name v) ws)
      (map_there (λ (u : List ℕ). first_place (same_name u) ws) vs i v at)

  given_is : (v : List ℕ) (q : FirstAt (same_name v) ws) → given v ≡ slice_index c q.place
  given_is v q = ap (λ (o : Option ℕ). slice_index c (unwrap_or o 0)) q.is

  -- each name has the instance that it had
  pub instance_same : (v : List ℕ) → instance_bound vs (rebound ws vs c) v ≡ instance_bound ws c v
  instance_same v = elim (cases_Bool (list_any (same_name v) vs)) [
    | inl so ↦
        let p = place_in vs v so in
        let q = place_in ws v (same v ∙ so) in
        let named : p.item ≡ v = sym (names_same v p.item p.passes) in
        let there = rebound_at p.place v (p.stands ∙ ap Some named) in
        let within : q.place < length c =
        subst (λ (n : ℕ). q.place < n) (sym full) (within_is ws q.place q.item q.stands) in
        ap (option_and_then (slice_get (rebound ws vs c))) p.is
        ∙ there ∙ ap Some (given_is v q)
        ∙ sym (get_is c q.place (slice_index c q.place) within refl)
        ∙ sym (ap (option_and_then (slice_get c)) q.is)
    | inr not_so ↦
        ap (option_and_then (slice_get (rebound ws vs c))) (no_place (same_name v) vs not_so)
        ∙ sym (ap (option_and_then (slice_get c)) (no_place (same_name v) ws (same v ∙ not_so)))
  ]

  -- and the binding comes back
  pub comes_back : AreApart ws → rebound vs ws (rebound ws vs c) ≡ c
  comes_back apart = same_lists (rebound vs ws (rebound ws vs c)) c as_long at_each where
    as_long : length (rebound vs ws (rebound ws vs c)) ≡ length c
    as_long =
        let one = length-map (places_among vs ws) (slice_index (rebound ws vs c)) in
        let two = length-map ws (λ (v : List ℕ). first_place (same_name v) vs) in
        omega (arith, one, two, full)

    same_lists : (xs ys : List ℕ) → length xs ≡ length ys
        → ((i x : ℕ) → slice_get ys i ≡ Some x → slice_get xs i ≡ Some x) → xs ≡ ys
    same_lists [] [] long h = refl
    same_lists [] (y ∷ ys) long h = absurd (omega (arith, long))
    same_lists (x ∷ xs) [] long h = absurd (omega (arith, long))
    same_lists (x ∷ xs) (y ∷ ys) long h =
        λ i. same_Some x y (h 0 y refl) i
        ∷ same_lists xs ys (omega (arith, long)) (λ j z at. h (suc j) z at) i

    at_each : (i x : ℕ) → slice_get c i ≡ Some x
        → slice_get (rebound vs ws (rebound ws vs c)) i ≡ Some x
    at_each i x at =
        let less : i < length ws =
        subst (λ (n : ℕ). i < n) full (within_is c i x at) in
        let w = there_is ws i less in
        let in_vs : list_any (same_name w.0) vs ≡ true =
        sym (same w.0) ∙ there_any ws i w.0 w.1 in
        let p = place_in vs w.0 in_vs in
        let q = place_in ws w.0 (there_any ws i w.0 w.1) in
        let named : p.item ≡ w.0 = sym (names_same w.0 p.item p.passes) in
        let own : q.item ≡ w.0 = sym (names_same w.0 q.item q.passes) in
        let place : q.place ≡ i = apart q.place i w.0 (q.stands ∙ ap Some own) w.1 in
        let there = rebound_at p.place w.0 (p.stands ∙ ap Some named) in
        let value : given w.0 ≡ x =
        given_is w.0 q ∙ ap (slice_index c) place ∙ index_is c i x at in
        map_there (slice_index (rebound ws vs c)) (places_among vs ws) i
        (first_place (same_name w.0) vs)
        (map_there (λ (u : List ℕ). first_place (same_name u) vs) ws i w.0 w.1)
        ∙ ap (λ (o : Option ℕ). Some (slice_index (rebound ws vs c) (unwrap_or o 0))) p.is
        ∙ ap Some (index_is (rebound ws vs c) p.place (given w.0) there ∙ value)

-- ---- the same paths fit
module _ (vs ws : List (List ℕ)) (b c : List ℕ)
    (same : (v : List ℕ) → instance_bound vs b v ≡ instance_bound ws c v) where
  fits_at_same : (parts : List Part) (xs name : List ℕ) (at : At) (x : ℕ)
      → fits_at vs b parts xs name at x ≡ fits_at ws c parts xs name at x
  fits_at_same parts xs name ats.Bare x = ap (λ (o : Option ℕ). is_that o x) (same name)
  fits_at_same parts xs name (ats.Down v) x = ap (λ (o : Option ℕ). is_that o x) (same v)
  fits_at_same parts xs name (ats.Number n) x = refl
  fits_at_same parts xs name (ats.Across v) x = refl

  fits_same : (parts : List Part) → fits vs b parts ≡ fits ws c parts
  fits_same parts =
      λ i path. has_names parts path
      && list_all (λ p. fits_at_same parts (instances_of path) p.0.name p.0.at p.1 i)
      (zip parts (instances_of path))

  pub fitting_same : (topology : Topology) (parts : List Part)
      → fitting topology vs b parts ≡ fitting topology ws c parts
  fitting_same topology parts = λ i. places_with (fits_same parts i) 0 topology

-- ---- small numbers
small_index : (c : List ℕ) (i : ℕ) → AreSmall c → slice_index c i < 4294967296
small_index [] i h = omega arith
small_index (x ∷ c) zero h = h.0
small_index (x ∷ c) (suc i) h = small_index c i h.1

small_at : (places c : List ℕ) → AreSmall c → AreSmall (instances_at places c)
small_at [] c h = tt
small_at (p ∷ places) c h = (small_index c p h, small_at places c h)

-- ---- the candidates
module _ (topology : Topology) (l : Linking) (ws : List (List ℕ)) (ts : List TableValue)
    (same : (v : List ℕ) → list_any (same_name v) ws ≡ list_any (same_name v) (iterators l))
    (apart : AreApart ws) (tables : AreTablesOf topology ws (patterns_of l) ts) where
  abbrev back : List ℕ → List ℕ
  back c = rebound ws (iterators l) c

  same_too : (v : List ℕ) → list_any (same_name v) (iterators l) ≡ list_any (same_name v) ws
  same_too v = sym (same v)

  as_long : (us vs : List (List ℕ)) (c : List ℕ) → length (rebound us vs c) ≡ length vs
  as_long us vs c =
      let one = length-map (places_among us vs) (slice_index c) in
      let two = length-map vs (λ (v : List ℕ). first_place (same_name v) us) in
      omega (arith, one, two)

  back_fitting : (c : List ℕ) → length c ≡ length ws → (parts : List Part)
      → fitting topology (iterators l) (back c) parts ≡ fitting topology ws c parts
  back_fitting c full parts =
      fitting_same (iterators l) ws (back c) c (instance_same (iterators l) ws same c full)
      topology parts

  binding_back : (c : List ℕ) → IsJoined ts (length ws) c → IsBinding topology l (back c)
  binding_back c h = record {
    full = as_long ws (iterators l) c;
    small = small_at (places_among ws (iterators l)) c h.small;
    fits = λ j q at.
        let t = table_at topology ws (patterns_of l) ts j q tables at in
        let some = rows_there t.0 c (h.fits.each j t.0 t.1) in
        subst (λ (ns : List ℕ). 0 < length ns) (sym (back_fitting c h.full q.parts))
        (subst (λ (n : ℕ). 0 < n) (t.2.count c h.full) some);
  }

  candidate_on : (b : List ℕ) → IsBinding topology l b
      → IsJoined ts (length ws) (rebound (iterators l) ws b)
  candidate_on b h =
      let c = rebound (iterators l) ws b in
      let full = as_long (iterators l) ws b in
      record {
        full = full;
        small = small_at (places_among (iterators l) ws) b h.small;
        fits = record {
          each = λ j t at.
              let q = pattern_at topology ws (patterns_of l) ts j t tables at in
              let alike = fitting_same ws (iterators l) c b
              (instance_same ws (iterators l) same_too b h.full) topology q.0.parts in
              row_there topology ws t c
              (subst (λ (n : ℕ). 0 < n) (sym (q.2.count c full))
              (subst (λ (ns : List ℕ). 0 < length ns) (sym alike) (h.fits j q.0 q.1)));
        };
      }

  links_back : (c : List ℕ) → IsJoined ts (length ws) c
      → links_at ts c ≡ candidate_links topology l (back c)
  links_back c h =
      links_same topology ws (patterns_of l) ts c tables h.full
      ∙ (λ i. sum_by (λ (q : Pattern). length (sym (back_fitting c h.full q.parts) i))
      (patterns_of l))

  sum_map : (f : List ℕ → ℕ) (cs : List (List ℕ))
      → sum_by (λ c. f (back c)) cs ≡ sum_by f (map back cs)
  sum_map f [] = refl
  sum_map f (c ∷ cs) =
      sum_by-cons (λ d. f (back d)) c cs ∙ (λ i. f (back c) + sum_map f cs i)
      ∙ sym (sum_by-cons f (back c) (map back cs))

  module _ (cs bs : List (List ℕ)) (h : AreJoined ts (length ws) cs)
      (moved : AreInOrder (map back cs) bs) where
    pub turned_links : sum_by (links_at ts) cs ≡ sum_by (candidate_links topology l) bs
    turned_links =
        sums_same (links_at ts) (λ c. candidate_links topology l (back c)) cs
        (λ i c at. links_back c (h.each i c at))
        ∙ sum_map (candidate_links topology l) cs
        ∙ sym (sum_by-IsPermutation (candidate_links topology l) (map back cs) bs moved.same)

    binding_at : (i : ℕ) (b : List ℕ) → slice_get bs i ≡ Some b → IsBinding topology l b
    binding_at i b at =
        let among = among_before (map back cs) bs moved b (record { place = i; stands = at }) in
        let c = get_map back cs among.place b among.stands in
        subst (IsBinding topology l) c.2 (binding_back c.0 (h.each among.place c.0 c.1))

    differ : (i j : ℕ) (a b : List ℕ) → i < j → slice_get (map back cs) i ≡ Some a
        → slice_get (map back cs) j ≡ Some b → a ≡ b → ⊥
    differ i j a b less at to alike =
        let c = get_map back cs i a at in
        let d = get_map back cs j b to in
        let one = comes_back (iterators l) ws same c.0 (h.each i c.0 c.1).full apart in
        let two = comes_back (iterators l) ws same d.0 (h.each j d.0 d.1).full apart in
        let equal : c.0 ≡ d.0 =
        sym one ∙ ap (rebound (iterators l) ws) (c.2 ∙ alike ∙ sym d.2) ∙ two in
        h.ascend i j c.0 d.0 less c.1 d.1
        (subst (IsNotBefore c.0) equal (not_before_itself c.0))

    pub turned_bindings : AreBindings topology l bs
    turned_bindings = record {
      each = binding_at;
      ascend = ascend_apart (map back cs) bs moved differ;
    }

  pub turned_all : (cs bs : List (List ℕ)) → AreAllCandidates ts (length ws) cs
      → AreInOrder (map back cs) bs → AreAllBindings topology l bs
  turned_all cs bs h moved = record {
    bindings = turned_bindings cs bs h.candidates moved;
    all = λ b k.
        let found = h.all (rebound (iterators l) ws b) (candidate_on b k) in
        let own = comes_back ws (iterators l) same_too b k.full (iterators_apart l) in
        among_ordered (map back cs) bs moved b
        (record {
          place = found.place;
          stands = map_there back cs found.place (rebound (iterators l) ws b) found.stands
              ∙ ap Some own;
        });
  }

  pub turned_many : (limit : ℕ) (cs : List (List ℕ)) → AreJoined ts (length ws) cs
      → limit < sum_by (links_at ts) cs
      → (bs : List (List ℕ))
      × (AreBindings topology l bs × (limit < sum_by (candidate_links topology l) bs))
  turned_many limit cs h more =
      let found = some_order (map back cs) in (
        found.0,
        (
          turned_bindings cs found.0 h found.1,
          subst (λ (n : ℕ). limit < n) (turned_links cs found.0 h found.1) more,
        ),
      )

-- ---- what is answered
module _ (topology : Topology) (l : Linking) (ws : List (List ℕ)) (ns : List ℕ)
    (turned : ws ≡ turned_names (iterators l) ns) where
  pub names_alike : (v : List ℕ) → list_any (same_name v) ws ≡ list_any (same_name v) (iterators l)
  names_alike v = ap (list_any (same_name v)) turned ∙ turned_alike v (iterators l) ns

  names_apart : AreApart ws
  names_apart = subst AreApart (sym turned) (turned_apart (iterators l) ns)

  module _ (ts : List TableValue) (tables : AreTablesOf topology ws (patterns_of l) ts)
      (count : ℕ) (counted : count ≡ length ws) where
    module _ (cs found bs : List (List ℕ)) (h : AreAllCandidates ts count cs)
        (turns : found ≡ map (rebound ws (iterators l)) cs) (moved : AreInOrder found bs) where
      all_here : AreAllCandidates ts (length ws) cs
      all_here = subst (λ (n : ℕ). AreAllCandidates ts n cs) counted h

      in_order : AreInOrder (map (rebound ws (iterators l)) cs) bs
      in_order = subst (λ (ds : List (List ℕ)). AreInOrder ds bs) turns moved

      pub answer_all : AreAllBindings topology l bs
      answer_all = turned_all topology l ws ts names_alike names_apart tables cs bs all_here
          in_order

      pub answer_left : (left limit : ℕ) → left + sum_by (links_at ts) cs ≡ limit
          → left + sum_by (candidate_links topology l) bs ≡ limit
      answer_left left limit sum =
          ap (λ (n : ℕ). left + n)
          (sym (turned_links topology l ws ts names_alike names_apart tables cs bs
          all_here.candidates in_order))
          ∙ sum

    pub answer_many : (limit : ℕ) → ((cs : List (List ℕ))
        × (AreJoined ts count cs × (limit < sum_by (links_at ts) cs)))
        → (bs : List (List ℕ))
        × (AreBindings topology l bs × (limit < sum_by (candidate_links topology l) bs))
    answer_many limit found =
        turned_many topology l ws ts names_alike names_apart tables limit found.0
        (subst (λ (n : ℕ). AreJoined ts n found.0) counted found.1.0) found.1.1
