-- The candidates of the tables of a propagation are its candidates.
use Rattle.std.proofs.Common.{◌≡◌, ◌<◌, ◌+◌, ◌⊎◌, ℕ, suc, zero, Bool, true, List, [], ◌∷◌, ◌++◌}
use Rattle.std.proofs.Common.{length, filter, slice_get, Some, refl, sym, ap, ◌∙◌, subst}
use Rattle.std.proofs.Common.{arith, inl, inr, append_assoc, map, take, get_or}
use Rattle.std.specs.List.{sum_by}
use Rattle.std.proofs.lemmas.Bool.{cases_Bool}
use Rattle.std.proofs.lemmas.List.Sums.{sum_by-cons}
use Rattle.std.proofs.lemmas.Option.{slice_get-get_or, same_Some}
use Rattle.std.proofs.Math.Seq.{take-suc}
use Rattle.std.proofs.lemmas.List.{nil_from_length}
use Rattle.fm_topo.specs.Topology.{Topology}
use Rattle.ev_tree.specs.Pattern.{Pattern, view_pattern}
use Rattle.ev_tree.specs.declared.tree.SidePattern.{SidePattern}
use Rattle.ev_check.specs.CheckedFile.{Linking}
use Rattle.ev_join.specs.Order.{IsNotBefore, is_begun, placing}
use Rattle.ev_join.specs.Tables.{TableValue, HasRow, bound_values, rows_at}
use Rattle.ev_join.specs.Candidates.{IsJoined, AreJoined, AreAllCandidates}
use Rattle.ev_join.specs.Candidates.{links_at}
use Rattle.ev_join.specs.declared.table.Row.{Row}
use Rattle.ev_join.proofs.Placings.{begun}
use Rattle.ev_join.proofs.Collecting.{some_link}
use Rattle.ev_events.specs.Names.{iterators, with_patterns}
use Rattle.ev_events.specs.Fits.{fitting}
use Rattle.ev_events.specs.Bindings.{IsBinding, AreBindings, AreAllBindings, candidate_links}
use Rattle.ev_events.specs.Bindings.{patterns_of}
use Rattle.ev_events.specs.Sheets.{IsTableOf, AreTablesOf}
use Rattle.ev_events.proofs.Places.{none_is_not, map_there}

-- one table more
pub tables_more : (topology : Topology) (vs : List (List ℕ)) (qs : List Pattern)
    (ts : List TableValue) (q : Pattern) (t : TableValue) → AreTablesOf topology vs qs ts
    → IsTableOf topology vs q.parts t → AreTablesOf topology vs (qs ++ q ∷ []) (ts ++ t ∷ [])
tables_more topology vs [] [] q t h own = (own, tt)
tables_more topology vs [] (u ∷ ts) q t h own = absurd h
tables_more topology vs (p ∷ qs) [] q t h own = absurd h
tables_more topology vs (p ∷ qs) (u ∷ ts) q t h own =
    (h.0, tables_more topology vs qs ts q t h.1 own)

pub map_push : {X Y : Type 0} (f : X → Y) (xs : List X) (x : X)
    → map f (xs ++ x ∷ []) ≡ map f xs ++ f x ∷ []
map_push f [] x = refl
map_push f (y ∷ xs) x = ap (λ (zs : List _). f y ∷ zs) (map_push f xs x)

-- the pattern at a place
pub pattern_there : (ps : List SidePattern) (j : ℕ) (x d : SidePattern) → j < length ps
    → x ≡ get_or ps j d → slice_get (map view_pattern ps) j ≡ Some (view_pattern x)
pattern_there ps j x d less is =
    map_there view_pattern ps j x (slice_get-get_or ps j d less ∙ ap Some (sym is))

-- one pattern more has its table
pub tables_step : (topology : Topology) (vs : List (List ℕ)) (qs : List Pattern)
    (ps : List SidePattern) (j : ℕ) (x d : SidePattern) (ts new : List TableValue) (t : TableValue)
    → j < length ps → x ≡ get_or ps j d
    → AreTablesOf topology vs (qs ++ map view_pattern (take j ps)) ts
    → IsTableOf topology vs x.parts t → new ≡ ts ++ t ∷ []
    → AreTablesOf topology vs (qs ++ map view_pattern (take (j + 1) ps)) new
tables_step topology vs qs ps j x d ts new t less is h own put =
    let one : j + 1 ≡ suc j = omega arith in
    let more : take (j + 1) ps ≡ take j ps ++ x ∷ [] =
    ap (λ (n : ℕ). take n ps) one ∙ take-suc ps j d less
    ∙ ap (λ (y : SidePattern). take j ps ++ y ∷ []) (sym is) in
    let all : qs ++ map view_pattern (take (j + 1) ps)
    ≡ (qs ++ map view_pattern (take j ps)) ++ view_pattern x ∷ [] =
    ap (λ (xs : List SidePattern). qs ++ map view_pattern xs) more
    ∙ ap (λ (rs : List Pattern). qs ++ rs) (map_push view_pattern (take j ps) x)
    ∙ sym (append_assoc qs (map view_pattern (take j ps)) (view_pattern x ∷ [])) in
    subst (AreTablesOf topology vs (qs ++ map view_pattern (take (j + 1) ps))) (sym put)
    (subst (λ (rs : List Pattern). AreTablesOf topology vs rs (ts ++ t ∷ [])) (sym all)
    (tables_more topology vs (qs ++ map view_pattern (take j ps)) ts (view_pattern x) t h own))

-- the row of a filter that is not empty
passing_there : {X : Type 0} (p : X → Bool) (xs : List X) → 0 < length (filter p xs)
    → (i : ℕ) × (x : X) × (slice_get xs i ≡ Some x) × (p x ≡ true)
passing_there p [] h = absurd (omega (arith, h))
passing_there p (x ∷ xs) h = elim (cases_Bool (p x)) [
  | inl so ↦ (0, x, refl, so)
  | inr not_so ↦
      let rest : filter p (x ∷ xs) ≡ filter p xs = rw not_so refl in
      let more = passing_there p xs (subst (λ (ys : List _). 0 < length ys) rest h) in
      (suc more.0, more.1, more.2, more.3)
]

module _ (topology : Topology) (vs : List (List ℕ)) where
  pub table_at : (qs : List Pattern) (ts : List TableValue) (j : ℕ) (q : Pattern)
      → AreTablesOf topology vs qs ts → slice_get qs j ≡ Some q
      → (t : TableValue) × (slice_get ts j ≡ Some t) × IsTableOf topology vs q.parts t
  table_at [] ts j q h at = none_is_not q at
  table_at (p ∷ qs) [] j q h at = absurd h
  table_at (p ∷ qs) (t ∷ ts) zero q h at =
      (t, refl, subst (λ (r : Pattern). IsTableOf topology vs r.parts t) (same_Some p q at) h.0)
  table_at (p ∷ qs) (t ∷ ts) (suc j) q h at = table_at qs ts j q h.1 at

  pub pattern_at : (qs : List Pattern) (ts : List TableValue) (j : ℕ) (t : TableValue)
      → AreTablesOf topology vs qs ts → slice_get ts j ≡ Some t
      → (q : Pattern) × (slice_get qs j ≡ Some q) × IsTableOf topology vs q.parts t
  pattern_at [] [] j t h at = none_is_not t at
  pattern_at [] (u ∷ ts) j t h at = absurd h
  pattern_at (p ∷ qs) [] j t h at = absurd h
  pattern_at (p ∷ qs) (u ∷ ts) zero t h at =
      (p, refl, subst (IsTableOf topology vs p.parts) (same_Some u t at) h.0)
  pattern_at (p ∷ qs) (u ∷ ts) (suc j) t h at = pattern_at qs ts j t h.1 at

  pub links_same : (qs : List Pattern) (ts : List TableValue) (b : List ℕ)
      → AreTablesOf topology vs qs ts → length b ≡ length vs
      → links_at ts b ≡ sum_by (λ (q : Pattern). length (fitting topology vs b q.parts)) qs
  links_same [] [] b h full = refl
  links_same [] (t ∷ ts) b h full = absurd h
  links_same (q ∷ qs) [] b h full = absurd h
  links_same (q ∷ qs) (t ∷ ts) b h full =
      let one = h.0.count b full in
      let more = links_same qs ts b h.1 full in
      sum_by-cons (λ (u : TableValue). length (rows_at u b)) t ts
      ∙ (λ i. one i + more i)
      ∙ sym (sum_by-cons (λ (r : Pattern). length (fitting topology vs b r.parts)) q qs)

  pub row_there : (t : TableValue) (b : List ℕ) → 0 < length (rows_at t b)
      → HasRow t.rows (bound_values t.columns b)
  row_there t b h =
      let k = bound_values t.columns b in
      let r = passing_there (λ (x : Row). is_begun (placing x.values k)) t.rows h in
      let found = begun r.1.values k r.3 in
      record { place = r.0; row = r.1; stands = r.2; rest = found.rest; begins = found.is }

pub rows_there : (t : TableValue) (b : List ℕ) → HasRow t.rows (bound_values t.columns b)
    → 0 < length (rows_at t b)
rows_there t b row =
    let some = some_link (t ∷ []) b (omega arith) (record { each = only }) in
    let sum = sum_by-cons (λ (u : TableValue). length (rows_at u b)) t [] in
    omega (arith, some, sum) where
      only : (j : ℕ) (u : TableValue) → slice_get (t ∷ []) j ≡ Some u
          → HasRow u.rows (bound_values u.columns b)
      only zero u at =
          subst (λ (v : TableValue). HasRow v.rows (bound_values v.columns b)) (same_Some t u at)
          row
      only (suc j) u at = none_is_not u at

pub sums_same : (f g : List ℕ → ℕ) (bs : List (List ℕ))
    → ((i : ℕ) (b : List ℕ) → slice_get bs i ≡ Some b → f b ≡ g b) → sum_by f bs ≡ sum_by g bs
sums_same f g [] h = refl
sums_same f g (b ∷ bs) h =
    sum_by-cons f b bs ∙ (λ i. h 0 b refl i + sums_same f g bs (λ j c at. h (suc j) c at) i)
    ∙ sym (sum_by-cons g b bs)

module _ (topology : Topology) (l : Linking) (ts : List TableValue)
    (tables : AreTablesOf topology (iterators l) (patterns_of l) ts) where
  binding_from : (b : List ℕ) → IsJoined ts (length (iterators l)) b → IsBinding topology l b
  binding_from b h = record {
    full = h.full;
    small = h.small;
    fits = λ j q at.
        let t = table_at topology (iterators l) (patterns_of l) ts j q tables at in
        let row = h.fits.each j t.0 t.1 in
        subst (λ (n : ℕ). 0 < n) (t.2.count b h.full) (rows_there t.0 b row);
  }

  candidate_from : (b : List ℕ) → IsBinding topology l b → IsJoined ts (length (iterators l)) b
  candidate_from b h = record {
    full = h.full;
    small = h.small;
    fits = record {
      each = λ j t at.
          let q = pattern_at topology (iterators l) (patterns_of l) ts j t tables at in
          row_there topology (iterators l) t b
          (subst (λ (n : ℕ). 0 < n) (sym (q.2.count b h.full)) (h.fits j q.0 q.1));
    };
  }

  pub bindings_from : (bs : List (List ℕ)) → AreJoined ts (length (iterators l)) bs
      → AreBindings topology l bs
  bindings_from bs h = record {
    each = λ i b at. binding_from b (h.each i b at);
    ascend = h.ascend;
  }

  pub all_from : (bs : List (List ℕ)) → AreAllCandidates ts (length (iterators l)) bs
      → AreAllBindings topology l bs
  all_from bs h = record {
    bindings = bindings_from bs h.candidates;
    all = λ b k. h.all b (candidate_from b k);
  }

  pub sum_from : (bs : List (List ℕ)) → AreJoined ts (length (iterators l)) bs
      → sum_by (links_at ts) bs ≡ sum_by (candidate_links topology l) bs
  sum_from bs h =
      sums_same (links_at ts) (candidate_links topology l) bs
      (λ i b at. links_same topology (iterators l) (patterns_of l) ts b tables (h.each i b at).full)

-- ---- a propagation of no pattern
no_pattern : (left right : List Pattern) → left ++ right ≡ [] → (left ≡ []) × (right ≡ [])
no_pattern [] right h = (refl, h)
no_pattern (q ∷ left) right h = absurd (let bad : ⊥ = cc in bad)

no_names : (l : Linking) → patterns_of l ≡ [] → iterators l ≡ []
no_names l h =
    let none = no_pattern l.left l.right h in
    λ i. with_patterns (with_patterns [] (none.0 i)) (none.1 i)

pub no_tables : (topology : Topology) (vs : List (List ℕ)) (qs : List Pattern)
    → AreTablesOf topology vs qs [] → qs ≡ []
no_tables topology vs [] h = refl
no_tables topology vs (q ∷ qs) h = absurd h

pub tables_many : (topology : Topology) (vs : List (List ℕ)) (qs : List Pattern)
    (ts : List TableValue) → AreTablesOf topology vs qs ts → length ts ≡ length qs
tables_many topology vs [] [] h = refl
tables_many topology vs [] (t ∷ ts) h = absurd h
tables_many topology vs (q ∷ qs) [] h = absurd h
tables_many topology vs (q ∷ qs) (t ∷ ts) h = ap suc (tables_many topology vs qs ts h.1)

pub whole_binding : (topology : Topology) (l : Linking) → patterns_of l ≡ []
    → AreAllBindings topology l ([] ∷ [])
whole_binding topology l none =
    let names = no_names l none in
    let one : IsBinding topology l [] = record {
      full = sym (ap length names);
      small = tt;
      fits = λ j q at. none_is_not q (sym (ap (λ (qs : List Pattern). slice_get qs j) none) ∙ at);
    } in
    record {
      bindings = record {
        each = λ i b at. only_one one i b at;
        ascend = λ i j a b less at_a at_b. two_none i j a b less at_a at_b;
      };
      all = λ b h. record {
        place = 0;
        stands = ap Some (sym (nil_from_length b (h.full ∙ ap length names)));
      };
    } where
      only_one : IsBinding topology l [] → (i : ℕ) (b : List ℕ)
          → slice_get ([] ∷ []) i ≡ Some b → IsBinding topology l b
      only_one h zero b at = subst (IsBinding topology l) (same_Some [] b at) h
      only_one h (suc i) b at = none_is_not b at

      two_none : (i j : ℕ) (a b : List ℕ) → i < j → slice_get ([] ∷ []) i ≡ Some a
          → slice_get ([] ∷ []) j ≡ Some b → IsNotBefore a b → ⊥
      two_none i zero a b less at_a at_b h = omega (arith, less)
      two_none i (suc j) a b less at_a at_b h = none_is_not b at_b

pub whole_links : (topology : Topology) (l : Linking) → patterns_of l ≡ []
    → sum_by (candidate_links topology l) ([] ∷ []) ≡ 0
whole_links topology l none =
    sum_by-cons (candidate_links topology l) [] []
    ∙ ap (λ (qs : List Pattern). sum_by (λ (q : Pattern).
    length (fitting topology (iterators l) [] q.parts)) qs + 0) none

-- ---- what is answered
module _ (topology : Topology) (l : Linking) (ts : List TableValue) (count limit : ℕ)
    (tables : AreTablesOf topology (iterators l) (patterns_of l) ts)
    (counted : count ≡ length (iterators l)) where
  no_patterns : ts ≡ [] → patterns_of l ≡ []
  no_patterns none =
      no_tables topology (iterators l) (patterns_of l)
      (subst (AreTablesOf topology (iterators l) (patterns_of l)) none tables)

  some_or_none : (ts ≡ []) ⊎ (0 < length ts)
  some_or_none = by ts refl where
    by : (us : List TableValue) → ts ≡ us → (ts ≡ []) ⊎ (0 < length ts)
    by [] e = inl e
    by (u ∷ us) e = let long = ap length e in inr (omega (arith, long))

  pub answer_all : (bs : List (List ℕ)) → (ts ≡ [] → bs ≡ [] ∷ [])
      → (0 < length ts → AreAllCandidates ts count bs) → AreAllBindings topology l bs
  answer_all bs none some = elim some_or_none [
    | inl empty ↦
        subst (AreAllBindings topology l) (sym (none empty))
        (whole_binding topology l (no_patterns empty))
    | inr less ↦
        all_from topology l ts tables bs
        (subst (λ (n : ℕ). AreAllCandidates ts n bs) counted (some less))
  ]

  pub answer_left : (bs : List (List ℕ)) (left : ℕ) → (ts ≡ [] → (bs ≡ [] ∷ []) × (left ≡ limit))
      → (0 < length ts → AreAllCandidates ts count bs)
      → (0 < length ts → left + sum_by (links_at ts) bs ≡ limit)
      → left + sum_by (candidate_links topology l) bs ≡ limit
  answer_left bs left none some sum = elim some_or_none [
    | inl empty ↦
        let is = none empty in
        let zero_links = ap (sum_by (candidate_links topology l)) is.0
        ∙ whole_links topology l (no_patterns empty) in
        omega (arith, zero_links, is.1)
    | inr less ↦
        let same = sum_from topology l ts tables bs
        (subst (λ (n : ℕ). AreJoined ts n bs) counted (some less).candidates) in
        let all = sum less in
        omega (arith, same, all)
  ]

  pub answer_many : (P : Type 0) → (ts ≡ [] → P → ⊥)
      → (0 < length ts → P → (bs : List (List ℕ))
      × (AreJoined ts count bs × (limit < sum_by (links_at ts) bs)))
      → P → (bs : List (List ℕ))
      × (AreBindings topology l bs × (limit < sum_by (candidate_links topology l) bs))
  answer_many P none some p = elim some_or_none [
    | inl empty ↦ absurd (none empty p)
    | inr less ↦
        let found = some less p in
        let candidates = subst (λ (n : ℕ). AreJoined ts n found.0) counted found.1.0 in
        let same = sum_from topology l ts tables found.0 candidates in (
          found.0,
          (
            bindings_from topology l ts tables found.0 candidates,
            subst (λ (n : ℕ). limit < n) same found.1.1,
          ),
        )
  ]
