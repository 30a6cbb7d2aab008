-- Incidences of one graph: a live set and its cost are the same over each.
use Rattle.std.proofs.Common.{◌≡◌, ◌+◌, ◌<◌, ℕ, zero, suc, true, cond, List}
use Rattle.std.proofs.Common.{[], ◌∷◌, length, get_or, leb, refl, sym, ap, subst, ◌∙◌}
use Rattle.std.proofs.Common.{arith, inl, inr, replicate}
use Rattle.std.specs.Prelude.{Option, Some, None}
use Rattle.std.specs.List.{sum_by, count_by}
use Rattle.std.proofs.lemmas.List.{length-append, length-replicate, get_or_past, get_or_push}
use Rattle.std.proofs.lemmas.List.{get_or_append_left, length_push}
use Rattle.std.proofs.lemmas.List.Sums.{sum_by-cons}
use Rattle.std.proofs.lemmas.Bool.{cases_lt, cases_eq, cond-true}
use Rattle.ev_incidence.specs.Sets.{NodeSet, is_member, occurs}
use Rattle.ev_incidence.specs.Table.{row_at, IncidenceValue, IsIncidence, IsTranspose}
use Rattle.ev_graph.specs.Lawful.{GraphValue, IsIncidenceOf}
use Rattle.ev_incidence.proofs.Occurrences.{transposed_in, row_in_range}
use Rattle.dx_sets.specs.Sets.{SetsValue, sum_below, sum_held}
use Rattle.dx_sets.specs.Engine.{CutsOf, cost}
use Rattle.dx_sets.proofs.Sums.{sum_below_same}
use Rattle.dx_sets.proofs.Filling.{count_below}
use Rattle.dx_live.specs.Region.{table_over}
use Rattle.dx_live.specs.Cuts.{CutsValue, cut_at}
use Rattle.dx_live.specs.Live.{LiveValue, LiveOver, live_over, rows_with, index_of}
use Rattle.dx_live.specs.Live.{graph_table, IsLiveOver, IsLiveOf, IsBestOver, IsLiveBest}
use Rattle.dx_live.proofs.Costs.{sum_rows}

-- how many instances a node has
all_counted : (X : NodeSet) (xs : List ℕ) → ((x : ℕ) → X x ≡ true) → count_by X xs ≡ length xs
all_counted X [] h = refl
all_counted X (x ∷ xs) h =
    omega (
      arith,
      all_counted X xs h,
      sum_by-cons (λ y. cond (X y) 1 0) x xs,
      cond-true {A = ℕ} (X x) 1 0 (h x),
    )

places_count : (e j : ℕ) (rows : List (List ℕ))
    → length (rows_with e j rows) ≡ sum_by (λ (row : List ℕ). occurs e row) rows
places_count e j [] = refl
places_count e j (row ∷ rows) =
    omega (
      arith,
      length-append (replicate (occurs e row) j) (rows_with e (suc j) rows),
      length-replicate (occurs e row) j,
      places_count e (suc j) rows,
      sum_by-cons (λ (r : List ℕ). occurs e r) row rows,
    )

index_count : (n : ℕ) (rows : List (List ℕ)) → length (index_of n rows) ≡ n
index_count zero rows = refl
index_count (suc n) rows =
    omega (arith, index_count n rows, length_push (index_of n rows) (rows_with n zero rows))

index_row : (n e : ℕ) (rows : List (List ℕ)) → e < n
    → row_at (index_of n rows) e ≡ rows_with e zero rows
index_row zero e rows low = absurd (omega (arith, low))
index_row (suc n) e rows low = elim (cases_eq e n) [
  | inl same ↦
      get_or_push (index_of n rows) (rows_with n zero rows) [] e (index_count n rows ∙ sym same)
      ∙ ap (λ (z : ℕ). rows_with z zero rows) (sym same)
  | inr ne ↦
      let less : e < n = omega (arith, low, ne) in
      get_or_append_left (index_of n rows) (rows_with n zero rows ∷ []) [] e
      (omega (arith, less, index_count n rows))
      ∙ index_row n e rows less
]

row_count : (rows index : List (List ℕ)) (e : ℕ) → IsTranspose rows index
    → length (row_at index e) ≡ sum_by (λ (row : List ℕ). occurs e row) rows
row_count rows index e h =
    let counted : count_by (λ j. true) (row_at index e)
    ≡ sum_below (length rows) (λ j. occurs j (row_at index e)) =
    count_below (λ j. true) (length rows) (row_at index e)
    (λ j i. row_in_range rows j e (transposed_in rows index e j h i)) in
    omega (
      arith,
      all_counted (λ j. true) (row_at index e) (λ j. refl),
      counted,
      sum_below_same (length rows) (λ j. occurs j (row_at index e))
          (λ j. occurs e (row_at rows j)) (λ j l. h.each e j),
      sum_rows (λ (row : List ℕ). occurs e row) rows,
    )

index_same : (n : ℕ) (rows index : List (List ℕ)) (e : ℕ) → IsTranspose rows index
    → length index ≡ n → length (row_at index e) ≡ length (row_at (index_of n rows) e)
index_same n rows index e h count = elim (cases_lt e n) [
  | inl low ↦ omega (
    arith,
    row_count rows index e h,
    ap length (index_row n e rows low),
    places_count e zero rows,
  )
  | inr past ↦ omega (
    arith,
    ap length (get_or_past index e [] (omega (arith, past, count))),
    ap length (get_or_past (index_of n rows) e [] (omega (arith, past, index_count n rows))),
  )
]

-- the costs that don't ask for the instances of a node
abbrev owed : IncidenceValue → SetsValue → ℕ
owed v s =
    sum_below (length v.causes)
    (λ j. cond (leb (get_or v.k j 0) (get_or s.causes_left j 0)) (length (row_at v.effects j)) 0)
    + sum_below (length v.causes)
    (λ j. cond (leb (get_or v.n j 0) (get_or s.effects_left j 0)) (length (row_at v.causes j)) 0)

module _ (g : GraphValue) (v : IncidenceValue)
    (h : IsIncidenceOf (length g.nodes) g.instances v) where
  looks_same : (e : ℕ) → 1 + (length (row_at v.uses e) + length (row_at v.gets e))
      ≡ 1 + (length (row_at (graph_table g).uses e) + length (row_at (graph_table g).gets e))
  looks_same e =
      omega (
        arith,
        index_same (length g.nodes) v.causes v.uses e h.incidence.uses_is h.nodes,
        index_same (length g.nodes) v.effects v.gets e h.incidence.gets_is
            (h.incidence.nodes_count ∙ h.nodes),
        ap (λ (rows : List (List ℕ)). length (row_at (index_of (length g.nodes) rows) e)) h.causes,
        ap (λ (rows : List (List ℕ)). length (row_at (index_of (length g.nodes) rows) e)) h.effects,
      )

  owed_same : (s : SetsValue) → owed v s ≡ owed (graph_table g) s
  owed_same s = λ i. owed (record {
    causes = h.causes i;
    effects = h.effects i;
    n = h.n i;
    k = h.k i;
    uses = v.uses;
    gets = v.gets;
  }) s

  pub cost_same : (s : SetsValue) → cost v s ≡ cost (graph_table g) s
  cost_same s =
      let looks : ◌≡◌ {A = ℕ → ℕ}
      (λ e. 1 + (length (row_at v.uses e) + length (row_at v.gets e)))
      (λ e. 1 + (length (row_at (graph_table g).uses e) + length (row_at (graph_table g).gets e)))
      = λ i. λ e. looks_same e i in
      omega (arith, ap (λ (f : ℕ → ℕ). sum_held s f) looks, owed_same s)

  pub cost_at : (own : Option IncidenceValue) (s : SetsValue)
      → cost (table_over (graph_table g) own) s ≡ cost (table_over v own) s
  cost_at None s = sym (cost_same s)
  cost_at (Some t) s = refl

  effects_same : (own : Option IncidenceValue)
      → (table_over (graph_table g) own).effects ≡ (table_over v own).effects
  effects_same None = sym h.effects
  effects_same (Some t) = refl

-- a set that is live over one incidence is live over another with the same instances
module _ (g : GraphValue) (a b : IncidenceValue) (causes : a.causes ≡ b.causes)
    (effects : a.effects ≡ b.effects) (n : a.n ≡ b.n) (k : a.k ≡ b.k) (inc : IsIncidence b)
    (count : length a.uses ≡ length b.uses) (nodes places : List ℕ) (s : SetsValue) (c : CutsValue)
    (here : ℕ) where
  abbrev mixed : IncidenceValue
  mixed = record {
    causes = b.causes;
    effects = b.effects;
    n = b.n;
    k = b.k;
    uses = a.uses;
    gets = a.gets;
  }

  is_mixed : a ≡ mixed
  is_mixed = λ i. record {
    causes = causes i;
    effects = effects i;
    n = n i;
    k = k i;
    uses = a.uses;
    gets = a.gets;
  }

  abbrev with_table : IncidenceValue → LiveOver
  with_table t = record {
    region = record { nodes = nodes; places = places; table = t };
    sets = s;
    cuts = c;
    here = here;
  }

  from_mixed : IsLiveOver g (with_table mixed) → IsLiveOver g (with_table b)
  from_mixed h = record {
    region = record {
      nodes_ascend = h.region.nodes_ascend;
      places_ascend = h.region.places_ascend;
      few_nodes = h.region.few_nodes;
      few_places = h.region.few_places;
      incidence = inc;
      node_count = sym count ∙ h.region.node_count;
      place_count = h.region.place_count;
      root_in = h.region.root_in;
      causes = h.region.causes;
      effects = h.region.effects;
      n = h.region.n;
      k = h.region.k;
      out = h.region.out;
      into = h.region.into;
    };
    here = h.here;
    cuts = h.cuts;
    steady = record {
      incidence = inc;
      exact = record {
        sized = record {
          marks = h.steady.exact.sized.marks ∙ count;
          support = h.steady.exact.sized.support ∙ count;
          causes_left = h.steady.exact.sized.causes_left;
          effects_left = h.steady.exact.sized.effects_left;
        };
        causes = h.steady.exact.causes;
        effects = h.steady.exact.effects;
        support = λ e low. h.steady.exact.support e (omega (arith, low, count));
      };
      given = h.steady.given;
      met = record { each = h.steady.met.each };
    };
    over = h.over;
    kind = h.kind;
  }

  live_moved : IsLiveOver g (with_table a) → IsLiveOver g (with_table b)
  live_moved h =
      let P : IncidenceValue → Type 0 = λ t. IsLiveOver g (with_table t) in
      from_mixed (subst P is_mixed h)

module _ (g : GraphValue) (v : IncidenceValue)
    (h : IsIncidenceOf (length g.nodes) g.instances v) where
  live_over_own : (a : IncidenceValue) → IsIncidenceOf (length g.nodes) g.instances a
      → (nodes places : List ℕ) (own : Option IncidenceValue) (s : SetsValue) (c : CutsValue)
      (here : ℕ) → IsLiveOver g (live_over a (record {
        region = record { nodes = nodes; places = places; own = own };
        sets = s;
        cuts = c;
        here = here;
      })) → IsLiveOver g (live_over v (record {
        region = record { nodes = nodes; places = places; own = own };
        sets = s;
        cuts = c;
        here = here;
      }))
  live_over_own a i nodes places None s c here l =
      live_moved g a v (i.causes ∙ sym h.causes) (i.effects ∙ sym h.effects) (i.n ∙ sym h.n)
      (i.k ∙ sym h.k) h.incidence (i.nodes ∙ sym h.nodes) nodes places s c here l
  live_over_own a i nodes places (Some t) s c here l = l

  -- a live set, over any incidence of its graph
  pub live_at : (l : LiveValue) → IsLiveOf g l → IsLiveOver g (live_over v l)
  live_at l k = live_over_own k.table k.incidence l.region.nodes l.region.places l.region.own l.sets
      l.cuts l.here k.over

  pub best_at : (cut : CutsOf) (allowed : NodeSet) (l : LiveValue) → IsLiveBest g cut allowed l
      → IsBestOver g cut allowed (live_over v l)
  best_at cut allowed l b = record {
    cuts = record {
      each =
          let P : List (List ℕ) → Type 0 = λ rows. (t n : ℕ) → t < length l.region.places
          → is_member (row_at rows t) n ≡ true
          → cut_at rows l.cuts t n
          ≡ cut (get_or l.region.places t 0) (get_or l.region.nodes n 0) in
          subst P (effects_same g v h l.region.own) b.cuts.each;
    };
    best = b.best;
  }

  pub best_of : (cut : CutsOf) (allowed : NodeSet) (l : LiveValue)
      → IsBestOver g cut allowed (live_over v l) → IsLiveBest g cut allowed l
  best_of cut allowed l b = record {
    cuts = record {
      each =
          let P : List (List ℕ) → Type 0 = λ rows. (t n : ℕ) → t < length l.region.places
          → is_member (row_at rows t) n ≡ true
          → cut_at rows l.cuts t n
          ≡ cut (get_or l.region.places t 0) (get_or l.region.nodes n 0) in
          subst P (sym (effects_same g v h l.region.own)) b.cuts.each;
    };
    best = b.best;
  }
