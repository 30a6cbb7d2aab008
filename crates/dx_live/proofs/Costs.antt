-- How many looks a live set may cost.
use Rattle.std.proofs.Common.{◌≡◌, ◌≢◌, ◌+◌, ◌*◌, ◌<◌, ◌≤◌, ℕ, zero, suc, Bool, true}
use Rattle.std.proofs.Common.{false, cond}
use Rattle.std.proofs.Common.{List, [], ◌∷◌, length, map, get_or, eqb, ltb, leb, refl, ap, inl}
use Rattle.std.proofs.Common.{inr, arith}
use Rattle.std.specs.List.{sum_by}
use Rattle.std.proofs.lemmas.List.{length-map}
use Rattle.std.proofs.lemmas.List.Sums.{sum_by-cons, length-filter, count_by-le-length}
use Rattle.std.proofs.lemmas.Bool.{cases_Bool, and_parts, or_left, or_right, eq-eqb, ltb-true}
use Rattle.std.proofs.lemmas.Bool.{eqb-true, both_ways}
use Rattle.ev_incidence.specs.Sets.{is_member, has_mark, ascends}
use Rattle.ev_incidence.specs.Table.{row_at, IncidenceValue, IsIncidence}
use Rattle.ev_graph.specs.Lawful.{GraphValue, links, links_of, IsIncidenceOf}
use Rattle.ev_graph.specs.declared.instances.Instance.{Instance}
use Rattle.dx_sets.specs.Sets.{SetsValue, sum_below}
use Rattle.dx_sets.specs.Engine.{cost}
use Rattle.dx_live.specs.Region.{IsLocalRow, AreLocalRows, IsLocalTable, RegionValue}
use Rattle.dx_live.specs.Region.{IsPartOf}

-- sums over numbers and over lists
pub sum_below_le : (n : ℕ) (f g : ℕ → ℕ) → ((i : ℕ) → i < n → f i ≤ g i)
    → sum_below n f ≤ sum_below n g
sum_below_le zero f g h = omega arith
sum_below_le (suc n) f g h =
    omega (arith, sum_below_le n f g (λ i l. h i (omega (arith, l))), h n (omega arith))

sum_below_add : (n : ℕ) (f g : ℕ → ℕ) → sum_below n (λ i. f i + g i) ≡ sum_below n f + sum_below n g
sum_below_add zero f g = refl
sum_below_add (suc n) f g = omega (arith, sum_below_add n f g)

sum_below_more : (m n : ℕ) (f : ℕ → ℕ) → m ≤ n → sum_below m f ≤ sum_below n f
sum_below_more m zero f l =
    let e : m ≡ zero = omega (arith, l) in
    omega (arith, ap (λ (k : ℕ). sum_below k f) e)
sum_below_more m (suc n) f l = elim (cases_Bool (eqb m (suc n))) [
  | inl same ↦ omega (arith, ap (λ (k : ℕ). sum_below k f) (eqb-true m (suc n) same))
  | inr other ↦ omega (arith, sum_below_more m n f (omega (arith, l, ne_from m (suc n) other)))
] where
  ne_from : (a b : ℕ) → eqb a b ≡ false → a ≢ b
  ne_from a b h e = both_ways (eqb a b) h (eq-eqb a b e)

sum_below_first : (n : ℕ) (f : ℕ → ℕ) → sum_below (suc n) f ≡ f 0 + sum_below n (λ i. f (suc i))
sum_below_first zero f = omega arith
sum_below_first (suc n) f = omega (arith, sum_below_first n f)

pub sum_rows : (f : List ℕ → ℕ) (rows : List (List ℕ))
    → sum_below (length rows) (λ j. f (row_at rows j)) ≡ sum_by f rows
sum_rows f [] = refl
sum_rows f (r ∷ rs) =
    omega (
      arith,
      sum_below_first (length rs) (λ j. f (row_at (r ∷ rs) j)),
      sum_rows f rs,
      sum_by-cons f r rs,
    )

sum_numbers : (f : ℕ → ℕ) (xs : List ℕ)
    → sum_below (length xs) (λ j. f (get_or xs j 0)) ≡ sum_by f xs
sum_numbers f [] = refl
sum_numbers f (x ∷ xs) =
    omega (
      arith,
      sum_below_first (length xs) (λ j. f (get_or (x ∷ xs) j 0)),
      sum_numbers f xs,
      sum_by-cons f x xs,
    )

-- what stands at ascending numbers is a part of the whole
ascending_part : (f : ℕ → ℕ) (n x : ℕ) (xs : List ℕ) → ascends (x ∷ xs) ≡ true
    → ((e : ℕ) → is_member (x ∷ xs) e ≡ true → e < n)
    → sum_by f (x ∷ xs) + sum_below x f ≤ sum_below n f
ascending_part f n x [] up low =
    let x_in = low x (or_left (eqb x x) false (eq-eqb x x refl)) in
    omega (arith, sum_by-cons f x [], sum_below_more (suc x) n f (omega (arith, x_in)))
ascending_part f n x (y ∷ ys) up low =
    let p = and_parts (ltb x y) (ascends (y ∷ ys)) up in
    let less = ltb-true x y p.0 in
    omega (
      arith,
      sum_by-cons f x (y ∷ ys),
      ascending_part f n y ys p.1 (λ e i. low e (or_right (eqb x e) (is_member (y ∷ ys) e) i)),
      sum_below_more (suc x) y f (omega (arith, less)),
    )

pub ascending_sum : (f : ℕ → ℕ) (n : ℕ) (xs : List ℕ) → ascends xs ≡ true
    → ((e : ℕ) → is_member xs e ≡ true → e < n) → sum_by f xs ≤ sum_below n f
ascending_sum f n [] up low = omega arith
ascending_sum f n (x ∷ xs) up low = omega (arith, ascending_part f n x xs up low)

sum_ones : (xs : List ℕ) → sum_by (λ x. 1) xs ≡ length xs
sum_ones [] = refl
sum_ones (x ∷ xs) = omega (arith, sum_ones xs, sum_by-cons (λ (y : ℕ). 1) x xs)

below_ones : (n : ℕ) → sum_below n (λ x. 1) ≡ n
below_ones zero = refl
below_ones (suc n) = omega (arith, below_ones n)

pub ascending_few : (n : ℕ) (xs : List ℕ) → ascends xs ≡ true
    → ((e : ℕ) → is_member xs e ≡ true → e < n) → length xs ≤ n
ascending_few n xs up low =
    omega (arith, ascending_sum (λ x. 1) n xs up low, sum_ones xs, below_ones n)

-- a sum of some terms
some_le : (b : Bool) (m : ℕ) → cond b m 0 ≤ m
some_le true m = omega arith
some_le false m = omega arith

-- all that a set may cost
pub cost_bound : (v : IncidenceValue) (s : SetsValue) → IsIncidence v
    → length s.marks ≡ length v.uses → s.pending ≡ []
    → cost v s ≤ length v.uses + 2 * (sum_by length v.causes + sum_by length v.effects)
cost_bound v s inc size none =
    let f : ℕ → ℕ = λ e. 1 + (length (row_at v.uses e) + length (row_at v.gets e)) in
    omega (
      arith,
      ap (λ (ps : List ℕ). sum_by f ps) none,
      ap (λ (m : ℕ). sum_below m (λ e. cond (has_mark s.marks e) (f e) 0)) size,
      sum_below_le (length v.uses) (λ e. cond (has_mark s.marks e) (f e) 0) f
          (λ e l. some_le (has_mark s.marks e) (f e)),
      sum_below_add (length v.uses) (λ e. 1)
          (λ e. length (row_at v.uses e) + length (row_at v.gets e)),
      sum_below_add (length v.uses) (λ e. length (row_at v.uses e))
          (λ e. length (row_at v.gets e)),
      below_ones (length v.uses),
      sum_rows length v.uses,
      sum_rows length v.gets,
      ap (λ (m : ℕ). sum_below m (λ e. length (row_at v.gets e))) inc.nodes_count,
      sum_rows length v.causes,
      sum_rows length v.effects,
      ap (λ (m : ℕ). sum_below m (λ j. length (row_at v.effects j))) inc.effects_count,
      inc.uses_is.total,
      inc.gets_is.total,
      sum_below_le (length v.causes)
          (λ j. cond (leb (get_or v.k j 0) (get_or s.causes_left j 0))
          (length (row_at v.effects j)) 0)
          (λ j. length (row_at v.effects j))
          (λ j l. some_le (leb (get_or v.k j 0) (get_or s.causes_left j 0))
          (length (row_at v.effects j))),
      sum_below_le (length v.causes)
          (λ j. cond (leb (get_or v.n j 0) (get_or s.effects_left j 0))
          (length (row_at v.causes j)) 0)
          (λ j. length (row_at v.causes j))
          (λ j l. some_le (leb (get_or v.n j 0) (get_or s.effects_left j 0))
          (length (row_at v.causes j))),
    )

-- rows by local numbers are no longer
row_fewer : (nodes members locals : List ℕ) → IsLocalRow nodes members locals
    → length locals ≤ length members
row_fewer nodes members locals h =
    omega (
      arith,
      length-map locals (λ l. get_or nodes l 0),
      ap length h.named,
      length-filter (is_member nodes) members,
      count_by-le-length (is_member nodes) members,
    )

rows_fewer : (rows : List (List ℕ)) (nodes places : List ℕ) (locals : List (List ℕ))
    → AreLocalRows (length places) rows nodes places locals → ascends places ≡ true
    → ((j : ℕ) → is_member places j ≡ true → j < length rows)
    → sum_by length locals ≤ sum_by length rows
rows_fewer rows nodes places locals h up low =
    omega (
      arith,
      sum_rows length locals,
      ap (λ (m : ℕ). sum_below m (λ t. length (row_at locals t))) h.count,
      sum_below_le (length places) (λ t. length (row_at locals t))
          (λ t. length (row_at rows (get_or places t 0)))
          (λ t l. row_fewer nodes (row_at rows (get_or places t 0)) (row_at locals t) (h.each t l)),
      sum_numbers (λ j. length (row_at rows j)) places,
      ascending_sum (λ j. length (row_at rows j)) (length rows) places up low,
      sum_rows length rows,
    )

-- the links of a graph
links_sum : (is : List Instance)
    → links is ≡ sum_by length (map (λ i. i.causes) is) + sum_by length (map (λ i. i.effects) is)
links_sum [] = refl
links_sum (i ∷ is) =
    omega (
      arith,
      sum_by-cons links_of i is,
      links_sum is,
      sum_by-cons length i.causes (map (λ (x : Instance). x.causes) is),
      sum_by-cons length i.effects (map (λ (x : Instance). x.effects) is),
    )

pub live_bound : (g : GraphValue) (v : IncidenceValue) (p : RegionValue) (s : SetsValue)
    → IsIncidenceOf (length g.nodes) g.instances v → IsPartOf v p
    → IsLocalTable v p.nodes p.places p.table → ascends p.nodes ≡ true → ascends p.places ≡ true
    → length s.marks ≡ length p.table.uses → s.pending ≡ []
    → cost p.table s ≤ length g.nodes + 2 * links g.instances
live_bound g v p s inc part t up_nodes up_places size none =
    omega (
      arith,
      cost_bound p.table s t.incidence size none,
      t.count,
      ascending_few (length v.uses) p.nodes up_nodes part.nodes,
      inc.nodes,
      rows_fewer v.causes p.nodes p.places p.table.causes t.causes up_places part.places,
      rows_fewer v.effects p.nodes p.places p.table.effects t.effects up_places
          (λ j i. omega (arith, part.places j i, inc.incidence.effects_count)),
      links_sum g.instances,
      ap (λ (rs : List (List ℕ)). sum_by length rs) inc.causes,
      ap (λ (rs : List (List ℕ)). sum_by length rs) inc.effects,
    )
