-- The whole graph as the part of a node.
use Rattle.std.proofs.Common.{◌≡◌, ◌+◌, ◌<◌, ◌^◌, ℕ, suc, true, List, [], ◌∷◌, length, map}
use Rattle.std.proofs.Common.{get_or, eqb, refl, sym, ap, subst, ◌∙◌, arith}
use Rattle.std.proofs.lemmas.Bool.{or_left, or_right, eq-eqb}
use Rattle.ev_incidence.specs.Sets.{is_member, ascends}
use Rattle.ev_incidence.specs.Table.{row_at, IncidenceValue, IsIncidence, wiring_of}
use Rattle.ev_incidence.proofs.Occurrences.{in_at, place_in, in_transposed, row_in_range}
use Rattle.dx_live.specs.Region.{AreNumbersBelow, IsLocalRow, IsLocalTable, IsPartOf, IsRegionOf}
use Rattle.dx_live.proofs.Ordered.{strict_ascends}
use Rattle.dx_live.proofs.Regions.{filter_all}

-- the numbers below n
pub numbers_ascend : (n : ℕ) (xs : List ℕ) → AreNumbersBelow n xs → ascends xs ≡ true
numbers_ascend n xs h = strict_ascends xs (λ i l. omega (
  arith,
  h.each i (omega (arith, l, h.count)),
  h.each (i + 1) (omega (arith, l, h.count)),
))

pub number_in : (n : ℕ) (xs : List ℕ) (e : ℕ) → AreNumbersBelow n xs → e < n
    → is_member xs e ≡ true
number_in n xs e h low =
    let P : ℕ → Type 0 = λ x. is_member xs x ≡ true in
    subst P (h.each e low) (in_at xs e (omega (arith, low, h.count)))

pub number_below : (n : ℕ) (xs : List ℕ) (e : ℕ) → AreNumbersBelow n xs → is_member xs e ≡ true
    → e < n
number_below n xs e h i =
    let p = place_in e xs i in
    omega (arith, h.count, p.1, p.2, h.each p.0 (omega (arith, h.count, p.1)))

-- what stands at these numbers is the list itself
map_same : (f : ℕ → ℕ) (xs : List ℕ) → ((x : ℕ) → is_member xs x ≡ true → f x ≡ x)
    → map f xs ≡ xs
map_same f [] h = refl
map_same f (x ∷ xs) h =
    ap (λ (y : ℕ). y ∷ map f xs) (h x (or_left (eqb x x) (is_member xs x) (eq-eqb x x refl)))
    ∙ ap (λ (ys : List ℕ). x ∷ ys)
    (map_same f xs (λ y i. h y (or_right (eqb x y) (is_member xs y) i)))

map_numbers : (f : ℕ → ℕ) (numbers xs : List ℕ) → length numbers ≡ length xs
    → ((i : ℕ) → i < length xs → f (get_or numbers i 0) ≡ get_or xs i 0) → map f numbers ≡ xs
map_numbers f [] [] l h = refl
map_numbers f [] (x ∷ xs) l h = absurd (omega (arith, l))
map_numbers f (n ∷ ns) [] l h = absurd (omega (arith, l))
map_numbers f (n ∷ ns) (x ∷ xs) l h =
    ap (λ (y : ℕ). y ∷ map f ns) (h 0 (omega arith))
    ∙ ap (λ (ys : List ℕ). x ∷ ys)
    (map_numbers f ns xs (omega (arith, l)) (λ i low. h (suc i) (omega (arith, low))))

module _ (v : IncidenceValue) (inc : IsIncidence v) (nodes places : List ℕ)
    (nodes_are : AreNumbersBelow (length v.uses) nodes)
    (places_are : AreNumbersBelow (length v.causes) places) where
  whole_row : (row : List ℕ) → ((e : ℕ) → is_member row e ≡ true → e < length v.uses)
      → IsLocalRow nodes row row
  whole_row row low = record {
    named =
        map_same (λ l. get_or nodes l 0) row (λ e i. nodes_are.each e (low e i))
        ∙ sym (filter_all (is_member nodes) row
        (λ e i. number_in (length v.uses) nodes e nodes_are (low e i)));
    below = λ e i. omega (arith, low e i, nodes_are.count);
  }

  place_is : (t : ℕ) → t < length places → get_or places t 0 ≡ t
  place_is t low = places_are.each t (omega (arith, low, places_are.count))

  cause_low : (j e : ℕ) → is_member (row_at v.causes j) e ≡ true → e < length v.uses
  cause_low j e i = row_in_range v.uses e j (in_transposed v.causes v.uses e j inc.uses_is i)

  effect_low : (j e : ℕ) → is_member (row_at v.effects j) e ≡ true → e < length v.uses
  effect_low j e i = omega (
    arith,
    inc.nodes_count,
    row_in_range v.gets e j (in_transposed v.effects v.gets e j inc.gets_is i),
  )

  row_there : (rows : List (List ℕ))
      → ((j e : ℕ) → is_member (row_at rows j) e ≡ true → e < length v.uses) → (t : ℕ)
      → t < length places → IsLocalRow nodes (row_at rows (get_or places t 0)) (row_at rows t)
  row_there rows low t t_in =
      let P : ℕ → Type 0 = λ j. IsLocalRow nodes (row_at rows j) (row_at rows t) in
      subst P (sym (place_is t t_in)) (whole_row (row_at rows t) (low t))

  number_there : (xs : List ℕ) → length xs ≡ length v.causes
      → xs ≡ map (λ j. get_or xs j 0) places
  number_there xs count = sym (map_numbers (λ j. get_or xs j 0) places xs
      (places_are.count ∙ sym count)
      (λ i low. ap (λ (j : ℕ). get_or xs j 0) (places_are.each i (omega (arith, low, count)))))

  pub whole_table : IsLocalTable v nodes places v
  whole_table = record {
    causes = record { count = sym places_are.count; each = row_there v.causes cause_low };
    effects = record {
      count = inc.effects_count ∙ sym places_are.count;
      each = row_there v.effects effect_low;
    };
    n = number_there v.n inc.n_count;
    k = number_there v.k inc.k_count;
    count = sym nodes_are.count;
    incidence = inc;
  }

  pub whole_part : IsPartOf v (record { nodes = nodes; places = places; table = v })
  whole_part = record {
    nodes = λ e i. number_below (length v.uses) nodes e nodes_are i;
    places = λ j i. number_below (length v.causes) places j places_are i;
  }

  pub whole_region : (root : ℕ) → root < length v.uses → length v.uses < 2 ^ 32
      → length v.causes < 2 ^ 32
      → IsRegionOf (wiring_of v) root (record { nodes = nodes; places = places; table = v })
  whole_region root root_in few_nodes few_places = record {
    nodes_ascend = numbers_ascend (length v.uses) nodes nodes_are;
    places_ascend = numbers_ascend (length v.causes) places places_are;
    few_nodes = omega (arith, few_nodes, nodes_are.count);
    few_places = omega (arith, few_places, places_are.count);
    incidence = inc;
    node_count = sym nodes_are.count;
    place_count = sym places_are.count;
    root_in = number_in (length v.uses) nodes root nodes_are root_in;
    causes = row_there v.causes cause_low;
    effects = row_there v.effects effect_low;
    n = λ t t_in. ap (λ (j : ℕ). get_or v.n j 0) (sym (place_is t t_in));
    k = λ t t_in. ap (λ (j : ℕ). get_or v.k j 0) (sym (place_is t t_in));
    out = λ e j e_in cause. number_in (length v.causes) places j places_are
        (row_in_range v.causes j e cause);
    into = λ j e j_in effect. number_in (length v.uses) nodes e nodes_are (effect_low j e effect);
  }
