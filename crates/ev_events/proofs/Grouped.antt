-- The rows of a pattern, over the paths that have its names.
use Rattle.std.proofs.Common.{◌≡◌, ◌+◌, ◌&&◌, ◌==◌, ℕ, suc, Bool, true, false, cond, List}
use Rattle.std.proofs.Common.{[], ◌∷◌, length, map, zip, filter, filter_map, slice_get, Option}
use Rattle.std.proofs.Common.{Some}
use Rattle.std.proofs.Common.{None, refl, sym, ap, ◌∙◌, subst, arith, inl, inr, if◌then◌else◌}
use Rattle.std.proofs.Common.{codes}
use Rattle.std.proofs.Common.{bytes_eq, IsPermutation, Bor}
use Rattle.std.specs.List.{list_all, count_by, sum_by, join_by}
use Rattle.std.specs.Map.{keys_of}
use Rattle.std.specs.Cmp.Lexicographic.{pointwise}
use Rattle.std.proofs.lemmas.Bool.{cases_Bool, false≢true}
use Rattle.std.proofs.lemmas.Slice.Eq.{bytes_eq-Decides}
use Rattle.std.proofs.lemmas.List.Sorted.{sum_by-IsPermutation}
use Rattle.std.proofs.lemmas.List.Sums.{length-filter, sum_by-cons}
use Rattle.fm_bytes.proofs.Booleans.{and_parts}
use Rattle.fm_name.specs.Path.{PathPart, parts_of, names_of, instances_of}
use Rattle.fm_topo.specs.Topology.{Topology}
use Rattle.fm_topo.specs.Groups.{names_text, text_places, group_of}
use Rattle.ev_tree.specs.declared.tree.Part.{Part}
use Rattle.ev_check.specs.Declarations.{name_of}
use Rattle.ev_words.specs.Iterators.{same_name}
use Rattle.ev_join.specs.Order.{is_begun, placing}
use Rattle.ev_join.specs.Tables.{TableValue, bound_values}
use Rattle.ev_join.specs.declared.table.Row.{Row}
use Rattle.ev_events.specs.Names.{Knows}
use Rattle.ev_events.specs.Fits.{has_names, fits, fit_instances, places_with, fitting}
use Rattle.ev_events.specs.Slots.{slots_of, keep_all, columns_of, values_at}
use Rattle.ev_events.specs.Sheets.{row_if, path_row, IsTableOf}
use Rattle.ev_events.proofs.Columns.{number_in}
use Rattle.ev_events.proofs.Agreeing.{names_same, fits_as}

-- ---- names
pub names_paired : (ns : List (Bor (List ℕ))) (ps : List Part) → length ns ≡ length ps
    → pointwise same_name (map (λ n. n.now) ns) (map name_of ps)
    ≡ list_all (λ p. same_name p.0.now p.1.name) (zip ns ps)
names_paired [] [] e = refl
names_paired [] (p ∷ ps) e = absurd (omega (arith, e))
names_paired (n ∷ ns) [] e = absurd (omega (arith, e))
names_paired (n ∷ ns) (p ∷ ps) e =
    ap (λ (b : Bool). same_name n.now p.name && b) (names_paired ns ps (omega (arith, e)))

pub names_all : (xs ys : List (List ℕ)) → pointwise same_name xs ys ≡ true → xs ≡ ys
names_all [] [] h = refl
names_all [] (y ∷ ys) h = absurd (false≢true h)
names_all (x ∷ xs) [] h = absurd (false≢true h)
names_all (x ∷ xs) (y ∷ ys) h =
    let one = and_parts (same_name x y) (pointwise same_name xs ys) h in
    λ i. names_same x y one.0 i ∷ names_all xs ys one.1 i

parts_long : (ps : List PathPart) → length (map (λ (p : PathPart). p.instance) ps)
    ≡ length (map (λ (p : PathPart). p.name) ps)
parts_long [] = refl
parts_long (p ∷ ps) = ap suc (parts_long ps)

names_long : (ps : List Part) → length (map name_of ps) ≡ length ps
names_long [] = refl
names_long (p ∷ ps) = ap suc (names_long ps)

path_long : (path : List ℕ) → length (instances_of path) ≡ length (names_of path)
unfolding instances_of names_of
path_long path = parts_long (parts_of path)

pub text_of_names : (path : List ℕ) → names_text path
    ≡ join_by (λ name. name) (codes "/") (names_of path)
unfolding names_text
text_of_names path = refl

-- ---- rows that pass a test
length_passing : {X : Type 0} (p : X → Bool) (xs : List X)
    → length (filter p xs) ≡ sum_by (λ x. cond (p x) 1 0) xs
length_passing p xs = length-filter p xs

count_passing : {X : Type 0} (p q : X → Bool) (xs : List X)
    → count_by q (filter p xs) ≡ sum_by (λ x. cond (p x && q x) 1 0) xs
count_passing p q [] = refl
count_passing p q (x ∷ xs) = elim (cases_Bool (p x)) [
  | inl so ↦
      let kept : filter p (x ∷ xs) ≡ x ∷ filter p xs = rw so refl in
      let one : ◌≡◌ {A = ℕ} (cond (p x && q x) 1 0) (cond (q x) 1 0) =
      ap (λ (b : Bool). cond (b && q x) 1 0) so in
      ap (count_by q) kept ∙ sum_by-cons (λ y. cond (q y) 1 0) x (filter p xs)
      ∙ (λ i. sym one i + count_passing p q xs i)
      ∙ sym (sum_by-cons (λ y. cond (p y && q y) 1 0) x xs)
  | inr not_so ↦
      let kept : filter p (x ∷ xs) ≡ filter p xs = rw not_so refl in
      let none : ◌≡◌ {A = ℕ} (cond (p x && q x) 1 0) 0 =
      ap (λ (b : Bool). cond (b && q x) 1 0) not_so in
      let more = count_passing p q xs in
      let sum = sum_by-cons (λ y. cond (p y && q y) 1 0) x xs in
      ap (count_by q) kept ∙ omega (arith, none, more, sum)
]

pub count_numbers : (n : ℕ) (rows : List Row)
    → count_by (λ (r : Row). r.path == n) rows
    ≡ count_by (λ m. m == n) (map (λ (r : Row). r.path) rows)
count_numbers n [] = refl
count_numbers n (r ∷ rows) =
    sum_by-cons (λ (s : Row). cond (s.path == n) 1 0) r rows
    ∙ ap (λ (m : ℕ). cond (r.path == n) 1 0 + m) (count_numbers n rows)
    ∙ sym (sum_by-cons (λ m. cond (m == n) 1 0) r.path (map (λ (s : Row). s.path) rows))

length_numbers : (rows : List Row) → length (map (λ (r : Row). r.path) rows) ≡ length rows
length_numbers [] = refl
length_numbers (r ∷ rows) = ap suc (length_numbers rows)

and_last : (a k z : Bool) → (a && k) ≡ true → (a && (k && z)) ≡ z
and_last true true z h = refl
and_last true false z h = absurd (false≢true h)
and_last false k z h = absurd (false≢true h)

and_none : (a k z : Bool) → (a && k) ≡ false → (a && (k && z)) ≡ false
and_none true true z h = absurd (false≢true (sym h))
and_none true false z h = refl
and_none false k z h = refl

module _ (topology : Topology) (vs : List (List ℕ)) (parts : List Part) (known : Knows vs parts)
    (b : List ℕ) (full : length b ≡ length vs) (text : List ℕ)
    (joined : text ≡ join_by (λ name. name) (codes "/") (map name_of parts)) where
  abbrev agrees : Row → Bool
  agrees r = is_begun (placing r.values (bound_values (map number_in (columns_of vs parts)) b))

  abbrev row : ℕ → Option Row
  row at = path_row topology (slots_of parts) (columns_of vs parts) parts at

  abbrev numbers : List Row → List ℕ
  numbers rows = map (λ (r : Row). r.path) (filter agrees rows)

  -- the row that agrees is that of a path that fits
  path_fits : (path : List ℕ) → fits vs b parts path
      ≡ (has_names parts path && (keep_all (slots_of parts) (instances_of path)
      && is_begun (placing (values_at (columns_of vs parts) (instances_of path))
      (bound_values (map number_in (columns_of vs parts)) b))))
  path_fits path = elim (cases_Bool (has_names parts path)) [
    | inl so ↦
        let names = names_all (names_of path) (map name_of parts) so in
        let long : length (instances_of path) ≡ length parts =
        path_long path ∙ ap length names ∙ names_long parts in
        rw so (fits_as vs parts b (instances_of path) full long known)
    | inr not_so ↦ rw not_so refl
  ]

  passing : (r : Row) (rows : List Row) (t : Bool) → agrees r ≡ t
      → numbers (r ∷ rows) ≡ (if t then r.path ∷ numbers rows else numbers rows)
  passing r rows true e = rw e refl
  passing r rows false e = rw e refl

  -- the numbers of one path more
  one_more : (at : ℕ) (ns : List ℕ) (path : List ℕ) → slice_get (keys_of topology) at ≡ Some path
      → numbers (filter_map row (at ∷ ns))
      ≡ (if fits vs b parts path then at ∷ numbers (filter_map row ns)
      else numbers (filter_map row ns))
  one_more at ns path is =
      elim (cases_Bool (has_names parts path && keep_all (slots_of parts) (instances_of path))) [
        | inl so ↦
            let r : Row = record {
              values = values_at (columns_of vs parts) (instances_of path);
              path = at;
            } in
            let found : row at ≡ Some r =
            ap (row_if (slots_of parts) (columns_of vs parts) parts at) is
            ∙ ap (λ (t : Bool). if t then Some r else None) so in
            let same : fits vs b parts path ≡ agrees r =
            path_fits path ∙ and_last (has_names parts path)
            (keep_all (slots_of parts) (instances_of path)) (agrees r) so in
            let front : filter_map row (at ∷ ns) ≡ r ∷ filter_map row ns = rw found refl in
            ap numbers front ∙ passing r (filter_map row ns) (fits vs b parts path) (sym same)
        | inr not_so ↦
            let found : ◌≡◌ {A = Option Row} (row at) None =
            ap (row_if (slots_of parts) (columns_of vs parts) parts at) is
            ∙ ap (λ (t : Bool). if t then Some (record {
              values = values_at (columns_of vs parts) (instances_of path);
              path = at;
            }) else None) not_so in
            let none : fits vs b parts path ≡ false =
            path_fits path ∙ and_none (has_names parts path)
            (keep_all (slots_of parts) (instances_of path)) _ not_so in
            let front : filter_map row (at ∷ ns) ≡ filter_map row ns = rw found refl in
            ap numbers front
            ∙ sym (ap (λ (t : Bool). if t then at ∷ numbers (filter_map row ns)
            else numbers (filter_map row ns)) none)
      ]

  -- a path with another text of its names fits nowhere
  other_text : (path : List ℕ) → bytes_eq (names_text path) text ≡ false
      → fits vs b parts path ≡ false
  other_text path e = elim (cases_Bool (has_names parts path)) [
    | inl so ↦
        let names = names_all (names_of path) (map name_of parts) so in
        let same : names_text path ≡ text =
        text_of_names path ∙ ap (join_by (λ name. name) (codes "/")) names ∙ sym joined in
        absurd (false≢true (sym e ∙ (bytes_eq-Decides (names_text path) text).1 same))
    | inr not_so ↦ ap (λ (t : Bool). t && fit_instances vs b parts (instances_of path)) not_so
  ]

  grouped : (more : Topology) (at : ℕ)
      → ((i : ℕ) → slice_get (keys_of topology) (at + i) ≡ slice_get (keys_of more) i)
      → numbers (filter_map row (text_places text at (map (λ place. names_text place.0) more)))
      ≡ places_with (fits vs b parts) at more
  grouped [] at h = refl
  grouped (place ∷ more) at h =
      let here : slice_get (keys_of topology) at ≡ Some place.0 =
      let same : at ≡ at + 0 = omega arith in ap (slice_get (keys_of topology)) same ∙ h 0 in
      let rest = grouped more (suc at) (λ i. let same : suc at + i ≡ at + suc i = omega arith in
      ap (slice_get (keys_of topology)) same ∙ h (suc i)) in
      elim (cases_Bool (bytes_eq (names_text place.0) text)) [
        | inl so ↦
            ap (λ (t : Bool). numbers (filter_map row (if t then at ∷ later else later))) so
            ∙ one_more at later place.0 here
            ∙ ap (λ (ns : List ℕ). if fits vs b parts place.0 then at ∷ ns else ns) rest
        | inr not_so ↦
            ap (λ (t : Bool). numbers (filter_map row (if t then at ∷ later else later))) not_so
            ∙ rest
            ∙ sym (ap (λ (t : Bool). if t then at ∷ places_with (fits vs b parts) (suc at) more
            else places_with (fits vs b parts) (suc at) more) (other_text place.0 not_so))
      ] where
        later : List ℕ
        later = text_places text (suc at) (map (λ p. names_text p.0) more)

  pub all_grouped : numbers (filter_map row (group_of text topology))
      ≡ fitting topology vs b parts
  all_grouped =
      grouped topology 0 (λ i. let same : 0 + i ≡ i = omega arith in
      ap (slice_get (keys_of topology)) same)

  -- ---- the table of the rows in any order
  module _ (sorted : List Row)
      (moved : IsPermutation (filter_map row (group_of text topology)) sorted) where
    pub counted : length (filter agrees sorted) ≡ length (fitting topology vs b parts)
    counted =
        let rows = filter_map row (group_of text topology) in
        length_passing agrees sorted
        ∙ sum_by-IsPermutation (λ (r : Row). cond (agrees r) 1 0) rows sorted moved
        ∙ sym (length_passing agrees rows) ∙ sym (length_numbers (filter agrees rows))
        ∙ ap length all_grouped

    pub numbered : (n : ℕ) → count_by (λ (r : Row). r.path == n) (filter agrees sorted)
        ≡ count_by (λ m. m == n) (fitting topology vs b parts)
    numbered n =
        let rows = filter_map row (group_of text topology) in
        count_passing agrees (λ (r : Row). r.path == n) sorted
        ∙ sum_by-IsPermutation (λ (r : Row). cond (agrees r && (r.path == n)) 1 0) rows sorted moved
        ∙ sym (count_passing agrees (λ (r : Row). r.path == n) rows)
        ∙ count_numbers n (filter agrees rows)
        ∙ ap (count_by (λ m. m == n)) all_grouped

-- the table of a pattern
pub table_is : (topology : Topology) (vs : List (List ℕ)) (parts : List Part) (text : List ℕ)
    (t : TableValue) (rows : List Row) → Knows vs parts
    → text ≡ join_by (λ name. name) (codes "/") (map name_of parts)
    → t.columns ≡ map number_in (columns_of vs parts)
    → rows ≡ filter_map (path_row topology (slots_of parts) (columns_of vs parts) parts)
    (group_of text topology)
    → IsPermutation rows t.rows → IsTableOf topology vs parts t
table_is topology vs parts text t rows known joined columns made moved =
    let moved_rows = subst (λ (rs : List Row). IsPermutation rs t.rows) made moved in
    record {
      count = λ b full.
          ap (λ (cs : List ℕ). length (filter (λ (r : Row).
          is_begun (placing r.values (bound_values cs b))) t.rows)) columns
          ∙ counted topology vs parts known b full text joined t.rows moved_rows;
      each = λ b n full.
          ap (λ (cs : List ℕ). count_by (λ (r : Row). r.path == n) (filter (λ (r : Row).
          is_begun (placing r.values (bound_values cs b))) t.rows)) columns
          ∙ numbered topology vs parts known b full text joined t.rows moved_rows n;
    }
