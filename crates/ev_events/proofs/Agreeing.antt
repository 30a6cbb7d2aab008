-- A path fits a pattern under a binding just where it agrees with itself and its instances at the
-- columns are what the binding gives to them.
use Rattle.std.proofs.Common.{◌≡◌, ◌<◌, ◌&&◌, ◌==◌, ℕ, suc, Bool, true, false}
use Rattle.std.proofs.Common.{List, [], ◌∷◌, ◌++◌, length, map, slice_get, slice_index}
use Rattle.std.proofs.Common.{unwrap_or, Option, Some, option_and_then}
use Rattle.std.proofs.Common.{refl, sym, ap, ◌∙◌, arith}
use Rattle.std.proofs.Common.{if◌then◌else◌}
use Rattle.std.proofs.lemmas.Bool.{false≢true, eqb-true, lt-ltb}
use Rattle.std.proofs.lemmas.Slice.Eq.{bytes_eq-Decides}
use Rattle.std.proofs.lemmas.List.{append-nil}
use Rattle.std.proofs.lemmas.Option.{same_Some}
use Rattle.fm_bytes.proofs.Booleans.{and_parts, and_true}
use Rattle.ev_tree.specs.declared.tree.At.{At}
use Rattle.ev_tree.specs.declared.tree.At.TheVariants as ats
use Rattle.ev_tree.specs.declared.tree.Part.{Part}
use Rattle.ev_words.specs.Iterators.{same_name, goes_down, goes_down_at, goes_across}
use Rattle.ev_join.specs.Order.{is_begun, placing}
use Rattle.ev_join.specs.Tables.{bound_values}
use Rattle.ev_join.proofs.Placings.{begun, placing_begun}
use Rattle.ev_events.specs.Names.{iterator_at, iterator_of, Knows}
use Rattle.ev_events.specs.Fits.{is_that, instance_bound, instance_across, fits_at, fits_part}
use Rattle.ev_events.specs.Fits.{fit_instances}
use Rattle.ev_events.specs.Slots.{first_place, slot_at, slot_of, slots_of, keeps, keep_all}
use Rattle.ev_events.specs.Slots.{column_of}
use Rattle.ev_events.specs.Slots.{columns_of, values_at}
use Rattle.ev_events.specs.declared.slots.Slot.{Slot}
use Rattle.ev_events.specs.declared.slots.Slot.TheVariants.{Like}
use Rattle.ev_events.specs.declared.slots.Column.{Column}
use Rattle.ev_events.proofs.Places.{none_is_not, same_tests, that_is, is_that_from, there_is}
use Rattle.ev_events.proofs.Places.{within_is, index_is, get_is, get_map, pairs_at, pairs_from}
use Rattle.ev_events.proofs.Places.{first_found, any_found, map_there}
use Rattle.ev_events.proofs.Columns.{number_in, Each, each_at, IsColumn, columns_are}
use Rattle.ev_events.proofs.Columns.{columns_have}

pub names_same : (v w : List ℕ) → same_name v w ≡ true → v ≡ w
names_same v w h = (bytes_eq-Decides v w).0 h

pub same_from : (v w : List ℕ) → v ≡ w → same_name v w ≡ true
same_from v w h = (bytes_eq-Decides v w).1 h

-- ---- vertical iterators
down_is : (v name : List ℕ) (at : At) → goes_down_at v name at ≡ true
    → iterator_at name at ≡ Some v
down_is v name ats.Bare h = ap Some (sym (names_same v name h))
down_is v name (ats.Down w) h = ap Some (sym (names_same v w h))
down_is v name (ats.Number n) h = absurd (false≢true h)
down_is v name (ats.Across w) h = absurd (false≢true h)

down_from : (v name : List ℕ) (at : At) → iterator_at name at ≡ Some v
    → goes_down_at v name at ≡ true
down_from v name ats.Bare h = same_from v name (sym (same_Some name v h))
down_from v name (ats.Down w) h = same_from v w (sym (same_Some w v h))
down_from v name (ats.Number n) h = none_is_not v h
down_from v name (ats.Across w) h = none_is_not v h

module _ (vs : List (List ℕ)) (parts : List Part) (b xs : List ℕ) (full : length b ≡ length vs)
    (long : length xs ≡ length parts) (known : Knows vs parts) where
  fits_down : (v name : List ℕ) (at : At) (x : ℕ) → iterator_at name at ≡ Some v
      → fits_at vs b parts xs name at x ≡ is_that (instance_bound vs b v) x
  fits_down v name ats.Bare x h =
      ap (λ (u : List ℕ). is_that (instance_bound vs b u) x) (same_Some name v h)
  fits_down v name (ats.Down w) x h =
      ap (λ (u : List ℕ). is_that (instance_bound vs b u) x) (same_Some w v h)
  fits_down v name (ats.Number n) x h = none_is_not v h
  fits_down v name (ats.Across w) x h = none_is_not v h

  slot_down : (v name : List ℕ) (at : At) → iterator_at name at ≡ Some v
      → slot_at parts name at ≡ Like (first_place (goes_down v) parts)
  slot_down v name ats.Bare h =
      ap (λ (u : List ℕ). Like (first_place (goes_down u) parts)) (same_Some name v h)
  slot_down v name (ats.Down w) h =
      ap (λ (u : List ℕ). Like (first_place (goes_down u) parts)) (same_Some w v h)
  slot_down v name (ats.Number n) h = none_is_not v h
  slot_down v name (ats.Across w) h = none_is_not v h

  -- the first part with an iterator that a part has, and the instance there
  record FirstDown (v : List ℕ) : Type 0 where
    place : ℕ
    part : Part
    instance : ℕ
    is : first_place (goes_down v) parts ≡ place
    stands : slice_get parts place ≡ Some part
    there : slice_get xs place ≡ Some instance
    has : iterator_of part ≡ Some v

  first_down : (i : ℕ) (p : Part) (v : List ℕ) → slice_get parts i ≡ Some p
      → iterator_of p ≡ Some v → FirstDown v
  first_down i p v s h =
      let f = first_found (goes_down v) parts i p s (down_from v p.name p.at h) in
      let less = within_is parts f.place f.item f.stands in
      let x = there_is xs f.place (omega (arith, less, long)) in
      record {
        place = f.place;
        part = f.item;
        instance = x.0;
        is = ap (λ (o : Option ℕ). unwrap_or o 0) f.is;
        stands = f.stands;
        there = x.1;
        has = down_is v f.item.name f.item.at f.passes;
      }

  -- the number of a known name, and what is bound to it
  record NumberOf (v : List ℕ) : Type 0 where
    number : ℕ
    is : first_place (same_name v) vs ≡ number
    bound : instance_bound vs b v ≡ slice_get b number
    stands : slice_get vs number ≡ Some v
    less : number < length b

  number_of_name : (i : ℕ) (p : Part) (v : List ℕ) → slice_get parts i ≡ Some p
      → iterator_of p ≡ Some v → NumberOf v
  number_of_name i p v s h =
      let found = any_found (same_name v) vs (known.each i p v s h) in
      let f = first_found (same_name v) vs found.0 found.1 found.2 found.3 in
      let within = within_is vs f.place f.item f.stands in
      record {
        number = f.place;
        is = ap (λ (o : Option ℕ). unwrap_or o 0) f.is;
        bound = ap (λ (o : Option ℕ). option_and_then (slice_get b) o) f.is;
        stands = f.stands ∙ ap Some (sym (names_same v f.item f.passes));
        less = omega (arith, within, full);
      }

  -- ---- from fitting to agreeing
  module _ (fit : fit_instances vs b parts xs ≡ true) where
    fit_at : (i : ℕ) (p : Part) (x : ℕ) → slice_get parts i ≡ Some p → slice_get xs i ≡ Some x
        → fits_at vs b parts xs p.name p.at x ≡ true
    fit_at i p x s t = pairs_at (fits_part vs b parts xs) parts xs i p x fit s t

    bound_is : (i : ℕ) (p : Part) (x : ℕ) (v : List ℕ) → slice_get parts i ≡ Some p
        → slice_get xs i ≡ Some x → iterator_of p ≡ Some v → instance_bound vs b v ≡ Some x
    bound_is i p x v s t h =
        that_is (instance_bound vs b v) x (sym (fits_down v p.name p.at x h) ∙ fit_at i p x s t)

    down_keeps : (i : ℕ) (p : Part) (x : ℕ) (v : List ℕ) → slice_get parts i ≡ Some p
        → slice_get xs i ≡ Some x → iterator_of p ≡ Some v → keeps xs (slot_of parts p) x ≡ true
    down_keeps i p x v s t h =
        let f = first_down i p v s h in
        let same = same_Some f.instance x
        (sym (bound_is f.place f.part f.instance v f.stands f.there
        f.has) ∙ bound_is i p x v s t h) in
        ap (λ (slot : Slot). keeps xs slot x) (slot_down v p.name p.at h)
        ∙ is_that_from (slice_get xs (first_place (goes_down v) parts)) x
        (ap (slice_get xs) f.is ∙ f.there ∙ ap Some same)

    across_keeps : (i : ℕ) (p : Part) (x : ℕ) (v : List ℕ) → slice_get parts i ≡ Some p
        → is_that (instance_across parts xs v) x ≡ true → goes_across v p ≡ true
        → is_that (slice_get xs (first_place (goes_across v) parts)) x ≡ true
    across_keeps i p x v s e h =
        let f = first_found (goes_across v) parts i p s h in
        let there : instance_across parts xs v ≡ slice_get xs f.place =
        ap (λ (o : Option ℕ). option_and_then (slice_get xs) o) f.is in
        ap (λ (n : ℕ). is_that (slice_get xs n) x) (ap (λ (o : Option ℕ). unwrap_or o 0) f.is)
        ∙ sym (ap (λ (o : Option ℕ). is_that o x) there) ∙ e

    keeps_by : (i : ℕ) (p : Part) (x : ℕ) → slice_get parts i ≡ Some p → slice_get xs i ≡ Some x
        → (at : At) → p.at ≡ at → keeps xs (slot_of parts p) x ≡ true
    keeps_by i p x s t ats.Bare e =
        down_keeps i p x p.name s t (ap (iterator_at p.name) e)
    keeps_by i p x s t (ats.Down v) e =
        down_keeps i p x v s t (ap (iterator_at p.name) e)
    keeps_by i p x s t (ats.Number n) e =
        ap (λ (at : At). keeps xs (slot_at parts p.name at) x) e
        ∙ (sym (ap (λ (at : At). fits_at vs b parts xs p.name at x) e) ∙ fit_at i p x s t)
    keeps_by i p x s t (ats.Across v) e =
        ap (λ (at : At). keeps xs (slot_at parts p.name at) x) e
        ∙ across_keeps i p x v s
        (sym (ap (λ (at : At). fits_at vs b parts xs p.name at x) e) ∙ fit_at i p x s t)
        (ap (goes_across_at_of v) e ∙ same_from v v refl)
      where
        goes_across_at_of : List ℕ → At → Bool
        goes_across_at_of v (ats.Across w) = same_name v w
        goes_across_at_of v _ = false

    pub fit_keep : keep_all (slots_of parts) xs ≡ true
    fit_keep =
        pairs_from (λ (q : Slot × ℕ). keeps xs q.0 q.1) (slots_of parts) xs
        (λ i slot x s t.
        let p = get_map (slot_of parts) parts i slot s in
        ap (λ (z : Slot). keeps xs z x) (sym p.2) ∙ keeps_by i p.0 x p.1 t p.0.at refl)

    value_is : (c : Column) → IsColumn vs parts c → slice_index xs c.place ≡ slice_index b c.number
    value_is c h =
        let f = first_down h.place h.part h.name h.stands h.has in
        let n = number_of_name h.place h.part h.name h.stands h.has in
        let bound = bound_is f.place f.part f.instance h.name f.stands f.there f.has in
        ap (λ (d : Column). slice_index xs d.place) h.is
        ∙ ap (slice_index xs) f.is ∙ index_is xs f.place f.instance f.there
        ∙ sym (index_is b n.number f.instance (sym n.bound ∙ bound))
        ∙ sym (ap (λ (d : Column). slice_index b d.number) h.is ∙ ap (slice_index b) n.is)

  -- ---- the numbers at the columns
  below : (c : Column) → IsColumn vs parts c → c.number < length b
  below c h =
      let n = number_of_name h.place h.part h.name h.stands h.has in
      let is = ap number_in h.is ∙ n.is in
      let less = n.less in
      omega (arith, is, less)

  bound_cons : (c : Column) (cs : List Column) → c.number < length b
      → bound_values (map number_in (c ∷ cs)) b
      ≡ slice_index b c.number ∷ bound_values (map number_in cs) b
  bound_cons c cs less =
      ap (λ (t : Bool).
      if t then slice_index b c.number ∷ bound_values (map number_in cs) b else [])
      (lt-ltb c.number (length b) less)

  values_on : (cs : List Column) → Each (IsColumn vs parts) cs
      → Each (λ c. slice_index xs c.place ≡ slice_index b c.number) cs
      → values_at cs xs ≡ bound_values (map number_in cs) b
  values_on [] h k = refl
  values_on (c ∷ cs) h k =
      (λ i. k.0 i ∷ values_on cs h.1 k.1 i) ∙ sym (bound_cons c cs (below c h.0))

  values_off : (cs : List Column) → Each (IsColumn vs parts) cs
      → values_at cs xs ≡ bound_values (map number_in cs) b
      → Each (λ c. slice_index xs c.place ≡ slice_index b c.number) cs
  values_off [] h e = tt
  values_off (c ∷ cs) h e =
      let f : slice_index xs c.place ∷ values_at cs xs
      ≡ slice_index b c.number ∷ bound_values (map number_in cs) b =
      e ∙ bound_cons c cs (below c h.0) in
      let one : slice_index xs c.place ≡ slice_index b c.number = cc in
      let more : values_at cs xs ≡ bound_values (map number_in cs) b = cc in
      (one, values_off cs h.1 more)

  each_value : (cs : List Column) → Each (IsColumn vs parts) cs
      → ((c : Column) → IsColumn vs parts c → slice_index xs c.place ≡ slice_index b c.number)
      → Each (λ c. slice_index xs c.place ≡ slice_index b c.number) cs
  each_value [] h k = tt
  each_value (c ∷ cs) h k = (k c h.0, each_value cs h.1 k)

  pub fit_values : fit_instances vs b parts xs ≡ true
      → values_at (columns_of vs parts) xs ≡ bound_values (map number_in (columns_of vs parts)) b
  fit_values fit =
      values_on (columns_of vs parts) (columns_are vs parts)
      (each_value (columns_of vs parts) (columns_are vs parts) (value_is fit))

  -- ---- from agreeing to fitting
  module _ (keep : keep_all (slots_of parts) xs ≡ true)
      (values : values_at (columns_of vs parts) xs
      ≡ bound_values (map number_in (columns_of vs parts)) b) where
    keep_at : (i : ℕ) (p : Part) (x : ℕ) → slice_get parts i ≡ Some p → slice_get xs i ≡ Some x
        → keeps xs (slot_of parts p) x ≡ true
    keep_at i p x s t =
        pairs_at (λ (q : Slot × ℕ). keeps xs q.0 q.1) (slots_of parts) xs i (slot_of parts p) x keep
        (map_there (slot_of parts) parts i p s) t

    column_value : (i : ℕ) (p : Part) (v : List ℕ) (s : slice_get parts i ≡ Some p)
        (h : iterator_of p ≡ Some v)
        → slice_index xs (first_place (goes_down v) parts)
        ≡ slice_index b (first_place (same_name v) vs)
    column_value i p v s h =
        let n = number_of_name i p v s h in
        let c = any_found (λ (d : Column). d.number == (column_of vs parts v).number)
        (columns_of vs parts) (columns_have vs parts i p v s h) in
        let k = each_at (IsColumn vs parts) (columns_of vs parts) c.0 c.1 c.2
        (columns_are vs parts) in
        let m = number_of_name k.place k.part k.name k.stands k.has in
        let number : c.1.number ≡ n.number =
        eqb-true c.1.number (column_of vs parts v).number c.3 ∙ n.is in
        let other : m.number ≡ n.number =
        sym (ap number_in k.is ∙ m.is) ∙ number in
        let name : k.name ≡ v =
        same_Some k.name v (sym m.stands ∙ ap (slice_get vs) other ∙ n.stands) in
        let is : c.1 ≡ column_of vs parts v = k.is ∙ ap (column_of vs parts) name in
        let value = each_at (λ d. slice_index xs d.place ≡ slice_index b d.number)
        (columns_of vs parts) c.0 c.1 c.2
        (values_off (columns_of vs parts) (columns_are vs parts) values) in
        sym (ap (λ (d : Column). slice_index xs d.place) is) ∙ value
        ∙ ap (λ (d : Column). slice_index b d.number) is

    down_fits : (i : ℕ) (p : Part) (x : ℕ) (v : List ℕ) → slice_get parts i ≡ Some p
        → slice_get xs i ≡ Some x → iterator_of p ≡ Some v
        → fits_at vs b parts xs p.name p.at x ≡ true
    down_fits i p x v s t h =
        let n = number_of_name i p v s h in
        let kept = that_is (slice_get xs (first_place (goes_down v) parts)) x
        (sym (ap (λ (slot : Slot). keeps xs slot x) (slot_down v p.name p.at h))
        ∙ keep_at i p x s t) in
        let value : slice_index b n.number ≡ x =
        sym (ap (slice_index b) n.is) ∙ sym (column_value i p v s h)
        ∙ index_is xs (first_place (goes_down v) parts) x kept in
        fits_down v p.name p.at x h
        ∙ is_that_from (instance_bound vs b v) x (n.bound ∙ get_is b n.number x n.less value)

    across_fits : (i : ℕ) (p : Part) (x : ℕ) (v : List ℕ) → slice_get parts i ≡ Some p
        → is_that (slice_get xs (first_place (goes_across v) parts)) x ≡ true
        → goes_across v p ≡ true → is_that (instance_across parts xs v) x ≡ true
    across_fits i p x v s e h =
        let f = first_found (goes_across v) parts i p s h in
        let there : instance_across parts xs v ≡ slice_get xs f.place =
        ap (λ (o : Option ℕ). option_and_then (slice_get xs) o) f.is in
        ap (λ (o : Option ℕ). is_that o x) there
        ∙ sym (ap (λ (m : ℕ). is_that (slice_get xs m) x)
        (ap (λ (o : Option ℕ). unwrap_or o 0) f.is)) ∙ e

    fits_by : (i : ℕ) (p : Part) (x : ℕ) → slice_get parts i ≡ Some p → slice_get xs i ≡ Some x
        → (at : At) → p.at ≡ at → fits_at vs b parts xs p.name p.at x ≡ true
    fits_by i p x s t ats.Bare e = down_fits i p x p.name s t (ap (iterator_at p.name) e)
    fits_by i p x s t (ats.Down v) e = down_fits i p x v s t (ap (iterator_at p.name) e)
    fits_by i p x s t (ats.Number n) e =
        ap (λ (at : At). fits_at vs b parts xs p.name at x) e
        ∙ (sym (ap (λ (at : At). keeps xs (slot_at parts p.name at) x) e) ∙ keep_at i p x s t)
    fits_by i p x s t (ats.Across v) e =
        ap (λ (at : At). fits_at vs b parts xs p.name at x) e
        ∙ across_fits i p x v s
        (sym (ap (λ (at : At). keeps xs (slot_at parts p.name at) x) e) ∙ keep_at i p x s t)
        (ap (across_of v) e ∙ same_from v v refl)
      where
        across_of : List ℕ → At → Bool
        across_of v (ats.Across w) = same_name v w
        across_of v _ = false

    pub keep_fit : fit_instances vs b parts xs ≡ true
    keep_fit =
        pairs_from (fits_part vs b parts xs) parts xs
        (λ i p x s t. fits_by i p x s t p.at refl)

  -- ---- a row agrees with the binding where the path fits
  values_long : (cs : List Column) → Each (IsColumn vs parts) cs
      → length (values_at cs xs) ≡ length (bound_values (map number_in cs) b)
  values_long [] h = refl
  values_long (c ∷ cs) h =
      ap suc (values_long cs h.1) ∙ sym (ap length (bound_cons c cs (below c h.0)))

  none_behind : (k rest : List ℕ) → length (k ++ rest) ≡ length k → rest ≡ []
  none_behind [] [] e = refl
  none_behind [] (x ∷ rest) e = absurd (omega (arith, e))
  none_behind (x ∷ k) rest e = none_behind k rest (omega (arith, e))

  pub begun_same : is_begun (placing (values_at (columns_of vs parts) xs)
      (bound_values (map number_in (columns_of vs parts)) b)) ≡ true
      → values_at (columns_of vs parts) xs ≡ bound_values (map number_in (columns_of vs parts)) b
  begun_same h =
      let k = bound_values (map number_in (columns_of vs parts)) b in
      let found = begun (values_at (columns_of vs parts) xs) k h in
      let rest = none_behind k found.rest (sym (ap length found.is)
      ∙ values_long (columns_of vs parts) (columns_are vs parts)) in
      found.is ∙ ap (λ (r : List ℕ). k ++ r) rest ∙ append-nil k

  pub same_begun : values_at (columns_of vs parts) xs
      ≡ bound_values (map number_in (columns_of vs parts)) b
      → is_begun (placing (values_at (columns_of vs parts) xs)
      (bound_values (map number_in (columns_of vs parts)) b)) ≡ true
  same_begun e =
      let k = bound_values (map number_in (columns_of vs parts)) b in
      ap (λ (v : List ℕ). is_begun (placing v k)) (e ∙ sym (append-nil k))
      ∙ ap is_begun (placing_begun k [])

  pub fits_as : fit_instances vs b parts xs
      ≡ (keep_all (slots_of parts) xs
      && is_begun (placing (values_at (columns_of vs parts) xs)
      (bound_values (map number_in (columns_of vs parts)) b)))
  fits_as =
      same_tests (fit_instances vs b parts xs) _
      (λ fit. and_true (keep_all (slots_of parts) xs) _ (fit_keep fit)
      (same_begun (fit_values fit)))
      (λ h. let both = and_parts (keep_all (slots_of parts) xs) _ h in
      keep_fit both.0 (begun_same both.1))
