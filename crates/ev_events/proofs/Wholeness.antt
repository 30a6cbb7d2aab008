-- A checked file keeps what the nodes and engines of its graph rest on.
use Rattle.std.proofs.Common.{◌≡◌, ℕ, zero, suc, ◌<◌, ◌≤◌, ◌^◌, Bool, true, false, not, ◌||◌}
use Rattle.std.proofs.Common.{List, [], ◌∷◌, map, filter_map, length, Option, Some, None}
use Rattle.std.proofs.Common.{slice_get, refl, sym, ap, ◌∙◌, subst, arith}
use Rattle.std.proofs.Common.{position, is_some, inl, inr, min, unwrap_or, nat_le, nat_lt}
use Rattle.std.specs.List.{list_any, cons_option, position_or_len}
use Rattle.std.proofs.lemmas.Bool.{false≢true, cases_Bool, and_parts, le-leb, lt-ltb, or_parts}
use Rattle.std.proofs.lemmas.Bool.Decides.{nat_tests}
use Rattle.std.proofs.lemmas.Option.{same_Some}
use Rattle.fm_name.specs.Category.{category_of}
use Rattle.fm_name.specs.declared.classes.Category.{Category}
use Rattle.fm_name.specs.declared.classes.Category.TheVariants as categories
use Rattle.ev_tree.specs.declared.tree.Count.{Count}
use Rattle.ev_tree.specs.declared.tree.Count.TheVariants as counts
use Rattle.ev_tree.specs.declared.tree.Declared.{Declared}
use Rattle.ev_tree.specs.declared.tree.EventAttr.{EventAttr}
use Rattle.ev_tree.specs.declared.tree.EventAttr.TheVariants as event_attrs
use Rattle.ev_tree.specs.declared.tree.EngineAttr.{EngineAttr}
use Rattle.ev_tree.specs.declared.tree.EngineAttr.TheVariants as engine_attrs
use Rattle.ev_tree.specs.declared.tree.Statement.{Statement}
use Rattle.ev_tree.specs.declared.tree.Statement.TheVariants as statements
use Rattle.ev_ways.specs.Ways.{Reaches, Way}
use Rattle.ev_words.specs.declared.kinds.CheckKind.TheVariants.{BadKind, Twice, Missing, BadCount}
use Rattle.ev_words.specs.declared.kinds.CheckKind.TheVariants.{BadTime}
use Rattle.ev_words.specs.Attributes.{engine_value, fit_value, n_value, t_value, trip_value}
use Rattle.ev_words.specs.Attributes.{within_value, is_from, is_odd_number, is_odd_size}
use Rattle.ev_words.specs.Attributes.{is_odd_time, is_odd_trip, is_misplaced, lacks, nanoseconds}
use Rattle.ev_words.specs.Categories.{is_event, is_report, is_serd, is_upset}
use Rattle.ev_words.specs.Iterators.{same_name}
use Rattle.ev_words.specs.Words.{has_bad_count, has_bad_kind, has_bad_time, has_twice, word_of}
use Rattle.ev_words.specs.Words.{is_missing, is_odd_count}
use Rattle.ev_check.specs.CheckedFile.{CheckedFile, Linking, event_spec, kind_of, linking}
use Rattle.ev_check.specs.CheckedFile.{serd_spec}
use Rattle.ev_check.specs.CheckedFile.{view_prop}
use Rattle.ev_check.specs.Declarations.{declared_number, engine_in, engines_in}
use Rattle.ev_check.specs.Declarations.{events_in, is_alike, is_declared}
use Rattle.ev_check.specs.Declarations.{is_undeclared_trip, names_undeclared}
use Rattle.ev_check.specs.Defaults.{first_by, or_else, fit_of, within_of, n_of, t_of}
use Rattle.ev_check.specs.Drawn.{number_at, trip_among, causes_in, effects_in}
use Rattle.ev_check.specs.Lawful.{file_events, linking_causes, linking_effects, spec_event}
use Rattle.ev_check.specs.Sound.{IsSound}
use Rattle.ev_check.specs.declared.checked.DeclKind.TheVariants as kinds
use Rattle.ev_check.specs.declared.checked.EventSpec.{EventSpec}
use Rattle.ev_check.specs.declared.checked.SerdSpec.{SerdSpec}
use Rattle.ev_events.proofs.Places.{none_is_not, first_found, first_item, any_found, get_map}
use Rattle.ev_events.proofs.Agreeing.{names_same}
use Rattle.ev_events.proofs.Grouped.{names_all}
use Rattle.ev_events.proofs.Places.{map_there}
use Rattle.ev_events.specs.Whole.{category_for, is_limited, IsWholeEvent, IsWholeEngine}
use Rattle.ev_events.specs.Whole.{IsWholeFile}
use Rattle.ev_events.specs.Whole.{needs_cause}
use Rattle.ev_check.proofs.Lawfulness.{denied, passed_over}
use Rattle.ev_check.proofs.Lawfulness.{causes_seen, effects_seen, events_seen}

-- ---- tests that fail

-- ---- lists
-- what is given stands for an item
pub given_at : {A B : Type 0} (f : A → Option B) (xs : List A) (i : ℕ) (y : B)
    → slice_get (filter_map f xs) i ≡ Some y
    → (j : ℕ) × (x : A) × (slice_get xs j ≡ Some x) × (f x ≡ Some y)
given_at f [] i y h = none_is_not y h
given_at {A = A} {B = B} f (x ∷ xs) i y h = by (given_at f xs) (f x) refl i h where
  by : ((n : ℕ) (w : B) → slice_get (filter_map f xs) n ≡ Some w
      → (j : ℕ) × (z : A) × (slice_get xs j ≡ Some z) × (f z ≡ Some w))
      → (o : Option B) → f x ≡ o → (n : ℕ)
      → slice_get (cons_option (f x) (filter_map f xs)) n ≡ Some y
      → (j : ℕ) × (z : A) × (slice_get (x ∷ xs) j ≡ Some z) × (f z ≡ Some y)
  by again None e n k =
      let more = again n y
      (ap (λ (o : Option B). slice_get (cons_option o (filter_map f xs)) n) (sym e) ∙ k) in
      (suc more.0, more.1, more.2, more.3)
  by again (Some z) e zero k =
      let is = ap (λ (o : Option B). slice_get (cons_option o (filter_map f xs)) 0) (sym e) ∙ k in
      (0, x, refl, e ∙ is)
  by again (Some z) e (suc n) k =
      let more = again n y
      (ap (λ (o : Option B). slice_get (cons_option o (filter_map f xs)) (suc n)) (sym e) ∙ k) in
      (suc more.0, more.1, more.2, more.3)

-- none passes, so what passes is none
fails_at : {A : Type 0} (test : A → Bool) (xs : List A) (i : ℕ) (x : A)
    → list_any test xs ≡ false → slice_get xs i ≡ Some x → test x ≡ false
fails_at test [] i x h s = none_is_not x s
fails_at test (y ∷ ys) zero x h s =
    ap test (sym (same_Some y x s)) ∙ (or_parts (test y) (list_any test ys) h).0
fails_at test (y ∷ ys) (suc i) x h s =
    fails_at test ys i x (or_parts (test y) (list_any test ys) h).1 s

first_at : {A B : Type 0} (value : A → Option B) (xs : List A) (y : B)
    → first_by value xs ≡ Some y → (i : ℕ) × (x : A) × (slice_get xs i ≡ Some x) × (value x
    ≡ Some y)
first_at value [] y h = none_is_not y h
first_at {A = A} {B = B} value (x ∷ xs) y h = by (first_at value xs y) (value x) refl where
  by : (first_by value xs ≡ Some y
      → (i : ℕ) × (z : A) × (slice_get xs i ≡ Some z) × (value z ≡ Some y))
      → (o : Option B) → value x ≡ o
      → (i : ℕ) × (z : A) × (slice_get (x ∷ xs) i ≡ Some z) × (value z ≡ Some y)
  by again None e =
      let more = again (ap (λ (o : Option B). or_else o (first_by value xs)) (sym e) ∙ h) in
      (suc more.0, more.1, more.2, more.3)
  by again (Some z) e =
      (0, x, refl, e ∙ (ap (λ (o : Option B). or_else o (first_by value xs)) (sym e) ∙ h))

first_there : {A B : Type 0} (value : A → Option B) (xs : List A)
    → list_any (λ a. is_some (value a)) xs ≡ true → (y : B) × (first_by value xs ≡ Some y)
first_there value [] h = absurd (false≢true h)
first_there {B = B} value (x ∷ xs) h = by (first_there value xs) (value x) refl where
  by : (list_any (λ a. is_some (value a)) xs ≡ true → (y : B) × (first_by value xs ≡ Some y))
      → (o : Option B) → value x ≡ o → (y : B) × (first_by value (x ∷ xs) ≡ Some y)
  by again None e =
      let more = again
      (ap (λ (o : Option B). is_some o || list_any (λ a. is_some (value a)) xs) (sym e) ∙ h) in
      (more.0, ap (λ (o : Option B). or_else o (first_by value xs)) e ∙ more.1)
  by again (Some z) e = (z, ap (λ (o : Option B). or_else o (first_by value xs)) e)

pub placed_item : {A : Type 0} (test : A → Bool) (xs : List A) (n : ℕ) → position test xs ≡ Some n
    → (x : A) × (slice_get xs n ≡ Some x) × (test x ≡ true)
placed_item test xs n h = elim (cases_Bool (nat_lt (position_or_len test xs) (length xs))) [
  | inl so ↦
      let is : position_or_len test xs ≡ n =
      same_Some (position_or_len test xs) n (rw so at h) in
      let item = first_item test xs (grind (arith, nat_tests)) in
      (item.0, ap (slice_get xs) (sym is) ∙ item.1, item.2)
  | inr not_so ↦ none_is_not n (rw not_so at h)
]

-- ---- what is declared
pub alike_names : (d e : Declared) → is_alike d e ≡ true → e.names ≡ d.names
alike_names d e h =
    sym (names_all d.names e.names (and_parts (same_name d.class e.class) _ h).1)

pub alike_class : (d e : Declared) → is_alike d e ≡ true → e.class ≡ d.class
alike_class d e h = sym (names_same d.class e.class (and_parts (same_name d.class e.class) _ h).0)

same_declared : (d e : Declared) → is_alike d e ≡ true → e ≡ d
same_declared d e h =
    let c = alike_class d e h in
    let n = alike_names d e h in λ i. record { class = c i; names = n i }

pub declared_at : (ds : List Declared) (d : Declared) (n : ℕ) → declared_number ds d ≡ Some n
    → (e : Declared) × (slice_get ds n ≡ Some e) × (e.names ≡ d.names) × (e.class ≡ d.class)
declared_at ds d n h =
    let at = placed_item (is_alike d) ds n h in
    (at.0, at.1, alike_names d at.0 at.2, alike_class d at.0 at.2)

engines_seen : (events : List Declared) (ss : List Statement)
    → map (λ (s : SerdSpec). s.engine) (filter_map (serd_spec events) ss) ≡ filter_map engine_in ss
engines_seen events [] = refl
engines_seen events (statements.Event place d attrs ∷ ss) = engines_seen events ss
engines_seen events (statements.Engine place d attrs ∷ ss) =
    ap (λ l. d ∷ l) (engines_seen events ss)
engines_seen events (statements.Prop place left n k right ∷ ss) = engines_seen events ss

-- ---- what no word finds
record Fine (s : Statement) : Type 0 where
  kind : has_bad_kind s ≡ false
  missing : is_missing s ≡ false
  count : has_bad_count s ≡ false
  time : has_bad_time s ≡ false

fine : (s : Statement) → word_of s ≡ None → Fine s
fine s e =
    let a = passed_over (has_bad_kind s) BadKind _ e in
    let b = passed_over (has_twice s) Twice _ a.1 in
    let d = passed_over (is_missing s) Missing _ b.1 in
    let f = passed_over (has_bad_count s) BadCount _ d.1 in
    let g = passed_over (has_bad_time s) BadTime _ f.1 in
    record { kind = a.0; missing = d.0; count = f.0; time = g.0 }

at_least : (least most n : ℕ) → not (is_from least most n) ≡ false → least ≤ n
at_least least most n e = grind (arith, nat_tests)

-- ---- events
fit_least : (a : EventAttr) (y : ℕ) → is_odd_number a ≡ false → fit_value a ≡ Some y → 0 < y
fit_least (event_attrs.Fit n) y odd is =
    let e = same_Some n y is in let least = at_least 1 4294967295 n odd in omega (arith, e, least)
fit_least (event_attrs.Retire n) y odd is = none_is_not y is
fit_least (event_attrs.Engine c) y odd is = none_is_not y is
fit_least (event_attrs.Within t) y odd is = none_is_not y is

fit_some : (attrs : List EventAttr) → list_any is_odd_number attrs ≡ false
    → nat_lt 0 (fit_of attrs) ≡ true
fit_some attrs h = by (first_by fit_value attrs) refl where
  by : (o : Option ℕ) → first_by fit_value attrs ≡ o → nat_lt 0 (fit_of attrs) ≡ true
  by None e = rw e refl
  by (Some y) e =
      let a = first_at fit_value attrs y e in
      let least = fit_least a.1 y (fails_at is_odd_number attrs a.0 a.1 h a.2) a.3 in
      rw e (lt-ltb 0 (min y 4294967295) (omega (arith, least)))

within_most : (attrs : List EventAttr) → nat_le (within_of attrs) (2 ^ 50) ≡ true
within_most attrs =
    let x = unwrap_or (first_by within_value attrs) 5000000000 in
    let most : min x 1125899906842624 ≤ 1125899906842624 = omega arith in
    le-leb (min x 1125899906842624) 1125899906842624 most

module _ (engines : List Declared) (d : Declared) (attrs : List EventAttr) where
  category_whole : (o : Option Category) → is_event o ≡ true
      → o ≡ Some (category_for (kind_of engines d attrs o))
  category_whole None h = absurd (false≢true h)
  category_whole (Some categories.Ereport) h = refl
  category_whole (Some categories.Error) h = refl
  category_whole (Some categories.Fault) h = refl
  category_whole (Some categories.Defect) h = refl
  category_whole (Some categories.Upset) h = refl
  category_whole (Some categories.List) h = absurd (false≢true h)
  category_whole (Some categories.Serd) h = absurd (false≢true h)

  limits_whole : (o : Option Category) → list_any is_odd_number attrs ≡ false
      → is_limited (kind_of engines d attrs o) ≡ true
  limits_whole None h = refl
  limits_whole (Some categories.Ereport) h = within_most attrs
  limits_whole (Some categories.Error) h = refl
  limits_whole (Some categories.Fault) h = fit_some attrs h
  limits_whole (Some categories.Defect) h = fit_some attrs h
  limits_whole (Some categories.Upset) h = refl
  limits_whole (Some categories.List) h = refl
  limits_whole (Some categories.Serd) h = refl

  upset_number : (o : Option Category) (n : ℕ)
      → kind_of engines d attrs o ≡ kinds.Upset (Some n)
      → number_at engines d.names (first_by engine_value attrs) ≡ Some n
  upset_number None n h = cc
  upset_number (Some categories.Ereport) n h = cc
  upset_number (Some categories.Error) n h = cc
  upset_number (Some categories.Fault) n h = cc
  upset_number (Some categories.Defect) n h = cc
  upset_number (Some categories.Upset) n h = cc
  upset_number (Some categories.List) n h = cc
  upset_number (Some categories.Serd) n h = cc

number_there : (ds : List Declared) (names : List (List ℕ)) (o : Option (List ℕ)) (n : ℕ)
    → number_at ds names o ≡ Some n
    → (e : Declared) × (slice_get ds n ≡ Some e) × (e.names ≡ names)
number_there ds names None n h = none_is_not n h
number_there ds names (Some c) n h =
    let at = declared_at ds (record { class = c; names = names }) n h in (at.0, at.1, at.2)

-- ---- engines
n_least : (a : EngineAttr) (y : ℕ) → is_odd_size a ≡ false → n_value a ≡ Some y → 0 < y
n_least (engine_attrs.N n) y odd is =
    let e = same_Some n y is in let least = at_least 1 1024 n odd in omega (arith, e, least)
n_least (engine_attrs.T t) y odd is = none_is_not y is
n_least (engine_attrs.Trip c) y odd is = none_is_not y is

t_least : (a : EngineAttr) (y : ℕ) → is_odd_time a ≡ false → t_value a ≡ Some y → 0 < y
t_least (engine_attrs.N n) y odd is = none_is_not y is
t_least (engine_attrs.T t) y odd is =
    let e = same_Some (nanoseconds t) y is in
    let least = at_least 1 1152921504606846976 (nanoseconds t) odd in omega (arith, e, least)
t_least (engine_attrs.Trip c) y odd is = none_is_not y is

-- the first of the values is above 0, where each is
least_first : (value : EngineAttr → Option ℕ) (odd : EngineAttr → Bool) (most : ℕ)
    → ((a : EngineAttr) (y : ℕ) → odd a ≡ false → value a ≡ Some y → 0 < y)
    → (attrs : List EngineAttr) → list_any odd attrs ≡ false → 0 < most
    → 0 < min (unwrap_or (first_by value attrs) 1) most
least_first value odd most least attrs h some = by (first_by value attrs) refl where
  by : (o : Option ℕ) → first_by value attrs ≡ o
      → 0 < min (unwrap_or (first_by value attrs) 1) most
  by None e = rw e (omega (arith, some))
  by (Some y) e =
      let a = first_at value attrs y e in
      let up = least a.1 y (fails_at odd attrs a.0 a.1 h a.2) a.3 in
      rw e (omega (arith, some, up))

trip_kind : (a : EngineAttr) (c : List ℕ) → is_odd_trip a ≡ false → trip_value a ≡ Some c
    → is_report (category_of c) ≡ true
trip_kind (engine_attrs.N n) c odd is = none_is_not c is
trip_kind (engine_attrs.T t) c odd is = none_is_not c is
trip_kind (engine_attrs.Trip e) c odd is =
    ap (λ (x : List ℕ). is_report (category_of x)) (sym (same_Some e c is))
    ∙ denied (is_report (category_of e)) odd

trip_known : (events : List Declared) (names : List (List ℕ)) (a : EngineAttr) (c : List ℕ)
    → is_undeclared_trip events names a ≡ false → trip_value a ≡ Some c
    → is_declared events (record { class = c; names = names }) ≡ true
trip_known events names (engine_attrs.N n) c odd is = none_is_not c is
trip_known events names (engine_attrs.T t) c odd is = none_is_not c is
trip_known events names (engine_attrs.Trip e) c odd is =
    ap (λ (x : List ℕ). is_declared events (record { class = x; names = names }))
    (sym (same_Some e c is))
    ∙ denied (is_declared events (record { class = e; names = names })) odd

-- the trip of an engine statement
record TripAt (events : List Declared) (d : Declared) (attrs : List EngineAttr) : Type 0 where
  number : ℕ
  event : Declared
  is : number_at events d.names (first_by trip_value attrs) ≡ Some number
  first : declared_number events event ≡ Some number
  stands : slice_get events number ≡ Some event
  names : event.names ≡ d.names
  report : is_report (category_of event.class) ≡ true

trip_at : (events : List Declared) (d : Declared) (attrs : List EngineAttr)
    → lacks trip_value attrs ≡ false → list_any is_odd_trip attrs ≡ false
    → list_any (is_undeclared_trip events d.names) attrs ≡ false → TripAt events d attrs
trip_at events d attrs lacking odd unknown =
    let first = first_there trip_value attrs
    (denied (list_any (λ a. is_some (trip_value a)) attrs) lacking) in
    let a = first_at trip_value attrs first.0 first.1 in
    let trip : Declared = record { class = first.0; names = d.names } in
    let known = trip_known events d.names a.1 first.0
    (fails_at (is_undeclared_trip events d.names) attrs a.0 a.1 unknown a.2) a.3 in
    let any = any_found (is_alike trip) events known in
    let found = first_found (is_alike trip) events any.0 any.1 any.2 any.3 in
    let kind = trip_kind a.1 first.0 (fails_at is_odd_trip attrs a.0 a.1 odd a.2) a.3 in
    record {
      number = found.place;
      event = found.item;
      is = ap (number_at events d.names) first.1 ∙ found.is;
      first = ap (declared_number events) (same_declared trip found.item found.passes)
          ∙ found.is;
      stands = found.stands;
      names = alike_names trip found.item found.passes;
      report = ap (λ (x : List ℕ). is_report (category_of x))
          (alike_class trip found.item found.passes) ∙ kind;
    }

-- ---- counts
counted : (k : Option Count) → is_odd_count 1 k ≡ false
    → needs_cause (unwrap_or k (counts.Number 1)) ≡ true
counted None h = refl
counted (Some counts.All) h = refl
counted (Some (counts.Number n)) h =
    let least = at_least 1 65536 n h in lt-ltb 0 n (omega (arith, least))

-- ---- a file
module _ (f : CheckedFile) (sound : IsSound f) where
  events_are : file_events f ≡ events_in sound.statements
  events_are = ap (map spec_event) sound.file.events_are
      ∙ events_seen (engines_in sound.statements) sound.statements

  engines_are : map (λ (s : SerdSpec). s.engine) f.engines ≡ engines_in sound.statements
  engines_are = ap (map (λ (s : SerdSpec). s.engine)) sound.file.engines_are
      ∙ engines_seen (events_in sound.statements) sound.statements

  event_of : (n : ℕ) (d : Declared) → slice_get (events_in sound.statements) n ≡ Some d
      → (e : EventSpec) × (slice_get f.events n ≡ Some e) × (e.event ≡ d)
  event_of n d h =
      get_map spec_event f.events n d (ap (λ (ds : List Declared). slice_get ds n) events_are ∙ h)

  engine_of : (n : ℕ) (d : Declared) → slice_get (engines_in sound.statements) n ≡ Some d
      → (s : SerdSpec) × (slice_get f.engines n ≡ Some s) × (s.engine ≡ d)
  engine_of n d h =
      get_map (λ (s : SerdSpec). s.engine) f.engines n d
      (ap (λ (ds : List Declared). slice_get ds n) engines_are ∙ h)

  undeclared_none : (j : ℕ) (s : Statement) → slice_get sound.statements j ≡ Some s
      → names_undeclared (events_in sound.statements) (engines_in sound.statements) s ≡ false
  undeclared_none j s at =
      (passed_over (names_undeclared (events_in sound.statements)
      (engines_in sound.statements) s) _ None (sound.checked.declared.each j s at)).0

  event_whole : (e : EventSpec) (j : ℕ) (s : Statement) → slice_get sound.statements j ≡ Some s
      → event_spec (engines_in sound.statements) s ≡ Some e → IsWholeEvent f e
  event_whole e j (statements.Event place d attrs) at is =
      let clean = fine (statements.Event place d attrs) (sound.checked.words.each j _ at) in
      let engines = engines_in sound.statements in
      let kind = or_parts (not (is_event (category_of d.class)))
      (list_any (is_misplaced (category_of d.class)) attrs) clean.kind in
      let given : EventSpec = record {
        event = d;
        kind = kind_of engines d attrs (category_of d.class);
      } in
      let whole : IsWholeEvent f given = record {
        category = category_whole engines d attrs (category_of d.class)
            (denied (is_event (category_of d.class)) kind.0);
        limits = limits_whole engines d attrs (category_of d.class) clean.count;
        engine = λ n h.
            let there = number_there engines d.names (first_by engine_value attrs) n
            (upset_number engines d attrs (category_of d.class) n h) in
            let spec = engine_of n there.0 there.1 in
            (spec.0, spec.1, ap (λ (x : Declared). x.names) spec.2 ∙ there.2);
      } in
      subst (IsWholeEvent f) (same_Some given e is) whole
  event_whole e j (statements.Engine place d attrs) at is = none_is_not e is
  event_whole e j (statements.Prop place left n k right) at is = none_is_not e is

  trip_of : (j place : ℕ) (d : Declared) (attrs : List EngineAttr)
      → slice_get sound.statements j ≡ Some (statements.Engine place d attrs)
      → TripAt (events_in sound.statements) d attrs
  trip_of j place d attrs at =
      let s = statements.Engine place d attrs in
      let clean = fine s (sound.checked.words.each j s at) in
      let kind = or_parts (not (is_serd (category_of d.class))) (list_any is_odd_trip attrs)
      clean.kind in
      let lacking = or_parts (lacks n_value attrs) (lacks t_value attrs || lacks trip_value attrs)
      clean.missing in
      let more = or_parts (lacks t_value attrs) (lacks trip_value attrs) lacking.1 in
      trip_at (events_in sound.statements) d attrs more.1 kind.1 (undeclared_none j s at)

  engine_whole : (e : SerdSpec) (j : ℕ) (s : Statement) → slice_get sound.statements j ≡ Some s
      → serd_spec (events_in sound.statements) s ≡ Some e → IsWholeEngine f e
  engine_whole e j (statements.Event place d attrs) at is = none_is_not e is
  engine_whole e j (statements.Engine place d attrs) at is =
      let s = statements.Engine place d attrs in
      let clean = fine s (sound.checked.words.each j s at) in
      let trip = trip_of j place d attrs at in
      let event = event_of trip.number trip.event trip.stands in
      let given : SerdSpec = record {
        engine = d;
        n = n_of attrs;
        t = t_of attrs;
        trip = unwrap_or (trip_among (events_in sound.statements) s) 0;
      } in
      let number : given.trip ≡ trip.number = ap (λ (o : Option ℕ). unwrap_or o 0) trip.is in
      let whole : IsWholeEngine f given = record {
        some_n = least_first n_value is_odd_size 1024 n_least attrs clean.count (omega arith);
        most_n = omega arith;
        some_t = least_first t_value is_odd_time 1152921504606846976 t_least attrs clean.time
            (omega arith);
        most_t = omega arith;
        event = event.0;
        trips = ap (slice_get f.events) number ∙ event.1;
        first = ap (λ (ds : List Declared). declared_number ds event.0.event) events_are
            ∙ ap (declared_number (events_in sound.statements)) event.2 ∙ trip.first
            ∙ ap Some (sym number);
        names = ap (λ (x : Declared). x.names) event.2 ∙ trip.names;
        report = ap (λ (x : Declared). is_report (category_of x.class)) event.2 ∙ trip.report;
      } in
      subst (IsWholeEngine f) (same_Some given e is) whole
  engine_whole e j (statements.Prop place left n k right) at is = none_is_not e is

  count_whole : (l : Linking) (j : ℕ) (s : Statement) → slice_get sound.statements j ≡ Some s
      → linking s ≡ Some l → needs_cause l.k ≡ true
  count_whole l j (statements.Event place d attrs) at is = none_is_not l is
  count_whole l j (statements.Engine place d attrs) at is = none_is_not l is
  count_whole l j (statements.Prop place left n k right) at is =
      let s = statements.Prop place left n k right in
      let clean = fine s (sound.checked.words.each j s at) in
      let odd = or_parts (is_odd_count 0 n || is_odd_count 1 k) _ clean.count in
      let both = or_parts (is_odd_count 0 n) (is_odd_count 1 k) odd.0 in
      ap (λ (x : Linking). needs_cause x.k) (sym (same_Some _ l is)) ∙ counted k both.1

  causes_are : map (linking_causes (file_events f)) (map view_prop f.props)
      ≡ causes_in sound.statements
  causes_are =
      ap (λ (ds : List Declared). map (linking_causes ds) (map view_prop f.props)) events_are
      ∙ ap (map (linking_causes (events_in sound.statements))) sound.file.props_are
      ∙ causes_seen (events_in sound.statements) sound.statements

  effects_are : map (linking_effects (file_events f)) (map view_prop f.props)
      ≡ effects_in sound.statements
  effects_are =
      ap (λ (ds : List Declared). map (linking_effects ds) (map view_prop f.props)) events_are
      ∙ ap (map (linking_effects (events_in sound.statements))) sound.file.props_are
      ∙ effects_seen (events_in sound.statements) sound.statements

  apart_at : (u : ℕ) (e : EventSpec) (x : SerdSpec) (j : ℕ) (s : Statement)
      → slice_get f.events u ≡ Some e → is_upset (category_of e.event.class) ≡ true
      → slice_get sound.statements j ≡ Some s
      → serd_spec (events_in sound.statements) s ≡ Some x
      → Reaches (map (linking_causes (file_events f)) (map view_prop f.props))
      (map (linking_effects (file_events f)) (map view_prop f.props)) u x.trip → ⊥
  apart_at u e x j (statements.Event place d attrs) up kind at is r = none_is_not x is
  apart_at u e x j (statements.Engine place d attrs) up kind at is r =
      let s = statements.Engine place d attrs in
      let trip = trip_of j place d attrs at in
      let same : unwrap_or (trip_among (events_in sound.statements) s) 0 ≡ x.trip =
      ap (λ (y : SerdSpec). y.trip) (same_Some _ x is) in
      let number : x.trip ≡ trip.number =
      sym same ∙ ap (λ (o : Option ℕ). unwrap_or o 0) trip.is in
      let declared : slice_get (events_in sound.statements) u ≡ Some e.event =
      ap (λ (ds : List Declared). slice_get ds u) (sym events_are)
      ∙ map_there spec_event f.events u e up in
      sound.checked.trips.each j s at (record {
        trip = trip.number;
        number = trip.is;
        reached = record {
          upset = u;
          is = record { event = e.event; declared = declared; category = kind };
          steps = suc r.0;
          way = subst (λ (y : ℕ). Way (causes_in sound.statements) (effects_in sound.statements)
              (suc r.0) u y) number
              (subst (λ (cs : List (List ℕ)). Way cs (effects_in sound.statements) (suc r.0) u
              x.trip) causes_are
              (subst (λ (es : List (List ℕ)).
              Way (map (linking_causes (file_events f)) (map view_prop f.props)) es (suc r.0) u
              x.trip) effects_are r.1));
        };
      })
  apart_at u e x j (statements.Prop place left n k right) up kind at is r = none_is_not x is

pub whole_file : (f : CheckedFile) → IsSound f → IsWholeFile f
whole_file f sound =
    let ss = sound.statements in
    record {
      events = λ k e at.
          let given = given_at (event_spec (engines_in ss)) ss k e
          (ap (λ (xs : List EventSpec). slice_get xs k) (sym sound.file.events_are) ∙ at) in
          event_whole f sound e given.0 given.1 given.2 given.3;
      engines = λ k s at.
          let given = given_at (serd_spec (events_in ss)) ss k s
          (ap (λ (xs : List SerdSpec). slice_get xs k) (sym sound.file.engines_are) ∙ at) in
          engine_whole f sound s given.0 given.1 given.2 given.3;
      counts_are = λ j l at.
          let given = given_at linking ss j l
          (ap (λ (xs : List Linking). slice_get xs j) (sym sound.file.props_are) ∙ at) in
          count_whole f sound l given.0 given.1 given.2 given.3;
      apart = λ u k e s up kind at r.
          let given = given_at (serd_spec (events_in ss)) ss k s
          (ap (λ (xs : List SerdSpec). slice_get xs k) (sym sound.file.engines_are) ∙ at) in
          apart_at f sound u e s given.0 given.1 up kind given.2 given.3 r;
    }
