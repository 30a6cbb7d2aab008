-- A checked file is lawful: what no phase finds, and what its lists are, come to what instances
-- rest on.
use Rattle.std.proofs.Common.{◌≡◌, ℕ, suc, ◌<◌, ◌^◌, Bool, true, false, not, ◌||◌}
use Rattle.std.proofs.Common.{List, [], ◌∷◌, map, filter_map, Option, Some, None}
use Rattle.std.proofs.Common.{slice_get, if◌then◌else◌, refl, sym, ap, ◌∙◌, subst, arith}
use Rattle.std.specs.List.{list_any, cons_option}
use Rattle.std.specs.List.{AllByRecursion as ByRecursion}
use Rattle.std.proofs.lemmas.List.Elements.{All-from_recursion}
use Rattle.std.proofs.lemmas.Bool.{false≢true, or_parts}
use Rattle.std.proofs.lemmas.Bool.Decides.{nat_tests}
use Rattle.fm_name.specs.Category.{category_of}
use Rattle.ev_tree.specs.Pattern.{Pattern, view_pattern}
use Rattle.ev_tree.specs.declared.tree.At.{At}
use Rattle.ev_tree.specs.declared.tree.At.TheVariants as ats
use Rattle.ev_tree.specs.declared.tree.Declared.{Declared}
use Rattle.ev_tree.specs.declared.tree.Part.{Part}
use Rattle.ev_tree.specs.declared.tree.SidePattern.{SidePattern}
use Rattle.ev_tree.specs.declared.tree.Statement.{Statement}
use Rattle.ev_tree.specs.declared.tree.Statement.TheVariants as statements
use Rattle.ev_ways.specs.Ways.{Reaches}
use Rattle.ev_words.specs.declared.kinds.CheckKind.TheVariants.{BadKind, Twice, Missing, BadCount}
use Rattle.ev_words.specs.declared.kinds.CheckKind.TheVariants.{BadTime, FreeIterator}
use Rattle.ev_words.specs.Attributes.{is_from}
use Rattle.ev_words.specs.Categories.{is_side}
use Rattle.ev_check.specs.CheckedFile.{CheckedFile, Linking, event_spec, linking}
use Rattle.ev_check.specs.CheckedFile.{view_prop}
use Rattle.ev_check.specs.Declarations.{declared_number, event_in, events_in, engines_in}
use Rattle.ev_check.specs.Declarations.{is_declared, is_undeclared, names_undeclared, subject_of}
use Rattle.ev_check.specs.Drawn.{causes_of, effects_in, effects_of, side_numbers}
use Rattle.ev_check.specs.Faults.{IsChecked}
use Rattle.ev_words.specs.Iterators.{goes_down, has_odd_name, is_down, is_free, is_horizontal}
use Rattle.ev_words.specs.Iterators.{is_long, is_mixed, is_mixed_at, is_vertical}
use Rattle.ev_check.specs.Lawful.{IsLawfulAt, IsLawfulFile, IsLawfulLinking, IsLawfulPart}
use Rattle.ev_check.specs.Lawful.{IsLawfulPattern, linking_causes, file_events, linking_effects}
use Rattle.ev_check.specs.Lawful.{spec_event, is_vertical_in, pattern_numbers}
use Rattle.ev_words.specs.Operands.{operands_at}
use Rattle.ev_check.specs.Sound.{IsSound}
use Rattle.ev_words.specs.Words.{asks_oddly, has_bad_count, has_bad_kind, has_bad_time, has_twice}
use Rattle.ev_words.specs.Words.{has_free_iterator, is_missing}
use Rattle.ev_words.specs.Words.{has_odd_part, is_odd_at, is_odd_part, is_odd_side, word_of}
use Rattle.ev_words.specs.Words.{is_odd_count}

-- ---- tests that fail

pub denied : (a : Bool) → not a ≡ false → a ≡ true
denied true e = refl
denied false e = absurd (false≢true (sym e))

pub passed_over : {A : Type 0} (b : Bool) (x : A) (o : Option A) → (if b then Some x else o) ≡ None
    → (b ≡ false) × (o ≡ None)
passed_over true x o e = absurd (cc)
passed_over false x o e = (refl, e)

-- each element fails a test that none passes
each_fails : {A : Type 0} (test : A → Bool) (xs : List A) → list_any test xs ≡ false
    → ByRecursion (λ x. test x ≡ false) xs
each_fails test [] e = tt
each_fails test (x ∷ xs) e = let p = or_parts (test x) (list_any test xs) e in
    (p.0, each_fails test xs p.1)

-- what follows for each element from two facts
both_each : {A : Type 0} {P Q R : A → Type 0} → ((x : A) → P x → Q x → R x) → (xs : List A)
    → ByRecursion P xs → ByRecursion Q xs → ByRecursion R xs
both_each f [] p q = tt
both_each f (x ∷ xs) p q = (f x p.0 q.0, both_each f xs p.1 q.1)

each_seen : {A B : Type 0} (view : A → B) (P : A → Type 0) (Q : B → Type 0)
    → ((x : A) → P x → Q (view x)) → (xs : List A) → ByRecursion P xs → ByRecursion Q (map view xs)
each_seen view P Q f [] p = tt
each_seen view P Q f (x ∷ xs) p = (f x p.0, each_seen view P Q f xs p.1)

-- what holds at each place holds of each element
each_place : {A : Type 0} (P : A → Type 0) (xs : List A)
    → ((j : ℕ) (x : A) → slice_get xs j ≡ Some x → P x) → ByRecursion P xs
each_place P [] f = tt
each_place P (x ∷ xs) f = (f 0 x refl, each_place P xs (λ j y e. f (suc j) y e))

any_seen : {A B : Type 0} (view : A → B) (test : B → Bool) (xs : List A)
    → list_any test (map view xs) ≡ list_any (λ x. test (view x)) xs
any_seen view test [] = refl
any_seen view test (x ∷ xs) = ap (λ b. test (view x) || b) (any_seen view test xs)

-- ---- a pattern

vertical_seen : (left right : List SidePattern) (v : List ℕ)
    → is_vertical left right v
    ≡ (is_vertical_in (map view_pattern left) v || is_vertical_in (map view_pattern right) v)
vertical_seen left right v =
    ap (λ b. b || list_any (is_down v) right)
    (sym (any_seen view_pattern (λ (q : Pattern). list_any (goes_down v) q.parts) left))
    ∙ ap (λ b. is_vertical_in (map view_pattern left) v || b)
    (sym (any_seen view_pattern (λ (q : Pattern). list_any (goes_down v) q.parts) right))

small : (n : ℕ) → not (is_from 0 4294967295 n) ≡ false → n < 2 ^ 32
small n e = grind (arith, nat_tests)

lawful_at : (down vertical : List ℕ → Bool) → ((v : List ℕ) → down v ≡ vertical v) → (a : At)
    → is_odd_at a ≡ false → is_mixed_at down a ≡ false → IsLawfulAt vertical a
lawful_at down vertical is ats.Bare e f = tt
lawful_at down vertical is (ats.Down v) e f = tt
lawful_at down vertical is (ats.Number n) e f = small n e
lawful_at down vertical is (ats.Across v) e f = sym (is v) ∙ (or_parts (is_long v) (down v) f).1

lawful_part : (down vertical : List ℕ → Bool) → ((v : List ℕ) → down v ≡ vertical v) → (p : Part)
    → is_odd_part p ≡ false → is_mixed down p ≡ false → IsLawfulPart vertical p
lawful_part down vertical is p e f =
    lawful_at down vertical is p.at e (or_parts (is_long p.name) (is_mixed_at down p.at) f).1

-- what the first phase and the third don't find of a pattern
pub record Kept (events : List Declared) (down : List ℕ → Bool) (left : Bool) (p : SidePattern) :
    Type 0 where
  odd : is_odd_side left p ≡ false
  part : has_odd_part p ≡ false
  name : has_odd_name down p ≡ false
  known : is_undeclared events p ≡ false

lawful_pattern : (events : List Declared) (down vertical : List ℕ → Bool)
    → ((v : List ℕ) → down v ≡ vertical v) → (left : Bool) (p : SidePattern)
    → Kept events down left p
    → IsLawfulPattern events vertical left (view_pattern p)
lawful_pattern events down vertical is left p k =
    let odd = or_parts (not (is_side left (category_of p.class))) (asks_oddly left p) k.odd in
    let names = or_parts (list_any (is_free down (is_horizontal p)) (operands_at p))
    (list_any (is_mixed down) p.parts) k.name in
    record {
      side = denied (is_side left (category_of p.class)) odd.0;
      declared = denied (is_declared events (subject_of p)) k.known;
      parts = All-from_recursion (IsLawfulPart vertical) p.parts
          (both_each (lawful_part down vertical is) p.parts
          (each_fails is_odd_part p.parts k.part) (each_fails (is_mixed down) p.parts names.1));
      asks = odd.1;
    }

kept_each : (events : List Declared) (down : List ℕ → Bool) (left : Bool) (ps : List SidePattern)
    → list_any (is_odd_side left) ps ≡ false → list_any has_odd_part ps ≡ false
    → list_any (has_odd_name down) ps ≡ false → list_any (is_undeclared events) ps ≡ false
    → ByRecursion (Kept events down left) ps
kept_each events down left [] a b d e = tt
kept_each events down left (p ∷ ps) a b d e =
    let w = or_parts (is_odd_side left p) (list_any (is_odd_side left) ps) a in
    let x = or_parts (has_odd_part p) (list_any has_odd_part ps) b in
    let y = or_parts (has_odd_name down p) (list_any (has_odd_name down) ps) d in
    let z = or_parts (is_undeclared events p) (list_any (is_undeclared events) ps) e in (
      record { odd = w.0; part = x.0; name = y.0; known = z.0 },
      kept_each events down left ps w.1 x.1 y.1 z.1,
    )

-- ---- a statement

pub record Clean (s : Statement) : Type 0 where
  kind : has_bad_kind s ≡ false
  count : has_bad_count s ≡ false
  name : has_free_iterator s ≡ false

clean : (s : Statement) → word_of s ≡ None → Clean s
clean s e =
    let a = passed_over (has_bad_kind s) BadKind _ e in
    let b = passed_over (has_twice s) Twice _ a.1 in
    let d = passed_over (is_missing s) Missing _ b.1 in
    let f = passed_over (has_bad_count s) BadCount _ d.1 in
    let g = passed_over (has_bad_time s) BadTime _ f.1 in
    let h = passed_over (has_free_iterator s) FreeIterator None g.1 in
    record { kind = a.0; count = f.0; name = h.0 }

-- what the statement gives is lawful
abbrev Gives : List Declared → Option Linking → Type 0
Gives events None = Unit {0}
Gives events (Some l) = IsLawfulLinking events l

lawful_statement : (events engines : List Declared) (s : Statement) → Clean s
    → names_undeclared events engines s ≡ false → Gives events (linking s)
lawful_statement events engines (statements.Event place d attrs) c u = tt
lawful_statement events engines (statements.Engine place d attrs) c u = tt
lawful_statement events engines (statements.Prop place left n k right) c u =
    let down = is_vertical left right in
    let vertical : List ℕ → Bool =
    λ v. is_vertical_in (map view_pattern left) v || is_vertical_in (map view_pattern right) v
    in
    let odd = or_parts (list_any (is_odd_side true) left) (list_any (is_odd_side false) right)
    c.kind in
    let counts = or_parts (is_odd_count 0 n || is_odd_count 1 k)
    (list_any has_odd_part left || list_any has_odd_part right) c.count in
    let parts = or_parts (list_any has_odd_part left) (list_any has_odd_part right) counts.1 in
    let names = or_parts (list_any (has_odd_name down) left) (list_any (has_odd_name down) right)
    c.name in
    let known = or_parts (list_any (is_undeclared events) left)
    (list_any (is_undeclared events) right) u in
    let Lawful : Bool → Pattern → Type 0 = λ on q. IsLawfulPattern events vertical on q in
    record {
      causes = All-from_recursion (Lawful true) (map view_pattern left)
          (each_seen view_pattern (Kept events down true) (Lawful true)
          (λ p kept. lawful_pattern events down vertical (vertical_seen left right) true p kept)
          left
          (kept_each events down true left odd.0 parts.0 names.0 known.0));
      effects = All-from_recursion (Lawful false) (map view_pattern right)
          (each_seen view_pattern (Kept events down false) (Lawful false)
          (λ p kept. lawful_pattern events down vertical (vertical_seen left right) false p kept)
          right
          (kept_each events down false right odd.1 parts.1 names.1 known.1));
    }

given_each : (events : List Declared) (ss : List Statement)
    → ByRecursion (λ s. Gives events (linking s)) ss
    → ByRecursion (IsLawfulLinking events) (filter_map linking ss)
given_each events [] g = tt
given_each events (statements.Event place d attrs ∷ ss) g = given_each events ss g.1
given_each events (statements.Engine place d attrs ∷ ss) g = given_each events ss g.1
given_each events (statements.Prop place left n k right ∷ ss) g = (g.0, given_each events ss g.1)

-- ---- a file

pub events_seen : (engines : List Declared) (ss : List Statement)
    → map spec_event (filter_map (event_spec engines) ss) ≡ filter_map event_in ss
events_seen engines [] = refl
events_seen engines (statements.Event place d attrs ∷ ss) = ap (λ l. d ∷ l) (events_seen engines ss)
events_seen engines (statements.Engine place d attrs ∷ ss) = events_seen engines ss
events_seen engines (statements.Prop place left n k right ∷ ss) = events_seen engines ss

pub numbers_option : (o : Option ℕ) (a b : List ℕ) → a ≡ b → cons_option o a ≡ cons_option o b
numbers_option o a b e = ap (cons_option o) e

pub numbers_seen : (events : List Declared) (ps : List SidePattern)
    → pattern_numbers events (map view_pattern ps) ≡ side_numbers events ps
numbers_seen events [] = refl
numbers_seen events (p ∷ ps) =
    numbers_option (declared_number events (subject_of p)) _ _ (numbers_seen events ps)

pub causes_seen : (events : List Declared) (ss : List Statement)
    → map (linking_causes events) (filter_map linking ss) ≡ filter_map (causes_of events) ss
causes_seen events [] = refl
causes_seen events (statements.Event place d attrs ∷ ss) = causes_seen events ss
causes_seen events (statements.Engine place d attrs ∷ ss) = causes_seen events ss
causes_seen events (statements.Prop place left n k right ∷ ss) =
    ap (λ l. l ∷ map (linking_causes events) (filter_map linking ss)) (numbers_seen events left)
    ∙ ap (λ ls. side_numbers events left ∷ ls) (causes_seen events ss)

pub effects_seen : (events : List Declared) (ss : List Statement)
    → map (linking_effects events) (filter_map linking ss) ≡ filter_map (effects_of events) ss
effects_seen events [] = refl
effects_seen events (statements.Event place d attrs ∷ ss) = effects_seen events ss
effects_seen events (statements.Engine place d attrs ∷ ss) = effects_seen events ss
effects_seen events (statements.Prop place left n k right ∷ ss) =
    ap (λ l. l ∷ map (linking_effects events) (filter_map linking ss)) (numbers_seen events right)
    ∙ ap (λ ls. side_numbers events right ∷ ls) (effects_seen events ss)

file_links : (ss : List Statement) → IsChecked ss
    → ByRecursion (IsLawfulLinking (events_in ss)) (filter_map linking ss)
file_links ss c = given_each (events_in ss) ss
    (each_place (λ s. Gives (events_in ss) (linking s)) ss (λ j s e.
    lawful_statement (events_in ss) (engines_in ss) s (clean s (c.words.each j s e))
    (passed_over (names_undeclared (events_in ss) (engines_in ss) s) _ None
    (c.declared.each j s e)).0))

pub lawful_file : (f : CheckedFile) → IsSound f → IsLawfulFile f
lawful_file f s =
    let ss = s.statements in
    let events : file_events f ≡ events_in ss = ap (map spec_event) s.file.events_are
    ∙ events_seen (engines_in ss) ss in
    record {
      props = All-from_recursion (IsLawfulLinking (file_events f)) (map view_prop f.props)
          (subst (λ ls. ByRecursion (IsLawfulLinking (file_events f)) ls) (sym s.file.props_are)
          (subst (λ ds. ByRecursion (IsLawfulLinking ds) (filter_map linking ss)) (sym events)
          (file_links ss s.checked)));
      acyclic = λ x r. s.checked.acyclic.each x
          (subst (λ l. Reaches l (effects_in ss) x x) (causes_seen (events_in ss) ss)
          (subst (λ l. Reaches (map (linking_causes (events_in ss)) (filter_map linking ss)) l x x)
          (effects_seen (events_in ss) ss)
          (subst (λ ls. Reaches (map (linking_causes (events_in ss)) ls)
          (map (linking_effects (events_in ss)) ls) x x) s.file.props_are
          (subst (λ ds. Reaches (map (linking_causes ds) (map view_prop f.props))
          (map (linking_effects ds) (map view_prop f.props)) x x) events r))));
    }
