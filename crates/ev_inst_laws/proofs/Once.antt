-- No event of a checked file is declared twice, and no engine.
use Rattle.std.proofs.Common.{◌≡◌, ℕ, zero, suc, ◌<◌, ◌||◌, Bool, true, false, List, [], ◌∷◌, map}
use Rattle.std.proofs.Common.{take, filter_map, slice_get, Option, Some, None, if◌then◌else◌}
use Rattle.std.proofs.Common.{refl, sym, ap, ◌∙◌, subst, arith, inl, inr, nat_lt}
use Rattle.std.specs.List.{list_any, cons_option}
use Rattle.std.proofs.lemmas.Bool.{cases_Bool, false≢true}
use Rattle.std.proofs.lemmas.Bool.Decides.{nat_tests}
use Rattle.std.proofs.lemmas.Option.{same_Some}
use Rattle.ev_tree.specs.declared.tree.Declared.{Declared}
use Rattle.ev_tree.specs.declared.tree.Statement.{Statement}
use Rattle.ev_tree.specs.declared.tree.Statement.TheVariants as statements
use Rattle.ev_words.specs.declared.kinds.CheckKind.TheVariants.{Twice}
use Rattle.ev_check.specs.CheckedFile.{CheckedFile, serd_spec}
use Rattle.ev_check.specs.Declarations.{engine_in, engines_in, event_in, events_in, is_alike}
use Rattle.ev_check.specs.Declarations.{is_declared, twice_after}
use Rattle.ev_check.specs.Faults.{Passes}
use Rattle.ev_check.specs.Lawful.{file_events, spec_event}
use Rattle.ev_check.specs.Sound.{IsSound}
use Rattle.ev_events.proofs.Places.{none_is_not}
use Rattle.ev_events.specs.Nodes.{file_engines, spec_engine}
use Rattle.ev_events.proofs.Wholeness.{given_at}
use Rattle.ev_inst_laws.specs.Once.{DeclaresOnce}
use Rattle.ev_check.proofs.Lawfulness.{events_seen}
use Rattle.ev_inst.proofs.Buildable.{alike_itself}

-- ---- what is declared is alike to itself

stands_declared : (ds : List Declared) (i : ℕ) (d : Declared) → slice_get ds i ≡ Some d
    → is_declared ds d ≡ true
stands_declared [] i d h = none_is_not d h
stands_declared (e ∷ ds) zero d h =
    let same : e ≡ d = same_Some e d h in
    let here : is_alike d e ≡ true =
    subst (λ (x : Declared). is_alike d x ≡ true) (sym same) (alike_itself d) in
    ap (λ (b : Bool). b || list_any (is_alike d) ds) here
stands_declared (e ∷ ds) (suc i) d h = later (is_alike d e) (stands_declared ds i d h) where
  later : (b : Bool) → is_declared ds d ≡ true → (b || is_declared ds d) ≡ true
  later true more = refl
  later false more = more

-- ---- what stands in front of an item is given by what stands in front of its statement
record Given {A B : Type 0} (g : A → Option B) (xs : List A) (front : B) (item : B) : Type 0 where
  place : ℕ
  source : A
  stands : slice_get xs place ≡ Some source
  gives : g source ≡ Some item
  at : ℕ
  before : slice_get (filter_map g (take place xs)) at ≡ Some front

given_before : {A B : Type 0} (g : A → Option B) (xs : List A) (i j : ℕ) (y z : B) → i < j
    → slice_get (filter_map g xs) i ≡ Some y → slice_get (filter_map g xs) j ≡ Some z
    → Given g xs y z
given_before g [] i j y z less s t = none_is_not y s
given_before {A = A} {B = B} g (x ∷ xs) i j y z less s t =
    by (λ m n. given_before g xs m n y z) (g x) refl i j less s t
  where
    deeper : g x ≡ None → Given g xs y z → Given g (x ∷ xs) y z
    deeper e f = record {
      place = suc f.place;
      source = f.source;
      stands = f.stands;
      gives = f.gives;
      at = f.at;
      before = ap (λ (o : Option B). slice_get (cons_option o (filter_map g (take f.place xs)))
          f.at) e ∙ f.before;
    }

    behind : (w : B) → g x ≡ Some w → Given g xs y z → Given g (x ∷ xs) y z
    behind w e f = record {
      place = suc f.place;
      source = f.source;
      stands = f.stands;
      gives = f.gives;
      at = suc f.at;
      before = ap (λ (o : Option B). slice_get (cons_option o (filter_map g (take f.place xs)))
          (suc f.at)) e ∙ f.before;
    }

    by : ((m n : ℕ) → m < n → slice_get (filter_map g xs) m ≡ Some y
        → slice_get (filter_map g xs) n ≡ Some z → Given g xs y z)
        → (o : Option B) → g x ≡ o → (m n : ℕ) → m < n
        → slice_get (cons_option (g x) (filter_map g xs)) m ≡ Some y
        → slice_get (cons_option (g x) (filter_map g xs)) n ≡ Some z → Given g (x ∷ xs) y z
    by again None e m n low u v =
        let less_of : (k : ℕ) (w : B) → slice_get (cons_option (g x) (filter_map g xs)) k ≡ Some w
        → slice_get (filter_map g xs) k ≡ Some w = λ k w h.
        ap (λ (o : Option B). slice_get (cons_option o (filter_map g xs)) k) (sym e) ∙ h in
        deeper e (again m n low (less_of m y u) (less_of n z v))
    by again (Some w) e m zero low u v = absurd (omega (arith, low))
    by again (Some w) e zero (suc n) low u v =
        let rest : slice_get (filter_map g xs) n ≡ Some z =
        ap (λ (o : Option B). slice_get (cons_option o (filter_map g xs)) (suc n)) (sym e) ∙ v in
        let found = given_at g xs n z rest in
        let first : Some w ≡ Some y =
        ap (λ (o : Option B). slice_get (cons_option o (filter_map g xs)) 0) (sym e) ∙ u in
        record {
          place = suc found.0;
          source = found.1;
          stands = found.2;
          gives = found.3;
          at = 0;
          before =
              ap (λ (o : Option B). slice_get (cons_option o (filter_map g (take found.0 xs))) 0)
              e ∙ first;
        }
    by again (Some w) e (suc m) (suc n) low u v =
        let rest : (k : ℕ) (r : B)
        → slice_get (cons_option (g x) (filter_map g xs)) (suc k) ≡ Some r
        → slice_get (filter_map g xs) k ≡ Some r = λ k r h.
        ap (λ (o : Option B). slice_get (cons_option o (filter_map g xs)) (suc k)) (sym e) ∙ h in
        behind w e (again m n (omega (arith, low)) (rest m y u) (rest n z v))

-- ---- a declaration that passes is none of those before it
refused : (b : Bool) → (if b then Some Twice else None) ≡ None → b ≡ false
refused true e = absurd (cc)
refused false e = refl

new_event : (before : List Statement) (s : Statement) (d : Declared) → event_in s ≡ Some d
    → twice_after before s ≡ None → is_declared (events_in before) d ≡ false
new_event before (statements.Event place e attrs) d is h =
    ap (is_declared (events_in before)) (sym (same_Some e d is))
    ∙ refused (is_declared (events_in before) e) h
new_event before (statements.Engine place e attrs) d is h = none_is_not d is
new_event before (statements.Prop place left n k right) d is h = none_is_not d is

new_engine : (before : List Statement) (s : Statement) (d : Declared) → engine_in s ≡ Some d
    → twice_after before s ≡ None → is_declared (engines_in before) d ≡ false
new_engine before (statements.Event place e attrs) d is h = none_is_not d is
new_engine before (statements.Engine place e attrs) d is h =
    ap (is_declared (engines_in before)) (sym (same_Some e d is))
    ∙ refused (is_declared (engines_in before) e) h
new_engine before (statements.Prop place left n k right) d is h = none_is_not d is

-- so each stands once
module _ (g : Statement → Option Declared) (ss : List Statement) (passes : Passes twice_after ss)
    (new : (before : List Statement) (s : Statement) (d : Declared) → g s ≡ Some d
    → twice_after before s ≡ None → is_declared (filter_map g before) d ≡ false) where
  not_before : (i j : ℕ) (d : Declared) → i < j → slice_get (filter_map g ss) i ≡ Some d
      → slice_get (filter_map g ss) j ≡ Some d → ⊥
  not_before i j d less s t =
      let f = given_before g ss i j d d less s t in
      false≢true (sym (new (take f.place ss) f.source d f.gives
      (passes.each f.place f.source f.stands))
      ∙ stands_declared (filter_map g (take f.place ss)) f.at d f.before)

  each_once : (i j : ℕ) (d : Declared) → slice_get (filter_map g ss) i ≡ Some d
      → slice_get (filter_map g ss) j ≡ Some d → i ≡ j
  each_once i j d s t = elim (cases_Bool (nat_lt i j)) [
    | inl less ↦ absurd (not_before i j d (grind (arith, nat_tests)) s t)
    | inr no_less ↦ elim (cases_Bool (nat_lt j i)) [
      | inl less ↦ absurd (not_before j i d (grind (arith, nat_tests)) t s)
      | inr neither ↦ grind (arith, nat_tests)
    ]
  ]

-- ---- what a checked file declares is what its statements declare

engines_seen : (events : List Declared) (ss : List Statement)
    → map spec_engine (filter_map (serd_spec events) ss) ≡ filter_map engine_in ss
engines_seen events [] = refl
engines_seen events (statements.Event place d attrs ∷ ss) = engines_seen events ss
engines_seen events (statements.Engine place d attrs ∷ ss) =
    ap (λ l. d ∷ l) (engines_seen events ss)
engines_seen events (statements.Prop place left n k right ∷ ss) = engines_seen events ss

pub declares_once : (f : CheckedFile) → IsSound f → DeclaresOnce f
declares_once f sound =
    let ss = sound.statements in
    let events : file_events f ≡ events_in ss =
    ap (map spec_event) sound.file.events_are ∙ events_seen (engines_in ss) ss in
    let engines : file_engines f ≡ engines_in ss =
    ap (map spec_engine) sound.file.engines_are ∙ engines_seen (events_in ss) ss in
    record {
      events = λ i j d s t. each_once event_in ss sound.checked.once new_event i j d
          (ap (λ (ds : List Declared). slice_get ds i) (sym events) ∙ s)
          (ap (λ (ds : List Declared). slice_get ds j) (sym events) ∙ t);
      engines = λ i j d s t. each_once engine_in ss sound.checked.once new_engine i j d
          (ap (λ (ds : List Declared). slice_get ds i) (sym engines) ∙ s)
          (ap (λ (ds : List Declared). slice_get ds j) (sym engines) ∙ t);
    }
