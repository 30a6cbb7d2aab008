-- Which events are among those of some nodes, and which of some reports joined a case.
use Rattle.std.proofs.Common.{◌≡◌, ℕ, ◌≤◌, ◌<◌, ◌==◌, Bool, true, false, ◌&&◌, ◌||◌, nat_lt, nat_le}
use Rattle.std.proofs.Common.{IsTrue, List, [], ◌∷◌, ◌++◌, map, refl, sym, ap, ◌∙◌, arith, Option}
use Rattle.std.proofs.Common.{Some, None, slice_get, if◌then◌else◌, not}
use Rattle.std.specs.List.{list_all, cons_option}
use Rattle.std.proofs.lemmas.Bool.{false≢true, and_parts, eqb-true, eq-eqb, le-leb}
use Rattle.std.proofs.lemmas.Bool.Decides.{nat_tests}
use Rattle.std.proofs.lemmas.List.Folds.{list_any-append}
use Rattle.fm_name.specs.Events.{event_eq}
use Rattle.fm_name.specs.declared.events.EventName.{EventName}
use Rattle.ev_graph.specs.Lawful.{GraphValue}
use Rattle.ev_graph.specs.declared.nodes.Node.{Node}
use Rattle.dx_explain.specs.Cases.{inserted}
use Rattle.dx_step.specs.Said.{nodes_of, event_names}
use Rattle.dx_observed.specs.Reported.{Reported, JoinedReport, at_number, has_event, has_joined}
use Rattle.dx_observed.specs.Reported.{AreJust}

pub or_nil : (a : Bool) → a ≡ (a || false)
or_nil true = refl
or_nil false = refl

swap_or : (a b c : Bool) → (a || (b || c)) ≡ (b || (a || c))
swap_or true true c = refl
swap_or true false c = refl
swap_or false b c = refl

twice_or : (a b : Bool) → (a || b) ≡ (a || (a || b))
twice_or true b = refl
twice_or false b = refl

last_or : (a h j : Bool) → (a || (h || j)) ≡ (h || (j || a))
last_or true true j = refl
last_or true false true = refl
last_or true false false = refl
last_or false true j = refl
last_or false false true = refl
last_or false false false = refl

-- the names of nodes, one by one
pub names_split : (g : GraphValue) (e : ℕ) (es : List ℕ)
    → event_names g (e ∷ es) ≡ event_names g (e ∷ []) ++ event_names g es
names_split g e es =
    elim (slice_get g.nodes e) as (λ (o : Option Node).
    map (λ node. node.name) (cons_option o (nodes_of g es))
    ≡ map (λ node. node.name) (cons_option o []) ++ map (λ node. node.name) (nodes_of g es)) [
      | None ↦ refl
      | Some node ↦ refl
    ]

pub has_split : (g : GraphValue) (e : ℕ) (es : List ℕ) (x : EventName)
    → has_event (event_names g (e ∷ es)) x
    ≡ (has_event (event_names g (e ∷ [])) x || has_event (event_names g es) x)
has_split g e es x =
    ap (λ (l : List EventName). has_event l x) (names_split g e es)
    ∙ list_any-append (λ y. event_eq y x) (event_names g (e ∷ [])) (event_names g es)

-- a number more
pub has_inserted : (g : GraphValue) (n : ℕ) (es : List ℕ) (x : EventName)
    → has_event (event_names g (inserted nat_lt n es)) x
    ≡ (has_event (event_names g (n ∷ [])) x || has_event (event_names g es) x)
has_inserted g n [] x = or_nil (has_event (event_names g (n ∷ [])) x)
has_inserted g n (e ∷ es) x =
    let one : Bool = has_event (event_names g (n ∷ [])) x in
    let first : Bool = has_event (event_names g (e ∷ [])) x in
    let rest : Bool = has_event (event_names g es) x in
    let later = has_inserted g n es x in
    let here = has_split g e es x in
    elim (nat_lt n e) as (λ (b : Bool). nat_lt n e ≡ b
    → has_event (event_names g (if b then n ∷ e ∷ es
    else (if nat_lt e n then e ∷ inserted nat_lt n es else e ∷ es))) x
    ≡ (one || has_event (event_names g (e ∷ es)) x)) [
      | true ↦ λ is. has_split g n (e ∷ es) x
      | false ↦ λ high.
          elim (nat_lt e n) as (λ (b : Bool). nat_lt e n ≡ b
          → has_event (event_names g (if b then e ∷ inserted nat_lt n es else e ∷ es)) x
          ≡ (one || has_event (event_names g (e ∷ es)) x)) [
            | true ↦ λ is.
                has_split g e (inserted nat_lt n es) x ∙ ap (λ (b : Bool). first || b) later
                ∙ swap_or first one rest ∙ ap (λ (b : Bool). one || b) (sym here)
            | false ↦ λ low.
                let tied : IsTrue (e == n) = grind (arith, nat_tests) in
                let same : e ≡ n = eqb-true e n tied in
                here ∙ twice_or first rest ∙ ap (λ (b : Bool). first || b) (sym here)
                ∙ ap (λ (k : ℕ). has_event (event_names g (k ∷ [])) x
                || has_event (event_names g (e ∷ es)) x) same
          ] refl
    ] refl

-- some events join a case at the entry of a number
abbrev pub joins : ℕ → ℕ → List EventName → List JoinedReport
joins k n names = map (λ x. record { case = k; report = record { number = n; name = x } }) names

pub joins_reports : (k n : ℕ) (names : List EventName)
    → map (λ j. j.report) (joins k n names) ≡ at_number n names
joins_reports k n [] = refl
joins_reports k n (x ∷ names) =
    ap (λ (l : List Reported). record { number = n; name = x } ∷ l) (joins_reports k n names)

none_of : (a b : Bool) → false ≡ (a && (b && false))
none_of true true = refl
none_of true false = refl
none_of false b = refl

both_of : (a b c d : Bool)
    → ((a && (b && c)) || (a && (b && d))) ≡ (a && (b && (c || d)))
both_of true true c d = refl
both_of true false c d = refl
both_of false b c d = refl

joins_have : (k n : ℕ) (names : List EventName) (m l : ℕ) (x : EventName)
    → has_joined (joins k n names) m l x ≡ ((k == l) && (nat_le n m && has_event names x))
joins_have k n [] m l x = none_of (k == l) (nat_le n m)
joins_have k n (y ∷ names) m l x =
    ap (λ (b : Bool). ((k == l) && (nat_le n m && event_eq y x)) || b)
    (joins_have k n names m l x)
    ∙ both_of (k == l) (nat_le n m) (event_eq y x) (has_event names x)

more_have : (js : List JoinedReport) (k n : ℕ) (names : List EventName) (m l : ℕ) (x : EventName)
    → has_joined (js ++ joins k n names) m l x
    ≡ (has_joined js m l x || ((k == l) && (nat_le n m && has_event names x)))
more_have js k n names m l x =
    list_any-append (λ j. (j.case == l) && (nat_le j.report.number m && event_eq j.report.name x))
    js (joins k n names)
    ∙ ap (λ (b : Bool). has_joined js m l x || b) (joins_have k n names m l x)

other_has : (js : List JoinedReport) (k n : ℕ) (names : List EventName) (m l : ℕ) (x : EventName)
    → (k == l) ≡ false → has_joined (js ++ joins k n names) m l x ≡ has_joined js m l x
other_has js k n names m l x apart =
    more_have js k n names m l x
    ∙ ap (λ (b : Bool). has_joined js m l x || (b && (nat_le n m && has_event names x))) apart
    ∙ sym (or_nil (has_joined js m l x))

same_has : (js : List JoinedReport) (k n : ℕ) (names : List EventName) (m : ℕ) (x : EventName)
    → n ≤ m → has_joined (js ++ joins k n names) m k x
    ≡ (has_joined js m k x || has_event names x)
same_has js k n names m x low =
    more_have js k n names m k x
    ∙ (λ i. has_joined js m k x
    || (eq-eqb k k refl i && (le-leb n m low i && has_event names x)))

pub off_of : (b : Bool) → IsTrue (not b) → b ≡ false
off_of true h = absurd (false≢true h)
off_of false h = refl

pub differs_of : (a b : ℕ) → a < b → (a == b) ≡ false
differs_of a b low = grind (arith, nat_tests)

-- no report joined a case whose number is above all that reports joined
pub has_none : (js : List JoinedReport) (next m k : ℕ) (x : EventName)
    → IsTrue (list_all (λ j. nat_lt j.case next) js) → next ≤ k → has_joined js m k x ≡ false
has_none [] next m k x h high = refl
has_none (j ∷ js) next m k x h high =
    let parts = and_parts (nat_lt j.case next) (list_all (λ j. nat_lt j.case next) js) h in
    let apart : (j.case == k) ≡ false = grind (arith, nat_tests) in
    ap (λ (b : Bool). (b && (nat_le j.report.number m && event_eq j.report.name x))
    || has_joined js m k x) apart
    ∙ has_none js next m k x parts.1 high

-- what reports of another case change
pub just_other : (had : ℕ → EventName → Bool) (js : List JoinedReport) (n k l at : ℕ)
    (names more : List EventName) → (k == l) ≡ false → AreJust had js n l names
    → AreJust had (js ++ joins k at more) n l names
just_other had js n k l at names more apart h = λ m low x.
    h m low x
    ∙ ap (λ (b : Bool). had l x || b) (sym (other_has js k at more m l x apart))

-- what a report of the case itself changes
pub just_joined : (had : ℕ → EventName → Bool) (js : List JoinedReport) (n k : ℕ) (g : GraphValue)
    (node : ℕ) (observed : List ℕ) → AreJust had js n k (event_names g observed)
    → AreJust had (js ++ joins k n (event_names g (node ∷ []))) n k
    (event_names g (inserted nat_lt node observed))
just_joined had js n k g node observed h = λ m low x.
    has_inserted g node observed x
    ∙ ap (λ (b : Bool). has_event (event_names g (node ∷ [])) x || b) (h m low x)
    ∙ last_or (has_event (event_names g (node ∷ [])) x) (had k x) (has_joined js m k x)
    ∙ ap (λ (b : Bool). had k x || b)
    (sym (same_has js k n (event_names g (node ∷ [])) m x low))

-- the reports that open a case
pub just_new : (had : ℕ → EventName → Bool) (js : List JoinedReport) (n k : ℕ)
    (names : List EventName) → ((x : EventName) → had k x ≡ false)
    → ((m : ℕ) (x : EventName) → has_joined js m k x ≡ false)
    → AreJust had (js ++ joins k n names) n k names
just_new had js n k names none fresh = λ m low x.
    sym ((λ i. none x i || same_has js k n names m x low i)
    ∙ ap (λ (b : Bool). b || has_event names x) (fresh m x))

pub just_later : (had : ℕ → EventName → Bool) (js : List JoinedReport) (n later k : ℕ)
    (names : List EventName) → n ≤ later → AreJust had js n k names
    → AreJust had js later k names
just_later had js n later k names low h = λ m high x. h m (omega (arith, low, high)) x

-- the same events of a case of the same number
pub just_same : (had : ℕ → EventName → Bool) (js : List JoinedReport) (n k l : ℕ)
    (names others : List EventName) → l ≡ k → others ≡ names → AreJust had js n k names
    → AreJust had js n l others
just_same had js n k l names others e f h = λ m low x.
    ap (λ (ys : List EventName). has_event ys x) f ∙ h m low x
    ∙ sym (ap (λ (i : ℕ). had i x || has_joined js m i x) e)
