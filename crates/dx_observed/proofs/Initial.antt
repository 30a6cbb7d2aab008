-- A lawful state, before any entry: what its cases have observed is what they had observed.
use Rattle.std.proofs.Common.{◌≡◌, ℕ, ◌≤◌, ◌==◌, Bool, false, not, ◌&&◌, ◌||◌, nat_lt}
use Rattle.std.proofs.Common.{IsTrue, List, [], ◌∷◌, map, refl, sym, ap, ◌∙◌, arith}
use Rattle.std.specs.List.{list_all, list_any, AllByRecursion}
use Rattle.std.proofs.lemmas.Bool.{and_from, and_parts, ltb-true, lt-ltb, eq-eqb, or_left}
use Rattle.std.proofs.lemmas.Bool.Decides.{nat_tests}
use Rattle.std.proofs.lemmas.List.Folds.{list_all-map}
use Rattle.fm_name.specs.declared.events.EventName.{EventName}
use Rattle.fm_entry.specs.declared.list_event.ListEvent.{ListEvent}
use Rattle.fm_entry.specs.declared.spoken.Spoken.{Spoken}
use Rattle.fm_core.specs.Meaning.{OpenCase, Diagnosis}
use Rattle.dx_state.specs.Configured.{Rules}
use Rattle.dx_state.specs.LawfulState.{is_open_case, is_last_word, open_numbers, solved_numbers}
use Rattle.dx_state.proofs.Lists.{all_other, is_strict, strict_of}
use Rattle.dx_state.proofs.Facts.{case_is, word_is}
use Rattle.dx_step.specs.Said.{event_names}
use Rattle.dx_step.specs.Turns.{configuration_of, graph_of}
use Rattle.dx_step.specs.Lawful.{is_lawful}
use Rattle.dx_step.proofs.Parts.{lacks, lacks_is, differs_back}
use Rattle.dx_step.proofs.Stepping.{lawful_is}
use Rattle.dx_observed.specs.Reported.{has_event, had_observed}
use Rattle.dx_observed.specs.Reported.{has_open}
use Rattle.dx_observed.proofs.Each.{each_with}
use Rattle.dx_observed.proofs.Events.{or_nil, off_of, differs_of}
use Rattle.dx_observed.proofs.Sharing.{Before, IsPast, IsNow, Shares}
use Rattle.dx_observed.proofs.Acting.{still}

-- where the items have numbers, a test of those with one of them
abbrev picks : {X : Type 0} → (X → ℕ) → (X → EventName → Bool) → List X → ℕ → EventName → Bool
picks f h xs k x = list_any (λ y. (f y == k) && h y x) xs

-- none of them has it
picks_none : {X : Type 0} (f : X → ℕ) (h : X → EventName → Bool) (xs : List X) (k : ℕ)
    (x : EventName) → IsTrue (list_all (λ n. not (n == k)) (map f xs)) → picks f h xs k x ≡ false
picks_none f h [] k x a = refl
picks_none f h (y ∷ ys) k x a =
    let parts = and_parts (not (f y == k)) (list_all (λ n. not (n == k)) (map f ys)) a in
    ap (λ (b : Bool). (b && h y x) || picks f h ys k x) (off_of (f y == k) parts.0)
    ∙ picks_none f h ys k x parts.1

-- where the numbers are in order, that of an item picks just the item
picks_one : {X : Type 0} (f : X → ℕ) (h : X → EventName → Bool) (xs : List X)
    → IsTrue (is_strict (map f xs))
    → AllByRecursion (λ y. (x : EventName) → picks f h xs (f y) x ≡ h y x) xs
picks_one f h [] a = tt
picks_one {X} f h (y ∷ ys) a =
    let parts = and_parts (list_all (nat_lt (f y)) (map f ys)) (is_strict (map f ys)) a in (
      λ x.
          (λ i. (eq-eqb (f y) (f y) refl i && h y x) || picks_none f h ys (f y) x
          (all_other (nat_lt (f y)) (λ n. not (n == f y)) (λ n k. grind (arith, nat_tests))
          (map f ys) parts.0) i)
          ∙ sym (or_nil (h y x)),
      each_with (λ z. (x : EventName) → picks f h ys (f z) x ≡ h z x)
          (λ z. (x : EventName) → picks f h (y ∷ ys) (f z) x ≡ h z x) (λ z. nat_lt (f y) (f z)) ys
          (λ z k low x.
          ap (λ (b : Bool). (b && h y x) || picks f h ys (f z) x)
          (differs_of (f y) (f z) (ltb-true (f y) (f z) low)) ∙ k x)
          (picks_one f h ys parts.1) (sym (list_all-map (nat_lt (f y)) f ys) ∙ parts.0),
    )

-- no item has a number that is above all
picks_above : {X : Type 0} (f : X → ℕ) (h : X → EventName → Bool) (xs : List X) (next k : ℕ)
    (x : EventName) → IsTrue (list_all (λ y. nat_lt (f y) next) xs) → next ≤ k
    → picks f h xs k x ≡ false
picks_above f h xs next k x a high =
    picks_none f h xs k x
    (list_all-map (λ n. not (n == k)) f xs
    ∙ all_other (λ y. nat_lt (f y) next) (λ y. not (f y == k))
    (λ y l.
    let low = ltb-true (f y) next l in
    ap not (differs_of (f y) k (omega (arith, low, high))))
    xs a)

-- numbers in order, and apart from others, by place and the other way round
turned_round : (xs ys : List ℕ) → IsTrue (list_all (lacks ys) xs)
    → IsTrue (list_all (lacks xs) ys)
turned_round xs [] h = refl
turned_round xs (y ∷ ys) h =
    and_from (lacks xs y) (list_all (lacks xs) ys)
    (all_other (lacks (y ∷ ys)) (λ n. not (n == y)) (λ n k. differs_back n y
    (and_parts (not (y == n)) (lacks ys n) k).0) xs h)
    (turned_round xs ys
    (all_other (lacks (y ∷ ys)) (lacks ys) (λ n k. (and_parts (not (y == n)) (lacks ys n) k).1)
    xs h))

-- the numbers of cases in a lawful state
record HaveNumbers (s : Diagnosis) : Type 0 where
  opens : IsTrue (is_strict (open_numbers s.open_cases))
  solves : IsTrue (is_strict (solved_numbers s.solved))
  opens_below : IsTrue (list_all (λ c. nat_lt c.number s.next) s.open_cases)
  solves_below : IsTrue (list_all (λ w. nat_lt w.case.case s.next) s.solved)
  opens_apart : IsTrue (list_all (λ c. lacks (solved_numbers s.solved) c.number) s.open_cases)
  solves_apart : IsTrue (list_all (λ w. lacks (open_numbers s.open_cases) w.case.case) s.solved)

have_numbers : (r : Rules) (s : Diagnosis) → IsTrue (is_lawful r s) → HaveNumbers s
have_numbers r s lawful =
    let x = configuration_of r s in
    let h = (lawful_is r s lawful).state in
    let opens = open_numbers s.open_cases in
    let solves = solved_numbers s.solved in
    let apart : IsTrue (list_all (lacks solves) opens) =
    sym (λ i. list_all (λ k. lacks_is solves k i) opens) ∙ h.apart in
    record {
      opens = strict_of opens h.opens_ascend;
      solves = strict_of solves h.solved_ascend;
      opens_below = all_other (is_open_case x s.time s.next) (λ c. nat_lt c.number s.next)
          (λ c k. let one = case_is x s.time s.next c k in lt-ltb c.number s.next one.number)
          s.open_cases h.cases;
      solves_below = all_other (is_last_word r.own s.next) (λ w. nat_lt w.case.case s.next)
          (λ w k. let one = word_is r.own s.next w k in lt-ltb w.case.case s.next one.number)
          s.solved h.solved;
      opens_apart = sym (list_all-map (lacks solves) (λ c. c.number) s.open_cases) ∙ apart;
      solves_apart = sym (list_all-map (lacks opens) (λ w. w.case.case) s.solved)
          ∙ turned_round opens solves apart;
    }

abbrev open_has : Rules → Diagnosis → OpenCase → EventName → Bool
open_has r s c x = has_event (event_names (graph_of r s) c.observed) x

abbrev word_has : ListEvent → EventName → Bool
word_has w x = has_event w.observed x

-- before any entry, from a state on
abbrev pub since : Rules → Diagnosis → List Spoken → ℕ → Before
since r s records n = record {
  had = had_observed r s;
  first = has_open s.open_cases;
  records = records;
  number = n;
}

cases_began : (r : Rules) (s : Diagnosis) (n : ℕ) → HaveNumbers s
    → AllByRecursion (IsNow (graph_of r s) (since r s [] n) s.next []) s.open_cases
cases_began r s n h =
    let picked : OpenCase → Type 0 = λ c. (x : EventName)
    → picks (λ d. d.number) (open_has r s) s.open_cases c.number x ≡ open_has r s c x in
    each_with (λ c. picked c × IsTrue (nat_lt c.number s.next))
    (IsNow (graph_of r s) (since r s [] n) s.next [])
    (λ c. lacks (solved_numbers s.solved) c.number) s.open_cases (λ c k apart. record {
      just = λ m low x.
          sym (sym (or_nil (had_observed r s c.number x))
          ∙ (λ i. k.0 x i || picks_none (λ w. w.case.case) word_has s.solved c.number x apart i)
          ∙ sym (or_nil (open_has r s c x)));
      below = ltb-true c.number s.next k.1;
    })
    (each_with picked (λ c. picked c × IsTrue (nat_lt c.number s.next))
    (λ c. nat_lt c.number s.next) s.open_cases (λ c k low. (k, low))
    (picks_one (λ c. c.number) (open_has r s) s.open_cases h.opens) h.opens_below) h.opens_apart

words_began : (r : Rules) (s : Diagnosis) (n : ℕ) → HaveNumbers s
    → AllByRecursion (IsPast (since r s [] n) s.open_cases s.next [] n) s.solved
words_began r s n h =
    let picked : ListEvent → Type 0 = λ w. (x : EventName)
    → picks (λ v. v.case.case) word_has s.solved w.case.case x ≡ word_has w x in
    each_with (λ w. picked w × IsTrue (nat_lt w.case.case s.next))
    (IsPast (since r s [] n) s.open_cases s.next [] n)
    (λ w. lacks (open_numbers s.open_cases) w.case.case) s.solved (λ w k apart. record {
      just = λ m low x.
          sym (sym (or_nil (had_observed r s w.case.case x))
          ∙ (λ i. picks_none (λ c. c.number) (open_has r s) s.open_cases w.case.case x apart i
          || k.0 x i));
      below = ltb-true w.case.case s.next k.1;
      apart = sym (list_all-map (λ m. not (m == w.case.case)) (λ c. c.number) s.open_cases) ∙ apart;
    })
    (each_with picked (λ w. picked w × IsTrue (nat_lt w.case.case s.next))
    (λ w. nat_lt w.case.case s.next) s.solved (λ w k low. (k, low))
    (picks_one (λ w. w.case.case) word_has s.solved h.solves) h.solves_below) h.solves_apart

-- a lawful state, before any entry
pub began : (r : Rules) (s : Diagnosis) (n : ℕ) → IsTrue (is_lawful r s)
    → Shares r (since r s [] n) [] s.open_cases (still s) []
began r s n lawful =
    let h = have_numbers r s lawful in
    record {
      now = cases_began r s n h;
      strict = h.opens;
      solved = words_began r s n h;
      said = tt;
      earlier = tt;
      new = λ k x high.
          (λ i. picks_above (λ c. c.number) (open_has r s) s.open_cases s.next k x h.opens_below
          high i || picks_above (λ w. w.case.case) word_has s.solved s.next k x h.solves_below
          high i);
      below = refl;
      kept = λ k is. or_left (has_open s.open_cases k) false is;
      arrived = tt;
      each = λ few. refl;
    }
