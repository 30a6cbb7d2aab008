-- What bytes read as, against the lawful states that they are the spelling of.
use Rattle.std.proofs.Common.{◌≡◌, ℕ, ◌<◌, ◌^◌, ◌==◌, Bool, true, false, nat_lt, IsTrue, List, []}
use Rattle.std.proofs.Common.{◌∷◌, length, map, zero, suc, Option, Some, None, slice_get, refl}
use Rattle.std.proofs.Common.{sym, ap, subst, ◌∙◌, if◌then◌else◌, arith, inl, inr}
use Rattle.std.specs.List.{list_all}
use Rattle.std.proofs.lemmas.Bool.{false≢true, false_from_ne_true, and_from, and_parts, ltb-true}
use Rattle.std.proofs.lemmas.Bool.{lt-ltb, le-ltb, cases_lt}
use Rattle.fm_bytes.specs.Numbers.{AllBytes}
use Rattle.fm_bytes.specs.Reading.{whole}
use Rattle.fm_core.specs.Meaning.{Diagnosis}
use Rattle.ev_graph.specs.Lawful.{GraphValue}
use Rattle.dx_explain.specs.Cases.{waits}
use Rattle.dx_state.specs.Configured.{Rules, found_at, configuration_at}
use Rattle.dx_state.specs.Fitting.{diagnosis_fits}
use Rattle.dx_state.specs.LawfulState.{is_state}
use Rattle.dx_state.specs.StateBytes.{diagnosis_bytes}
use Rattle.dx_state.specs.StateReading.{diagnosis_from}
use Rattle.dx_state.proofs.Spelled.{state_fits}
use Rattle.dx_state.proofs.StateReader.{diagnosis_spelled, diagnosis_whole}
use Rattle.dx_step.specs.Lawful.{are_rules, is_there, is_lawful}
use Rattle.dx_step.proofs.Stepping.{IsLawfulState, lawful_is}
use Rattle.dx_rules.specs.declared.ruled.Ruled.{Ruled}
use Rattle.dx_rules.specs.Rulebooks.{ruled_of}
use Rattle.dx_restore.specs.declared.parts.Loaded.{Loaded}
use Rattle.dx_restore.specs.Restoring.{IsRestorable}
use Rattle.dx_restore.specs.Loading.{graph_at, ArePartsOf, IsLoaded, SpellsNone, IsSpelledState}
use Rattle.dx_restore.specs.Loading.{IsRestored, IsRestoredAs, IsReadAs}
use Rattle.dx_restore.proofs.Again.{restorable}

one_less : (n m : ℕ) → nat_lt (suc n) (suc m) ≡ nat_lt n m
one_less n m = elim (cases_lt n m) [
  | inl low ↦ lt-ltb (suc n) (suc m) (omega (arith, low)) ∙ sym (lt-ltb n m low)
  | inr past ↦ le-ltb (suc n) (suc m) (omega (arith, past)) ∙ sym (le-ltb n m past)
]

-- whether there is a configuration of a number
pub listed_there : (xs : List Ruled) (n : ℕ)
    → nat_lt n (length xs) ≡ is_there (slice_get (map ruled_of xs) n)
listed_there [] n = false_from_ne_true (nat_lt n 0) (λ h.
    let never = ltb-true n 0 h in
    absurd (omega (arith, never)))
listed_there (x ∷ xs) zero = lt-ltb 0 (length (x ∷ xs)) (omega arith)
listed_there (x ∷ xs) (suc n) = one_less n (length xs) ∙ listed_there xs n

pub single_there : (number n : ℕ) (x : Ruled)
    → (n == number) ≡ is_there (if n == number then Some (ruled_of x) else None)
single_there number n x =
    elim (n == number) as (λ (b : Bool). b ≡ is_there (if b then Some (ruled_of x) else None)) [
      | true ↦ refl
      | false ↦ refl
    ]

-- bytes of a lawful state read as it
pub lawful_reads : (r : Rules) (bytes : List ℕ) (s : Diagnosis) → length bytes < 2 ^ 64
    → IsTrue (is_lawful r s) → diagnosis_bytes s ≡ bytes
    → whole (diagnosis_from r.own bytes) ≡ Some s
lawful_reads r bytes s short h same =
    let p = lawful_is r s h in
    diagnosis_whole r.own p.own bytes s
    (state_fits r.own (configuration_at r s.conf) s p.formed p.conf p.state
    (subst (λ (bs : List ℕ). length bs < 2 ^ 64) (sym same) short)) (sym same)

some_is : (s t : Diagnosis) → ◌≡◌ {A = Option Diagnosis} (Some s) (Some t) → s ≡ t
some_is s t e = cc

none_is_not : (s : Diagnosis) → ◌≡◌ {A = Option Diagnosis} None (Some s) → ⊥
none_is_not s e = cc

-- bytes that read as nothing spell no lawful state
pub reads_none : (r : Rules) (bytes : List ℕ) → length bytes < 2 ^ 64
    → whole (diagnosis_from r.own bytes) ≡ None → SpellsNone r bytes
reads_none r bytes short h =
    λ s lawful same. none_is_not s (sym h ∙ lawful_reads r bytes s short lawful same)

-- bytes that read as a state spell no lawful one but that
pub reads_only : (r : Rules) (bytes : List ℕ) (s : Diagnosis) → length bytes < 2 ^ 64
    → whole (diagnosis_from r.own bytes) ≡ Some s → (t : Diagnosis) → IsTrue (is_lawful r t)
    → diagnosis_bytes t ≡ bytes → t ≡ s
reads_only r bytes s short h t lawful same =
    some_is t s (sym (lawful_reads r bytes t short lawful same) ∙ h)

-- and none at all where that is not lawful
pub reads_unlawful : (r : Rules) (bytes : List ℕ) (s : Diagnosis) → length bytes < 2 ^ 64
    → whole (diagnosis_from r.own bytes) ≡ Some s → (IsLawfulState r s → ⊥) → SpellsNone r bytes
reads_unlawful r bytes s short h never =
    λ t lawful same.
    never
    (subst (IsLawfulState r) (reads_only r bytes s short h t lawful same) (lawful_is r t lawful))

own_low : (r : Rules) → IsTrue (are_rules r) → r.own < 8
own_low r h = ltb-true r.own 8 (and_parts (nat_lt r.own 8) _ h).0

-- what was read has a spelling
pub reads_fit : (r : Rules) (bytes : List ℕ) (s : Diagnosis) → IsTrue (are_rules r)
    → AllBytes bytes → whole (diagnosis_from r.own bytes) ≡ Some s
    → IsTrue (diagnosis_fits r.own s)
reads_fit r bytes s rules all h = (diagnosis_spelled r.own (own_low r rules) bytes s all h).0

pub reads_state : (r : Rules) (bytes : List ℕ) (s : Diagnosis) → IsTrue (are_rules r)
    → length bytes < 2 ^ 64 → AllBytes bytes → whole (diagnosis_from r.own bytes) ≡ Some s
    → IsTrue (is_there (found_at r.configurations s.conf))
    → IsTrue (is_state r.own (configuration_at r s.conf) s) → IsSpelledState r bytes s
reads_state r bytes s rules short all h there state = record {
  there = there;
  state = state;
  spelled = sym (diagnosis_spelled r.own (own_low r rules) bytes s all h).1;
  only = reads_only r bytes s short h;
}

lawful_from : (r : Rules) (s : Diagnosis) → IsTrue (are_rules r)
    → IsTrue (is_there (found_at r.configurations s.conf))
    → IsTrue (is_state r.own (configuration_at r s.conf) s)
    → IsTrue (list_all (waits (graph_at r s.conf) s.time) s.open_cases) → IsTrue (is_lawful r s)
unfolding is_lawful
lawful_from r s rules there state waiting =
    and_from (are_rules r) _ rules
    (and_from (is_there (found_at r.configurations s.conf)) _ there
    (and_from (is_state r.own (configuration_at r s.conf) s)
    (list_all (waits (graph_at r s.conf) s.time) s.open_cases) state waiting))

-- the parts of a state that was read can be made again
pub can_restore : (r : Rules) (bytes : List ℕ) (s : Diagnosis) (g : GraphValue)
    → g ≡ graph_at r s.conf → IsSpelledState r bytes s → IsRestorable g s
can_restore r bytes s g graph h =
    subst (λ (x : GraphValue). IsRestorable x s) (sym graph)
    (restorable r.own (configuration_at r s.conf) s h.state)

-- they were, and each open case waits
pub restored : (r : Rules) (bytes : List ℕ) (s : Diagnosis) (g : GraphValue) (l : Loaded)
    → IsTrue (are_rules r) → g ≡ graph_at r s.conf → IsSpelledState r bytes s → IsRestored g s l
    → IsLoaded r bytes l
restored r bytes s g l rules graph h p = record {
  lawful = subst (λ (t : Diagnosis). IsTrue (is_lawful r t)) (sym p.state)
      (lawful_from r s rules h.there h.state
      (ap (λ (x : GraphValue). list_all (waits x s.time) s.open_cases) (sym graph) ∙ p.waiting));
  spelled = ap diagnosis_bytes p.state ∙ h.spelled;
  parts = subst (λ (x : GraphValue). ArePartsOf x l)
      (graph ∙ ap (λ (t : Diagnosis). graph_at r t.conf) (sym p.state)) p.parts;
}

-- some open case does not wait
pub unrestored : (r : Rules) (bytes : List ℕ) (s : Diagnosis) (g : GraphValue)
    → g ≡ graph_at r s.conf → IsSpelledState r bytes s
    → list_all (waits g s.time) s.open_cases ≡ false → SpellsNone r bytes
unrestored r bytes s g graph h never = λ t lawful same.
    let p = subst (IsLawfulState r) (h.only t lawful same) (lawful_is r t lawful) in
    false≢true (sym never
    ∙ (ap (λ (x : GraphValue). list_all (waits x s.time) s.open_cases) graph ∙ p.waiting))

pub read_as : (r : Rules) (bytes : List ℕ) (s : Diagnosis) (g : GraphValue) (o : Option Loaded)
    → IsTrue (are_rules r) → g ≡ graph_at r s.conf → IsSpelledState r bytes s
    → IsRestoredAs g s o → IsReadAs r bytes o
read_as r bytes s g None rules graph h p = unrestored r bytes s g graph h p
read_as r bytes s g (Some l) rules graph h p = restored r bytes s g l rules graph h p
