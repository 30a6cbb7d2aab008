-- The place of a word by its number.
use Rattle.std.proofs.Common.{◌≡◌, ◌≢◌, ℕ, zero, suc, ◌<◌, ◌≤◌, Bool, true, false}
use Rattle.std.proofs.Common.{nat_lt, IsTrue, List, [], ◌∷◌, length, get_or, refl, sym}
use Rattle.std.proofs.Common.{ap}
use Rattle.std.proofs.Common.{◌∙◌, arith, if◌then◌else◌}
use Rattle.std.specs.Prelude.{insert}
use Rattle.std.specs.List.{AllWithin, list_all}
use Rattle.std.specs.List.Sorted.{IsPartitionedBy}
use Rattle.std.proofs.lemmas.Bool.{and_parts}
use Rattle.std.proofs.lemmas.Bool.Decides.{nat_tests}
use Rattle.fm_entry.specs.declared.list_event.ListEvent.{ListEvent}
use Rattle.ev_incidence.specs.Sets.{ascends}
use Rattle.dx_state.specs.LawfulState.{solved_numbers}
use Rattle.dx_state.proofs.Lists.{is_strict, strict_of, ascends_of}
use Rattle.dx_step.proofs.Parts.{inserted_strict}
use Rattle.dx_step.specs.Said.{with_last_word}

abbrev pub is_before : ℕ → ListEvent → Bool
is_before n w = nat_lt w.case.case n

later : (n : ℕ) (ws : List ListEvent) (k : ℕ) (d : ListEvent)
    → IsTrue (list_all (nat_lt n) (solved_numbers ws)) → k < length ws
    → n < (get_or ws k d).case.case
later n [] k d h low = absurd (omega arith)
later n (w ∷ ws) zero d h low =
    let first = (and_parts (nat_lt n w.case.case) _ h).0 in grind (arith, nat_tests)
later n (w ∷ ws) (suc k) d h low =
    later n ws k d (and_parts (nat_lt n w.case.case) _ h).1 (omega arith)

pub parted : (n : ℕ) (ws : List ListEvent) → IsTrue (is_strict (solved_numbers ws))
    → IsPartitionedBy (is_before n) ws
parted n [] h i j d a b c = absurd (omega arith)
parted n (w ∷ ws) h zero zero d a b c = c
parted n (w ∷ ws) h zero (suc j) d a b c =
    let above = later w.case.case ws j d
    (and_parts (list_all (nat_lt w.case.case) (solved_numbers ws)) _ h).0 (omega arith) in
    grind (arith, nat_tests)
parted n (w ∷ ws) h (suc i) zero d a b c = absurd (omega arith)
parted n (w ∷ ws) h (suc i) (suc j) d a b c =
    parted n ws (and_parts (list_all (nat_lt w.case.case) (solved_numbers ws)) _ h).1 i j d
    (omega arith) (omega arith) c

-- a word that comes in its place
put_step : (x y : ListEvent) (ys : List ListEvent) → y.case.case < x.case.case
    → with_last_word x (y ∷ ys) ≡ y ∷ with_last_word x ys
put_step x y ys low =
    let one : nat_lt x.case.case y.case.case ≡ false = grind (arith, nat_tests) in
    let two : nat_lt y.case.case x.case.case ≡ true = grind (arith, nat_tests) in
    (λ i. if one i then x ∷ y ∷ ys
    else (if two i then y ∷ with_last_word x ys else y ∷ ys))

-- a word whose case has none at its place
pub put_new : (x : ListEvent) (ws : List ListEvent) (at : ℕ) (e : ListEvent) → at ≤ length ws
    → AllWithin (λ w. is_before x.case.case w ≡ true) ws 0 at
    → AllWithin (λ w. is_before x.case.case w ≡ false) ws at (length ws)
    → (at < length ws → (get_or ws at e).case.case ≡ x.case.case → ⊥)
    → insert ws at x ≡ with_last_word x ws
put_new x [] zero e l a b other = refl
put_new x [] (suc at) e l a b other = absurd (omega arith)
put_new x (y ∷ ys) zero e l a b other =
    let here : nat_lt y.case.case x.case.case ≡ false = b 0 x (omega arith) (omega arith) in
    let apart : y.case.case ≢ x.case.case = other (omega arith) in
    let first : nat_lt x.case.case y.case.case ≡ true = grind (arith, nat_tests) in
    sym (ap (λ (t : Bool). if t then x ∷ y ∷ ys
    else (if nat_lt y.case.case x.case.case then y ∷ with_last_word x ys else y ∷ ys)) first)
put_new x (y ∷ ys) (suc at) e l a b other =
    let here : nat_lt y.case.case x.case.case ≡ true = a 0 x (omega arith) (omega arith) in
    let low : y.case.case < x.case.case = grind (arith, nat_tests) in
    let rest = put_new x ys at e (omega arith)
    (λ k d p q. a (suc k) d (omega arith) (omega arith))
    (λ k d p q. b (suc k) d (omega arith) (omega arith)) (λ p. other (omega arith)) in
    ap (λ ws. y ∷ ws) rest ∙ sym (put_step x y ys low)

-- a word whose case has one there
pub put_there : (x : ListEvent) (ws : List ListEvent) (at : ℕ) (e : ListEvent) → at < length ws
    → AllWithin (λ w. is_before x.case.case w ≡ true) ws 0 at
    → (get_or ws at e).case.case ≡ x.case.case
    → with_last_word x ws ≡ ws
put_there x [] at e l a same = absurd (omega arith)
put_there x (y ∷ ys) zero e l a same =
    let one : nat_lt x.case.case y.case.case ≡ false = grind (arith, nat_tests) in
    let two : nat_lt y.case.case x.case.case ≡ false = grind (arith, nat_tests) in
    ap (λ (t : Bool). if t then x ∷ y ∷ ys
    else (if nat_lt y.case.case x.case.case then y ∷ with_last_word x ys else y ∷ ys)) one
    ∙ ap (λ (t : Bool). if t then y ∷ with_last_word x ys else y ∷ ys) two
put_there x (y ∷ ys) (suc at) e l a same =
    let here : nat_lt y.case.case x.case.case ≡ true = a 0 x (omega arith) (omega arith) in
    let low : y.case.case < x.case.case = grind (arith, nat_tests) in
    put_step x y ys low
    ∙ ap (λ ws. y ∷ ws) (put_there x ys at e (omega arith)
    (λ k d p q. a (suc k) d (omega arith) (omega arith)) same)

-- words in order stay in order
pub stay_ascending : (x : ListEvent) (ws : List ListEvent) → IsTrue (ascends (solved_numbers ws))
    → IsTrue (ascends (solved_numbers (with_last_word x ws)))
stay_ascending x ws h =
    ascends_of (solved_numbers (with_last_word x ws))
    (inserted_strict (λ w. w.case.case) x ws (strict_of (solved_numbers ws) h))
