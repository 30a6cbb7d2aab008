-- Moments that do not fall: their parts, and how many lie within a time.
use Rattle.std.proofs.Common.{◌≡◌, ℕ, zero, suc, ◌+◌, ◌-◌, ◌<◌, ◌≤◌, Bool, true, false, cond, ◌&&◌}
use Rattle.std.proofs.Common.{nat_le, ◌==◌, IsTrue, List, [], ◌∷◌, ◌++◌, length, drop, refl}
use Rattle.std.proofs.Common.{sym}
use Rattle.std.proofs.Common.{◌∙◌, ap, arith, inl, inr}
use Rattle.std.specs.List.{list_all, count_by, slice_get}
use Rattle.std.proofs.lemmas.Bool.Decides.{nat_tests}
use Rattle.std.proofs.lemmas.Bool.{cases_lt, and_parts, and_from, and_right}
use Rattle.std.proofs.lemmas.List.Sums.{count_by-le-length, sum_by-cons}
use Rattle.std.proofs.lemmas.List.{drop-append-le, length-drop, drop-drop, length-append}
use Rattle.circular_buffer.specs.Buffer.{keep_last}
use Rattle.dx_serd.specs.Rates.{lies_within, is_there_from, none_past, is_rising_from}

pub le_true : (a b : ℕ) → a ≤ b → nat_le a b ≡ true
le_true a b h = grind (arith, nat_tests)

pub le_false : (a b : ℕ) → b < a → nat_le a b ≡ false
le_false a b h = grind (arith, nat_tests)

pub true_le : (a b : ℕ) → nat_le a b ≡ true → a ≤ b
true_le a b h = grind (arith, nat_tests)

pub eq_true : (a b : ℕ) → a ≡ b → (a == b) ≡ true
eq_true a b h = grind (arith, nat_tests)

pub false_le : (a b : ℕ) → nat_le a b ≡ false → b < a
false_le a b h = grind (arith, nat_tests)

-- of an `&&` that fails and of which the second part holds, the first fails
pub and_left : (a b : Bool) → b ≡ true → (a && b) ≡ false → a ≡ false
and_left true b e h = absurd (let no : ⊥ = cc in no)
and_left false b e h = refl

-- moments that do not fall from a moment on do not fall from a lower one on
pub rising_lower : (a b : ℕ) (xs : List ℕ) → b ≤ a → IsTrue (is_rising_from a xs)
    → IsTrue (is_rising_from b xs)
rising_lower a b [] low h = refl
rising_lower a b (x ∷ xs) low h =
    let parts = and_parts (nat_le a x) (is_rising_from x xs) h in
    let here : a ≤ x = true_le a x parts.0 in
    and_from (nat_le b x) (is_rising_from x xs) (le_true b x (omega arith)) parts.1

-- the first ones of them
pub rising_first : (a : ℕ) (xs ys : List ℕ) → IsTrue (is_rising_from a (xs ++ ys))
    → IsTrue (is_rising_from a xs)
rising_first a [] ys h = refl
rising_first a (x ∷ xs) ys h =
    let parts = and_parts (nat_le a x) (is_rising_from x (xs ++ ys)) h in
    and_from (nat_le a x) (is_rising_from x xs) parts.0 (rising_first x xs ys parts.1)

-- one more, which none is past
pub rising_push : (a m : ℕ) (xs : List ℕ) → a ≤ m → IsTrue (is_rising_from a xs)
    → IsTrue (none_past m xs) → IsTrue (is_rising_from a (xs ++ m ∷ []))
rising_push a m [] low h past = and_from (nat_le a m) true (le_true a m low) refl
rising_push a m (x ∷ xs) low h past =
    let parts = and_parts (nat_le a x) (is_rising_from x xs) h in
    let up = and_parts (nat_le x m) (none_past m xs) past in
    and_from (nat_le a x) (is_rising_from x (xs ++ m ∷ [])) parts.0
    (rising_push x m xs (true_le x m up.0) parts.1 up.1)

-- what is not past a moment is not past a later one
pub past_later : (m later : ℕ) (xs : List ℕ) → m ≤ later → IsTrue (none_past m xs)
    → IsTrue (none_past later xs)
past_later m later [] h past = refl
past_later m later (x ∷ xs) h past =
    let up = and_parts (nat_le x m) (none_past m xs) past in
    let low : x ≤ m = true_le x m up.0 in
    and_from (nat_le x later) (none_past later xs) (le_true x later (omega arith))
    (past_later m later xs h up.1)

-- the last ones of them
pub rising_right : (a : ℕ) (xs ys : List ℕ) → IsTrue (is_rising_from a (xs ++ ys))
    → IsTrue (is_rising_from 0 ys)
rising_right a [] ys h = rising_lower a 0 ys (omega arith) h
rising_right a (x ∷ xs) ys h =
    rising_right x xs ys (and_parts (nat_le a x) (is_rising_from x (xs ++ ys)) h).1

-- and those after so many
pub rising_drop : (k a : ℕ) (xs : List ℕ) → IsTrue (is_rising_from a xs)
    → IsTrue (is_rising_from a (drop k xs))
rising_drop zero a xs h = h
rising_drop (suc k) a [] h = refl
rising_drop (suc k) a (x ∷ xs) h =
    let parts = and_parts (nat_le a x) (is_rising_from x xs) h in
    let here : a ≤ x = true_le a x parts.0 in
    rising_drop k a xs (rising_lower x a xs here parts.1)

-- where a moment comes last, none is past it
pub last_high : (a m : ℕ) (xs : List ℕ) → IsTrue (is_rising_from a (xs ++ m ∷ [])) → a ≤ m
last_high a m [] h = true_le a m (and_parts (nat_le a m) true h).0
last_high a m (x ∷ xs) h =
    let parts = and_parts (nat_le a x) (is_rising_from x (xs ++ m ∷ [])) h in
    let here : a ≤ x = true_le a x parts.0 in
    let rest : x ≤ m = last_high x m xs parts.1 in
    omega arith

pub all_high : (a m : ℕ) (xs : List ℕ) → IsTrue (is_rising_from a (xs ++ m ∷ []))
    → IsTrue (none_past m (xs ++ m ∷ []))
all_high a m [] h =
    and_from (nat_le m m) true (le_true m m (omega arith)) refl
all_high a m (x ∷ xs) h =
    let parts = and_parts (nat_le a x) (is_rising_from x (xs ++ m ∷ [])) h in
    and_from (nat_le x m) (none_past m (xs ++ m ∷ []))
    (le_true x m (last_high x m xs parts.1)) (all_high x m xs parts.1)

-- a list of which the last element fails does not pass
pub last_fails : (p : ℕ → Bool) (m : ℕ) (xs : List ℕ) → p m ≡ false
    → list_all p (xs ++ m ∷ []) ≡ false
last_fails p m [] h = ap (λ b. b && true) h
last_fails p m (x ∷ xs) h =
    and_right (p x) (list_all p (xs ++ m ∷ [])) (last_fails p m xs h)

-- one moment more, that lies within or doesn't
pub count_yes : (p : ℕ → Bool) (x : ℕ) (xs : List ℕ) → p x ≡ true
    → count_by p (x ∷ xs) ≡ suc (count_by p xs)
count_yes p x xs h =
    let more : 1 + count_by p xs ≡ suc (count_by p xs) = omega arith in
    sum_by-cons (λ y. cond (p y) 1 0) x xs ∙ ap (λ b. cond b 1 0 + count_by p xs) h ∙ more

pub count_no : (p : ℕ → Bool) (x : ℕ) (xs : List ℕ) → p x ≡ false
    → count_by p (x ∷ xs) ≡ count_by p xs
count_no p x xs h =
    let same : 0 + count_by p xs ≡ count_by p xs = omega arith in
    sum_by-cons (λ y. cond (p y) 1 0) x xs ∙ ap (λ b. cond b 1 0 + count_by p xs) h ∙ same

within_is : (t m x : ℕ) → m - t ≤ x → x ≤ m → lies_within t m x ≡ true
within_is t m x a b =
    and_from (nat_le (m - t) x) (nat_le x m) (le_true (m - t) x a) (le_true x m b)

within_not : (t m x : ℕ) → x < m - t → lies_within t m x ≡ false
within_not t m x a = ap (λ b. b && nat_le x m) (le_false (m - t) x a)

-- where the first moment is not too low, all lie within
pub count_all : (t m a : ℕ) (xs : List ℕ) → m - t ≤ a → IsTrue (is_rising_from a xs)
    → IsTrue (none_past m xs) → count_by (lies_within t m) xs ≡ length xs
count_all t m a [] low h high = refl
count_all t m a (x ∷ xs) low h high =
    let parts = and_parts (nat_le a x) (is_rising_from x xs) h in
    let up = and_parts (nat_le x m) (none_past m xs) high in
    let here : a ≤ x = true_le a x parts.0 in
    let fits : x ≤ m = true_le x m up.0 in
    count_yes (lies_within t m) x xs (within_is t m x (omega arith) fits)
    ∙ ap suc (count_all t m x xs (omega arith) parts.1 up.1)

-- the last n of more than n elements, and of no more than n
pub last_less : {X : Type 0} (n : ℕ) (x : X) (xs : List X) → n ≤ length xs
    → keep_last n (x ∷ xs) ≡ keep_last n xs
last_less n x xs h =
    let one : suc (length xs) - n ≡ suc (length xs - n) = omega arith in
    ap (λ k. drop k (x ∷ xs)) one

pub last_all : {X : Type 0} (n : ℕ) (xs : List X) → length xs ≤ n → keep_last n xs ≡ xs
last_all n xs h =
    let none : length xs - n ≡ 0 = omega arith in
    ap (λ k. drop k xs) none

-- n moments lie within exactly where there are n, and the first of the last n does
pub near_is : (n t m a : ℕ) (xs : List ℕ) → 1 ≤ n → IsTrue (is_rising_from a xs)
    → IsTrue (none_past m xs)
    → (is_there_from (m - t) (slice_get (keep_last n xs) 0) && (length (keep_last n xs) == n))
    ≡ nat_le n (count_by (lies_within t m) xs)
near_is n t m a [] some h high =
    let none : nat_le n 0 ≡ false = le_false n 0 (omega arith) in
    ap (λ ys. is_there_from (m - t) (slice_get ys 0) && (length ys == n))
    (last_all n (let nil : List ℕ = [] in nil) (omega arith))
    ∙ sym none
near_is n t m a (x ∷ xs) some h high =
    let p : ℕ → Bool = lies_within t m in
    let parts = and_parts (nat_le a x) (is_rising_from x xs) h in
    let up = and_parts (nat_le x m) (none_past m xs) high in
    let fits : x ≤ m = true_le x m up.0 in
    let test : List ℕ → Bool =
    λ ys. is_there_from (m - t) (slice_get ys 0) && (length ys == n) in
    let most : count_by p xs ≤ length xs = count_by-le-length p xs in
    elim (cases_lt (length xs) n) [
      | inr more ↦
          ap test (last_less n x xs more) ∙ near_is n t m x xs some parts.1 up.1
          ∙ elim (cases_lt x (m - t)) [
            | inl low ↦
                ap (nat_le n) (sym (count_no p x xs (within_not t m x low)))
            | inr near ↦
                let all : count_by p xs ≡ length xs = count_all t m x xs near parts.1 up.1 in
                let yes : nat_le n (count_by p xs) ≡ true =
                le_true n (count_by p xs) (omega arith) in
                let on : nat_le n (suc (count_by p xs)) ≡ true =
                le_true n (suc (count_by p xs)) (omega arith) in
                yes ∙ sym on
                ∙ ap (nat_le n) (sym (count_yes p x xs (within_is t m x near fits)))
          ]
      | inl few ↦
          ap test (last_all n (x ∷ xs) (omega arith))
          ∙ elim (cases_lt x (m - t)) [
            | inl low ↦
                let no : nat_le (m - t) x ≡ false = le_false (m - t) x low in
                let less : nat_le n (count_by p xs) ≡ false =
                le_false n (count_by p xs) (omega arith) in
                ap (λ b. b && (suc (length xs) == n)) no
                ∙ sym less ∙ ap (nat_le n) (sym (count_no p x xs (within_not t m x low)))
            | inr near ↦
                let yes : nat_le (m - t) x ≡ true = le_true (m - t) x near in
                let all : count_by p xs ≡ length xs = count_all t m x xs near parts.1 up.1 in
                let same : (suc (length xs) == n) ≡ nat_le n (suc (count_by p xs)) =
                grind (arith, nat_tests) in
                ap (λ b. b && (suc (length xs) == n)) yes
                ∙ same ∙ ap (nat_le n) (sym (count_yes p x xs (within_is t m x near fits)))
          ]
    ]

-- one moment more behind the last n: the last n of these are those of all
pub last_twice : {X : Type 0} (n : ℕ) (xs : List X) (x : X)
    → keep_last n (keep_last n xs ++ x ∷ []) ≡ keep_last n (xs ++ x ∷ [])
last_twice n xs x =
    elim (cases_lt n (length xs)) [
      | inr few ↦ ap (λ ys. keep_last n (ys ++ x ∷ [])) (last_all n xs few)
      | inl more ↦
          let d : ℕ = length xs - n in
          let front : drop d (xs ++ x ∷ []) ≡ drop d xs ++ x ∷ [] =
          drop-append-le d xs (x ∷ []) (omega arith) in
          let size : length (drop d xs ++ x ∷ []) - n ≡ 1 =
          omega (arith, length-append (drop d xs) (x ∷ []), length-drop d xs) in
          let whole : length (xs ++ x ∷ []) - n ≡ d + 1 =
          omega (arith, length-append xs (x ∷ [])) in
          ap (λ k. drop k (drop d xs ++ x ∷ [])) size
          ∙ ap (drop 1) (sym front)
          ∙ drop-drop 1 d (xs ++ x ∷ [])
          ∙ ap (λ k. drop k (xs ++ x ∷ [])) (sym whole)
    ]
