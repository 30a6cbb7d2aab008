-- The last moments decide as all do, and what is kept can be kept.
use Rattle.std.proofs.Common.{◌≡◌, ℕ, ◌+◌, ◌-◌, ◌<◌, ◌≤◌, Bool, true, false, cond, ◌&&◌, not}
use Rattle.std.proofs.Common.{nat_le}
use Rattle.std.proofs.Common.{◌==◌, IsTrue, List, [], ◌∷◌, ◌++◌, length, drop, refl, sym, ◌∙◌, ap}
use Rattle.std.proofs.Common.{suc, subst, arith, append_assoc, inl, inr}
use Rattle.std.specs.List.{list_all, slice_get}
use Rattle.std.proofs.lemmas.Bool.{cases_lt, and_from}
use Rattle.std.proofs.lemmas.List.{drop-append-le, length-drop, length-append}
use Rattle.circular_buffer.specs.Buffer.{Buffer, buffer, keep_last}
use Rattle.dx_serd.specs.Rates.{fires, since_after, kept_after, is_there_from}
use Rattle.dx_serd.specs.Rates.{is_rising, none_past, is_rate, are_kept, fired_by_all}
use Rattle.dx_serd.specs.Rates.{fired_by_kept}
use Rattle.dx_serd.specs.Rates.{StaysKept}
use Rattle.dx_serd.proofs.Moments.{le_true, le_false, false_le, eq_true, and_left, rising_first}
use Rattle.dx_serd.proofs.Moments.{rising_drop, rising_right, all_high, last_fails, near_is}
use Rattle.dx_serd.proofs.Moments.{last_all, last_twice, rising_push, past_later}

-- whether the last n of some moments lie within t of m
abbrev test_of : ℕ → ℕ → ℕ → List ℕ → Bool
test_of n t m ys = is_there_from (m - t) (slice_get ys 0) && (length ys == n)

-- what fires, by the last n
pub fires_is : (n t : ℕ) (since : List ℕ) (m : ℕ) → 1 ≤ n → IsTrue (is_rising (since ++ m ∷ []))
    → test_of n t m (keep_last n (since ++ m ∷ [])) ≡ fires n t since m
fires_is n t since m some h = near_is n t m 0 (since ++ m ∷ []) some h (all_high 0 m since h)

-- the last n, and a moment behind them, do not fall
rising_last : (n : ℕ) (since : List ℕ) (m : ℕ) → IsTrue (is_rising (since ++ m ∷ []))
    → IsTrue (is_rising (keep_last n since ++ m ∷ []))
rising_last n since m h =
    subst (λ ys. IsTrue (is_rising ys))
    (drop-append-le (length since - n) since (m ∷ []) (omega arith))
    (rising_drop (length since - n) 0 (since ++ m ∷ []) h)

fires_last : (n t : ℕ) (since : List ℕ) (m : ℕ) → 1 ≤ n → IsTrue (is_rising (since ++ m ∷ []))
    → fires n t (keep_last n since) m ≡ fires n t since m
fires_last n t since m some h =
    sym (fires_is n t (keep_last n since) m some (rising_last n since m h))
    ∙ ap (test_of n t m) (last_twice n since m)
    ∙ fires_is n t since m some h

kept_by_last : (n : ℕ) (since : List ℕ) (m : ℕ) (fired : Bool)
    → cond fired [] (keep_last n (keep_last n since ++ m ∷ []))
    ≡ keep_last n (cond fired [] (since ++ m ∷ []))
kept_by_last n since m true = sym (last_all n (let nil : List ℕ = [] in nil) (omega arith))
kept_by_last n since m false = last_twice n since m

-- what is kept of the last n is the last n of what is left of all
kept_after_last : (n t : ℕ) (since : List ℕ) (m : ℕ) → 1 ≤ n → IsTrue (is_rising (since ++ m ∷ []))
    → kept_after n t (keep_last n since) m ≡ keep_last n (since_after n t since m)
kept_after_last n t since m some h =
    ap (λ b. cond b [] (keep_last n (keep_last n since ++ m ∷ []))) (fires_last n t since m some h)
    ∙ kept_by_last n since m (fires n t since m)

-- what is left, and the moments after it, do not fall
rising_after : (since ms : List ℕ) (m : ℕ) (fired : Bool)
    → IsTrue (is_rising ((since ++ m ∷ []) ++ ms))
    → IsTrue (is_rising (cond fired [] (since ++ m ∷ []) ++ ms))
rising_after since ms m true h = rising_right 0 (since ++ m ∷ []) ms h
rising_after since ms m false h = h

pub alike : (n t : ℕ) (ms since : List ℕ) → 1 ≤ n → IsTrue (is_rising (since ++ ms))
    → fired_by_kept n t (keep_last n since) ms ≡ fired_by_all n t since ms
alike n t [] since some h = refl
alike n t (m ∷ ms) since some h =
    let apart : IsTrue (is_rising ((since ++ m ∷ []) ++ ms)) =
    subst (λ xs. IsTrue (is_rising xs)) (sym (append_assoc since (m ∷ []) ms)) h in
    let here : IsTrue (is_rising (since ++ m ∷ [])) =
    rising_first 0 (since ++ m ∷ []) ms apart in
    let rest : List ℕ = since_after n t since m in
    let rising : IsTrue (is_rising (rest ++ ms)) =
    rising_after since ms m (fires n t since m) apart in
    ap (λ b. b ∷ fired_by_kept n t (kept_after n t (keep_last n since) m) ms)
    (fires_last n t since m some here)
    ∙ ap (λ ks. fires n t since m ∷ fired_by_kept n t ks ms) (kept_after_last n t since m some here)
    ∙ ap (λ bs. fires n t since m ∷ bs) (alike n t ms rest some rising)

and_none : (a : Bool) → (a && false) ≡ false
and_none true = refl
and_none false = refl

-- fewer than n are no n
few_none : (n t m : ℕ) (us : List ℕ) → length (us ++ m ∷ []) < n
    → is_rate n t (us ++ m ∷ []) ≡ false
few_none n t m [] few = ap (λ b. b && true) (le_false n 1 few)
few_none n t m (u ∷ us) few =
    ap (λ b. b && list_all (λ y. nat_le (y - u) t) (us ++ m ∷ []))
    (le_false n (suc (length (us ++ m ∷ []))) few)

-- n moments that end with m, and do not fire at it, do not all lie within t
many_none : (n t m : ℕ) (us : List ℕ) → length (us ++ m ∷ []) ≡ n
    → test_of n t m (us ++ m ∷ []) ≡ false → is_rate n t (us ++ m ∷ []) ≡ false
many_none n t m [] size h =
    let near : nat_le (m - t) m ≡ true = le_true (m - t) m (omega arith) in
    let there : (1 == n) ≡ true = eq_true 1 n size in
    let far : nat_le (m - t) m ≡ false = and_left (nat_le (m - t) m) (1 == n) there h in
    absurd (let no : ⊥ = cc in no)
many_none n t m (u ∷ us) size h =
    let there : (length (u ∷ us ++ m ∷ []) == n) ≡ true = eq_true _ n size in
    let far : nat_le (m - t) u ≡ false =
    and_left (nat_le (m - t) u) (length (u ∷ us ++ m ∷ []) == n) there h in
    let low : u < m - t = false_le (m - t) u far in
    let past : nat_le (m - u) t ≡ false = le_false (m - u) t (omega arith) in
    ap (λ b. nat_le n (length (u ∷ us ++ m ∷ [])) && b)
    (last_fails (λ y. nat_le (y - u) t) m us past)
    ∙ and_none (nat_le n (length (u ∷ us ++ m ∷ [])))

no_rate : (n t m : ℕ) (us : List ℕ) → length (us ++ m ∷ []) ≤ n
    → test_of n t m (us ++ m ∷ []) ≡ false → is_rate n t (us ++ m ∷ []) ≡ false
no_rate n t m us most h =
    elim (cases_lt (length (us ++ m ∷ [])) n) [
      | inl few ↦ few_none n t m us few
      | inr many ↦ many_none n t m us (omega arith) h
    ]

-- what is left where nothing fired, as moments that end with m
record EndingIn (n : ℕ) (kept : List ℕ) (m : ℕ) : Type 0 where
  front : List ℕ
  is : keep_last n (kept ++ m ∷ []) ≡ front ++ m ∷ []
  few : length (front ++ m ∷ []) ≤ n
  rising : IsTrue (is_rising (front ++ m ∷ []))

ending_in : (n : ℕ) (kept : List ℕ) (m : ℕ) → 1 ≤ n → IsTrue (is_rising (kept ++ m ∷ []))
    → EndingIn n kept m
ending_in n kept m some h =
    let xs : List ℕ = kept ++ m ∷ [] in
    let k : ℕ = length xs - n in
    let size : length xs ≡ length kept + 1 = length-append kept (m ∷ []) in
    let is : drop k xs ≡ drop k kept ++ m ∷ [] =
    drop-append-le k kept (m ∷ []) (omega arith) in
    record {
      front = drop k kept;
      is = is;
      few = omega (arith, length-append (drop k kept) (m ∷ []), length-drop k kept);
      rising = subst (λ ys. IsTrue (is_rising ys)) is (rising_drop k 0 xs h);
    }

-- what is kept after a moment can be kept
kept_by : (n t : ℕ) (kept : List ℕ) (m : ℕ) (fired : Bool) → 1 ≤ n
    → IsTrue (is_rising (kept ++ m ∷ [])) → fires n t kept m ≡ fired
    → IsTrue (are_kept n t (cond fired [] (keep_last n (kept ++ m ∷ []))))
    × IsTrue (none_past m (cond fired [] (keep_last n (kept ++ m ∷ []))))
kept_by n t kept m true some h e =
    (and_from (nat_le 0 n) true (le_true 0 n (omega arith)) refl, refl)
kept_by n t kept m false some h e =
    let here : EndingIn n kept m = ending_in n kept m some h in
    let ys : List ℕ = here.front ++ m ∷ [] in
    let test : test_of n t m ys ≡ false =
    ap (test_of n t m) (sym here.is) ∙ fires_is n t kept m some h ∙ e in
    let none : is_rate n t ys ≡ false = no_rate n t m here.front here.few test in
    let most : nat_le (length ys) n ≡ true = le_true (length ys) n here.few in
    let all : IsTrue (are_kept n t ys) =
    and_from (is_rising ys) (nat_le (length ys) n && not (is_rate n t ys)) here.rising
    (and_from (nat_le (length ys) n) (not (is_rate n t ys)) most (ap not none)) in
    subst (λ zs. IsTrue (are_kept n t zs) × IsTrue (none_past m zs))
    (sym here.is) (all, all_high 0 m here.front here.rising)

pub stays_kept : (n t : ℕ) (kept : List ℕ) (m : ℕ) → 1 ≤ n → IsTrue (is_rising kept)
    → IsTrue (none_past m kept) → StaysKept n t kept m
stays_kept n t kept m some h past =
    let rising : IsTrue (is_rising (kept ++ m ∷ [])) =
    rising_push 0 m kept (omega arith) h past in
    let both = kept_by n t kept m (fires n t kept m) some rising refl in
    record {
      are = both.0;
      not_past = λ later low. past_later m later (kept_after n t kept m) low both.1;
    }

-- a ring after a moment came into it: whether it has the rate is whether the moment fires
pub fired_is : (n t m low : ℕ) (old new : Buffer ℕ) (fired : Bool) → 1 ≤ n → old.capacity ≡ n
    → IsTrue (is_rising old.items) → IsTrue (none_past m old.items)
    → new ≡ buffer (keep_last old.capacity (old.items ++ m ∷ [])) old.capacity
    → low ≡ m - t
    → fired ≡ (is_there_from low (slice_get new.items 0) && (length new.items == new.capacity))
    → fired ≡ fires n t old.items m
fired_is n t m low old new fired some size h past made at test =
    let rising : IsTrue (is_rising (old.items ++ m ∷ [])) =
    rising_push 0 m old.items (omega arith) h past in
    test
    ∙ ap (λ k. is_there_from k (slice_get new.items 0) && (length new.items == new.capacity)) at
    ∙ ap (λ b. is_there_from (m - t) (slice_get b.items 0) && (length b.items == b.capacity)) made
    ∙ ap (λ k. is_there_from (m - t) (slice_get (keep_last k (old.items ++ m ∷ [])) 0)
    && (length (keep_last k (old.items ++ m ∷ [])) == k)) size
    ∙ fires_is n t old.items m some rising

-- what is left in it
pub cleared_is : (n t m : ℕ) (old new left : Buffer ℕ)
    → new ≡ buffer (keep_last old.capacity (old.items ++ m ∷ [])) old.capacity
    → left ≡ buffer [] new.capacity → fires n t old.items m ≡ true
    → left ≡ buffer (kept_after n t old.items m) old.capacity
cleared_is n t m old new left made cleared fired =
    cleared ∙ ap (λ b. buffer [] b.capacity) made
    ∙ ap (λ b. buffer (cond b [] (keep_last n (old.items ++ m ∷ []))) old.capacity) (sym fired)

pub pushed_is : (n t m : ℕ) (old new : Buffer ℕ) → old.capacity ≡ n
    → new ≡ buffer (keep_last old.capacity (old.items ++ m ∷ [])) old.capacity
    → fires n t old.items m ≡ false → new ≡ buffer (kept_after n t old.items m) old.capacity
pushed_is n t m old new size made fired =
    made ∙ ap (λ k. buffer (keep_last k (old.items ++ m ∷ [])) old.capacity) size
    ∙ ap (λ b. buffer (cond b [] (keep_last n (old.items ++ m ∷ []))) old.capacity) (sym fired)
