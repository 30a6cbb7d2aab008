-- States and words along entries: one entry more, two lists one after the other, and their numbers.
use Rattle.std.proofs.Common.{◌≡◌, ℕ, ◌+◌, ◌<◌, ◌≤◌, List, [], ◌∷◌, ◌++◌, length, refl, sym, ◌∙◌}
use Rattle.std.proofs.Common.{ap, append_assoc, append-nil, suc, arith}
use Rattle.std.specs.List.{AllByRecursion}
use Rattle.fm_entry.specs.declared.entry.Entry.{Entry}
use Rattle.fm_entry.specs.declared.list_event.ListEvent.{ListEvent}
use Rattle.fm_entry.specs.declared.spoken.Spoken.{Spoken}
use Rattle.fm_core.specs.Meaning.{Meaning, State, after_of, says_of}
use Rattle.fm_core.specs.Folds.{state_along, words_along, records_at}
use Rattle.fm_core.proofs.Lists.{all_append, all_map}

plus_zero : (n : ℕ) → n ≡ n + 0
plus_zero n = omega arith

plus_next : (n k : ℕ) → n + 1 + k ≡ n + suc k
plus_next n k = omega arith

-- the state along two lists is that along the second from that along the first
pub state_append : (m : Meaning) (s : State) (n : ℕ) (xs ys : List Entry)
    → state_along m s n (xs ++ ys) ≡ state_along m (state_along m s n xs) (n + length xs) ys
state_append m s n [] ys = ap (λ k. state_along m s k ys) (plus_zero n)
state_append m s n (x ∷ xs) ys =
    state_append m (after_of m s n x) (n + 1) xs ys
    ∙ ap (λ k. state_along m (state_along m (after_of m s n x) (n + 1) xs) k ys)
    (plus_next n (length xs))

-- the words along two lists are those along the first, and then those along the second
pub words_append : (m : Meaning) (s : State) (n : ℕ) (xs ys : List Entry)
    → words_along m s n (xs ++ ys) ≡ words_along m s n xs
    ++ words_along m (state_along m s n xs) (n + length xs) ys
words_append m s n [] ys = ap (λ k. words_along m s k ys) (plus_zero n)
words_append m s n (x ∷ xs) ys =
    let said : List Spoken = records_at m.own n (says_of m s n x) in
    let next : State = after_of m s n x in
    ap (λ ws. said ++ ws)
    (words_append m next (n + 1) xs ys
    ∙ ap (λ k. words_along m next (n + 1) xs ++ words_along m (state_along m next (n + 1) xs) k ys)
    (plus_next n (length xs)))
    ∙ sym (append_assoc said (words_along m next (n + 1) xs)
    (words_along m (state_along m next (n + 1) xs) (n + suc (length xs)) ys))

-- one entry more
pub state_push : (m : Meaning) (s : State) (n : ℕ) (es : List Entry) (e : Entry)
    → state_along m s n (es ++ e ∷ []) ≡ after_of m (state_along m s n es) (n + length es) e
state_push m s n es e = state_append m s n es (e ∷ [])

pub words_push : (m : Meaning) (s : State) (n : ℕ) (es : List Entry) (e : Entry)
    → words_along m s n (es ++ e ∷ []) ≡ words_along m s n es
    ++ records_at m.own (n + length es) (says_of m (state_along m s n es) (n + length es) e)
words_push m s n es e =
    words_append m s n es (e ∷ [])
    ∙ ap (λ ws. words_along m s n es ++ ws)
    (append-nil (records_at m.own (n + length es)
    (says_of m (state_along m s n es) (n + length es) e)))

-- a record of the module with a number from low and below high
pub record IsWithin (own low high : ℕ) (r : Spoken) : Type 0 where
  pub module_is : r.«module» ≡ own
  pub above : low ≤ r.number
  pub below : r.number < high

pub records_within : (own n : ℕ) (ws : List ListEvent) (low high : ℕ) → low ≤ n → n < high
    → AllByRecursion (IsWithin own low high) (records_at own n ws)
records_within own n [] low high a b = tt
records_within own n (w ∷ ws) low high a b = (record { module_is = refl; above = a; below = b }, tt)

wider : (own n k : ℕ) (r : Spoken) → IsWithin own (n + 1) (n + 1 + k) r
    → IsWithin own n (n + suc k) r
wider own n k r h = record { module_is = h.module_is; above = omega arith; below = omega arith }

-- each word along the entries is of the module and numbered by one of them
pub words_within : (m : Meaning) (s : State) (n : ℕ) (es : List Entry)
    → AllByRecursion (IsWithin m.own n (n + length es)) (words_along m s n es)
words_within m s n [] = tt
words_within m s n (e ∷ es) =
    all_append (IsWithin m.own n (n + suc (length es))) (records_at m.own n (says_of m s n e))
    (words_along m (after_of m s n e) (n + 1) es)
    (records_within m.own n (says_of m s n e) n (n + suc (length es)) (omega arith) (omega arith))
    (all_map (IsWithin m.own (n + 1) (n + 1 + length es)) (IsWithin m.own n (n + suc (length es)))
    (words_along m (after_of m s n e) (n + 1) es) (wider m.own n (length es))
    (words_within m (after_of m s n e) (n + 1) es))
