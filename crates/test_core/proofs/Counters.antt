-- A core of two counters, as the tests make it.
use Rattle.std.proofs.Common.{◌≡◌, ℕ, ◌+◌, ◌-◌, ◌<◌, ◌≤◌, nat_le, ◌==◌, List, [], ◌∷◌, ◌++◌, length}
use Rattle.std.proofs.Common.{map, take, get_or, Some, refl, sym, ◌∙◌, ap, subst, length-append}
use Rattle.std.proofs.Common.{arith}
use Rattle.std.specs.Prelude.{All}
use Rattle.std.proofs.lemmas.List.Elements.{recursion_from_All, All-from_recursion, All-append}
use Rattle.std.proofs.lemmas.List.{length-map, length-set, length-take-le}
use Rattle.std.proofs.lemmas.Option.{same_Some, slice_get_read}
use Rattle.std.specs.List.{slice_get, slice_set}
use Rattle.fm_entry.specs.declared.entry.Entry.{Entry}
use Rattle.fm_entry.specs.declared.spoken.Spoken.{Spoken}
use Rattle.fm_core.specs.Hands.{HandOf, Shown, shown, stepped}
use Rattle.fm_core.specs.Counter.{CounterOf, counter_meaning, counters}
use Rattle.fm_core.specs.Meaning.{Meaning, State, Counting, after_of}
use Rattle.fm_core.specs.Folds.{state_along}
use Rattle.fm_core.specs.Records.{of_module, numbered_from}
use Rattle.fm_core.specs.Book.{floor_of}
use Rattle.fm_core.specs.Seen.{CoreOf, seen, book_of, module_state, Follows, FollowsAs, IsCore}
use Rattle.fm_core.specs.Seen.{OnlyWorked}
use Rattle.test_core.specs.Trials.{fresh_hand, fresh_module, shown_after, IsFilled}
use Rattle.fm_core.proofs.Lists.{all_filter, map_get, take_push}
use Rattle.fm_core.proofs.Along.{state_push}
use Rattle.fm_core.proofs.Ordered.{AllBelow, past_all_least}

-- a core that was just made
pub filled_new : (c : CoreOf CounterOf) (hands kept : List (HandOf CounterOf))
    → IsCore (seen counters c)
    → c ≡ record { base = 0; kept = kept; entries = []; hands = hands; records = [] }
    → hands ≡ fresh_hand 0 ∷ fresh_hand 1 ∷ [] → kept ≡ fresh_hand 0 ∷ fresh_hand 1 ∷ []
    → IsFilled c
filled_new c hands kept h made own old =
    record {
      lawful = h;
      base_is = ap (λ x. x.base) made;
      modules_are = ap (λ x. map module_state (map (shown counters) x.kept)) made
          ∙ ap (λ xs. map module_state (map (shown counters) xs)) old;
      two = ap (λ x. length x.hands) made ∙ ap length own;
    }

-- and after work
pub filled_on : (old new : CoreOf CounterOf) → OnlyWorked (seen counters old) (seen counters new)
    → IsFilled old → IsFilled new
filled_on old new w f =
    record {
      lawful = w.lawful;
      base_is = w.base_same ∙ f.base_is;
      modules_are = w.modules_same ∙ f.modules_are;
      two = sym (length-map new.hands (shown counters)) ∙ w.as_many_same
          ∙ length-map old.hands (shown counters) ∙ f.two;
    }

-- a hand that takes one entry more
pub rebuilt_on : (es : List Entry) (i : ℕ) (e : Entry) → slice_get es i ≡ Some e
    → stepped (shown_after (take i es)) e ≡ shown_after (take (i + 1) es)
rebuilt_on es i e found =
    let xs : List Entry = take i es in
    let m : Meaning = counter_meaning 0 in
    let made : ℕ → State → Shown =
    λ c s. record { number = 0; cursor = c; meaning = m; state = s } in
    let size : length xs + 1 ≡ length (xs ++ e ∷ []) = omega (arith, length-append xs (e ∷ [])) in
    let from : 0 + length xs ≡ length xs = omega arith in
    let state : state_along m (Counting []) 0 (xs ++ e ∷ [])
    ≡ after_of m (state_along m (Counting []) 0 xs) (length xs) e =
    state_push m (Counting []) 0 xs e
    ∙ ap (λ k. after_of m (state_along m (Counting []) 0 xs) k e) from in
    ap (λ c. made c (after_of m (state_along m (Counting []) 0 xs) (length xs) e)) size
    ∙ ap (made (length (xs ++ e ∷ []))) (sym state)
    ∙ ap shown_after (sym (take_push es i e found))

-- a hand that took the first entries follows the book
pub rebuilt_follows : (c : CoreOf CounterOf) (hand : HandOf CounterOf) (n : ℕ) → IsFilled c
    → n ≤ length c.entries → shown counters hand ≡ shown_after (take n c.entries)
    → FollowsAs (book_of (seen counters c)) 0 (shown counters hand)
rebuilt_follows c hand n f fits same =
    subst (FollowsAs (book_of (seen counters c)) 0) (sym same)
    (λ p a.
    let first : slice_get (book_of (seen counters c)).modules 0 ≡ Some (fresh_module 0) =
    ap (λ ps. slice_get ps 0) f.modules_are in
    let is : fresh_module 0 ≡ p = same_Some (fresh_module 0) p (sym first ∙ a) in
    let base : c.base ≡ 0 = f.base_is in
    let size : length (take n c.entries) ≡ n = length-take-le n c.entries fits in
    let count : n ≡ length (take n c.entries) - c.base = omega arith in
    subst (λ q. Follows (book_of (seen counters c)) 0 q (shown_after (take n c.entries))) is
    (record {
      number_is = refl;
      own_is = refl;
      meaning_is = refl;
      from_base = omega arith;
      to_end = omega arith;
      folds = ap (λ b. state_along (counter_meaning 0) (Counting []) b (take n c.entries))
          (sym base)
          ∙ ap (λ k. state_along (counter_meaning 0) (Counting []) c.base (take k c.entries)) count;
    }))

-- one element more
pub all_more : {X : Type 0} (P : X → Type 0) (xs : List X) (i : ℕ) (x : X) → i < length xs
    → x ≡ get_or xs i x → All P (take i xs) → P x → All P (take (i + 1) xs)
all_more P xs i x room read all here =
    subst (All P) (sym (take_push xs i x (slice_get_read xs (length xs) i x refl room read)))
    (All-append P (take i xs) (x ∷ []) all (All-from_recursion P (x ∷ []) (here, tt)))

-- where every record is numbered below a number, so is the floor
pub floor_below : (c : CoreOf CounterOf) (spoken : List Spoken) (n : ℕ) → IsFilled c
    → spoken ≡ c.records → All (λ r. r.number < n) spoken
    → floor_of (book_of (seen counters c)) 0 ≤ n
floor_below c spoken n f tested all =
    let base : c.base ≡ 0 = f.base_is in
    let below : AllBelow n c.records =
    subst (AllBelow n) tested (recursion_from_All (λ r. r.number < n) spoken all) in
    past_all_least c.base n (numbered_from c.base (of_module 0 c.records)) (omega arith)
    (all_filter (λ r. r.number < n) (λ r. nat_le c.base r.number) (of_module 0 c.records)
    (all_filter (λ r. r.number < n) (λ r. r.«module» == 0) c.records below))

-- what has come no further than the hand of module 0 is below what is seen of that
pub below_own : (c : CoreOf CounterOf) (own : HandOf CounterOf) (n : ℕ)
    → slice_get c.hands 0 ≡ Some own → n ≤ own.cursor
    → (h : Shown) → slice_get (map (shown counters) c.hands) 0 ≡ Some h → n ≤ h.cursor
below_own c own n found fits = λ h at.
    subst (λ (x : Shown). n ≤ x.cursor)
    (same_Some (shown counters own) h
    (sym (map_get (shown counters) c.hands 0 own found) ∙ at)) fits

-- and after a fall
pub filled_fallen : (old new : CoreOf CounterOf) (hand : HandOf CounterOf)
    → new ≡ record old { hands = slice_set old.hands 0 hand } → IsCore (seen counters new)
    → IsFilled old → IsFilled new
filled_fallen old new hand put h f =
    record {
      lawful = h;
      base_is = ap (λ x. x.base) put ∙ f.base_is;
      modules_are = ap (λ x. map module_state (map (shown counters) x.kept)) put ∙ f.modules_are;
      two = ap (λ x. length x.hands) put ∙ length-set old.hands 0 hand ∙ f.two;
    }
