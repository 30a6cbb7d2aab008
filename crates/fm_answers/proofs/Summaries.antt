-- What two drained counters come to.
use Rattle.std.proofs.Common.{◌≡◌, ℕ, ◌+◌, ◌<◌, ◌==◌, cond, true, false, List, [], ◌∷◌, length, map}
use Rattle.std.proofs.Common.{Some, refl, sym, ◌∙◌, ap, subst, arith, inl, inr}
use Rattle.std.specs.List.{slice_get, AllByRecursion}
use Rattle.std.proofs.lemmas.Bool.{cases_lt}
use Rattle.std.proofs.lemmas.List.{length-map}
use Rattle.fm_entry.specs.declared.spoken.Spoken.{Spoken}
use Rattle.fm_core.specs.Book.{Book, ModuleState, IsLawful, next_number, state_at, is_done}
use Rattle.fm_core.specs.Counter.{CounterOf, counters}
use Rattle.fm_core.specs.Drained.{Ended, drained, ended}
use Rattle.fm_core.specs.Hands.{HandOf, shown}
use Rattle.fm_core.specs.Meaning.{Counting}
use Rattle.fm_core.specs.Records.{of_module}
use Rattle.fm_core.specs.Seen.{CoreOf, Follows}
use Rattle.fm_core.proofs.Drains.{cursor_of}
use Rattle.fm_core.proofs.Lists.{map_get, list_all_get}
use Rattle.fm_core.proofs.Runs.{ends_drained}
use Rattle.fm_core.proofs.Tests.{eq_true, eq_false, true_eq}
use Rattle.fm_answers.specs.Draining.{core_book, IsInOrder}
use Rattle.fm_answers.specs.Replaying.{spoken_by, counts_in, first_counts}
use Rattle.fm_answers.specs.Tallied.{sum_of}

-- records of two modules are those of the one and those of the other
pub two_modules : (rs : List Spoken) → AllByRecursion (λ r. r.«module» < 2) rs
    → length (of_module 0 rs) + length (of_module 1 rs) ≡ length rs
two_modules [] named = refl
two_modules (r ∷ rs) named =
    let more : length (of_module 0 rs) + length (of_module 1 rs) ≡ length rs =
    two_modules rs named.1 in
    let below : r.«module» < 2 = named.0 in
    elim (cases_lt (r.«module») 1) [
      | inl zero_one ↦
          let is : (r.«module» == 0) ≡ true = eq_true (r.«module») 0 (omega (arith, zero_one)) in
          let other : (r.«module» == 1) ≡ false =
          eq_false (r.«module») 1 (λ e. omega (arith, zero_one, e)) in
          let first : length (of_module 0 (r ∷ rs)) ≡ length (r ∷ of_module 0 rs) =
          ap (λ b. length (cond b (r ∷ of_module 0 rs) (of_module 0 rs))) is in
          let second : length (of_module 1 (r ∷ rs)) ≡ length (of_module 1 rs) =
          ap (λ b. length (cond b (r ∷ of_module 1 rs) (of_module 1 rs))) other in
          omega (arith, first, second, more)
      | inr one ↦
          let is : (r.«module» == 1) ≡ true = eq_true (r.«module») 1 (omega (arith, one, below)) in
          let other : (r.«module» == 0) ≡ false =
          eq_false (r.«module») 0 (λ e. omega (arith, one, e)) in
          let first : length (of_module 0 (r ∷ rs)) ≡ length (of_module 0 rs) =
          ap (λ b. length (cond b (r ∷ of_module 0 rs) (of_module 0 rs))) other in
          let second : length (of_module 1 (r ∷ rs)) ≡ length (r ∷ of_module 1 rs) =
          ap (λ b. length (cond b (r ∷ of_module 1 rs) (of_module 1 rs))) is in
          omega (arith, first, second, more)
    ]

-- a module that stands at the end, as the drained book has it
ended_at : (k : Book) (i : ℕ) (p : ModuleState) → IsLawful k → slice_get k.modules i ≡ Some p
    → slice_get k.cursors i ≡ Some (next_number k)
    → ended k p ≡ record { state = state_at k p (next_number k); words = of_module i k.records }
ended_at k i p lawful there here =
    let listed : slice_get (map (ended k) k.modules) i ≡ Some (ended k p) =
    map_get (ended k) k.modules i p there in
    let stands : slice_get (map (ended k) k.modules) i
    ≡ Some (record { state = state_at k p (next_number k); words = of_module i k.records }) =
    ends_drained k i p lawful there here in
    cc

-- where all is done, a module stands at the end
pub done_at : (k : Book) (i : ℕ) (p : ModuleState) → IsLawful k → is_done k ≡ true
    → slice_get k.modules i ≡ Some p → slice_get k.cursors i ≡ Some (next_number k)
done_at k i p lawful done there =
    let (c, here) = cursor_of k i p lawful there in
    here ∙ ap Some (true_eq c (next_number k)
    (list_all_get (λ c. c == next_number k) k.cursors i c done here))

pub some_equal : (a b : ℕ) → Some a ≡ Some b → a ≡ b
some_equal a b e = cc

-- a list of two
pub record Two {X : Type 0} (xs : List X) : Type 0 where
  pub first : X
  pub second : X
  pub is : xs ≡ first ∷ second ∷ []

pub two_of : {X : Type 0} (xs : List X) → length xs ≡ 2 → Two xs
two_of [] e = absurd (let no : ⊥ = omega (arith, e) in no)
two_of (x ∷ []) e = absurd (let no : ⊥ = omega (arith, e) in no)
two_of (x ∷ y ∷ []) e = record { first = x; second = y; is = refl }
two_of (x ∷ y ∷ z ∷ zs) e = absurd (let no : ⊥ = omega (arith, e) in no)

-- a core in order has as many modules as hands
pub many_parts : (c : CoreOf CounterOf) → IsInOrder c → length c.hands ≡ 2
    → length (core_book c).modules ≡ 2
many_parts c ready two =
    sym ready.lawful.as_many ∙ length-map (map (shown counters) c.hands) (λ h. h.cursor)
    ∙ length-map c.hands (shown counters) ∙ two

-- the cursor of a hand that stands at the end
pub stands_at : (c : CoreOf CounterOf) (i : ℕ) (h : HandOf CounterOf) (p : ModuleState)
    → IsInOrder c → is_done (core_book c) ≡ true → slice_get c.hands i ≡ Some h
    → slice_get (core_book c).modules i ≡ Some p → h.cursor ≡ next_number (core_book c)
stands_at c i h p ready done hand there =
    let cursor : slice_get (core_book c).cursors i ≡ Some h.cursor =
    map_get _ _ i _ (map_get (shown counters) c.hands i h hand) in
    some_equal h.cursor (next_number (core_book c))
    (sym cursor ∙ done_at (core_book c) i p ready.lawful done there)

-- what a core comes to whose two modules stand at the end
pub done_sum : (c : CoreOf CounterOf) (h : HandOf CounterOf) (before : ℕ) → IsInOrder c
    → length c.hands ≡ 2 → is_done (core_book c) ≡ true → slice_get c.hands 0 ≡ Some h
    → sum_of before (drained (core_book c))
    ≡ record {
      entries = c.base + length c.entries;
      spoken = before + length c.records;
      counts =
          h.object.counts;
    }
done_sum c h before ready two done hand =
    let k : Book = core_book c in
    let parts : Two k.modules = two_of k.modules (many_parts c ready two) in
    let p : ModuleState = parts.first in
    let q : ModuleState = parts.second in
    let there0 : slice_get k.modules 0 ≡ Some p = ap (λ ps. slice_get ps 0) parts.is in
    let there1 : slice_get k.modules 1 ≡ Some q = ap (λ ps. slice_get ps 1) parts.is in
    let end0 : ended k p ≡ record {
      state = state_at k p (next_number k);
      words =
          of_module 0 k.records;
    } =
    ended_at k 0 p ready.lawful there0 (done_at k 0 p ready.lawful done there0) in
    let end1 : ended k q ≡ record {
      state = state_at k q (next_number k);
      words =
          of_module 1 k.records;
    } =
    ended_at k 1 q ready.lawful there1 (done_at k 1 q ready.lawful done there1) in
    let named : AllByRecursion (λ r. r.«module» < 2) k.records =
    subst (λ n. AllByRecursion (λ r. r.«module» < n) k.records) (ap length parts.is)
    ready.lawful.named in
    let modules : map (ended k) k.modules ≡ ended k p ∷ ended k q ∷ [] =
    ap (map (ended k)) parts.is in
    let spoken : spoken_by (map (ended k) k.modules) ≡ length c.records =
    ap spoken_by modules
    ∙ ap (λ (m : Ended). length m.words + (length (ended k q).words + 0)) end0
    ∙ ap (λ (m : Ended). length (of_module 0 k.records) + (length m.words + 0)) end1
    ∙ (let sum : length (of_module 0 k.records) + (length (of_module 1 k.records) + 0)
    ≡ length k.records = omega (arith, two_modules k.records named) in sum) in
    let follows : Follows k 0 p (shown counters h) =
    ready.follows 0 (shown counters h) (map_get (shown counters) c.hands 0 h hand) p there0 in
    let state : Counting h.object.counts ≡ state_at k p (next_number k) = follows.folds
    ∙ ap (state_at k p) (stands_at c 0 h p ready done hand there0) in
    let counts : first_counts (map (ended k) k.modules) ≡ h.object.counts =
    ap first_counts modules ∙ ap (λ (m : Ended). counts_in m.state) end0
    ∙ ap counts_in (sym state) in
    λ i. record { entries = next_number k; spoken = before + spoken i; counts = counts i }
