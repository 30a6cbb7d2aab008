-- Work alone: what it keeps of a core, and how far the modules come.
use Rattle.std.proofs.Common.{◌≡◌, ◌≢◌, ℕ, suc, ◌+◌, ◌-◌, ◌<◌, ◌≤◌, Bool, true, ◌&&◌, ◌==◌, IsTrue}
use Rattle.std.proofs.Common.{append-nil, append_assoc, ◌++◌, List, [], ◌∷◌, length, map}
use Rattle.std.proofs.Common.{get_or, Option, Some, None, Result, Ok}
use Rattle.std.proofs.Common.{Err, OnOk, OnErr, ◌⊎◌, inl, inr, refl, sym, ◌∙◌, ap, subst, arith}
use Rattle.std.specs.List.{slice_get, list_all}
use Rattle.std.proofs.lemmas.Bool.{cases_eq, cases_lt}
use Rattle.std.proofs.lemmas.List.{length-map}
use Rattle.std.proofs.lemmas.Option.{slice_get_within, slice_get-get_or, same_Some}
use Rattle.fm_entry.specs.declared.entry.Entry.{Entry}
use Rattle.fm_core.specs.Hands.{Shown}
use Rattle.fm_core.specs.Book.{ModuleState, Book, next_number, worked, worked_at, worked_on}
use Rattle.fm_core.specs.Book.{is_done, state_at, with_entries}
use Rattle.fm_entry.specs.declared.spoken.Spoken.{Spoken}
use Rattle.fm_core.specs.Meaning.{State, says_of}
use Rattle.fm_core.specs.Folds.{records_at}
use Rattle.fm_core.specs.Records.{of_module}
use Rattle.fm_core.specs.Drained.{Ended, ended, drained}
use Rattle.fm_core.specs.Seen.{Seen, book_of, modules_now, Follows, IsCore, OnlyWorked, HasComeTo}
use Rattle.fm_core.specs.Seen.{FirstPassed, HavePassed, ComeOn}
use Rattle.fm_core.proofs.Runs.{with_none, ends_drained}
use Rattle.fm_core.proofs.Lists.{get_set_same, get_set_other, map_got, map_get, list_all_get}
use Rattle.fm_core.proofs.Lists.{same_list}
use Rattle.fm_core.proofs.Tests.{eq_true, true_eq}
use Rattle.fm_core.proofs.Drains.{drained_worked}
use Rattle.fm_core.proofs.Keeping.{module_for, worked_is, hand_low, hand_high, core_idle}

-- what work leaves of a book
record Still (k w : Book) (i : ℕ) : Type 0 where
  base_same : w.base ≡ k.base
  entries_same : w.entries ≡ k.entries
  modules_same : w.modules ≡ k.modules
  others : (j : ℕ) → j ≢ i → slice_get w.cursors j ≡ slice_get k.cursors j
  records_grow : (said : List Spoken) × (w.records ≡ k.records ++ said)

still : (k : Book) (i : ℕ) → Still k k i
still k i = record {
  base_same = refl;
  entries_same = refl;
  modules_same = refl;
  others =
      λ j ne. refl;
  records_grow = ([], sym (append-nil k.records));
}

still_on : (k : Book) (i : ℕ) (p : ModuleState) (c : ℕ) (found : Option Entry)
    → Still k (worked_on k i p c found) i
still_on k i p c None = still k i
still_on k i p c (Some e) =
    record {
      base_same = refl;
      entries_same = refl;
      modules_same = refl;
      others =
          λ j ne. get_set_other k.cursors i j (c + 1) ne;
      records_grow = (
        records_at p.meaning.own c (says_of p.meaning (state_at k p c) c e),
        refl,
      );
    }

still_at : (k : Book) (i : ℕ) (part : Option ModuleState) (cursor : Option ℕ)
    → Still k (worked_at k i part cursor) i
still_at k i (Some p) (Some c) = still_on k i p c (slice_get k.entries (c - k.base))
still_at k i (Some p) None = still k i
still_at k i None c = still k i

worked_still : (k : Book) (i : ℕ) → Still k (worked k i) i
worked_still k i = still_at k i (slice_get k.modules i) (slice_get k.cursors i)

-- a core is by work alone what it is
pub only_same : (c : Seen) → IsCore c → OnlyWorked c c
only_same c h = record {
  lawful = h;
  base_same = refl;
  entries_same = refl;
  modules_same =
      refl;
  as_many_same = refl;
  drains_same = λ more. refl;
  records_grow = ([], sym (append-nil c.records));
}

pub only_equal : (a b c : Seen) → OnlyWorked a b → c ≡ b → OnlyWorked a c
only_equal a b c h e = subst (OnlyWorked a) (sym e) h

-- one run of work after another
pub only_both : (a b c : Seen) → OnlyWorked a b → OnlyWorked b c → OnlyWorked a c
only_both a b c f g =
    record {
      lawful = g.lawful;
      base_same = g.base_same ∙ f.base_same;
      entries_same = g.entries_same ∙ f.entries_same;
      modules_same = g.modules_same ∙ f.modules_same;
      as_many_same = g.as_many_same ∙ f.as_many_same;
      drains_same = λ more. g.drains_same more ∙ f.drains_same more;
      records_grow = (
        f.records_grow.0 ++ g.records_grow.0,
        g.records_grow.1 ∙ ap (λ rs. rs ++ g.records_grow.0) f.records_grow.1
            ∙ append_assoc a.records f.records_grow.0 g.records_grow.0,
      );
    }

-- one move of work
pub only_worked : (a b : Seen) (i : ℕ) → IsCore a → IsCore b → length b.hands ≡ length a.hands
    → book_of b ≡ worked (book_of a) i → OnlyWorked a b
only_worked a b i h g many e =
    let s : Still (book_of a) (worked (book_of a) i) i = worked_still (book_of a) i in
    record {
      lawful = g;
      base_same = ap (λ k. k.base) e ∙ s.base_same;
      entries_same = ap (λ k. k.entries) e ∙ s.entries_same;
      modules_same = ap (λ k. k.modules) e ∙ s.modules_same;
      as_many_same = many;
      drains_same = λ more. ap (λ k. drained (with_entries k more)) e
          ∙ drained_worked (book_of a) i more h.lawful;
      records_grow = (s.records_grow.0, ap (λ k. k.records) e ∙ s.records_grow.1);
    }

-- the cursors of the other modules stay
beside_worked : (a b : Seen) (i : ℕ) → book_of b ≡ worked (book_of a) i → (j : ℕ) → j ≢ i
    → slice_get (book_of b).cursors j ≡ slice_get (book_of a).cursors j
beside_worked a b i e j ne = ap (λ k. slice_get k.cursors j) e
    ∙ (worked_still (book_of a) i).others j ne

some_entry : (es : List Entry) → 0 < length es → Entry
some_entry [] h = absurd (let no : ⊥ = omega arith in no)
some_entry (e ∷ es) h = e

-- a module that is not at the end comes one further
pub comes_on : (a b : Seen) (i n : ℕ) → IsCore a → book_of b ≡ worked (book_of a) i
    → HasComeTo a i n → a.base ≤ n → n < next_number (book_of a) → HasComeTo b i (n + 1)
comes_on a b i n h e at low room =
    let k : Book = book_of a in
    let got : (s : Shown) × (slice_get a.hands i ≡ Some s)
    × (s.cursor ≡ n) = map_got (λ s. s.cursor) a.hands i n at in
    let part : (p : ModuleState) × (slice_get k.modules i ≡ Some p) =
    module_for a i got.0 h got.1 in
    let inside : n - k.base < length k.entries = omega arith in
    let one : Entry = get_or k.entries (n - k.base) (some_entry k.entries (omega arith)) in
    let found : slice_get k.entries (n - k.base) ≡ Some one =
    slice_get-get_or k.entries (n - k.base) (some_entry k.entries (omega arith)) inside in
    ap (λ w. slice_get w.cursors i) (e ∙ worked_is k i part.0 n one part.1 at found)
    ∙ get_set_same k.cursors i n (n + 1) at

-- a list of which each element passes
pub all_pass : {X : Type 0} (p : X → Bool) (xs : List X)
    → ((i : ℕ) (x : X) → slice_get xs i ≡ Some x → p x ≡ true) → IsTrue (list_all p xs)
all_pass p [] h = refl
all_pass p (x ∷ xs) h = ap (λ b. b && list_all p xs) (h 0 x refl)
    ∙ all_pass p xs (λ i y e. h (suc i) y e)

-- a module that was worked is one further, or was at the end and is there still
cursor_after : (a b : Seen) (k c : ℕ) → IsCore a → book_of b ≡ worked (book_of a) k
    → HasComeTo a k c → HasComeTo b k (c + 1) ⊎ ((next_number (book_of a) ≤ c) × HasComeTo b k c)
cursor_after a b k c h e at =
    let got : (s : Shown) × (slice_get a.hands k ≡ Some s)
    × (s.cursor ≡ c) = map_got (λ s. s.cursor) a.hands k c at in
    let low : a.base ≤ got.0.cursor = hand_low a k got.0 h got.1 in
    let same : got.0.cursor ≡ c = got.2 in
    elim (cases_lt c (next_number (book_of a))) [
      | inl room ↦ inl (comes_on a b k c h e at (omega arith) room)
      | inr past ↦
          inr (
            past,
            ap (λ w. slice_get w.cursors k)
                (e ∙ sym (core_idle a k got.0 h got.1 (omega arith)).1) ∙ at,
          )
    ]

-- what has been passed after a move of work
passed_one : (a b : Seen) (k n : ℕ) → IsCore a → length b.hands ≡ length a.hands
    → book_of b ≡ worked (book_of a) k → n < length a.entries → HavePassed a n
    → FirstPassed a k (n + 1)
    → (j d : ℕ) → slice_get (book_of b).cursors j ≡ Some d → (a.base + n ≤ d)
    × (j < k + 1 → a.base + (n + 1) ≤ d)
passed_one a b k n h many e room p q j d at =
    elim (cases_eq j k) [
      | inl same ↦
          let now : HasComeTo b k d =
          subst (λ x. slice_get (book_of b).cursors x ≡ Some d) same at in
          let inside : k < length (map (λ s. s.cursor) b.hands) =
          slice_get_within (map (λ s. s.cursor) b.hands) k d now in
          let size : length (map (λ s. s.cursor) b.hands) ≡ length b.hands =
          length-map b.hands (λ s. s.cursor) in
          let size' : length (map (λ s. s.cursor) a.hands) ≡ length a.hands =
          length-map a.hands (λ s. s.cursor) in
          let inside' : k < length (map (λ s. s.cursor) a.hands) = omega arith in
          let c : ℕ = get_or (map (λ s. s.cursor) a.hands) k 0 in
          let was : HasComeTo a k c = slice_get-get_or (map (λ s. s.cursor) a.hands) k 0 inside' in
          let low : a.base + n ≤ c = p k c was in
          elim (cursor_after a b k c h e was) [
            | inl on ↦ let is : d ≡ c + 1 = same_Some d (c + 1) (sym now ∙ on) in
                (omega arith, λ l. omega arith)
            | inr end ↦
                let is : d ≡ c = same_Some d c (sym now ∙ end.1) in
                let past : next_number (book_of a) ≤ c = end.0 in
                (omega arith, λ l. omega arith)
          ]
      | inr other ↦
          let was : slice_get (book_of a).cursors j ≡ Some d = sym (beside_worked a b k e j other)
          ∙ at in
          (p j d was, λ l. q j d (omega arith) was)
    ]

-- as far as the first k modules were worked: all have taken n entries, and those one more
abbrev pub ComeOnTo : Seen → Seen → ℕ → Type 0
ComeOnTo old now k = (n : ℕ) → n < length old.entries → HavePassed old n → HavePassed now n
    × FirstPassed now k (n + 1)

pub comes_to_none : (c : Seen) → ComeOnTo c c 0
comes_to_none c n room p = (p, λ j d l at. absurd (let no : ⊥ = omega arith in no))

-- one module more
pub comes_to_next : (old now new : Seen) (k : ℕ) → OnlyWorked old now → ComeOnTo old now k
    → IsCore new → length new.hands ≡ length now.hands → book_of new ≡ worked (book_of now) k
    → OnlyWorked old new × ComeOnTo old new (k + 1)
comes_to_next old now new k w on g many e =
    let one : OnlyWorked now new = only_worked now new k w.lawful g many e in
    let entries : length now.entries ≡ length old.entries = ap length w.entries_same in
    let base : new.base ≡ now.base = one.base_same in (
      only_both old now new w one,
      λ n room p.
          let both : HavePassed now n × FirstPassed now k (n + 1) = on n room p in
          let each : (j d : ℕ) → slice_get (book_of new).cursors j ≡ Some d → (now.base + n ≤ d)
          × (j < k + 1 → now.base + (n + 1) ≤ d) =
          passed_one now new k n w.lawful many e (omega arith) both.0 both.1 in (
            λ j d at. (let low : now.base + n ≤ d = (each j d at).0 in omega arith),
            λ j d l at. (let low : now.base + (n + 1) ≤ d = (each j d at).1 l in omega arith),
          ),
    )

-- all of them
pub comes_to_all : (old now : Seen) (k size : ℕ) → OnlyWorked old now → ComeOnTo old now k
    → size ≤ k → size ≡ length old.hands → ComeOn old now
comes_to_all old now k size w on past is n room p j d at =
    let inside : j < length (map (λ s. s.cursor) now.hands) =
    slice_get_within (map (λ s. s.cursor) now.hands) j d at in
    let many : length (map (λ s. s.cursor) now.hands) ≡ length now.hands =
    length-map now.hands (λ s. s.cursor) in
    let same : length now.hands ≡ length old.hands = w.as_many_same in
    (on n room p).1 j d (omega arith) at

-- one turn of draining
pub drain_turn : (old now new : Seen) (turn size : ℕ) → OnlyWorked old now → HavePassed now turn
    → turn < size → size ≡ length old.entries → OnlyWorked now new → ComeOn now new
    → OnlyWorked old new × HavePassed new (turn + 1)
drain_turn old now new turn size w p room is one on =
    let entries : length now.entries ≡ length old.entries = ap length w.entries_same in
    (only_both old now new w one, on turn (omega arith) p)

-- where each module has taken every entry all is done
pub drained_all : (old now : Seen) (turn size : ℕ) → OnlyWorked old now → HavePassed now turn
    → size ≤ turn → size ≡ length old.entries → IsTrue (is_done (book_of now))
drained_all old now turn size w p past is =
    let entries : length now.entries ≡ length old.entries = ap length w.entries_same in
    all_pass (λ d. d == next_number (book_of now)) (book_of now).cursors
    (λ i d at.
    let got : (s : Shown) × (slice_get now.hands i ≡ Some s)
    × (s.cursor ≡ d) = map_got (λ s. s.cursor) now.hands i d at in
    let high : got.0.cursor ≤ now.base + length now.entries =
    hand_high now i got.0 w.lawful got.1 in
    let same : got.0.cursor ≡ d = got.2 in
    let low : now.base + turn ≤ d = p i d at in
    let is_end : d ≡ next_number (book_of now) = omega arith in
    eq_true d (next_number (book_of now)) is_end)

-- a module that has come to a state and to these records
abbrev ended_as : State → List Spoken → Ended
ended_as s rs = record { state = s; words = rs }

-- a call of work, whatever it answers
pub only_after : {T E : Type 0} (r : Result T E) (a b : Seen) (i : ℕ) → IsCore a → IsCore b
    → length b.hands ≡ length a.hands → OnOk r (book_of b ≡ worked (book_of a) i) → OnErr r (b ≡ a)
    → OnlyWorked a b
only_after (Ok x) a b i h g many moved same = only_worked a b i h g many moved
only_after (Err f) a b i h g many moved same = only_equal a a b (only_same a h) same

-- a drained core: each module has come to what the drained book says of it
pub modules_drained : (old now : Seen) → OnlyWorked old now → IsTrue (is_done (book_of now))
    → modules_now now ≡ (drained (book_of old)).modules
modules_drained old now w done =
    let k : Book = book_of now in
    let same : drained k ≡ drained (book_of old) =
    sym (with_none k) ∙ w.drains_same [] ∙ with_none (book_of old) in
    let ending : Shown → Ended =
    λ h. record { state = h.state; words = of_module h.number now.records } in
    let one : length (map (λ h. h.cursor) now.hands) ≡ length now.hands =
    length-map now.hands (λ h. h.cursor) in
    let size : length (modules_now now) ≡ length (drained k).modules =
    length-map now.hands ending ∙ sym one ∙ w.lawful.lawful.as_many
    ∙ sym (length-map k.modules (ended k)) in
    same_list (modules_now now) (drained k).modules size
    (λ i x a.
    let got : (h : Shown) × (slice_get now.hands i ≡ Some h) × (ending h ≡ x) =
    map_got ending now.hands i x a in
    let h : Shown = got.0 in
    let part : (p : ModuleState) × (slice_get k.modules i ≡ Some p) =
    module_for now i h w.lawful got.1 in
    let p : ModuleState = part.0 in
    let f : Follows k i p h = w.lawful.follows i h got.1 p part.1 in
    let at : slice_get k.cursors i ≡ Some h.cursor =
    map_get (λ s. s.cursor) now.hands i h got.1 in
    let end : h.cursor ≡ next_number k =
    true_eq h.cursor (next_number k)
    (list_all_get (λ d. d == next_number k) k.cursors i h.cursor done at) in
    let there : slice_get k.cursors i ≡ Some (next_number k) = at ∙ ap Some end in
    let state : state_at k p (next_number k) ≡ h.state =
    ap (state_at k p) (sym end) ∙ sym f.folds in
    let words : of_module i now.records ≡ of_module h.number now.records =
    ap (λ j. of_module j now.records) (sym f.number_is) in
    ends_drained k i p w.lawful.lawful part.1 there
    ∙ ap (λ s. Some (ended_as s (of_module i now.records))) state
    ∙ ap (λ ws. Some (ended_as h.state ws)) words
    ∙ ap Some got.2)
    ∙ ap (λ d. d.modules) same
