-- What each call of a core keeps: a lawful book, and hands that follow it.
use Rattle.std.proofs.Common.{◌≡◌, ℕ, zero, suc, ◌+◌, ◌-◌, ◌<◌, ◌≤◌, true, cond, ◌&&◌, nat_le, List}
use Rattle.std.proofs.Common.{[], ◌∷◌, ◌++◌, length, take, map, set, get_or, Option, Some, None}
use Rattle.std.proofs.Common.{◌⊎◌, inl, inr, refl, sym, ◌∙◌, ap, subst, arith}
use Rattle.std.proofs.lemmas.List.{length-map, map-set, length-append}
use Rattle.std.proofs.lemmas.Option.{slice_get_within, slice_get-get_or, slice_get_past}
use Rattle.std.proofs.lemmas.Bool.{cases_eq}
use Rattle.std.specs.List.{slice_get, slice_set}
use Rattle.fm_entry.specs.declared.entry.Entry.{Entry}
use Rattle.fm_entry.specs.declared.list_event.ListEvent.{ListEvent}
use Rattle.fm_entry.specs.declared.spoken.Spoken.{Spoken}
use Rattle.fm_core.specs.Meaning.{says_of, after_of}
use Rattle.fm_core.specs.Hands.{Shown, stepped}
use Rattle.fm_core.specs.Folds.{state_along, words_along, records_at}
use Rattle.fm_core.specs.Book.{ModuleState, Book, taken, state_at, IsPlaced, IsLawful, accepted}
use Rattle.fm_core.specs.Book.{worked, worked_at, worked_on, floor_of, fallen, fallen_at}
use Rattle.fm_core.specs.Book.{with_entries}
use Rattle.fm_core.specs.Seen.{Seen, module_state, book_of, Follows, FollowsAs, FollowsBook}
use Rattle.fm_core.specs.Seen.{FollowsOn}
use Rattle.fm_core.specs.Seen.{IsCore, IsFresh, AreFresh, speech, with_step}
use Rattle.fm_core.specs.Outcome.{outcome, outcome_at, outcome_on, after_step, kept_of}
use Rattle.fm_core.specs.declared.worked.Worked.TheVariants.{Idle}
use Rattle.fm_core.proofs.Lists.{get_set_same, get_set_other, map_got, map_get}
use Rattle.fm_core.proofs.Tests.{le_true}
use Rattle.fm_core.proofs.Along.{state_push}
use Rattle.fm_core.proofs.Places.{taken_longer, taken_next, length_taken}
use Rattle.fm_core.proofs.Runs.{lawful_accepted, lawful_worked, lawful_fallen}

take_nothing : {X : Type 0} (n : ℕ) → take n (let none : List X = [] in none) ≡ []
take_nothing zero = refl
take_nothing (suc n) = refl

abbrev fresh_core : ℕ → List Shown → Seen
fresh_core base hands =
    record { base = base; kept = hands; entries = []; hands = hands; records = [] }

fresh_follows : (base : ℕ) (hands : List Shown) → AreFresh base hands → (i : ℕ) (h : Shown)
    → slice_get hands i ≡ Some h → FollowsAs (book_of (fresh_core base hands)) i h
fresh_follows base hands fresh i h a p b =
    let at : IsFresh base i h = fresh i h a in
    let part : Some p ≡ Some (module_state h) = sym b ∙ map_get module_state hands i h a in
    let is : p ≡ module_state h = cc in
    let cursor : h.cursor ≡ base = at.cursor_is in
    let k : Book = book_of (fresh_core base hands) in
    let here : Follows k i (module_state h) h =
    record {
      number_is = at.number_is;
      own_is = at.own_is;
      meaning_is = refl;
      from_base = omega arith;
      to_end = omega arith;
      folds = ap (state_along h.meaning h.state base) (sym (take_nothing (h.cursor - base)));
    } in
    subst (λ q. Follows k i q h) (sym is) here

fresh_placed : (base : ℕ) (hands : List Shown) → AreFresh base hands
    → (i : ℕ) (p : ModuleState) (c : ℕ) → slice_get (map module_state hands) i ≡ Some p
    → slice_get (map (λ h. h.cursor) hands) i ≡ Some c
    → IsPlaced (book_of (fresh_core base hands)) i p c
fresh_placed base hands fresh i p c a b =
    let got : (h : Shown) × (slice_get hands i ≡ Some h) × (module_state h ≡ p) =
    map_got module_state hands i p a in
    let h : Shown = got.0 in
    let at : IsFresh base i h = fresh i h got.1 in
    let there : Some c ≡ Some h.cursor = sym b ∙ map_get (λ h. h.cursor) hands i h got.1 in
    let same : c ≡ h.cursor = cc in
    let cursor : h.cursor ≡ base = at.cursor_is in
    let k : Book = book_of (fresh_core base hands) in
    let here : IsPlaced k i (module_state h) c =
    record {
      numbered = at.own_is;
      from_base = omega arith;
      to_end = omega arith;
      ascending = tt;
      exact = ap (words_along h.meaning h.state base) (sym (take_nothing (c - base)));
    } in
    subst (λ q. IsPlaced k i q c) got.2 here

-- hands at the base make a core in order
pub core_fresh : (base : ℕ) (hands kept : List Shown) → AreFresh base hands → hands ≡ kept
    → IsCore (record { base = base; kept = kept; entries = []; hands = hands; records = [] })
core_fresh base hands kept fresh same =
    let one : IsCore (fresh_core base hands) =
    record {
      lawful = record {
        as_many = length-map hands (λ h. h.cursor) ∙ sym (length-map hands module_state);
        named = tt;
        placed = fresh_placed base hands fresh;
      };
      follows = fresh_follows base hands fresh;
    } in
    subst (λ ks. IsCore (record {
      base = base;
      kept = ks;
      entries = [];
      hands = hands;
      records =
          [];
    })) same one

-- a hand follows on where entries are added
pub follows_longer : (k : Book) (es : List Entry) (i : ℕ) (p : ModuleState) (h : Shown)
    → Follows k i p h → Follows (with_entries k es) i p h
follows_longer k es i p h at =
    record {
      number_is = at.number_is;
      own_is = at.own_is;
      meaning_is = at.meaning_is;
      from_base = at.from_base;
      to_end = omega (arith, at.to_end, length-append k.entries es);
      folds = at.folds
          ∙ ap (state_along p.meaning p.state k.base) (sym (taken_longer k h.cursor es at.to_end));
    }

pub follows_accepted : (k : Book) (e : Entry) (i : ℕ) (h : Shown) → FollowsAs k i h
    → FollowsAs (accepted k e) i h
follows_accepted k e i h f p a = follows_longer k (e ∷ []) i p h (f p a)

-- and where cursors and records change
pub follows_beside : (k : Book) (cs : List ℕ) (rs : List Spoken) (i : ℕ) (h : Shown)
    → FollowsAs k i h → FollowsAs (record k { cursors = cs; records = rs }) i h
follows_beside k cs rs i h f p a =
    let at : Follows k i p h = f p a in
    record {
      number_is = at.number_is;
      own_is = at.own_is;
      meaning_is = at.meaning_is;
      from_base = at.from_base;
      to_end = at.to_end;
      folds = at.folds;
    }

pub core_accepted : (c : Seen) (e : Entry) → IsCore c
    → IsCore (record c { entries = c.entries ++ e ∷ [] })
core_accepted c e h =
    record {
      lawful = lawful_accepted (book_of c) e h.lawful;
      follows = λ i s a. follows_accepted (book_of c) e i s (h.follows i s a);
    }

-- a fall that is allowed moves the cursor
pub fallen_is : (k : Book) (i c d : ℕ) → slice_get k.cursors i ≡ Some d → floor_of k i ≤ c → c ≤ d
    → fallen k i c ≡ record k { cursors = slice_set k.cursors i c }
fallen_is k i c d a low high =
    let first : nat_le (floor_of k i) c ≡ true = le_true (floor_of k i) c low in
    let second : nat_le c d ≡ true = le_true c d high in
    ap (fallen_at k i c) a
    ∙ ap (λ b. cond b (record k { cursors = slice_set k.cursors i c }) k)
    (ap (λ x. x && nat_le c d) first ∙ second)

-- the book after one hand was put in place of another
pub book_put : (c : Seen) (i : ℕ) (h : Shown)
    → book_of (record c { hands = slice_set c.hands i h })
    ≡ record (book_of c) { cursors = slice_set (map (λ s. s.cursor) c.hands) i h.cursor }
book_put c i h = ap (λ cs. record (book_of c) { cursors = cs })
    (map-set (λ s. s.cursor) c.hands i h)

-- the hand at a place after one was written
pub hand_written : (hands : List Shown) (i : ℕ) (old new : Shown) (j : ℕ) (h : Shown)
    → slice_get hands i ≡ Some old → slice_get (slice_set hands i new) j ≡ Some h
    → ((j ≡ i) × (h ≡ new)) ⊎ (slice_get hands j ≡ Some h)
hand_written hands i old new j h a b =
    elim (cases_eq j i) [
      | inl same ↦
          let there : slice_get (slice_set hands i new) i ≡ Some h =
          subst (λ x. slice_get (slice_set hands i new) x ≡ Some h) same b in
          let here : slice_get (set hands i new) i ≡ Some new = get_set_same hands i old new a in
          let is : h ≡ new = cc in
          inl (same, is)
      | inr other ↦ inr (sym (get_set_other hands i j new other) ∙ b)
    ]

put_follows : (c : Seen) (i : ℕ) (old new : Shown) → IsCore c → slice_get c.hands i ≡ Some old
    → FollowsAs (book_of c) i new
    → (j : ℕ) (h : Shown) → slice_get (slice_set c.hands i new) j ≡ Some h
    → FollowsAs (book_of c) j h
put_follows c i old new core a f j h b =
    elim (hand_written c.hands i old new j h a b) [
      | inl w ↦ subst (λ x. FollowsAs (book_of c) x h) (sym w.0)
          (subst (FollowsAs (book_of c) i) (sym w.1) f)
      | inr w ↦ core.follows j h w
    ]

-- a hand that follows, put in place of one that has come further
pub core_fallen : (c : Seen) (i : ℕ) (old new : Shown) → IsCore c → slice_get c.hands i ≡ Some old
    → FollowsAs (book_of c) i new
    → floor_of (book_of c) i ≤ new.cursor → new.cursor ≤ old.cursor
    → (book_of (record c { hands = slice_set c.hands i new }) ≡ fallen (book_of c) i new.cursor)
    × IsCore (record c { hands = slice_set c.hands i new })
core_fallen c i old new core a f low high =
    let at : slice_get (book_of c).cursors i ≡ Some old.cursor =
    map_get (λ s. s.cursor) c.hands i old a in
    let is : fallen (book_of c) i new.cursor
    ≡ record (book_of c) { cursors = slice_set (book_of c).cursors i new.cursor } =
    fallen_is (book_of c) i new.cursor old.cursor at low high in
    let same : book_of (record c { hands = slice_set c.hands i new })
    ≡ fallen (book_of c) i new.cursor = book_put c i new ∙ sym is in
    let cs : List ℕ = map (λ s. s.cursor) (slice_set c.hands i new) in (
      same,
      record {
        lawful = subst IsLawful (sym same) (lawful_fallen (book_of c) i new.cursor core.lawful);
        follows = λ j h b. follows_beside (book_of c) cs c.records j h
            (put_follows c i old new core a f j h b);
      },
    )

-- the book after a module took an entry, by the equations that hold of what it is
pub worked_is : (k : Book) (i : ℕ) (p : ModuleState) (c : ℕ) (e : Entry)
    → slice_get k.modules i ≡ Some p → slice_get k.cursors i ≡ Some c
    → slice_get k.entries (c - k.base) ≡ Some e
    → worked k i ≡ worked_on k i p c (Some e)
worked_is k i p c e a b f =
    ap (λ o. worked_at k i o (slice_get k.cursors i)) a
    ∙ ap (worked_at k i (Some p)) b
    ∙ ap (worked_on k i p c) f

-- a module of a core has a part for each hand
pub module_for : (c : Seen) (i : ℕ) (h : Shown) → IsCore c → slice_get c.hands i ≡ Some h
    → (p : ModuleState) × (slice_get (book_of c).modules i ≡ Some p)
module_for c i h core a =
    let inside : i < length c.hands = slice_get_within c.hands i h a in
    let many : length (map (λ s. s.cursor) c.hands) ≡ length (map module_state c.kept) =
    core.lawful.as_many in
    let one : length (map (λ s. s.cursor) c.hands) ≡ length c.hands =
    length-map c.hands (λ s. s.cursor) in
    let fits : i < length (map module_state c.kept) = omega arith in (
      get_or (map module_state c.kept) i (module_state h),
      slice_get-get_or (map module_state c.kept) i (module_state h) fits,
    )

-- the hand that took the entry at its cursor follows the book
pub follows_step : (k : Book) (i : ℕ) (p : ModuleState) (h : Shown) (e : Entry) → Follows k i p h
    → slice_get k.entries (h.cursor - k.base) ≡ Some e → Follows k i p (stepped h e)
follows_step k i p h e at found =
    let room : h.cursor - k.base < length k.entries =
    slice_get_within k.entries (h.cursor - k.base) e found in
    let low : k.base ≤ h.cursor = at.from_base in
    let next : state_along p.meaning p.state k.base (taken k (h.cursor + 1))
    ≡ after_of p.meaning (state_at k p h.cursor) h.cursor e =
    ap (state_along p.meaning p.state k.base) (taken_next k h.cursor e low found)
    ∙ state_push p.meaning p.state k.base (taken k h.cursor) e
    ∙ ap (λ n. after_of p.meaning (state_at k p h.cursor) n e)
    (length_taken k h.cursor low at.to_end) in
    record {
      number_is = at.number_is;
      own_is = at.own_is;
      meaning_is = at.meaning_is;
      from_base = omega arith;
      to_end = omega arith;
      folds = ap (λ m. after_of m h.state h.cursor e) at.meaning_is
          ∙ ap (λ s. after_of p.meaning s h.cursor e) at.folds ∙ sym next;
    }

-- also where cursors and records change
step_follows : (k : Book) (cs : List ℕ) (rs : List Spoken) (i : ℕ) (h : Shown) (e : Entry)
    → FollowsAs k i h → slice_get k.entries (h.cursor - k.base) ≡ Some e
    → FollowsAs (record k { cursors = cs; records = rs }) i (stepped h e)
step_follows k cs rs i h e f found =
    follows_beside k cs rs i (stepped h e) (λ p a. follows_step k i p h e (f p a) found)

-- a hand that follows a book does so after more entries, and where it takes the entry at its cursor
pub follows_on : (k : Book) (h : Shown) → FollowsBook k h → FollowsOn k h
follows_on k h f =
    record {
      longer = λ es. (f.0, f.1, follows_longer k es h.number f.0 h f.2);
      steps = λ e found. (f.0, f.1, follows_step k h.number f.0 h e f.2 found);
    }

-- a step of a hand is the move of its module
pub core_worked : (c : Seen) (i : ℕ) (h : Shown) (e : Entry) → IsCore c
    → slice_get c.hands i ≡ Some h → slice_get c.entries (h.cursor - c.base) ≡ Some e
    → (book_of (with_step c i h e) ≡ worked (book_of c) i) × IsCore (with_step c i h e)
core_worked c i h e core a found =
    let k : Book = book_of c in
    let got : (p : ModuleState) × (slice_get k.modules i ≡ Some p) = module_for c i h core a in
    let p : ModuleState = got.0 in
    let f : Follows k i p h = core.follows i h a p got.1 in
    let at : slice_get k.cursors i ≡ Some h.cursor = map_get (λ s. s.cursor) c.hands i h a in
    let numbered : p.meaning.own ≡ i = (core.lawful.placed i p h.cursor got.1 at).numbered in
    let said : speech h e
    ≡ records_at p.meaning.own h.cursor (says_of p.meaning (state_at k p h.cursor) h.cursor e) =
    ap (λ n. records_at n h.cursor (says_of h.meaning h.state h.cursor e))
    (f.number_is ∙ sym numbered)
    ∙ ap (λ m. records_at p.meaning.own h.cursor (says_of m h.state h.cursor e)) f.meaning_is
    ∙ ap (λ s. records_at p.meaning.own h.cursor (says_of p.meaning s h.cursor e)) f.folds in
    let put : book_of (with_step c i h e) ≡ worked_on k i p h.cursor (Some e) =
    ap (λ cs. record k { cursors = cs; records = c.records ++ speech h e })
    (map-set (λ s. s.cursor) c.hands i (stepped h e))
    ∙ ap (λ rs. record k {
      cursors = slice_set k.cursors i (h.cursor + 1);
      records =
          c.records ++ rs;
    }) said in
    let same : book_of (with_step c i h e) ≡ worked k i = put
    ∙ sym (worked_is k i p h.cursor e got.1 at found) in
    let cs : List ℕ = map (λ s. s.cursor) (slice_set c.hands i (stepped h e)) in
    let rs : List Spoken = c.records ++ speech h e in (
      same,
      record {
        lawful = subst IsLawful (sym same) (lawful_worked k i core.lawful);
        follows = λ j s b. elim (hand_written c.hands i h (stepped h e) j s a b) [
          | inl w ↦
              subst (λ x. FollowsAs (record k { cursors = cs; records = rs }) x s) (sym w.0)
              (subst (FollowsAs (record k { cursors = cs; records = rs }) i) (sym w.1)
              (step_follows k cs rs i h e (core.follows i h a) found))
          | inr w ↦ follows_beside k cs rs j s (core.follows j s w)
        ];
      },
    )

-- what is kept of what a hand spoke is its speech
pub kept_said : (own n : ℕ) (ws : List ListEvent)
    → kept_of ws (record { «module» = own; number = n; events = ws }) ≡ records_at own n ws
kept_said own n [] = refl
kept_said own n (w ∷ ws) = refl

-- a hand of a core is not below the base
pub hand_low : (c : Seen) (i : ℕ) (h : Shown) → IsCore c → slice_get c.hands i ≡ Some h
    → c.base ≤ h.cursor
hand_low c i h core a =
    let got : (p : ModuleState) × (slice_get (book_of c).modules i ≡ Some p) =
    module_for c i h core a in
    (core.follows i h a got.0 got.1).from_base

-- nor past the end
pub hand_high : (c : Seen) (i : ℕ) (h : Shown) → IsCore c → slice_get c.hands i ≡ Some h
    → h.cursor ≤ c.base + length c.entries
hand_high c i h core a =
    let got : (p : ModuleState) × (slice_get (book_of c).modules i ≡ Some p) =
    module_for c i h core a in
    (core.follows i h a got.0 got.1).to_end

-- the answer where there is no entry left, and where the module took one
pub outcome_is : (k : Book) (i : ℕ) (p : ModuleState) (c : ℕ) (found : Option Entry)
    → slice_get k.modules i ≡ Some p → slice_get k.cursors i ≡ Some c
    → slice_get k.entries (c - k.base) ≡ found
    → outcome k i ≡ outcome_on k p c found
outcome_is k i p c found a b f =
    ap (λ o. outcome_at k o (slice_get k.cursors i)) a
    ∙ ap (outcome_at k (Some p)) b
    ∙ ap (outcome_on k p c) f

pub still_is : (k : Book) (i : ℕ) (p : ModuleState) (c : ℕ) → slice_get k.modules i ≡ Some p
    → slice_get k.cursors i ≡ Some c → slice_get k.entries (c - k.base) ≡ None → worked k i ≡ k
still_is k i p c a b f =
    ap (λ o. worked_at k i o (slice_get k.cursors i)) a
    ∙ ap (worked_at k i (Some p)) b
    ∙ ap (worked_on k i p c) f

-- a module that has taken every entry is idle, and the book stays as it is
pub core_idle : (c : Seen) (i : ℕ) (h : Shown) → IsCore c → slice_get c.hands i ≡ Some h
    → length c.entries ≤ h.cursor - c.base
    → (Idle ≡ outcome (book_of c) i) × (book_of c ≡ worked (book_of c) i)
core_idle c i h core a past =
    let got : (p : ModuleState) × (slice_get (book_of c).modules i ≡ Some p) =
    module_for c i h core a in
    let at : slice_get (book_of c).cursors i ≡ Some h.cursor =
    map_get (λ s. s.cursor) c.hands i h a in
    let none : slice_get c.entries (h.cursor - c.base) ≡ None =
    slice_get_past c.entries (h.cursor - c.base) past in (
      sym (outcome_is (book_of c) i got.0 h.cursor None got.1 at none),
      sym (still_is (book_of c) i got.0 h.cursor got.1 at none),
    )

-- the answer after a step says whether it said something
pub core_outcome : (c : Seen) (i : ℕ) (h : Shown) (e : Entry) → IsCore c
    → slice_get c.hands i ≡ Some h → slice_get c.entries (h.cursor - c.base) ≡ Some e
    → after_step (says_of h.meaning h.state h.cursor e) ≡ outcome (book_of c) i
core_outcome c i h e core a found =
    let k : Book = book_of c in
    let got : (p : ModuleState) × (slice_get k.modules i ≡ Some p) = module_for c i h core a in
    let p : ModuleState = got.0 in
    let f : Follows k i p h = core.follows i h a p got.1 in
    let at : slice_get k.cursors i ≡ Some h.cursor = map_get (λ s. s.cursor) c.hands i h a in
    ap (λ m. after_step (says_of m h.state h.cursor e)) f.meaning_is
    ∙ ap (λ s. after_step (says_of p.meaning s h.cursor e)) f.folds
    ∙ sym (outcome_is k i p h.cursor (Some e) got.1 at found)
