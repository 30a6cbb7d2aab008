-- The calls of a core over objects of any kind, as what shows of them.
use Rattle.std.proofs.Common.{◌≡◌, ℕ, Bool, true, false, ◌==◌, ◌+◌, ◌-◌, ◌<◌, ◌≤◌, List, [], ◌∷◌}
use Rattle.std.proofs.Common.{◌++◌, length, map, set, get_or, Some, Result, Ok, Err, OnOk, OnErr}
use Rattle.std.proofs.Common.{IfOk, ◌^◌, refl, sym, ◌∙◌, ap, subst, arith}
use Rattle.std.specs.Option.{ForSome}
use Rattle.std.specs.Prelude.{All}
use Rattle.std.proofs.lemmas.List.{map-set, set-get_or, length-append}
use Rattle.std.proofs.lemmas.List.Elements.{All-from_recursion, All-append}
use Rattle.fm_entry.specs.Entries.{IsSpelled}
use Rattle.std.proofs.lemmas.Option.{slice_get_read, slice_get-get_or, same_Some}
use Rattle.std.specs.List.{slice_get, slice_set}
use Rattle.fm_entry.specs.declared.entry.Entry.{Entry}
use Rattle.fm_entry.specs.declared.spoken.Spoken.{Spoken}
use Rattle.fm_entry.specs.declared.list_event.ListEvent.{ListEvent}
use Rattle.fm_core.specs.declared.module.Module.{Ghosts}
use Rattle.fm_core.specs.Meaning.{says_of}
use Rattle.fm_core.specs.Hands.{HandOf, Shown, shown, stepped, spoken_at}
use Rattle.fm_core.specs.Book.{IsAdmitted, fallen, worked}
use Rattle.fm_core.specs.Seen.{CoreOf, seen, book_of, MayFall, IsCore, HasComeTo, AreFresh}
use Rattle.fm_core.specs.Seen.{AreFew, speech, with_step}
use Rattle.fm_core.specs.Outcome.{outcome, after_step, kept_of, kept_record}
use Rattle.fm_core.specs.declared.worked.Worked.{Worked}
use Rattle.fm_core.specs.declared.worked.Worked.TheVariants.{Idle}
use Rattle.fm_core.proofs.Lists.{map_get}
use Rattle.fm_core.proofs.Keeping.{core_fresh, core_accepted, core_fallen, core_worked, core_idle}
use Rattle.fm_core.proofs.Keeping.{core_outcome, hand_low, kept_said}

-- the element that was read at a place
pub read_at : {X : Type 0} (xs : List X) (i : ℕ) (x y : X) → i < length xs → x ≡ get_or xs i x
    → y ≡ x → slice_get xs i ≡ Some y
read_at xs i x y h e same = slice_get_read xs (length xs) i x refl h e ∙ ap Some (sym same)

kept_one : (spoken : Spoken) (ws : List ListEvent) → 0 < length ws → kept_of ws spoken ≡ spoken ∷ []
kept_one spoken [] h = absurd (let no : ⊥ = omega arith in no)
kept_one spoken (w ∷ ws) h = refl

-- what is kept of a record that has words is the record
pub kept_more : (records : List Spoken) (spoken : Spoken) → 0 < length spoken.events
    → records ++ spoken ∷ [] ≡ records ++ kept_record spoken
kept_more records spoken some = ap (λ rs. records ++ rs) (sym (kept_one spoken spoken.events some))

-- the entries of a core after it accepted one
pub few_more : (base : ℕ) (es : List Entry) (e : Entry) (new : List Entry) → new ≡ es ++ e ∷ []
    → AreFew base es → IsAdmitted e → base + length es < 2 ^ 46 → AreFew base new
few_more base es e new is few admitted fits =
    let one : All IsSpelled (e ∷ []) =
    All-from_recursion IsSpelled (e ∷ []) (admitted.spelled, tt) in
    subst (AreFew base) (sym is)
    (record {
      spelled = All-append IsSpelled es (e ∷ []) few.spelled one;
      few = omega (arith, few.few, length-append es (e ∷ []));
    })

-- a list that is not empty has an element
pub some_left : {X : Type 0} (ys xs : List X) (r : Bool) → r ≡ (length ys == 0) → r ≡ false
    → ys ≡ xs → 0 < length xs
some_left ys [] r a b e =
    absurd (let t : (length ys == 0) ≡ true = ap (λ zs. length zs == 0) e in let no : ⊥ = cc in no)
some_left ys (x ∷ xs) r a b e = omega arith

-- some element of a list that has an element at a place
pub first_of : {X : Type 0} (xs : List X) (i : ℕ) → i < length xs → X
first_of [] i h = absurd (let no : ⊥ = omega arith in no)
first_of (x ∷ xs) i h = x

module _ {M : Type 0} (g : Ghosts M) where
  pub new_lawful : (base : ℕ) (hands kept : List (HandOf M)) (entries : List Entry)
      (records : List Spoken) → entries ≡ [] → records ≡ []
      → AreFresh base (map (shown g) hands) → map (shown g) hands ≡ map (shown g) kept
      → IsCore (seen g (record {
        base = base;
        kept = kept;
        entries = entries;
        hands =
            hands;
        records = records;
      }))
  new_lawful base hands kept entries records a b fresh same =
      subst (λ es. IsCore (seen g
      (record { base = base; kept = kept; entries = es; hands = hands; records = records })))
      (sym a)
      (subst (λ rs. IsCore (seen g
      (record { base = base; kept = kept; entries = []; hands = hands; records = rs }))) (sym b)
      (core_fresh base (map (shown g) hands) (map (shown g) kept) fresh same))

  pub accept_lawful : (c : CoreOf M) (e : Entry) (es : List Entry) → es ≡ c.entries ++ e ∷ []
      → IsCore (seen g c) → IsCore (seen g (record c { entries = es }))
  accept_lawful c e es same h =
      subst (λ xs. IsCore (seen g (record c { entries = xs }))) (sym same)
      (core_accepted (seen g c) e h)

  -- what shows of the hands after one was put
  pub shown_put : (c : CoreOf M) (i : ℕ) (hand : HandOf M)
      → seen g (record c { hands = slice_set c.hands i hand })
      ≡ record (seen g c) { hands = slice_set (map (shown g) c.hands) i (shown g hand) }
  shown_put c i hand = ap (λ hs. record (seen g c) { hands = hs })
      (map-set (shown g) c.hands i hand)

  fall_both : (c : CoreOf M) (i : ℕ) (own hand : HandOf M) → slice_get c.hands i ≡ Some own
      → IsCore (seen g c)
      → MayFall (seen g c) i (shown g hand)
      → (book_of (seen g (record c { hands = slice_set c.hands i hand }))
      ≡ fallen (book_of (seen g c)) i hand.cursor)
      × IsCore (seen g (record c { hands = slice_set c.hands i hand }))
  fall_both c i own hand a h may =
      let at : slice_get (seen g c).hands i ≡ Some (shown g own) =
      map_get (shown g) c.hands i own a in
      let both : (book_of (record (seen g c)
      { hands = slice_set (map (shown g) c.hands) i (shown g hand) })
      ≡ fallen (book_of (seen g c)) i hand.cursor)
      × IsCore (record (seen g c) { hands = slice_set (map (shown g) c.hands) i (shown g hand) }) =
      core_fallen (seen g c) i (shown g own) (shown g hand) h at may.follows may.above
      (may.below (shown g own) at) in
      (ap book_of (shown_put c i hand) ∙ both.0, subst IsCore (sym (shown_put c i hand)) both.1)

  pub fall_book : (c : CoreOf M) (i : ℕ) (own hand put : HandOf M) → i < length c.hands
      → own ≡ get_or c.hands i own → put ≡ hand → IsCore (seen g c)
      → MayFall (seen g c) i (shown g hand)
      → book_of (seen g (record c { hands = slice_set c.hands i put }))
      ≡ fallen (book_of (seen g c)) i hand.cursor
  fall_book c i own hand put inside read same h may =
      ap (λ x. book_of (seen g (record c { hands = slice_set c.hands i x }))) same
      ∙ (fall_both c i own hand (read_at c.hands i own own inside read refl) h may).0

  pub fall_lawful : (c : CoreOf M) (i : ℕ) (own hand put : HandOf M) → i < length c.hands
      → own ≡ get_or c.hands i own → put ≡ hand → IsCore (seen g c)
      → MayFall (seen g c) i (shown g hand)
      → IsCore (seen g (record c { hands = slice_set c.hands i put }))
  fall_lawful c i own hand put inside read same h may =
      subst (λ x. IsCore (seen g (record c { hands = slice_set c.hands i x }))) (sym same)
      (fall_both c i own hand (read_at c.hands i own own inside read refl) h may).1

  -- a hand of a core is not below the base
  pub low : (c : CoreOf M) (i : ℕ) (hand : HandOf M) → IsCore (seen g c)
      → slice_get c.hands i ≡ Some hand → c.base ≤ hand.cursor
  low c i hand h a = hand_low (seen g c) i (shown g hand) h (map_get (shown g) c.hands i hand a)

  pub place_low : (c : CoreOf M) (i : ℕ) (hand : HandOf M) (cursor : ℕ) → i < length c.hands
      → hand ≡ get_or c.hands i hand → cursor ≡ hand.cursor → IsCore (seen g c) → c.base ≤ cursor
  place_low c i hand cursor inside read is h =
      let here : c.base ≤ hand.cursor =
      low c i hand h (read_at c.hands i hand hand inside read refl) in omega arith

  pub place_is : (c : CoreOf M) (i : ℕ) (hand : HandOf M) (cursor : ℕ) → i < length c.hands
      → hand ≡ get_or c.hands i hand → cursor ≡ hand.cursor → IsCore (seen g c)
      → ForSome (slice_get c.hands i) (λ x. (c.base ≤ x.cursor)
      × (cursor - c.base ≡ x.cursor - c.base))
  place_is c i hand cursor inside read is h x got =
      let one : Some hand ≡ Some x = sym (read_at c.hands i hand hand inside read refl) ∙ got in
      let same : hand ≡ x = same_Some hand x one in
      let at : hand.cursor ≡ x.cursor = ap (λ y. y.cursor) same in
      (low c i x h got, ap (λ n. n - c.base) (is ∙ at))

  -- the hand at a place is the one that was read there
  the_hand : (hands : List (HandOf M)) (i : ℕ) (old x : HandOf M) → i < length hands
      → old ≡ get_or hands i old → slice_get hands i ≡ Some x → old ≡ x
  the_hand hands i old x inside read got =
      same_Some old x (sym (read_at hands i old old inside read refl) ∙ got)

  pub step_hands : {E : Type 0} (r : Result Spoken E) (hands : List (HandOf M)) (i : ℕ)
      (old new : HandOf M) (e : Entry) → i < length hands → old ≡ get_or hands i old
      → OnOk r (shown g new ≡ stepped (shown g old) e)
      → OnOk r (ForSome (slice_get hands i)
      (λ hand. map (shown g) (slice_set hands i new)
      ≡ slice_set (map (shown g) hands) i (stepped (shown g hand) e)))
  step_hands (Ok s) hands i old new e inside read h = λ x got.
      map-set (shown g) hands i new
      ∙ ap (λ y. set (map (shown g) hands) i y)
      (h ∙ ap (λ y. stepped (shown g y) e) (the_hand hands i old x inside read got))
  step_hands (Err f) hands i old new e inside read h = tt

  pub step_words : {E : Type 0} (r : Result Spoken E) (hands : List (HandOf M)) (i : ℕ)
      (old : HandOf M) (e : Entry) → i < length hands → old ≡ get_or hands i old
      → IfOk r (λ s. s ≡ spoken_at (shown g old) e)
      → IfOk r (λ s. ForSome (slice_get hands i) (λ hand. s ≡ spoken_at (shown g hand) e))
  step_words (Ok s) hands i old e inside read h = λ x got. h
      ∙ ap (λ y. spoken_at (shown g y) e) (the_hand hands i old x inside read got)
  step_words (Err f) hands i old e inside read h = tt

  pub step_kept : {E : Type 0} (r : Result Spoken E) (hands : List (HandOf M)) (i : ℕ)
      (old new : HandOf M) → old ≡ get_or hands i old
      → OnErr r (shown g new ≡ shown g old)
      → OnErr r (map (shown g) (slice_set hands i new) ≡ map (shown g) hands)
  step_kept (Ok s) hands i old new read h = tt
  step_kept (Err f) hands i old new read h =
      map-set (shown g) hands i new
      ∙ ap (λ y. set (map (shown g) hands) i y) h
      ∙ sym (map-set (shown g) hands i old)
      ∙ ap (map (shown g)) (ap (λ y. set hands i y) read ∙ set-get_or hands i old)

  -- a module that has no entry left
  pub work_idle : (c : CoreOf M) (i place size : ℕ) → IsCore (seen g c) → i < length c.hands
      → ForSome (slice_get c.hands i) (λ x. (c.base ≤ x.cursor) × (place ≡ x.cursor - c.base))
      → size ≡ length c.entries → size ≤ place
      → (Idle ≡ outcome (book_of (seen g c)) i)
      × (book_of (seen g c) ≡ worked (book_of (seen g c)) i)
  work_idle c i place size h inside at is past =
      let hand : HandOf M = get_or c.hands i (first_of c.hands i inside) in
      let got : slice_get c.hands i ≡ Some hand =
      slice_get-get_or c.hands i (first_of c.hands i inside) inside in
      let where_ : place ≡ hand.cursor - c.base = (at hand got).1 in
      core_idle (seen g c) i (shown g hand) h (map_get (shown g) c.hands i hand got) (omega arith)

  -- its number is in range
  pub work_number : (c : CoreOf M) (i place size : ℕ)
      → ForSome (slice_get c.hands i) (λ x. (c.base ≤ x.cursor) × (place ≡ x.cursor - c.base))
      → size ≡ length c.entries → place < size → length c.entries ≤ 2 ^ 46 - c.base
      → ForSome (slice_get c.hands i) (λ x. x.cursor < 2 ^ 46)
  work_number c i place size at is room few x got =
      let low : c.base ≤ x.cursor = (at x got).0 in
      let where_ : place ≡ x.cursor - c.base = (at x got).1 in
      omega arith

  -- a module that took an entry
  pub record Works (c new : CoreOf M) (i : ℕ) (answer : Worked) : Type 0 where
    pub answered : answer ≡ outcome (book_of (seen g c)) i
    pub worked : book_of (seen g new) ≡ worked (book_of (seen g c)) i
    pub lawful : IsCore (seen g new)

  pub work_done : (c : CoreOf M) (i place size : ℕ) (e : Entry) (hands : List (HandOf M))
      (records : List Spoken) (spoken : Spoken) (answer : Worked)
      → IsCore (seen g c) → i < length c.hands
      → ForSome (slice_get c.hands i) (λ x. (c.base ≤ x.cursor) × (place ≡ x.cursor - c.base))
      → size ≡ length c.entries → place < size → e ≡ get_or c.entries place e
      → ForSome (slice_get c.hands i)
      (λ hand. map (shown g) hands
      ≡ slice_set (map (shown g) c.hands) i (stepped (shown g hand) e))
      → ForSome (slice_get c.hands i) (λ hand. spoken ≡ spoken_at (shown g hand) e)
      → records ≡ c.records ++ kept_record spoken → answer ≡ after_step spoken.events
      → Works c (record c { hands = hands; records = records }) i answer
  work_done c i place size e hands records spoken answer h inside at is room read moved said kept
      answered =
      let hand : HandOf M = get_or c.hands i (first_of c.hands i inside) in
      let got : slice_get c.hands i ≡ Some hand =
      slice_get-get_or c.hands i (first_of c.hands i inside) inside in
      let s : Shown = shown g hand in
      let got' : slice_get (seen g c).hands i ≡ Some s = map_get (shown g) c.hands i hand got in
      let where_ : place ≡ hand.cursor - c.base = (at hand got).1 in
      let room' : place < length c.entries = omega arith in
      let found : slice_get c.entries (hand.cursor - c.base) ≡ Some e =
      ap (slice_get c.entries) (sym where_) ∙ read_at c.entries place e e room' read refl in
      let words : kept_record spoken ≡ speech s e =
      ap kept_record (said hand got)
      ∙ kept_said s.number s.cursor (says_of s.meaning s.state s.cursor e) in
      let new : seen g (record c { hands = hands; records = records })
      ≡ with_step (seen g c) i s e =
      ap (λ hs. record (seen g c) { hands = hs; records = records }) (moved hand got)
      ∙ ap (λ rs. record (seen g c)
      { hands = slice_set (map (shown g) c.hands) i (stepped s e); records = rs })
      (kept ∙ ap (λ rs. c.records ++ rs) words) in
      let both : (book_of (with_step (seen g c) i s e) ≡ worked (book_of (seen g c)) i)
      × IsCore (with_step (seen g c) i s e) =
      core_worked (seen g c) i s e h got' found in
      record {
        answered = answered ∙ ap (λ x. after_step x.events) (said hand got)
            ∙ core_outcome (seen g c) i s e h got' found;
        worked = ap book_of new ∙ both.0;
        lawful = subst IsCore (sym new) both.1;
      }

  -- how far the module at a place has come
  pub place_cursor : (c : CoreOf M) (i : ℕ) (hand : HandOf M) (cursor : ℕ) → i < length c.hands
      → hand ≡ get_or c.hands i hand → cursor ≡ hand.cursor → IsCore (seen g c)
      → HasComeTo (seen g c) i (c.base + (cursor - c.base))
  place_cursor c i hand cursor inside read is h =
      let got : slice_get c.hands i ≡ Some hand = read_at c.hands i hand hand inside read refl in
      let up : c.base ≤ hand.cursor = low c i hand h got in
      let at : slice_get (book_of (seen g c)).cursors i ≡ Some hand.cursor =
      map_get (λ s. s.cursor) (seen g c).hands i (shown g hand)
      (map_get (shown g) c.hands i hand got) in
      let same : hand.cursor ≡ c.base + (cursor - c.base) = omega arith in
      at ∙ ap Some same
