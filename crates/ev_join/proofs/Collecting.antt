-- The candidates that were found, as they grow to all.
use Rattle.std.proofs.Common.{◌≡◌, ◌<◌, ◌≤◌, ◌+◌, ◌⊎◌, ℕ, zero, suc, List, [], ◌∷◌, ◌++◌, length}
use Rattle.std.proofs.Common.{slice_get, Some, inl, inr, refl, arith, ap, sym}
use Rattle.std.proofs.Common.{◌∙◌}
use Rattle.std.proofs.Common.{subst, length-append, filter, true}
use Rattle.std.proofs.Common.{nat_lt, ◌==◌, false}
use Rattle.std.proofs.lemmas.Bool.{cases_Bool}
use Rattle.std.proofs.lemmas.Grind.{common_steps}
use Rattle.std.proofs.lemmas.List.Sums.{sum_by-cons}
use Rattle.std.proofs.lemmas.Option.{slice_get_within}
use Rattle.ev_join.specs.declared.table.Row.{Row}
use Rattle.ev_join.specs.Order.{IsNotBefore, AreSmall, is_begun, placing}
use Rattle.ev_join.specs.Tables.{TableValue, HasRow, bound_values, rows_at}
use Rattle.ev_join.specs.Candidates.{HasRows, IsJoined, AreJoined, AreAllCandidates, IsAmong}
use Rattle.ev_join.specs.Candidates.{links_at}
use Rattle.ev_join.specs.Search.{IsOpen, IsFirstCandidate, HasNoCandidate, IsRaised}
use Rattle.ev_join.proofs.Ordering.{goes_any, not_before_trans}
use Rattle.ev_join.proofs.Ordering.{lowered}
use Rattle.ev_join.proofs.Placings.{placing_begun}
use Rattle.ev_join.proofs.Columns.{fits_fewer}
use Rattle.ev_join.proofs.Turns.{small_at, small_front}

-- ---- lists with one more item
module _ {X : Type 0} where
  at_more : (xs : List X) (b x : X) (i : ℕ) → slice_get (xs ++ b ∷ []) i ≡ Some x
      → (slice_get xs i ≡ Some x) ⊎ ((i ≡ length xs) × (b ≡ x))
  at_more [] b x zero e = inr (refl, (let same : b ≡ x = cc in same))
  at_more [] b x (suc i) e = absurd (let no : ⊥ = cc in no)
  at_more (a ∷ xs) b x zero e = inl e
  at_more (a ∷ xs) b x (suc i) e = elim (at_more xs b x i e) [
    | inl h ↦ inl h
    | inr h ↦ inr (ap suc h.0, h.1)
  ]

  still_at : (xs : List X) (b x : X) (i : ℕ) → slice_get xs i ≡ Some x
      → slice_get (xs ++ b ∷ []) i ≡ Some x
  still_at [] b x i e = absurd (let no : ⊥ = cc in no)
  still_at (a ∷ xs) b x zero e = e
  still_at (a ∷ xs) b x (suc i) e = still_at xs b x i e

  last_at : (xs : List X) (b : X) → slice_get (xs ++ b ∷ []) (length xs) ≡ Some b
  last_at [] b = refl
  last_at (a ∷ xs) b = last_at xs b

-- ---- a list with its last number raised
not_raised : (q : List ℕ) (x : ℕ) → IsNotBefore (q ++ x ∷ []) (q ++ (x + 1) ∷ []) → ⊥
not_raised [] x (inl l) = omega (arith, l)
not_raised [] x (inr (e, p)) = omega (arith, e)
not_raised (a ∷ q) x (inl l) = omega (arith, l)
not_raised (a ∷ q) x (inr (e, p)) = not_raised q x p

raised_or_same : (q c : List ℕ) (x : ℕ) → length c ≡ length q + 1 → IsNotBefore c (q ++ x ∷ [])
    → (c ≡ q ++ x ∷ []) ⊎ IsNotBefore c (q ++ (x + 1) ∷ [])
raised_or_same [] [] x len p = absurd p
raised_or_same [] (z ∷ c) x len (inl l) = inr (goes_any [] c (x + 1) z (omega (arith, l)))
raised_or_same [] (z ∷ []) x len (inr (e, p)) = inl (ap (λ y. y ∷ []) e)
raised_or_same [] (z ∷ w ∷ c) x len (inr (e, p)) = absurd (omega (arith, len))
raised_or_same (a ∷ q) [] x len p = absurd p
raised_or_same (a ∷ q) (z ∷ c) x len (inl l) = inr (inl l)
raised_or_same (a ∷ q) (z ∷ c) x len (inr (e, p)) =
    elim (raised_or_same q c x (omega (arith, len)) p) [
      | inl same ↦ inl (ap (λ y. y ∷ c) e ∙ ap (λ y. a ∷ y) same)
      | inr r ↦ inr (inr (e, r))
    ]

-- ---- candidates so far
-- the candidates before the list that is left, and the search goes on from there
pub record Collected (tables : List TableValue) (n : ℕ) (front : List ℕ) (value : ℕ)
    (bs : List (List ℕ)) : Type 0 where
  pub opened : IsOpen tables n front value
  pub candidates : AreJoined tables n bs
  pub before : (i : ℕ) (b : List ℕ) → slice_get bs i ≡ Some b
      → IsNotBefore b (front ++ value ∷ []) → ⊥
  pub rest : (c : List ℕ) → IsJoined tables n c
      → IsAmong c bs ⊎ IsNotBefore c (front ++ value ∷ [])

module _ (tables : List TableValue) (n : ℕ) where
  none_yet : AreJoined tables n []
  none_yet = record {
    each = λ i b at. absurd (let no : ⊥ = cc in no);
    ascend = λ i j a b less at to p. absurd (let no : ⊥ = cc in no);
  }

  pub collected_none : 0 < n → HasRows tables [] → Collected tables n [] 0 []
  collected_none wide rows = record {
    opened = record { short = wide; small = tt; room = omega arith; fits = rows };
    candidates = none_yet;
    before = λ i b at p. absurd (let no : ⊥ = cc in no);
    rest = λ c h. inr (whole c h);
  } where
    whole : (c : List ℕ) → IsJoined tables n c → IsNotBefore c (0 ∷ [])
    whole [] h = absurd (omega (arith, h.full, wide))
    whole (z ∷ c) h = goes_any [] c 0 z (omega arith)

  module _ (front : List ℕ) (value : ℕ) (bs : List (List ℕ)) (b : List ℕ)
      (h : Collected tables n front value bs)
      (first : IsFirstCandidate tables n (front ++ value ∷ []) b) where
    -- one that was found before is not from the new one on
    earlier : (i : ℕ) (a : List ℕ) → slice_get bs i ≡ Some a → IsNotBefore a b → ⊥
    earlier i a at p = h.before i a at (not_before_trans a b (front ++ value ∷ []) p first.from)

    pub candidates_more : AreJoined tables n (bs ++ b ∷ [])
    candidates_more = record {
      each = λ i a at. elim (at_more bs b a i at) [
        | inl old ↦ h.candidates.each i a old
        | inr new ↦ subst (IsJoined tables n) new.1 first.candidate
      ];
      ascend = λ i j a c less at to p. elim (at_more bs b c j to) [
        | inl old ↦ elim (at_more bs b a i at) [
          | inl older ↦ h.candidates.ascend i j a c less older old p
          | inr new ↦
              let within = slice_get_within bs j c old in omega (arith, within, less, new.0)
        ]
        | inr new ↦ elim (at_more bs b a i at) [
          | inl old ↦ earlier i a old (subst (IsNotBefore a) (sym new.1) p)
          | inr newer ↦ omega (arith, less, new.0, newer.0)
        ]
      ];
    }

    pub collected_more : (q : List ℕ) (next : ℕ) → IsRaised b q next
        → Collected tables n q next (bs ++ b ∷ [])
    collected_more q next raise =
        let was = raise.was in
        let full : length (q ++ raise.last ∷ []) ≡ n = ap length (sym was) ∙ first.candidate.full in
        let len = length-append q (raise.last ∷ []) in
        let small = subst AreSmall was first.candidate.small in
        rw raise.next (record {
          opened = record {
            short = omega (arith, full, len);
            small = small_front q (raise.last ∷ []) small;
            room = (let less = small_at q [] raise.last small in omega (arith, less));
            fits = fits_fewer tables q (raise.last ∷ [])
                (subst (HasRows tables) was first.candidate.fits);
          };
          candidates = candidates_more;
          before = λ i a at p. elim (at_more bs b a i at) [
            | inl old ↦ earlier i a old
                (subst (IsNotBefore a) (sym was) (lowered q a [] raise.last p))
            | inr new ↦ not_raised q raise.last
                (subst (λ y. IsNotBefore y (q ++ (raise.last + 1) ∷ [])) (sym new.1 ∙ was) p)
          ];
          rest = λ c k. elim (h.rest c k) [
            | inl among ↦ inl (record {
              place = among.place;
              stands = still_at bs b c among.place among.stands;
            })
            | inr from ↦ elim (raised_or_same q c raise.last
                (omega (arith, k.full, full, len))
                (subst (IsNotBefore c) was (first.least c k from))) [
                  | inl same ↦ inl (record {
                    place = length bs;
                    stands = last_at bs b ∙ ap Some (was ∙ sym same);
                  })
                  | inr on ↦ inr on
                ]
          ];
        })

  pub collected_all : (front : List ℕ) (value : ℕ) (bs : List (List ℕ))
      → Collected tables n front value bs → HasNoCandidate tables n (front ++ value ∷ [])
      → AreAllCandidates tables n bs
  collected_all front value bs h over = record {
    candidates = h.candidates;
    all = λ c k. elim (h.rest c k) [
      | inl among ↦ among
      | inr from ↦ absurd (over.none c k from)
    ];
  }

  -- where some table has no row there is no candidate
  pub none_all : (HasRows tables [] → ⊥) → AreAllCandidates tables n []
  none_all missing = record {
    candidates = none_yet;
    all = λ c k. absurd (missing (fits_fewer tables [] c k.fits));
  }

-- the one binding of no iterators
pub whole_only : (tables : List TableValue) → HasRows tables []
    → AreAllCandidates tables 0 ([] ∷ [])
whole_only tables rows = record {
  candidates = record {
    each = λ i b at. elim (at_more [] [] b i at) [
      | inl old ↦ absurd (let no : ⊥ = cc in no)
      | inr new ↦ subst (IsJoined tables 0) new.1
          (record { full = refl; small = tt; fits = rows })
    ];
    ascend = λ i j a b less at to p. elim (at_more [] [] b j to) [
      | inl old ↦ absurd (let no : ⊥ = cc in no)
      | inr new ↦ omega (arith, less, new.0)
    ];
  };
  all = λ c k. record { place = 0; stands = ap Some (empty c k.full) };
} where
  empty : (c : List ℕ) → length c ≡ 0 → [] ≡ c
  empty [] e = refl
  empty (x ∷ c) e = absurd (omega (arith, e))

-- ---- rows and links
no_values : (cs : List ℕ) → bound_values cs [] ≡ []
no_values [] = refl
no_values (c ∷ cs) =
    let past : nat_lt c (length {A = ℕ} []) ≡ false = grind (arith, common_steps) in rw past

pub some_row : (t : TableValue) → 0 < length t.rows → HasRow t.rows (bound_values t.columns [])
some_row t some = first t.rows some where
  first : (rows : List Row) → 0 < length rows → HasRow rows (bound_values t.columns [])
  first [] less = absurd (omega (arith, less))
  first (r ∷ rows) less = record {
    place = 0;
    row = r;
    stands = refl;
    rest = r.values;
    begins = ap (λ k. k ++ r.values) (sym (no_values t.columns));
  }

pub no_row : (rows : List Row) (k : List ℕ) → length rows ≡ 0 → HasRow rows k → ⊥
no_row rows k none row =
    let within = slice_get_within rows row.place row.row row.stands in omega (arith, within, none)

-- a table with a row has a link
row_linked : (rows : List Row) (k : List ℕ) (i : ℕ) (row : Row) (rest : List ℕ)
    → slice_get rows i ≡ Some row → row.values ≡ k ++ rest
    → 0 < length (filter (λ (r : Row). is_begun (placing r.values k)) rows)
row_linked [] k i row rest at is = absurd (let no : ⊥ = cc in no)
row_linked (r ∷ rows) k zero row rest at is =
    let same : r ≡ row = cc in
    let yes_ : is_begun (placing r.values k) ≡ true =
    ap (λ (y : Row). is_begun (placing y.values k)) same
    ∙ ap (λ v. is_begun (placing v k)) is ∙ ap is_begun (placing_begun k rest) in
    rw yes_ (omega arith)
row_linked (r ∷ rows) k (suc i) row rest at is =
    let more = row_linked rows k i row rest at is in
    elim (cases_Bool (is_begun (placing r.values k))) [
      | inl so ↦ rw so (omega arith)
      | inr not_so ↦ rw not_so more
    ]

pub some_link : (tables : List TableValue) (b : List ℕ) → 0 < length tables → HasRows tables b
    → 0 < links_at tables b
some_link [] b less rows = absurd (omega (arith, less))
some_link (t ∷ tables) b less rows =
    let row = rows.each 0 t refl in
    let one = row_linked t.rows (bound_values t.columns b) row.place row.row row.rest row.stands
    row.begins in
    let sum = sum_by-cons (λ (u : TableValue). length (rows_at u b)) t tables in
    omega (arith, one, sum)

-- ---- tables that have a row
pub rows_more : (tables : List TableValue) (i : ℕ) (t : TableValue) → slice_get tables i ≡ Some t
    → nat_lt 0 (length t.rows) ≡ true
    → ((j : ℕ) (u : TableValue) → j < i → slice_get tables j ≡ Some u → 0 < length u.rows)
    → (j : ℕ) (u : TableValue) → j < i + 1 → slice_get tables j ≡ Some u → 0 < length u.rows
rows_more tables i t stands some h j u below at = elim (cases_Bool (j == i)) [
  | inl so ↦
      let here : j ≡ i = grind (arith, common_steps, so) in
      let is : Some u ≡ Some t = sym at ∙ ap (slice_get tables) here ∙ stands in
      let equal : u ≡ t = cc in
      let one : 0 < length t.rows = grind (arith, common_steps, some) in
      subst (λ (y : TableValue). 0 < length y.rows) (sym equal) one
  | inr not_so ↦ h j u (grind (arith, common_steps, not_so, below)) at
]

pub rows_missing : (tables : List TableValue) (i : ℕ) (t : TableValue)
    → slice_get tables i ≡ Some t → nat_lt 0 (length t.rows) ≡ false → HasRows tables [] → ⊥
rows_missing tables i t stands none h =
    let empty : length t.rows ≡ 0 = grind (arith, common_steps, none) in
    no_row t.rows (bound_values t.columns []) empty (h.each i t stands)

pub rows_of_all : (tables : List TableValue) (i : ℕ) → length tables ≤ i
    → ((j : ℕ) (u : TableValue) → j < i → slice_get tables j ≡ Some u → 0 < length u.rows)
    → HasRows tables []
rows_of_all tables i all h = record {
  each = λ j t at.
      let within = slice_get_within tables j t at in
      some_row t (h j t (omega (arith, within, all)) at);
}
