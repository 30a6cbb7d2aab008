-- Lemmas on membership in lists of numbers, and on rows.
use Rattle.std.proofs.Common.{◌≡◌, ◌≢◌, ◌⊎◌, ℕ, ◌+◌, ◌<◌, ◌≤◌, List, [], ◌∷◌, ◌++◌, length, get_or}
use Rattle.std.proofs.Common.{set, take, refl, sym, ◌∙◌, ap, subst, inl, inr, arith, length-append}
use Rattle.std.proofs.Common.{get_or-set_same, get_or-set_other, below_more, add-one, Bool, true}
use Rattle.std.proofs.Common.{false, ◌==◌}
use Rattle.std.proofs.Math.ListN.{get_or-append, get_or-eq_default, length-set}
use Rattle.std.proofs.Math.Seq.{get_or-append_seam}
use Rattle.std.proofs.lemmas.List.{get_or_default, take-append-le, take_all}
use Rattle.std.proofs.lemmas.Bool.{cases_lt, cases_eq}
use Rattle.std.proofs.lemmas.Bool.{or_cases, false≢true}
use Rattle.std.proofs.lemmas.Bool.Decides.{nat_tests}
use Rattle.std.proofs.lemmas.List.Folds.{list_any_at}
use Rattle.ev_ways.specs.Lists.{IsIn, is_in, row, Notes, IsIndexOf, IsIndex, IsTurned, RowsBelow}
use Rattle.ev_ways.specs.Lists.{AllBelow}

-- the test of membership, and membership
in_test : (x : ℕ) (xs : List ℕ) → is_in x xs ≡ true → IsIn x xs
in_test x [] e = absurd (false≢true e)
in_test x (y ∷ ys) e = elim (or_cases (x == y) (is_in x ys) e) [
  | inl here ↦ record { place = 0; within = omega arith; stands = grind (arith, nat_tests) }
  | inr later ↦ let rest = in_test x ys later in
      record {
        place = rest.place + 1;
        within = omega (arith, rest.within);
        stands =
            rw add-one rest.stands;
      }
]

test_in : (x : ℕ) (xs : List ℕ) → IsIn x xs → is_in x xs ≡ true
test_in x xs h = list_any_at (λ y. x == y) xs h.place 0 h.within
    (grind (arith, nat_tests, h.stands))

same_test : (a b : Bool) → (a ≡ true → b ≡ true) → (b ≡ true → a ≡ true) → a ≡ b
same_test true b to from = sym (to refl)
same_test false true to from = from refl
same_test false false to from = refl

pub index_of : {rows uses : List (List ℕ)} → IsTurned rows uses → IsIndex rows uses
index_of {rows = rows} {uses = uses} h = record {
  to = λ x j w. in_test j (row uses x) (h x j ∙ test_in x (row rows j) w);
  from = λ x j w. in_test x (row rows j) (sym (h x j) ∙ test_in j (row uses x) w);
}

pub turned_of : {rows uses : List (List ℕ)} → IsIndex rows uses → IsTurned rows uses
turned_of {rows = rows} {uses = uses} h x j =
    same_test (is_in j (row uses x)) (is_in x (row rows j))
    (λ e. test_in x (row rows j) (h.from x j (in_test j (row uses x) e)))
    (λ e. test_in j (row uses x) (h.to x j (in_test x (row rows j) e)))

pub in_old : {x : ℕ} {xs : List ℕ} (y : ℕ) → IsIn x xs → IsIn x (xs ++ y ∷ [])
in_old {x = x} {xs = xs} y h = record {
  place = h.place;
  within = omega (arith, length-append xs (y ∷ []), h.within);
  stands = get_or-append xs (y ∷ []) 0 h.place h.within ∙ h.stands;
}

pub in_last : (xs : List ℕ) (y : ℕ) → IsIn y (xs ++ y ∷ [])
in_last xs y = record {
  place = length xs;
  within = omega (arith, length-append xs (y ∷ []));
  stands = get_or-append_seam xs y [] 0;
}

pub in_either : {x : ℕ} (xs : List ℕ) (y : ℕ) → IsIn x (xs ++ y ∷ []) → IsIn x xs ⊎ (x ≡ y)
in_either {x = x} xs y h =
    elim (cases_lt h.place (length xs)) [
      | inl lt ↦ inl (record {
        place = h.place;
        within = lt;
        stands = sym (get_or-append xs (y ∷ []) 0 h.place lt)
            ∙ h.stands;
      })
      | inr ge ↦
          let at_end : h.place ≡ length xs = omega (arith, length-append xs (y ∷ []), h.within) in
          inr (sym h.stands ∙ (ap (λ k. get_or (xs ++ y ∷ []) k 0) at_end
          ∙ get_or-append_seam xs y [] 0))
    ]

pub in_place : (xs : List ℕ) (k : ℕ) → k < length xs → IsIn (get_or xs k 0) xs
in_place xs k lt = record { place = k; within = lt; stands = refl }

-- a list's row j, where a write at j put r
pub row_same : (xs : List (List ℕ)) (j : ℕ) (r : List ℕ) → j < length xs → row (set xs j r) j ≡ r
row_same xs j r lt = get_or-set_same xs j r [] lt

pub row_other : (xs : List (List ℕ)) (j i : ℕ) (r : List ℕ) → i ≢ j → row (set xs j r) i ≡ row xs i
row_other xs j i r ne = get_or-set_other xs j i r [] ne

-- a number put at the end of the row of x
abbrev pub put : List (List ℕ) → ℕ → ℕ → List (List ℕ)
put xs x j = set xs x (row xs x ++ j ∷ [])

pub put_kept : (xs : List (List ℕ)) (x j y i : ℕ) → x < length xs → IsIn i (row xs y)
    → IsIn i (row (put xs x j) y)
put_kept xs x j y i lt h = elim (cases_eq y x) [
  | inl e ↦ let P : ℕ → Type 0 = λ z. IsIn i (row (put xs x j) z) in
      let h2 : IsIn i (row xs x) = let Q : ℕ → Type 0 = λ z. IsIn i (row xs z) in subst Q e h in
      subst P (sym e) (rw (row_same xs x (row xs x ++ j ∷ []) lt) (in_old j h2))
  | inr ne ↦ rw (row_other xs x y (row xs x ++ j ∷ []) ne) h
]

pub put_there : (xs : List (List ℕ)) (x j : ℕ) → x < length xs → IsIn j (row (put xs x j) x)
put_there xs x j lt = rw (row_same xs x (row xs x ++ j ∷ []) lt) (in_last (row xs x) j)

pub put_only : (xs : List (List ℕ)) (x j y i : ℕ) → x < length xs → IsIn i (row (put xs x j) y)
    → IsIn i (row xs y) ⊎ ((i ≡ j) × (y ≡ x))
put_only xs x j y i lt h = elim (cases_eq y x) [
  | inl e ↦ let P : ℕ → Type 0 = λ z. IsIn i (row (put xs x j) z) in
      let h2 : IsIn i (row xs x ++ j ∷ []) =
      rw (row_same xs x (row xs x ++ j ∷ []) lt) at (subst P e h) in
      elim (in_either (row xs x) j h2) [
        | inl old ↦ inl (let Q : ℕ → Type 0 = λ z. IsIn i (row xs z) in subst Q (sym e) old)
        | inr same ↦ inr (same, e)
      ]
  | inr ne ↦ inl (rw (row_other xs x y (row xs x ++ j ∷ []) ne) at h)
]

-- one more note
pub note_more : (members : List ℕ) (j k : ℕ) (old new : List (List ℕ)) → k < length members
    → get_or members k 0 < length new
    → Notes members j k old new → Notes members j (k + 1) old (put new (get_or members k 0) j)
note_more members j k old new lt inside h = record {
  same_length = length-set new (get_or members k 0) (row new (get_or members k 0) ++ j ∷ [])
      ∙ h.same_length;
  kept = λ y i w. put_kept new (get_or members k 0) j y i inside (h.kept y i w);
  noted = below_more (λ a. IsIn j (row (put new (get_or members k 0) j) (get_or members a 0))) k
      (λ a low. put_kept new (get_or members k 0) j (get_or members a 0) j inside (h.noted a low))
      (put_there new (get_or members k 0) j inside);
  only = λ y i w. elim (put_only new (get_or members k 0) j y i inside w) [
    | inl was ↦ h.only y i was
    | inr fresh ↦ inr (
      fresh.0,
      (let P : ℕ → Type 0 = λ z. IsIn z members in subst P (sym fresh.1) (in_place members k lt)),
    )
  ];
}

-- nothing stands in a row that is not there
pub row_past : (xs : List (List ℕ)) (j : ℕ) → length xs ≤ j → row xs j ≡ []
row_past xs j past = get_or-eq_default xs [] past

pub in_none : {A : Type 0} (x : ℕ) (xs : List ℕ) → xs ≡ [] → IsIn x xs → A
in_none x xs none h = absurd (omega (arith, ap length none, h.within))

pub in_row : (xs : List (List ℕ)) (x j : ℕ) → IsIn x (row xs j) → j < length xs
in_row xs x j h = elim (cases_lt j (length xs))
    [ inl lt ↦ lt | inr past ↦ in_none x (row xs j) (row_past xs j past) h ]

pub index_none : (rows uses : List (List ℕ)) → ((x : ℕ) → row uses x ≡ []) → IsIndexOf 0 rows uses
index_none rows uses empty =
    record {
      to = λ x j lt h. absurd (omega (arith, lt));
      from =
          λ x j h. in_none j (row uses x) (empty x) h;
    }

-- one list more
pub index_more : (rows uses new : List (List ℕ)) (n : ℕ) → IsIndexOf n rows uses
    → Notes (row rows n) n (length (row rows n)) uses new
    → IsIndexOf (n + 1) rows new
index_more rows uses new n h notes = record {
  to = λ x j lt w. elim (cases_eq j n) [
    | inl e ↦ let Q : ℕ → Type 0 = λ z. IsIn z (row new x) in subst Q (sym e)
        (let w2 : IsIn x (row rows n) = let P : ℕ → Type 0 = λ z. IsIn x (row rows z) in
        subst P e w in
        let R : ℕ → Type 0 = λ z. IsIn n (row new z) in
        subst R w2.stands (notes.noted w2.place w2.within))
    | inr ne ↦ notes.kept x j (h.to x j (omega (arith, lt, ne)) w)
  ];
  from = λ x j w. elim (notes.only x j w) [
    | inl old ↦ ((h.from x j old).0, omega (arith, (h.from x j old).1))
    | inr fresh ↦ (
      (let P : ℕ → Type 0 = λ z. IsIn x (row rows z) in subst P (sym fresh.0) fresh.1),
      omega (arith, fresh.0),
    )
  ];
}

pub index_all : (rows uses : List (List ℕ)) → IsIndexOf (length rows) rows uses → IsIndex rows uses
index_all rows uses h =
    record { to = λ x j w. h.to x j (in_row rows x j w) w; from = λ x j w. (h.from x j w).0 }

pub index_below : (rows uses : List (List ℕ)) → IsIndexOf (length rows) rows uses
    → RowsBelow (length rows) uses
index_below rows uses h x k lt = (h.from x (get_or (row uses x) k 0) (in_place (row uses x) k lt)).1

-- a member of a list of lists, as it was read at a place
pub read_row : (xs : List (List ℕ)) (j : ℕ) (r : List ℕ) → j < length xs → r ≡ get_or xs j r
    → r ≡ row xs j
read_row xs j r lt e = e ∙ get_or_default xs j r [] lt

-- a slice that was lent whole and given back
pub given_back : {A : Type 0} (n : ℕ) (new rest : List A) → length new ≡ n
    → take n (new ++ rest) ≡ new
given_back n new rest e = let le : n ≤ length new = omega (arith, e) in take-append-le n new rest le
    ∙ take_all n new (omega (arith, e))

pub one_below : (n x : ℕ) → x < n → AllBelow n (x ∷ [])
one_below n x lt k low = let e : k ≡ 0 = omega (arith, low) in
    let P : ℕ → Type 0 = λ j. get_or (x ∷ []) j 0 < n in subst P (sym e) lt
