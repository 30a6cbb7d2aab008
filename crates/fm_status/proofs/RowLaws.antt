-- Rows are the last words of their cases, whatever words come.
use Rattle.std.proofs.Common.{◌≡◌, ◌<◌, ◌+◌, ℕ, Bool, true, false, cond, List, [], ◌∷◌, ◌++◌, map}
use Rattle.std.proofs.Common.{take, length, get_or}
use Rattle.std.proofs.lemmas.List.{take_more}
use Rattle.std.proofs.Common.{refl, sym, ap, ◌∙◌, subst, Option, Some, None, append_assoc}
use Rattle.std.proofs.Common.{append-nil}
use Rattle.std.specs.Option.{option_or}
use Rattle.std.specs.declared.cmp.Ordering.{Ordering}
use Rattle.std.specs.declared.cmp.Ordering.TheVariants.{Less, Equal, Greater}
use Rattle.std.specs.Ordering.{match_ordering, is_eq}
use Rattle.std.specs.List.{AllByRecursion}
use Rattle.std.specs.List.Sorted.{IsStrictlySortedBy}
use Rattle.fm_entry.specs.declared.case_name.CaseName.{CaseName}
use Rattle.fm_entry.specs.declared.list_event.ListEvent.{ListEvent}
use Rattle.fm_status.specs.Rows.{case_cmp, case_row, last_word, put_row, put_rows, AreRows}
use Rattle.fm_status.proofs.CaseOrder.{case_total, case_tie, turned, never_both}

-- ---- the row of a case

cond_twice : {A : Type 0} (t : Bool) (a b z : A) → cond t a z ≡ cond t a (cond t b z)
cond_twice true a b z = refl
cond_twice false a b z = refl

cond_swap : {A : Type 0} (t u : Bool) (a b z : A) → (t ≡ true → u ≡ true → ⊥)
    → cond u b (cond t a z) ≡ cond t a (cond u b z)
cond_swap true true a b z h = absurd (h refl refl)
cond_swap true false a b z h = refl
cond_swap false true a b z h = refl
cond_swap false false a b z h = refl

row_at : (o : Ordering) (c : CaseName) (r w : ListEvent) (rows : List ListEvent)
    → case_cmp w.case r.case ≡ o
    → case_row c (put_row rows w) ≡ cond (is_eq (case_cmp c w.case)) (Some w) (case_row c rows)
    → case_row c (match_ordering o (w ∷ r ∷ rows) (w ∷ rows) (r ∷ put_row rows w))
    ≡ cond (is_eq (case_cmp c w.case)) (Some w) (case_row c (r ∷ rows))
row_at Less c r w rows e more = refl
row_at Equal c r w rows e more =
    let same : case_cmp c w.case ≡ case_cmp c r.case = ap (case_cmp c) (case_tie w.case r.case e) in
    cond_twice (is_eq (case_cmp c w.case)) (Some w) (Some r) (case_row c rows)
    ∙ ap (λ o. cond (is_eq (case_cmp c w.case)) (Some w)
    (cond (is_eq o) (Some r) (case_row c rows))) same
row_at Greater c r w rows e more =
    ap (λ z. cond (is_eq (case_cmp c r.case)) (Some r) z) more
    ∙ cond_swap (is_eq (case_cmp c w.case)) (is_eq (case_cmp c r.case)) (Some w) (Some r)
    (case_row c rows) (never_both c w.case r.case e)

row_put : (c : CaseName) (rows : List ListEvent) (w : ListEvent)
    → case_row c (put_row rows w) ≡ cond (is_eq (case_cmp c w.case)) (Some w) (case_row c rows)
row_put c [] w = refl
row_put c (r ∷ rows) w = row_at (case_cmp w.case r.case) c r w rows refl (row_put c rows w)

or_cond : {A : Type 0} (t : Bool) (a : A) (o p : Option A)
    → option_or (cond t (Some a) o) p ≡ cond t (Some a) (option_or o p)
or_cond true a o p = refl
or_cond false a o p = refl

last_put : (c : CaseName) (words : List ListEvent) (w : ListEvent)
    → last_word c (words ++ (w ∷ []))
    ≡ cond (is_eq (case_cmp c w.case)) (Some w) (last_word c words)
last_put c [] w = refl
last_put c (v ∷ words) w =
    ap (λ o. option_or o (cond (is_eq (case_cmp c v.case)) (Some v) None)) (last_put c words w)
    ∙ or_cond (is_eq (case_cmp c w.case)) w (last_word c words)
    (cond (is_eq (case_cmp c v.case)) (Some v) None)

-- ---- the order of rows

abbrev Before : CaseName → List ListEvent → Type 0
Before c rows = AllByRecursion (λ y. case_cmp c y ≡ Less) (map (λ row. row.case) rows)

before_at : (o : Ordering) (c : CaseName) (r w : ListEvent) (rows : List ListEvent)
    → case_cmp c w.case ≡ Less → Before c (r ∷ rows) → Before c (put_row rows w)
    → Before c (match_ordering o (w ∷ r ∷ rows) (w ∷ rows) (r ∷ put_row rows w))
before_at Less c r w rows e b more = (e, (b.0, b.1))
before_at Equal c r w rows e b more = (e, b.1)
before_at Greater c r w rows e b more = (b.0, more)

before_put : (c : CaseName) (rows : List ListEvent) (w : ListEvent) → case_cmp c w.case ≡ Less
    → Before c rows → Before c (put_row rows w)
before_put c [] w e b = (e, tt)
before_put c (r ∷ rows) w e b =
    before_at (case_cmp w.case r.case) c r w rows e b (before_put c rows w e b.1)

pub before_all : (c d : CaseName) (rows : List ListEvent) → case_cmp c d ≡ Less → Before d rows
    → Before c rows
before_all c d [] e b = tt
before_all c d (r ∷ rows) e b =
    (case_total.trans c d r.case e b.0, before_all c d rows e b.1)

abbrev Ascend : List ListEvent → Type 0
Ascend rows = IsStrictlySortedBy case_cmp (map (λ row. row.case) rows)

ascend_at : (o : Ordering) (r w : ListEvent) (rows : List ListEvent)
    → case_cmp w.case r.case ≡ o → Ascend (r ∷ rows) → Ascend (put_row rows w)
    → Ascend (match_ordering o (w ∷ r ∷ rows) (w ∷ rows) (r ∷ put_row rows w))
unfolding IsStrictlySortedBy
ascend_at Less r w rows e s more = ((e, before_all w.case r.case rows e s.0), (s.0, s.1))
ascend_at Equal r w rows e s more =
    (subst (λ z. Before z rows) (sym (case_tie w.case r.case e)) s.0, s.1)
ascend_at Greater r w rows e s more =
    (before_put r.case rows w (turned w.case r.case e) s.0, more)

ascend_put : (rows : List ListEvent) (w : ListEvent) → Ascend rows → Ascend (put_row rows w)
unfolding IsStrictlySortedBy
ascend_put [] w s = (tt, tt)
ascend_put (r ∷ rows) w s =
    ascend_at (case_cmp w.case r.case) r w rows refl s (ascend_put rows w s.1)

-- ---- rows of words

are_more : (words rows : List ListEvent) (w : ListEvent) → AreRows words rows
    → AreRows (words ++ (w ∷ [])) (put_row rows w)
are_more words rows w a = record {
  ascend = ascend_put rows w a.ascend;
  last = λ c. row_put c rows w
      ∙ (ap (λ o. cond (is_eq (case_cmp c w.case)) (Some w) o) (a.last c)
      ∙ sym (last_put c words w));
}

-- more words make the rows of all of them
pub are_rows : (more words rows : List ListEvent) → AreRows words rows
    → AreRows (words ++ more) (put_rows rows more)
are_rows [] words rows a = subst (λ z. AreRows z rows) (sym (append-nil words)) a
are_rows (w ∷ more) words rows a =
    subst (λ z. AreRows z (put_rows (put_row rows w) more)) (append_assoc words (w ∷ []) more)
    (are_rows more (words ++ (w ∷ [])) (put_row rows w) (are_more words rows w a))

-- what becomes of the rows of some words, where more words are put in turn
pub rows_of_more : (more old new : List ListEvent) → new ≡ put_rows old more
    → (words : List ListEvent) → AreRows words old → AreRows (words ++ more) new
rows_of_more more old new is words a =
    subst (λ z. AreRows (words ++ more) z) (sym is) (are_rows more words old a)

put_append : (rows xs ys : List ListEvent)
    → put_rows rows (xs ++ ys) ≡ put_rows (put_rows rows xs) ys
put_append rows [] ys = refl
put_append rows (x ∷ xs) ys = put_append (put_row rows x) xs ys

-- one word more
pub put_next : (rows xs : List ListEvent) (w : ListEvent)
    → put_rows rows (xs ++ (w ∷ [])) ≡ put_row (put_rows rows xs) w
put_next rows xs w = put_append rows xs (w ∷ [])

-- the word at a place is taken after those before it
pub put_taken : (rows xs : List ListEvent) (i : ℕ) (w : ListEvent) → i < length xs
    → w ≡ get_or xs i w → put_rows rows (take (i + 1) xs) ≡ put_row (put_rows rows (take i xs)) w
put_taken rows xs i w h e =
    ap (put_rows rows) (take_more xs i w h)
    ∙ (ap (λ z. put_rows rows (take i xs ++ (z ∷ []))) (sym e) ∙ put_next rows (take i xs) w)
