-- Numbers of events are below their count.
use Rattle.std.proofs.Common.{◌≡◌, ℕ, zero, suc, ◌<◌, ◌∷◌, [], List, length, filter_map, Option}
use Rattle.std.proofs.Common.{Some, None, is_some, arith, refl, ap, subst}
use Rattle.std.specs.List.{cons_option}
use Rattle.std.proofs.lemmas.Bool.{false≢true}
use Rattle.std.proofs.lemmas.Option.{same_Some}
use Rattle.std.proofs.lemmas.List.Quantifiers.{position-Some}
use Rattle.ev_ways.specs.Lists.{AllBelow, RowsBelow}
use Rattle.ev_tree.specs.declared.tree.Declared.{Declared}
use Rattle.ev_tree.specs.declared.tree.Statement.{Statement}
use Rattle.ev_tree.specs.declared.tree.Statement.TheVariants as statements
use Rattle.ev_check.specs.Declarations.{is_alike, declared_number, subject_of}
use Rattle.ev_check.specs.Drawn.{causes_of, numbered}

-- the number of an event is below the number of events
number_below : (events : List Declared) (d : Declared) (n : ℕ) → declared_number events d ≡ Some n
    → n < length events
number_below [] d n e = absurd (false≢true (ap is_some e))
number_below (x ∷ xs) d n e = (position-Some (is_alike d) (x ∷ xs) n x e).0

cons_below : (n m : ℕ) (ms : List ℕ) → m < n → AllBelow n ms → AllBelow n (m ∷ ms)
cons_below n m ms lt below zero within = lt
cons_below n m ms lt below (suc k) within = below k (omega (arith, within))

-- small numbers that some function finds
given_below : {X : Type 0} (n : ℕ) (h : X → Option ℕ) → ((x : X) (m : ℕ) → h x ≡ Some m → m < n)
    → (xs : List X) → AllBelow n (filter_map h xs)
given_below n h each [] = λ k within. absurd (omega (arith, within))
given_below n h each (x ∷ xs) = by (h x) refl (given_below n h each xs)
  where
    by : (o : Option ℕ) → h x ≡ o → AllBelow n (filter_map h xs)
        → AllBelow n (cons_option o (filter_map h xs))
    by None e rest = rest
    by (Some m) e rest = cons_below n m (filter_map h xs) (each x m e) rest

cons_rows : (n : ℕ) (m : List ℕ) (rows : List (List ℕ)) → AllBelow n m → RowsBelow n rows
    → RowsBelow n (m ∷ rows)
cons_rows n m rows below rest zero = below
cons_rows n m rows below rest (suc j) = rest j

-- lists of small numbers that some function finds
rows_given : {X : Type 0} (n : ℕ) (h : X → Option (List ℕ))
    → ((x : X) (m : List ℕ) → h x ≡ Some m → AllBelow n m) → (xs : List X)
    → RowsBelow n (filter_map h xs)
rows_given n h each [] = λ j k within. absurd (omega (arith, within))
rows_given n h each (x ∷ xs) = by (h x) refl (rows_given n h each xs)
  where
    by : (o : Option (List ℕ)) → h x ≡ o → RowsBelow n (filter_map h xs)
        → RowsBelow n (cons_option o (filter_map h xs))
    by None e rest = rest
    by (Some m) e rest = cons_rows n m (filter_map h xs) (each x m e) rest

-- the causes of arrows are events
causes_each : (events : List Declared) (s : Statement) (m : List ℕ) → causes_of events s ≡ Some m
    → AllBelow (length events) m
causes_each events (statements.Event place d attrs) m e = absurd (false≢true (ap is_some e))
causes_each events (statements.Engine place d attrs) m e = absurd (false≢true (ap is_some e))
causes_each events (statements.Prop place left n k right) m e =
    let P : List ℕ → Type 0 = λ ms. AllBelow (length events) ms in
    subst P (same_Some _ _ e)
    (given_below (length events) (numbered events)
    (λ p i f. number_below events (subject_of p) i f) left)

pub causes_below : (events : List Declared) (ss : List Statement)
    → RowsBelow (length events) (filter_map (causes_of events) ss)
causes_below events ss = rows_given (length events) (causes_of events) (causes_each events) ss
