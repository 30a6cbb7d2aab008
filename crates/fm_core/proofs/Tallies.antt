-- Counting one report more: where its class stands, and what is kept.
use Rattle.std.proofs.Common.{◌≡◌, ℕ, zero, suc, ◌+◌, ◌-◌, ◌/◌, ◌%◌, ◌^◌, ◌<◌, ◌≤◌, Bool, true}
use Rattle.std.proofs.Common.{false, cond, ◌&&◌, nat_lt, IsTrue, List, [], ◌∷◌, length, drop, set}
use Rattle.std.proofs.Common.{get_or, Option, Some, None, Result, Ok, Err, IfOk, refl, sym, ◌∙◌, ap}
use Rattle.std.proofs.Common.{subst, arith}
use Rattle.std.specs.Prelude.{insert}
use Rattle.std.specs.List.{slice_get, AllWithin}
use Rattle.std.specs.List.Sorted.{IsPartitionedBy}
use Rattle.std.specs.declared.cmp.Ordering.{Ordering}
use Rattle.std.specs.declared.cmp.Ordering.TheVariants.{Less, Equal, Greater}
use Rattle.std.specs.Ordering.{is_lt, is_eq}
use Rattle.std.specs.Cmp.Lexicographic.{texts_ties, bytes_decides}
use Rattle.std.proofs.lemmas.Bool.Decides.{nat_tests}
use Rattle.std.proofs.lemmas.Option.{slice_get_read, slice_get_within}
use Rattle.std.specs.Prelude.{◌==◌}
use Rattle.std.proofs.lemmas.List.{at_drop_more}
use Rattle.fm_entry.specs.declared.list_event.ListEvent.{ListEvent}
use Rattle.fm_core.specs.declared.class_count.ClassCount.{ClassCount}
use Rattle.fm_name.specs.Category.{is_ereport}
use Rattle.fm_core.specs.Counts.{order, one_more, plus_one, count_or, count_of, total_of, cases_of}
use Rattle.fm_core.specs.Counts.{is_past, is_ordered, are_counts, third, report_words}
use Rattle.fm_core.specs.CountsOnce.{both_true, AreLawfulCounts, counts_are}
use Rattle.fm_core.specs.CountsKept.{cmp, less_is, is_less, turned, before_before, both, one_count}
use Rattle.fm_core.specs.CountsKept.{past_greater, total_counted, counts_counted, cases_fit}
use Rattle.fm_core.specs.Places.{place_step, class_place, is_of, is_standing}
use Rattle.fm_core.specs.Places.{standing_count, place_in}
use Rattle.fm_core.specs.Places.{count_or_none, count_found, counted_at}

-- what is past a class is past what stands before that
is_past_before : (a b : List ℕ) (xs : List ClassCount) → cmp a b ≡ Less → IsTrue (is_past b xs)
    → IsTrue (is_past a xs)
is_past_before a b [] p h = h
is_past_before a b (x ∷ xs) p h =
    let parts : IsTrue (is_lt (cmp b x.class)) × IsTrue (is_past x.class xs) =
    both_true (is_lt (cmp b x.class)) (is_past x.class xs) h in
    let first : cmp a x.class ≡ Less =
    before_before a b x.class p (less_is (cmp b x.class) parts.0) in
    both (is_lt (cmp a x.class)) (is_past x.class xs) (is_less (cmp a x.class) first) parts.1

-- the classes past a class ascend
pub ordered_past : (a : List ℕ) (xs : List ClassCount) → IsTrue (is_past a xs)
    → IsTrue (is_ordered xs)
ordered_past a [] h = h
ordered_past a (x ∷ xs) h = (both_true (is_lt (cmp a x.class)) (is_past x.class xs) h).1

-- each of them is past it
pub past_each : (a : List ℕ) (xs : List ClassCount) → IsTrue (is_past a xs)
    → (j : ℕ) (d : ClassCount) → j < length xs → cmp a (get_or xs j d).class ≡ Less
past_each a [] h j d l = absurd (let no : ⊥ = omega arith in no)
past_each a (x ∷ xs) h zero d l =
    less_is (cmp a x.class) (both_true (is_lt (cmp a x.class)) (is_past x.class xs) h).0
past_each a (x ∷ xs) h (suc j) d l =
    let parts : IsTrue (is_lt (cmp a x.class)) × IsTrue (is_past x.class xs) =
    both_true (is_lt (cmp a x.class)) (is_past x.class xs) h in
    past_each a xs (is_past_before a x.class xs (less_is (cmp a x.class) parts.0) parts.1) j d
    (omega arith)

abbrev pub before_class : List ℕ → ClassCount → Bool
before_class class x = is_lt (order x class)

-- in counts that ascend, those before a class come first
pub partitioned : (class : List ℕ) (xs : List ClassCount) → IsTrue (is_ordered xs)
    → IsPartitionedBy (before_class class) xs
partitioned class [] h i j d a b c = absurd (let no : ⊥ = omega arith in no)
partitioned class (x ∷ xs) h zero zero d a b c = c
partitioned class (x ∷ xs) h zero (suc j) d a b c =
    let room : j < length xs = omega arith in
    let up : cmp x.class (get_or xs j d).class ≡ Less = past_each x.class xs h j d room in
    is_less (cmp x.class class)
    (before_before x.class (get_or xs j d).class class up
    (less_is (cmp (get_or xs j d).class class) c))
partitioned class (x ∷ xs) h (suc i) zero d a b c = absurd (let no : ⊥ = omega arith in no)
partitioned class (x ∷ xs) h (suc i) (suc j) d a b c =
    partitioned class xs (ordered_past x.class xs h) i j d (omega arith) (omega arith) c

-- and their number is the place of the class
pub place_is : (class : List ℕ) (xs : List ClassCount) (i : ℕ) → i ≤ length xs
    → AllWithin (λ y. before_class class y ≡ true) xs 0 i
    → AllWithin (λ y. before_class class y ≡ false) xs i (length xs) → i ≡ class_place class xs
place_is class [] i l a b = omega arith
place_is class (x ∷ xs) zero l a b = let here : before_class class x ≡ false =
    b 0 x (omega arith) (omega arith) in rw here refl
place_is class (x ∷ xs) (suc i) l a b =
    let here : before_class class x ≡ true = a 0 x (omega arith) (omega arith) in
    let room : i ≤ length xs = omega arith in
    rw here (ap suc (place_is class xs i room (λ k d p q. a (suc k) d (omega arith) (omega arith))
    (λ k d p q. b (suc k) d (omega arith) (omega arith))))

place_le_step : (b : Bool) (p n : ℕ) → p ≤ n → place_step b p ≤ suc n
place_le_step true p n h = omega arith
place_le_step false p n h = omega arith

pub place_le : (class : List ℕ) (xs : List ClassCount) → class_place class xs ≤ length xs
place_le class [] = omega arith
place_le class (x ∷ xs) =
    place_le_step (is_lt (order x class)) (class_place class xs) (length xs) (place_le class xs)

-- whether a count is of a class, by how it stands to it
of_class : (x : ClassCount) (class : List ℕ) (r : Ordering) → order x class ≡ r
    → is_of class x ≡ is_eq r
of_class x class r e = texts_ties x.class class ∙ ap is_eq e

deeper_by : (class : List ℕ) (x y : ClassCount) (xs : List ClassCount) (i : ℕ) (b : Bool)
    → cond b (set (x ∷ xs) (suc i) (record y { count = y.count + 1 }))
    (insert (x ∷ xs) (suc i) (one_count class))
    ≡ x ∷ cond b (set xs i (record y { count = y.count + 1 })) (insert xs i (one_count class))
deeper_by class x y xs i true = refl
deeper_by class x y xs i false = refl

deeper : (class : List ℕ) (x : ClassCount) (xs : List ClassCount) (i : ℕ) (o : Option ClassCount)
    → counted_at class (x ∷ xs) (suc i) o ≡ x ∷ counted_at class xs i o
deeper class x xs i None = refl
deeper class x xs i (Some y) = deeper_by class x y xs i (is_of class y)

counted_step : (class : List ℕ) (x : ClassCount) (xs : List ClassCount) (r : Ordering)
    → order x class ≡ r → plus_one class xs
    ≡ counted_at class xs (class_place class xs) (slice_get xs (class_place class xs))
    → one_more r class x xs (plus_one class xs)
    ≡ counted_at class (x ∷ xs) (place_step (is_lt r) (class_place class xs))
    (slice_get (x ∷ xs) (place_step (is_lt r) (class_place class xs)))
counted_step class x xs Less e h = ap (λ ys. x ∷ ys) h
    ∙ sym (deeper class x xs (class_place class xs) (slice_get xs (class_place class xs)))
counted_step class x xs Equal e h = let same : is_of class x ≡ true = of_class x class Equal e in
    rw same refl
counted_step class x xs Greater e h = let other : is_of class x ≡ false =
    of_class x class Greater e in rw other refl

-- the counts with one report more, as the code makes them
pub counted_is : (class : List ℕ) (xs : List ClassCount)
    → plus_one class xs ≡ counted_at class xs (class_place class xs)
    (slice_get xs (class_place class xs))
counted_is class [] = refl
counted_is class (x ∷ xs) = counted_step class x xs (order x class) refl (counted_is class xs)

-- a class before all has no count
pub none_past : (class : List ℕ) (xs : List ClassCount) → IsTrue (is_past class xs)
    → count_of class xs ≡ 0
none_past class [] h = refl
none_past class (x ∷ xs) h =
    let parts : IsTrue (is_lt (cmp class x.class)) × IsTrue (is_past x.class xs) =
    both_true (is_lt (cmp class x.class)) (is_past x.class xs) h in
    let up : cmp class x.class ≡ Less = less_is (cmp class x.class) parts.0 in
    let back : order x class ≡ Greater = turned class x.class Less up in
    rw back (none_past class xs (is_past_before class x.class xs up parts.1))

count_step : (class : List ℕ) (x : ClassCount) (xs : List ClassCount) (r : Ordering)
    → order x class ≡ r → IsTrue (is_ordered (x ∷ xs))
    → count_of class xs ≡ standing_count class (slice_get xs (class_place class xs))
    → count_or r x (count_of class xs)
    ≡ standing_count class (slice_get (x ∷ xs) (place_step (is_lt r) (class_place class xs)))
count_step class x xs Less e o h = h
count_step class x xs Equal e o h = let same : is_of class x ≡ true = of_class x class Equal e in
    rw same refl
count_step class x xs Greater e o h =
    let other : is_of class x ≡ false = of_class x class Greater e in
    let none : count_of class (x ∷ xs) ≡ 0 =
    none_past class (x ∷ xs) (past_greater class x xs e o) in
    let none' : count_of class xs ≡ 0 =
    (let f : count_or (order x class) x (count_of class xs) ≡ 0 = none in rw e at f) in
    rw other none'

-- the count of a class is the one at its place
pub count_is : (class : List ℕ) (xs : List ClassCount) → IsTrue (is_ordered xs)
    → count_of class xs ≡ standing_count class (slice_get xs (class_place class xs))
count_is class [] h = refl
count_is class (x ∷ xs) h =
    count_step class x xs (order x class) refl h (count_is class xs (ordered_past x.class xs h))

cases_step : (class : List ℕ) (x : ClassCount) (xs : List ClassCount) (r : Ordering)
    → order x class ≡ r → IsTrue (is_ordered (x ∷ xs))
    → cases_of (plus_one class xs) + count_of class xs / 3
    ≡ cases_of xs + (count_of class xs + 1) / 3
    → cases_of (one_more r class x xs (plus_one class xs)) + count_or r x (count_of class xs) / 3
    ≡ x.count / 3 + cases_of xs + (count_or r x (count_of class xs) + 1) / 3
cases_step class x xs Less e o h = omega arith
cases_step class x xs Equal e o h = omega arith
cases_step class x xs Greater e o h =
    let none : count_of class (x ∷ xs) ≡ 0 =
    none_past class (x ∷ xs) (past_greater class x xs e o) in
    let none' : count_of class xs ≡ 0 =
    (let f : count_or (order x class) x (count_of class xs) ≡ 0 = none in rw e at f) in
    omega arith

-- the cases grow by one at every third report of a class
pub cases_counted : (class : List ℕ) (xs : List ClassCount) → IsTrue (is_ordered xs)
    → cases_of (plus_one class xs) + count_of class xs / 3
    ≡ cases_of xs + (count_of class xs + 1) / 3
cases_counted class [] h = refl
cases_counted class (x ∷ xs) h =
    cases_step class x xs (order x class) refl h
    (cases_counted class xs (ordered_past x.class xs h))

-- what stands at a place is no more than the total
pub one_fits : (xs : List ClassCount) (i : ℕ) (d : ClassCount) → i < length xs
    → (get_or xs i d).count ≤ total_of xs
one_fits [] i d h = absurd (let no : ⊥ = omega arith in no)
one_fits (x ∷ xs) zero d h = omega arith
one_fits (x ∷ xs) (suc i) d h = omega (arith, one_fits xs i d (omega arith))

made_by : (class : List ℕ) (xs : List ClassCount) (i : ℕ) → i ≡ class_place class xs
    → plus_one class xs ≡ counted_at class xs i (slice_get xs i)
made_by class xs i e = counted_is class xs
    ∙ ap (λ p. counted_at class xs p (slice_get xs p)) (sym e)

standing_by : (class : List ℕ) (xs : List ClassCount) (i : ℕ) (own : ClassCount)
    → is_of class own ≡ true
    → counted_at class xs i (Some own) ≡ set xs i (record own { count = own.count + 1 })
standing_by class xs i own e = rw e refl

-- one more where the class stands
pub counted_there : (class : List ℕ) (xs : List ClassCount) (i : ℕ) (own : ClassCount) (r : Bool)
    → i ≡ class_place class xs → i < length xs → own ≡ get_or xs i own
    → r ≡ is_standing class (slice_get xs i) → r ≡ true
    → set xs i (record own { count = own.count + 1 }) ≡ plus_one class xs
counted_there class xs i own r at room read tested holds =
    let found : slice_get xs i ≡ Some own = slice_get_read xs (length xs) i own refl room read in
    let same : is_of class own ≡ true = ap (is_standing class) (sym found) ∙ sym tested ∙ holds in
    sym (made_by class xs i at ∙ ap (counted_at class xs i) found ∙ standing_by class xs i own same)

absent_by : (class : List ℕ) (xs : List ClassCount) (i : ℕ) (o : Option ClassCount)
    → is_standing class o ≡ false → counted_at class xs i o ≡ insert xs i (one_count class)
absent_by class xs i None e = refl
absent_by class xs i (Some x) e = rw e refl

-- a first one where it would stand
pub counted_new : (class : List ℕ) (xs : List ClassCount) (i : ℕ) (r : Bool)
    → i ≡ class_place class xs
    → r ≡ is_standing class (slice_get xs i) → r ≡ false
    → insert xs i (record { class = class; count = 1 }) ≡ plus_one class xs
counted_new class xs i r at tested fails =
    sym (made_by class xs i at ∙ absent_by class xs i (slice_get xs i) (sym tested ∙ fails))

-- room for one more
pub one_more_fits : (xs : List ClassCount) (i : ℕ) (own : ClassCount) → i < length xs
    → own ≡ get_or xs i own → total_of xs < 2 ^ 46 → own.count + 1 < 2 ^ 64
one_more_fits xs i own room read few =
    let low : (get_or xs i own).count ≤ total_of xs = one_fits xs i own room in
    let same : own.count ≡ (get_or xs i own).count = ap (λ x. x.count) read in
    omega arith

within_by : (class : List ℕ) (xs : List ClassCount) (i : ℕ) (o : Option ClassCount)
    → slice_get xs i ≡ o → is_standing class o ≡ true → i < length xs
within_by class xs i None e h = absurd (let no : ⊥ = cc in no)
within_by class xs i (Some x) e h = slice_get_within xs i x e

-- a class that stands at a place stands within the list
pub standing_within : (class : List ℕ) (xs : List ClassCount) (i : ℕ) (r : Bool)
    → r ≡ is_standing class (slice_get xs i) → r ≡ true → i < length xs
standing_within class xs i r tested holds =
    within_by class xs i (slice_get xs i) refl (sym tested ∙ holds)

equal_from : (r : Ordering) → is_eq r ≡ true → r ≡ Equal
equal_from Less e = absurd (let no : ⊥ = cc in no)
equal_from Equal e = refl
equal_from Greater e = absurd (let no : ⊥ = cc in no)

-- a class that stands among those past a class is past it
standing_past : (a class : List ℕ) (xs : List ClassCount) (i : ℕ) → IsTrue (is_past a xs)
    → is_standing class (slice_get xs i) ≡ true → cmp a class ≡ Less
standing_past a class [] i h s = absurd (let no : ⊥ = cc in no)
standing_past a class (x ∷ xs) zero h s =
    subst (λ c. cmp a c ≡ Less) ((bytes_decides x.class class).0 s)
    (less_is (cmp a x.class) (both_true (is_lt (cmp a x.class)) (is_past x.class xs) h).0)
standing_past a class (x ∷ xs) (suc i) h s =
    let parts : IsTrue (is_lt (cmp a x.class)) × IsTrue (is_past x.class xs) =
    both_true (is_lt (cmp a x.class)) (is_past x.class xs) h in
    standing_past a class xs i
    (is_past_before a x.class xs (less_is (cmp a x.class) parts.0) parts.1) s

-- in counts that ascend, a class stands at its place and at no other
standing_place : (class : List ℕ) (xs : List ClassCount) (i : ℕ) → IsTrue (is_ordered xs)
    → is_standing class (slice_get xs i) ≡ true → i ≡ class_place class xs
standing_place class [] i h s = absurd (let no : ⊥ = cc in no)
standing_place class (x ∷ xs) zero h s =
    let same : order x class ≡ Equal =
    equal_from (order x class) (sym (of_class x class (order x class) refl) ∙ s) in
    rw same refl
standing_place class (x ∷ xs) (suc i) h s =
    let up : order x class ≡ Less = standing_past x.class class xs i h s in
    rw up (ap suc (standing_place class xs i (ordered_past x.class xs h) s))

-- what was found where the class stands, and where it would stand
pub found_there : (class : List ℕ) (xs : List ClassCount) (i : ℕ) (r : Bool)
    → i ≡ class_place class xs
    → r ≡ is_standing class (slice_get xs i) → r ≡ true → Ok i ≡ place_in class xs
found_there class xs i r at tested holds =
    let is : is_standing class (slice_get xs (class_place class xs)) ≡ true =
    ap (λ p. is_standing class (slice_get xs p)) (sym at) ∙ sym tested ∙ holds in
    let found : Result ℕ ℕ = Ok i in
    subst (λ b. found ≡ cond b (Ok (class_place class xs)) (Err (class_place class xs))) (sym is)
    (ap Ok at)

-- what was guessed
pub guessed_there : (class : List ℕ) (xs : List ClassCount) (i : ℕ) (r : Bool)
    → IsTrue (is_ordered xs) → r ≡ is_standing class (slice_get xs i) → r ≡ true
    → Ok i ≡ place_in class xs
guessed_there class xs i r h tested holds =
    found_there class xs i r (standing_place class xs i h (sym tested ∙ holds)) tested holds

pub found_none : (class : List ℕ) (xs : List ClassCount) (i : ℕ) (r : Bool)
    → i ≡ class_place class xs
    → r ≡ is_standing class (slice_get xs i) → r ≡ false → Err i ≡ place_in class xs
found_none class xs i r at tested fails =
    let is : is_standing class (slice_get xs (class_place class xs)) ≡ false =
    ap (λ p. is_standing class (slice_get xs p)) (sym at) ∙ sym tested ∙ fails in
    let found : Result ℕ ℕ = Err i in
    subst (λ b. found ≡ cond b (Ok (class_place class xs)) (Err (class_place class xs))) (sym is)
    (ap Err at)

ok_from : (i p : ℕ) (b : Bool) → Ok i ≡ cond b (Ok p) (Err p) → (i ≡ p) × (b ≡ true)
ok_from i p true e = (cc, refl)
ok_from i p false e = absurd (let no : ⊥ = cc in no)

err_from : (i p : ℕ) (b : Bool) → Err i ≡ cond b (Ok p) (Err p) → (i ≡ p) × (b ≡ false)
err_from i p true e = absurd (let no : ⊥ = cc in no)
err_from i p false e = (cc, refl)

-- and what a place says of its class
pub there_from : (class : List ℕ) (xs : List ClassCount) (i : ℕ) → Ok i ≡ place_in class xs
    → (i ≡ class_place class xs) × (true ≡ is_standing class (slice_get xs i))
there_from class xs i e =
    let both : (i ≡ class_place class xs)
    × (is_standing class (slice_get xs (class_place class xs)) ≡ true) =
    ok_from i (class_place class xs) (is_standing class (slice_get xs (class_place class xs))) e in
    (both.0, sym (ap (λ p. is_standing class (slice_get xs p)) both.0 ∙ both.1))

pub none_from : (class : List ℕ) (xs : List ClassCount) (i : ℕ) → Err i ≡ place_in class xs
    → (i ≡ class_place class xs) × (false ≡ is_standing class (slice_get xs i))
none_from class xs i e =
    let both : (i ≡ class_place class xs)
    × (is_standing class (slice_get xs (class_place class xs)) ≡ false) =
    err_from i (class_place class xs) (is_standing class (slice_get xs (class_place class xs))) e in
    (both.0, sym (ap (λ p. is_standing class (slice_get xs p)) both.0 ∙ both.1))

-- a class that was found stands within the list
pub found_within : (class : List ℕ) (xs : List ClassCount) (r : Result ℕ ℕ) → r ≡ place_in class xs
    → IfOk r (λ i. i < length xs)
found_within class xs (Ok i) e = standing_within class xs i true (there_from class xs i e).1 refl
found_within class xs (Err i) e = tt

count_found_by : (class : List ℕ) (xs : List ClassCount) (i : ℕ) (x : ClassCount)
    → slice_get xs i ≡ Some x → (b : Bool)
    → count_found (cond b (Ok i) (Err i)) xs ≡ cond b x.count 0
count_found_by class xs i x e true = ap count_or_none e
count_found_by class xs i x e false = refl

count_found_at : (class : List ℕ) (xs : List ClassCount) (i : ℕ) (o : Option ClassCount)
    → slice_get xs i ≡ o → count_found (cond (is_standing class o) (Ok i) (Err i)) xs
    ≡ standing_count class o
count_found_at class xs i None e = refl
count_found_at class xs i (Some x) e = count_found_by class xs i x e (is_of class x)

-- the count at the place of a class is that of the class
pub count_found_is : (class : List ℕ) (xs ys zs : List ClassCount) (r : Result ℕ ℕ) (n : ℕ)
    → IsTrue (are_counts xs) → ys ≡ xs → zs ≡ xs → r ≡ place_in class ys → n ≡ count_found r zs
    → n ≡ count_of class xs
count_found_is class xs ys zs r n h same same' at tested =
    let place : ℕ = class_place class xs in
    tested ∙ ap (count_found r) same' ∙ ap (λ p. count_found p xs) (at ∙ ap (place_in class) same)
    ∙ count_found_at class xs place (slice_get xs place) refl
    ∙ sym (count_is class xs (counts_are xs h).ordered)

count_fits_by : (x : ClassCount) (more rest : ℕ) (r : Ordering) → more ≤ rest
    → count_or r x more ≤ x.count + rest
count_fits_by x more rest Less h = omega arith
count_fits_by x more rest Equal h = omega arith
count_fits_by x more rest Greater h = omega arith

-- no class has more than all
pub count_fits : (class : List ℕ) (xs : List ClassCount) → count_of class xs ≤ total_of xs
count_fits class [] = omega arith
count_fits class (x ∷ xs) =
    count_fits_by x (count_of class xs) (total_of xs) (order x class) (count_fits class xs)

-- the words as the code makes them
pub says_is : (own total cases n : ℕ) (xs : List ClassCount) (class path : List ℕ) (t : ℕ)
    (ws : List ListEvent) → total ≡ total_of xs → total < 2 ^ 46 → cases ≡ cases_of xs
    → n ≡ count_of class xs
    → ws ≡ cond ((n + 1) % 3 == 0) (third own cases class path t ∷ []) []
    → ws ≡ report_words own xs class path t
says_is own total cases n xs class path t ws a few b e h =
    let room : total_of xs < 2 ^ 46 = omega arith in
    let counts : nat_lt (total_of xs) (2 ^ 46) ≡ true = grind (arith, nat_tests) in
    let words : ℕ → ℕ → List ListEvent =
    λ k m. cond ((m + 1) % 3 == 0) (third own k class path t ∷ []) [] in
    h ∙ ap (λ k. words k n) b ∙ ap (words (cases_of xs)) e
    ∙ ap (λ v. cond (v && ((count_of class xs + 1) % 3 == 0))
    (third own (cases_of xs) class path t ∷ []) []) (sym counts)

-- the number of cases after one report more
pub cases_after : (class : List ℕ) (xs : List ClassCount) (n : ℕ) → IsTrue (is_ordered xs)
    → n ≡ count_of class xs → cases_of xs + ((n + 1) / 3 - n / 3) ≡ cases_of (plus_one class xs)
cases_after class xs n h e =
    let whole : cases_of (plus_one class xs) + count_of class xs / 3
    ≡ cases_of xs + (count_of class xs + 1) / 3 = cases_counted class xs h in
    let same : cases_of xs + ((count_of class xs + 1) / 3 - count_of class xs / 3)
    ≡ cases_of (plus_one class xs) = omega arith in
    ap (λ m. cases_of xs + ((m + 1) / 3 - m / 3)) e ∙ same

-- and there is room for it
pub cases_after_fit : (class : List ℕ) (xs : List ClassCount) (cases n : ℕ) → IsTrue (is_ordered xs)
    → cases ≡ cases_of xs → n ≡ count_of class xs → total_of xs < 2 ^ 46
    → cases + ((n + 1) / 3 - n / 3) < 2 ^ 64
cases_after_fit class xs cases n h a e few =
    let after : cases_of xs + ((n + 1) / 3 - n / 3) ≡ cases_of (plus_one class xs) =
    cases_after class xs n h e in
    let most : cases_of (plus_one class xs) ≤ total_of (plus_one class xs) =
    cases_fit (plus_one class xs) in
    let total : total_of (plus_one class xs) ≡ total_of xs + 1 = total_counted class xs in
    let same : cases + ((n + 1) / 3 - n / 3) ≡ cases_of xs + ((n + 1) / 3 - n / 3) =
    ap (λ k. k + ((n + 1) / 3 - n / 3)) a in
    omega arith

-- what a counter holds, after one report more
pub holds_after : (class : List ℕ) (xs ys : List ClassCount) (total cases n : ℕ)
    → IsTrue (is_ereport class) → IsTrue (are_counts xs) → total ≡ total_of xs → total < 2 ^ 46
    → cases ≡ cases_of xs → n ≡ count_of class xs → ys ≡ plus_one class xs
    → IsTrue (are_counts ys) × (total + 1 ≡ total_of ys)
    × (cases + ((n + 1) / 3 - n / 3) ≡ cases_of ys)
holds_after class xs ys total cases n a h t few k e made =
    let room : total_of xs < 2 ^ 46 = omega arith in
    let was : AreLawfulCounts xs = counts_are xs h in
    let more : total_of (plus_one class xs) ≡ total_of xs + 1 = total_counted class xs in
    subst (λ zs. IsTrue (are_counts zs) × (total + 1 ≡ total_of zs)
    × (cases + ((n + 1) / 3 - n / 3) ≡ cases_of zs)) (sym made) (
      counts_counted class xs a h room,
      ap (λ m. m + 1) t ∙ sym more,
      ap (λ m. m + ((n + 1) / 3 - n / 3)) k ∙ cases_after class xs n was.ordered e,
    )

-- the cases so far and those of one count more are in range
pub cases_room : (xs : List ClassCount) (i : ℕ) (x : ClassCount) (cases : ℕ) → i < length xs
    → x ≡ get_or xs i x → cases + cases_of (drop i xs) ≡ cases_of xs → total_of xs ≤ 2 ^ 46
    → cases + x.count / 3 < 2 ^ 64
cases_room xs i x cases room read whole few =
    let step : cases_of (drop i xs) ≡ (get_or xs i x).count / 3 + cases_of (drop (i + 1) xs) =
    at_drop_more cases_of xs i x room in
    let same : x.count / 3 ≡ (get_or xs i x).count / 3 = ap (λ y. y.count / 3) read in
    let most : cases_of xs ≤ total_of xs = cases_fit xs in
    omega arith
