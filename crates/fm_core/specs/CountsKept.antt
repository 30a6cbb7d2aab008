-- One report more: the counts stay lawful, and what is said is words of the module.
use Rattle.std.specs.Prelude.{◌≡◌, ℕ, ◌+◌, ◌^◌, ◌<◌, ◌≤◌, Bool, true, false, cond, ◌&&◌, nat_lt}
use Rattle.std.specs.Prelude.{nat_le, IsTrue, All, List, [], ◌∷◌, refl}
use Rattle.std.specs.List.{list_all}
use Rattle.std.specs.declared.cmp.Ordering.{Ordering}
use Rattle.std.specs.declared.cmp.Ordering.TheVariants.{Less, Equal, Greater}
use Rattle.std.specs.Ordering.{nat_cmp, is_lt, ordering_reverse}
use Rattle.std.specs.Cmp.Lexicographic.{slice_cmp, nat_list_cmp_total}
use Rattle.std.proofs.Common.{ap, ◌∙◌, arith}
use Rattle.std.proofs.lemmas.Bool.Decides.{nat_tests}
use Rattle.std.proofs.lemmas.List.Elements.{All-from_recursion}
use Rattle.fm_name.specs.Class.{is_class}
use Rattle.fm_name.specs.Category.{category_of, is_ereport_category}
use Rattle.fm_name.specs.Path.{is_path}
use Rattle.fm_nv.specs.Data.{Pairs}
use Rattle.fm_entry.specs.Entries.{IsSpelled, IsReport}
use Rattle.fm_entry.specs.Words.{IsEvent, IsSuspect, IsBrokenLink, IsWordOf}
use Rattle.fm_entry.specs.declared.entry.Entry.{Entry}
use Rattle.fm_entry.specs.declared.entry.Entry.TheVariants.{Report, Tick, Repaired, Replaced}
use Rattle.fm_entry.specs.declared.entry.Entry.TheVariants.{Acquit, Reload}
use Rattle.fm_core.specs.declared.class_count.ClassCount.{ClassCount}
use Rattle.fm_name.specs.Category.{is_ereport}
use Rattle.fm_core.specs.Counts.{order, one_more, plus_one, total_of, cases_of}
use Rattle.fm_core.specs.Counts.{is_count, is_past, is_ordered, are_counts}
use Rattle.fm_core.specs.Counts.{counts_after, third, is_third, counter_words}
use Rattle.fm_core.specs.CountsOnce.{both_true, AreLawfulCounts, counts_are}

-- the order of texts
abbrev pub cmp : List ℕ → List ℕ → Ordering
cmp = slice_cmp nat_cmp

pub less_is : (r : Ordering) → IsTrue (is_lt r) → r ≡ Less
less_is Less h = refl
less_is Equal h = absurd (let no : ⊥ = cc in no)
less_is Greater h = absurd (let no : ⊥ = cc in no)

pub is_less : (r : Ordering) → r ≡ Less → IsTrue (is_lt r)
is_less r e = ap is_lt e

pub turned : (a b : List ℕ) (r : Ordering) → cmp a b ≡ r → cmp b a ≡ ordering_reverse r
turned a b r e = nat_list_cmp_total.antisymm b a ∙ ap ordering_reverse e

pub before_before : (a b c : List ℕ) → cmp a b ≡ Less → cmp b c ≡ Less → cmp a c ≡ Less
before_before a b c p q = nat_list_cmp_total.trans a b c p q

pub both : (a b : Bool) → IsTrue a → IsTrue b → IsTrue (a && b)
both true b h k = k
both false b h k = h

abbrev pub one_count : List ℕ → ClassCount
one_count class = record { class = class; count = 1 }

pub past_greater : (class : List ℕ) (x : ClassCount) (xs : List ClassCount)
    → order x class ≡ Greater → IsTrue (is_ordered (x ∷ xs)) → IsTrue (is_past class (x ∷ xs))
past_greater class x xs e h =
    both (is_lt (cmp class x.class)) (is_past x.class xs)
    (is_less (cmp class x.class) (turned x.class class Greater e)) h

total_step : (class : List ℕ) (x : ClassCount) (xs : List ClassCount) (r : Ordering)
    → total_of (plus_one class xs) ≡ total_of xs + 1
    → total_of (one_more r class x xs (plus_one class xs)) ≡ x.count + total_of xs + 1
total_step class x xs Less h = omega arith
total_step class x xs Equal h = omega arith
total_step class x xs Greater h = omega arith

-- one more is counted
pub total_counted : (class : List ℕ) (xs : List ClassCount)
    → total_of (plus_one class xs) ≡ total_of xs + 1
total_counted class [] = refl
total_counted class (x ∷ xs) = total_step class x xs (order x class) (total_counted class xs)

past_step : (a class : List ℕ) (x : ClassCount) (xs : List ClassCount) (r : Ordering)
    → order x class ≡ r → cmp a class ≡ Less → IsTrue (is_past a (x ∷ xs))
    → (IsTrue (is_past x.class xs) → cmp x.class class ≡ Less
    → IsTrue (is_past x.class (plus_one class xs)))
    → IsTrue (is_past a (one_more r class x xs (plus_one class xs)))
past_step a class x xs Less e p h more =
    let parts : IsTrue (is_lt (cmp a x.class)) × IsTrue (is_past x.class xs) =
    both_true (is_lt (cmp a x.class)) (is_past x.class xs) h in
    both (is_lt (cmp a x.class)) (is_past x.class (plus_one class xs)) parts.0 (more parts.1 e)
past_step a class x xs Equal e p h more = h
past_step a class x xs Greater e p h more =
    let parts : IsTrue (is_lt (cmp a x.class)) × IsTrue (is_past x.class xs) =
    both_true (is_lt (cmp a x.class)) (is_past x.class xs) h in
    both (is_lt (cmp a class)) (is_past class (x ∷ xs)) (is_less (cmp a class) p)
    (past_greater class x xs e parts.1)

past_counted : (a class : List ℕ) (xs : List ClassCount) → cmp a class ≡ Less
    → IsTrue (is_past a xs) → IsTrue (is_past a (plus_one class xs))
past_counted a class [] p h = both (is_lt (cmp a class)) true (is_less (cmp a class) p) refl
past_counted a class (x ∷ xs) p h =
    past_step a class x xs (order x class) refl p h (λ k q. past_counted x.class class xs q k)

ordered_step : (class : List ℕ) (x : ClassCount) (xs : List ClassCount) (r : Ordering)
    → order x class ≡ r → IsTrue (is_ordered (x ∷ xs))
    → IsTrue (is_ordered (one_more r class x xs (plus_one class xs)))
ordered_step class x xs Less e h = past_counted x.class class xs e h
ordered_step class x xs Equal e h = h
ordered_step class x xs Greater e h = past_greater class x xs e h

pub ordered_counted : (class : List ℕ) (xs : List ClassCount) → IsTrue (is_ordered xs)
    → IsTrue (is_ordered (plus_one class xs))
ordered_counted class [] h = refl
ordered_counted class (x ∷ xs) h = ordered_step class x xs (order x class) refl h

more_is_count : (x : ClassCount) → IsTrue (is_count x)
    → IsTrue (is_count (record x { count = x.count + 1 }))
more_is_count x h =
    let class : IsTrue (is_ereport x.class) =
    (both_true (is_ereport x.class) (nat_lt 0 x.count) h).0 in
    let some : IsTrue (nat_lt 0 (x.count + 1)) =
    (let l : 0 < x.count + 1 = omega arith in grind (arith, nat_tests)) in
    both (is_ereport x.class) (nat_lt 0 (x.count + 1)) class some

each_step : (class : List ℕ) (x : ClassCount) (xs : List ClassCount) (r : Ordering)
    → IsTrue (is_ereport class) → IsTrue (list_all is_count (x ∷ xs))
    → IsTrue (list_all is_count (plus_one class xs))
    → IsTrue (list_all is_count (one_more r class x xs (plus_one class xs)))
each_step class x xs Less e h more =
    both (is_count x) (list_all is_count (plus_one class xs))
    (both_true (is_count x) (list_all is_count xs) h).0 more
each_step class x xs Equal e h more =
    let parts : IsTrue (is_count x) × IsTrue (list_all is_count xs) =
    both_true (is_count x) (list_all is_count xs) h in
    both (is_count (record x { count = x.count + 1 })) (list_all is_count xs)
    (more_is_count x parts.0) parts.1
each_step class x xs Greater e h more =
    both (is_count (one_count class)) (list_all is_count (x ∷ xs))
    (both (is_ereport class) true e refl) h

pub each_counted : (class : List ℕ) (xs : List ClassCount) → IsTrue (is_ereport class)
    → IsTrue (list_all is_count xs) → IsTrue (list_all is_count (plus_one class xs))
each_counted class [] e h =
    both (is_count (one_count class)) true (both (is_ereport class) true e refl) refl
each_counted class (x ∷ xs) e h =
    each_step class x xs (order x class) e h
    (each_counted class xs e (both_true (is_count x) (list_all is_count xs) h).1)

-- counts stay lawful as long as no more than 2^46 were counted
pub counts_counted : (class : List ℕ) (xs : List ClassCount) → IsTrue (is_ereport class)
    → IsTrue (are_counts xs) → total_of xs < 2 ^ 46 → IsTrue (are_counts (plus_one class xs))
counts_counted class xs e h room =
    let was : AreLawfulCounts xs = counts_are xs h in
    let total : total_of (plus_one class xs) ≡ total_of xs + 1 = total_counted class xs in
    let fits : IsTrue (nat_le (total_of (plus_one class xs)) (2 ^ 46)) =
    (let l : total_of (plus_one class xs) ≤ 2 ^ 46 = omega arith in grind (arith, nat_tests)) in
    both (is_ordered (plus_one class xs))
    (list_all is_count (plus_one class xs) && nat_le (total_of (plus_one class xs)) (2 ^ 46))
    (ordered_counted class xs was.ordered)
    (both (list_all is_count (plus_one class xs)) (nat_le (total_of (plus_one class xs)) (2 ^ 46))
    (each_counted class xs e was.counted) fits)

-- the number of the next case is below 2^63
pub cases_fit : (xs : List ClassCount) → cases_of xs ≤ total_of xs
cases_fit [] = omega arith
cases_fit (x ∷ xs) = omega (arith, cases_fit xs)

third_is : (own case : ℕ) (class path : List ℕ) (t : ℕ) → IsTrue (is_ereport class)
    → IsTrue (is_path path) → t < 2 ^ 62 → case < 2 ^ 63
    → IsWordOf own (third own case class path t)
third_is own case class path t a b h k =
    record {
      module_is = refl;
      case_fits = k;
      moment_fits = h;
      conf_fits = omega arith;
      observed_fit = omega arith;
      observed_are = All-from_recursion IsEvent (record { class = class; path = path } ∷ [])
          (record { class_is = (both_true (is_class class) _ a).0; path_is = b }, tt);
      suspects_fit = omega arith;
      suspects_are = All-from_recursion IsSuspect [] tt;
      broken_fit = omega arith;
      broken_are = All-from_recursion IsBrokenLink [] tt;
      broken_ascend = refl;
    }

-- each of them has a spelling
pub events_are : (own cases : ℕ) (class path : List ℕ) (t : ℕ) (third_one : Bool)
    → IsTrue (is_ereport class) → IsTrue (is_path path) → t < 2 ^ 62 → cases < 2 ^ 63
    → All (IsWordOf own) (cond third_one (third own cases class path t ∷ []) [])
events_are own cases class path t true a b h k =
    All-from_recursion (IsWordOf own) (third own cases class path t ∷ [])
    (third_is own cases class path t a b h k, tt)
events_are own cases class path t false a b h k = All-from_recursion (IsWordOf own) [] tt

report_kept : (class : List ℕ) (xs : List ClassCount) (room : Bool) → IsTrue (is_ereport class)
    → IsTrue (are_counts xs) → nat_lt (total_of xs) (2 ^ 46) ≡ room
    → IsTrue (are_counts (cond room (plus_one class xs) xs))
report_kept class xs true a h e = let low : total_of xs < 2 ^ 46 = grind (arith, nat_tests) in
    counts_counted class xs a h low
report_kept class xs false a h e = h

-- the class of a report that has a spelling is of category `ereport`
report_is : (class path : List ℕ) (payload : Pairs) → IsReport class path payload
    → IsTrue (is_ereport class)
report_is class path payload h =
    both (is_class class) (is_ereport_category (category_of class)) h.class_is
    (ap is_ereport_category h.category_is)

-- counts stay lawful whatever entry is taken
pub counts_kept : (xs : List ClassCount) (e : Entry) → IsTrue (are_counts xs) → IsSpelled e
    → IsTrue (are_counts (counts_after xs e))
counts_kept xs (Report class path moment payload) h s =
    report_kept class xs (nat_lt (total_of xs) (2 ^ 46)) (report_is class path payload s.body) h
    refl
counts_kept xs (Tick moment) h s = h
counts_kept xs (Repaired path moment) h s = h
counts_kept xs (Replaced path moment) h s = h
counts_kept xs (Acquit case moment) h s = h
counts_kept xs (Reload conf moment) h s = h

-- and what is said at it are words of the module
pub words_kept : (own : ℕ) (xs : List ClassCount) (e : Entry) → IsTrue (are_counts xs) → IsSpelled e
    → All (IsWordOf own) (counter_words own xs e)
words_kept own xs (Report class path moment payload) h s =
    let total : total_of xs ≤ 2 ^ 46 = (counts_are xs h).total_fits in
    let few : cases_of xs ≤ total_of xs = cases_fit xs in
    let fits : cases_of xs < 2 ^ 63 = omega arith in
    events_are own (cases_of xs) class path moment (is_third xs class)
    (report_is class path payload s.body) s.body.path_is s.moment_fits fits
words_kept own xs (Tick moment) h s = All-from_recursion (IsWordOf own) [] tt
words_kept own xs (Repaired path moment) h s = All-from_recursion (IsWordOf own) [] tt
words_kept own xs (Replaced path moment) h s = All-from_recursion (IsWordOf own) [] tt
words_kept own xs (Acquit case moment) h s = All-from_recursion (IsWordOf own) [] tt
words_kept own xs (Reload conf moment) h s = All-from_recursion (IsWordOf own) [] tt
