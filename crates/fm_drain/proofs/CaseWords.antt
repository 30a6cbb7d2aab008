-- The last word of a case is one that its module said, and rows of a drained book are such words.
use Rattle.std.proofs.Common.{◌≡◌, ◌≢◌, inl, inr, ℕ, zero, suc, ◌<◌, ◌≤◌, Bool, true, false, ◌==◌}
use Rattle.std.proofs.Common.{cond}
use Rattle.std.proofs.Common.{List, [], ◌∷◌, ◌++◌, length, map, Option, Some, None}
use Rattle.std.proofs.Common.{refl, sym, ◌∙◌, ap, subst, arith}
use Rattle.std.specs.Option.{option_or}
use Rattle.std.specs.List.{AllByRecursion, slice_get}
use Rattle.std.specs.List.Sorted.{IsStrictlySortedBy}
use Rattle.std.specs.Ordering.{is_eq}
use Rattle.std.specs.Cmp.{tied_itself}
use Rattle.std.specs.declared.cmp.Ordering.{Ordering}
use Rattle.std.specs.declared.cmp.Ordering.TheVariants.{Less, Equal, Greater}
use Rattle.std.proofs.lemmas.List.Elements.{All-from_recursion, recursion_from_All}
use Rattle.std.proofs.lemmas.List.Sorted.{All-permutation}
use Rattle.std.proofs.lemmas.Option.{slice_get_cases, same_Some}
use Rattle.fm_entry.specs.Words.{IsWordOf, IsSpelledSpoken}
use Rattle.fm_entry.specs.declared.case_name.CaseName.{CaseName}
use Rattle.fm_entry.specs.declared.list_event.ListEvent.{ListEvent}
use Rattle.fm_entry.specs.declared.spoken.Spoken.{Spoken}
use Rattle.fm_core.specs.Book.{Book, ModuleState, IsLawful, is_done, next_number}
use Rattle.fm_core.specs.Drained.{Drained, drained, ended}
use Rattle.fm_core.specs.Records.{of_module, IsAscending}
use Rattle.fm_core.proofs.Drains.{cursor_of, placed_at_end}
use Rattle.fm_core.proofs.Lists.{all_map, filter_none, list_all_get}
use Rattle.fm_core.proofs.Runs.{ends_drained}
use Rattle.fm_core.proofs.Tests.{true_eq, eq_true, eq_false}
use Rattle.fm_logs.specs.LogReads.{AreOrdered}
use Rattle.fm_payloads.specs.Spelling.{EachSpells}
use Rattle.fm_logs.specs.ReadsAsBook.{SpellsSpoken}
use Rattle.fm_status.specs.Rows.{case_cmp, case_row, last_word, AreRows}
use Rattle.fm_status.proofs.CaseOrder.{case_tie, case_total, turned}
use Rattle.fm_status.proofs.RowLaws.{before_all}
use Rattle.fm_drain.specs.CaseStatus.{words_in, said_by, IsStatusOf}
use Rattle.fm_drain.proofs.OrderedRecords.{ordered_alike}

-- ---- the last word of a case

not_tied : (o : Ordering) → (o ≡ Equal → ⊥) → is_eq o ≡ false
not_tied Less differs = refl
not_tied Equal differs = absurd (differs refl)
not_tied Greater differs = refl

-- words of one module
abbrev AreOf : ℕ → List ListEvent → Type 0
AreOf i words = AllByRecursion (λ w. w.case.«module» ≡ i) words

other_word : (c : CaseName) (w : ListEvent) (i : ℕ) → w.case.«module» ≡ i → i ≢ c.«module»
    → is_eq (case_cmp c w.case) ≡ false
other_word c w i is differs = not_tied (case_cmp c w.case)
    (λ e. differs (sym is ∙ ap (λ (x : CaseName). x.«module») (sym (case_tie c w.case e))))

-- words of another module say nothing of the case
last_none : (c : CaseName) (i : ℕ) (words : List ListEvent) → AreOf i words → i ≢ c.«module»
    → last_word c words ≡ None
last_none c i [] are differs = refl
last_none c i (w ∷ words) are differs =
    ap (λ o. option_or o (cond (is_eq (case_cmp c w.case)) (Some w) None))
    (last_none c i words are.1 differs)
    ∙ ap (λ b. cond b (Some w) None) (other_word c w i are.0 differs)

or_none : {A : Type 0} (o : Option A) → o ≡ option_or o None
or_none None = refl
or_none (Some x) = refl

or_both : {A : Type 0} (a b c : Option A)
    → option_or (option_or a b) c ≡ option_or a (option_or b c)
or_both None b c = refl
or_both (Some x) b c = refl

last_append : (c : CaseName) (xs ys : List ListEvent)
    → last_word c (xs ++ ys) ≡ option_or (last_word c ys) (last_word c xs)
last_append c [] ys = or_none (last_word c ys)
last_append c (x ∷ xs) ys =
    ap (λ o. option_or o (cond (is_eq (case_cmp c x.case)) (Some x) None)) (last_append c xs ys)
    ∙ or_both (last_word c ys) (last_word c xs) (cond (is_eq (case_cmp c x.case)) (Some x) None)

-- each record has words of its module
abbrev pub AreOwn : List Spoken → Type 0
AreOwn rs = AllByRecursion (λ r. AreOf r.«module» r.events) rs

own_step : (c : CaseName) (r : Spoken) (rs : List Spoken) → AreOf r.«module» r.events
    → last_word c (words_in rs) ≡ last_word c (words_in (of_module c.«module» rs))
    → (b : Bool) → (r.«module» == c.«module») ≡ b
    → last_word c (words_in (r ∷ rs)) ≡ last_word c (words_in (of_module c.«module» (r ∷ rs)))
own_step c r rs are more true e =
    let kept : of_module c.«module» (r ∷ rs) ≡ r ∷ of_module c.«module» rs =
    ap (λ b. cond b (r ∷ of_module c.«module» rs) (of_module c.«module» rs)) e in
    last_append c r.events (words_in rs)
    ∙ (ap (λ o. option_or o (last_word c r.events)) more
    ∙ (sym (last_append c r.events (words_in (of_module c.«module» rs)))
    ∙ ap (λ l. last_word c (words_in l)) (sym kept)))
own_step c r rs are more false e =
    let left : of_module c.«module» (r ∷ rs) ≡ of_module c.«module» rs =
    ap (λ b. cond b (r ∷ of_module c.«module» rs) (of_module c.«module» rs)) e in
    let none : last_word c r.events ≡ None = last_none c r.«module» r.events are (apart e) in
    last_append c r.events (words_in rs)
    ∙ (ap (λ o. option_or (last_word c (words_in rs)) o) none
    ∙ (sym (or_none (last_word c (words_in rs)))
    ∙ (more ∙ ap (λ l. last_word c (words_in l)) (sym left))))
  where
    apart : (r.«module» == c.«module») ≡ false → r.«module» ≢ c.«module»
    apart other same =
        let none : true ≡ false = sym (eq_true r.«module» c.«module» same) ∙ other in
        cc

-- the last word of a case is that of its module's records
last_own : (c : CaseName) (rs : List Spoken) → AreOwn rs
    → last_word c (words_in rs) ≡ last_word c (words_in (of_module c.«module» rs))
last_own c [] are = refl
last_own c (r ∷ rs) are =
    own_step c r rs are.0 (last_own c rs are.1) (r.«module» == c.«module») refl

-- ---- the records of a book

own_spelled : (s : Spoken) → IsSpelledSpoken s → AreOf s.«module» s.events
own_spelled s is = all_map (IsWordOf s.«module») (λ w. w.case.«module» ≡ s.«module») s.events
    (λ w word. word.module_is) (recursion_from_All (IsWordOf s.«module») s.events is.words_are)

-- the records of a log have words of their modules
pub spelled_own : (payloads : List (List ℕ)) (records : List Spoken)
    → EachSpells SpellsSpoken payloads records → AreOwn records
spelled_own [] [] each = tt
spelled_own [] (r ∷ rs) each = absurd each
spelled_own (p ∷ ps) [] each = absurd each
spelled_own (p ∷ ps) (r ∷ rs) each = (own_spelled r each.0.0, spelled_own ps rs each.1)

own_permuted : (log found : List Spoken) → AreOrdered log found → AreOwn log → AreOwn found
own_permuted log found ordered are =
    recursion_from_All (λ r. AreOf r.«module» r.events) found
    (All-permutation (λ r. AreOf r.«module» r.events) log found ordered.same
    (All-from_recursion (λ r. AreOf r.«module» r.events) log are))

-- the words of a drained book's module, at the end, are those of its records
said_at_end : (k : Book) (i : ℕ) (p : ModuleState) → IsLawful k → is_done k ≡ true
    → slice_get k.modules i ≡ Some p
    → said_by (slice_get (drained k).modules i) ≡ words_in (of_module i k.records)
said_at_end k i p lawful done got =
    let c = cursor_of k i p lawful got in
    let at : c.0 ≡ next_number k =
    true_eq c.0 (next_number k)
    (list_all_get (λ n. n == next_number k) k.cursors i c.0 done c.1) in
    ap said_by (ends_drained k i p lawful got (c.1 ∙ ap Some at))

map_none : {X Y : Type 0} (f : X → Y) (xs : List X) (i : ℕ) → slice_get xs i ≡ None
    → slice_get (map f xs) i ≡ None
map_none f [] i none = refl
map_none f (x ∷ xs) zero none = absurd (cc none)
map_none f (x ∷ xs) (suc i) none = map_none f xs i none

-- no record is of a module that is not there
none_of : (k : Book) (i : ℕ) → IsLawful k → length k.modules ≤ i → of_module i k.records ≡ []
none_of k i lawful past = filter_none (λ r. r.«module» == i) k.records
    (all_map (λ r. r.«module» < length k.modules) (λ r. (r.«module» == i) ≡ false) k.records
    (λ r low. eq_false r.«module» i (λ e. let no : ⊥ = omega (arith, low, past, e) in no))
    lawful.named)

-- the records of a module ascend, and their words are those of the drained book
record TellModule (k : Book) (i : ℕ) : Type 0 where
  ascend : IsAscending (of_module i k.records)
  said : said_by (slice_get (drained k).modules i) ≡ words_in (of_module i k.records)

tell_module : (k : Book) (i : ℕ) → IsLawful k → is_done k ≡ true → TellModule k i
tell_module k i lawful done = elim (slice_get_cases k.modules i).1 [
  | inl there ↦ record {
    ascend = (placed_at_end k i there.0 lawful done there.2).ascending;
    said = said_at_end k i there.0 lawful done there.2;
  }
  | inr past ↦
      let none : of_module i k.records ≡ [] = none_of k i lawful past.0 in
      record {
        ascend = subst IsAscending (sym none) tt;
        said = ap said_by (map_none (ended k) k.modules i past.1) ∙ ap words_in (sym none);
      }
]

-- Rows of the words of a done book's records, in order, are the status of the drained book.
pub status_is : (k : Book) (found : List Spoken) (rows : List ListEvent) → IsLawful k
    → AreOwn k.records → AreOrdered k.records found → AreRows (words_in found) rows
    → is_done k ≡ true → IsStatusOf (drained k) rows
status_is k found rows lawful own ordered are done = record {
  ascend = are.ascend;
  last = λ c.
      let told : TellModule k c.«module» = tell_module k c.«module» lawful done in
      are.last c
      ∙ (last_own c found (own_permuted k.records found ordered own)
      ∙ (ap (λ l. last_word c (words_in l))
      (ordered_alike c.«module» k.records found ordered.sorted ordered.stable told.ascend)
      ∙ ap (last_word c) (sym told.said)));
}

-- ---- one status

abbrev Before : CaseName → List ListEvent → Type 0
Before c rows = AllByRecursion (λ y. case_cmp c y ≡ Less) (map (λ row. row.case) rows)

abbrev Ascend : List ListEvent → Type 0
Ascend rows = IsStrictlySortedBy case_cmp (map (λ row. row.case) rows)

first_row : (r : ListEvent) (rows : List ListEvent) → case_row r.case (r ∷ rows) ≡ Some r
first_row r rows = ap (λ o. cond (is_eq o) (Some r) (case_row r.case rows))
    (tied_itself case_total r.case)

before_none : (c : CaseName) (rows : List ListEvent) → Before c rows → case_row c rows ≡ None
before_none c [] b = refl
before_none c (r ∷ rows) b =
    ap (λ o. cond (is_eq o) (Some r) (case_row c rows)) b.0 ∙ before_none c rows b.1

row_past : (c : CaseName) (r : ListEvent) (rows : List ListEvent) (o : Ordering)
    → case_cmp c r.case ≡ o → Before r.case rows
    → case_row c rows ≡ cond (is_eq o) None (case_row c (r ∷ rows))
row_past c r rows Equal e b =
    ap (λ d. case_row d rows) (case_tie c r.case e) ∙ before_none r.case rows b
row_past c r rows Less e b =
    ap (λ o. cond (is_eq o) (Some r) (case_row c rows)) (sym e)
row_past c r rows Greater e b =
    ap (λ o. cond (is_eq o) (Some r) (case_row c rows)) (sym e)

at_least : (x y : ListEvent) (xs ys : List ListEvent) (o : Ordering)
    → case_cmp x.case y.case ≡ o → Ascend (x ∷ xs) → Ascend (y ∷ ys)
    → ((c : CaseName) → case_row c (x ∷ xs) ≡ case_row c (y ∷ ys))
    → (x ≡ y) × ((c : CaseName) → case_row c xs ≡ case_row c ys)
unfolding IsStrictlySortedBy
at_least x y xs ys Less e up more same =
    let no : Some x ≡ None =
    sym (first_row x xs) ∙ (same x.case
    ∙ before_none x.case (y ∷ ys) (e, before_all x.case y.case ys e more.0)) in
    absurd (cc no)
at_least x y xs ys Greater e up more same =
    let back : case_cmp y.case x.case ≡ Less = turned x.case y.case e in
    let no : Some y ≡ None =
    sym (first_row y ys) ∙ (sym (same y.case)
    ∙ before_none y.case (x ∷ xs) (back, before_all y.case x.case xs back up.0)) in
    absurd (cc no)
at_least x y xs ys Equal e up more same =
    let one : x.case ≡ y.case = case_tie x.case y.case e in (
      same_Some x y (sym (first_row x xs) ∙ (same x.case
          ∙ (ap (λ c. case_row c (y ∷ ys)) one ∙ first_row y ys))),
      λ c. row_past c x xs (case_cmp c x.case) refl up.0
          ∙ (ap (λ o. cond (is_eq o) None (case_row c (x ∷ xs))) (ap (case_cmp c) one)
          ∙ (ap (cond (is_eq (case_cmp c y.case)) None) (same c)
          ∙ sym (row_past c y ys (case_cmp c y.case) refl more.0))),
    )

-- rows in which each case has the same row are the same
same_rows : (rows others : List ListEvent) → Ascend rows → Ascend others
    → ((c : CaseName) → case_row c rows ≡ case_row c others) → rows ≡ others
unfolding IsStrictlySortedBy
same_rows [] [] up more same = refl
same_rows [] (y ∷ ys) up more same =
    let no : None ≡ Some y = same y.case ∙ first_row y ys in
    absurd (cc no)
same_rows (x ∷ xs) [] up more same =
    let no : None ≡ Some x = sym (same x.case) ∙ first_row x xs in
    absurd (cc no)
same_rows (x ∷ xs) (y ∷ ys) up more same =
    let first = at_least x y xs ys (case_cmp x.case y.case) refl up more same in
    let one : x ≡ y = first.0 in
    let rest : xs ≡ ys = same_rows xs ys up.1 more.1 first.1 in
    cc

pub one_status : (d : Drained) (rows others : List ListEvent) → IsStatusOf d rows
    → IsStatusOf d others → rows ≡ others
one_status d rows others one other = same_rows rows others one.ascend other.ascend
    (λ c. one.last c ∙ sym (other.last c))
