-- One record more: the modules of a book say it too exactly where it is what its module says next.
use Rattle.std.proofs.Common.{◌≡◌, ◌≢◌, inl, inr, ℕ, ◌+◌, ◌-◌, ◌<◌, ◌≤◌, max, Bool, true, false}
use Rattle.std.proofs.Common.{nat_le, ◌==◌, List, [], ◌∷◌, ◌++◌, length, take, Some, refl, sym}
use Rattle.std.proofs.Common.{◌∙◌, ap, subst, append-nil, arith, slice_get, take-add}
use Rattle.std.proofs.lemmas.Bool.{cases_eq}
use Rattle.std.proofs.lemmas.Bool.Decides.{nat_tests}
use Rattle.std.proofs.lemmas.List.{append_cancel_left, length-map, length-take-le}
use Rattle.std.proofs.lemmas.List.Elements.{filter-append}
use Rattle.std.proofs.lemmas.Option.{slice_get_within, same_Some}
use Rattle.std.specs.List.{AllByRecursion}
use Rattle.fm_core.specs.Book.{Book, ModuleState, IsPlaced, floored, floor_of, state_at}
use Rattle.fm_core.specs.Folds.{state_along, words_along}
use Rattle.fm_core.specs.Meaning.{Meaning, State}
use Rattle.fm_core.specs.Records.{of_module, numbered_from, IsAscending, past_all}
use Rattle.fm_core.proofs.Along.{state_append, words_append}
use Rattle.fm_core.proofs.Lists.{all_append, all_right, map_get}
use Rattle.fm_core.proofs.Ordered.{AllBelow, ascending_push, past_all_below, past_all_least}
use Rattle.fm_core.proofs.Places.{placed_beside}
use Rattle.fm_core.proofs.Tests.{eq_true, eq_false, true_le}
use Rattle.fm_entry.specs.declared.entry.Entry.{Entry}
use Rattle.fm_entry.specs.declared.spoken.Spoken.{Spoken}
use Rattle.fm_retrace.specs.Retracing.{SayRecords, SaysNext, entries_between}

false_le : (a b : ℕ) → nat_le a b ≡ false → b < a
false_le a b h = grind (arith, nat_tests)

-- past all records from the base on is past all of them, or the base
past_step : (base : ℕ) (x : Spoken) (xs : List Spoken)
    → past_all base (numbered_from base xs) ≡ max base (past_all 0 xs)
    → (test : Bool) → nat_le base x.number ≡ test
    → past_all base (numbered_from base (x ∷ xs)) ≡ max base (past_all 0 (x ∷ xs))
past_step base x xs more true is =
    rw is (let low : base ≤ x.number = true_le base x.number is in omega (arith, more, low))
past_step base x xs more false is =
    rw is (let high : x.number < base = false_le base x.number is in omega (arith, more, high))

pub past_from : (base : ℕ) (xs : List Spoken)
    → past_all base (numbered_from base xs) ≡ max base (past_all 0 xs)
past_from base [] = omega arith
past_from base (x ∷ xs) = past_step base x xs (past_from base xs) (nat_le base x.number) refl

-- past one more
pub past_push : (xs : List Spoken) (r : Spoken)
    → past_all 0 (xs ++ r ∷ []) ≡ max (past_all 0 xs) (r.number + 1)
past_push [] r = omega arith
past_push (x ∷ xs) r = omega (arith, past_push xs r)

-- the last of ascending records is past the others
all_before : (xs : List Spoken) (r : Spoken) → IsAscending (xs ++ r ∷ []) → AllBelow r.number xs
all_before [] r a = tt
all_before (x ∷ xs) r a =
    ((all_right (λ y. x.number < y.number) xs (r ∷ []) a.0).0, all_before xs r a.1)

ascending_before : (xs : List Spoken) (r : Spoken) → IsAscending (xs ++ r ∷ []) → IsAscending xs
ascending_before [] r a = tt
ascending_before (x ∷ xs) r a = (left xs a.0, ascending_before xs r a.1)
  where
    left : (ys : List Spoken) → AllByRecursion (λ y. x.number < y.number) (ys ++ r ∷ [])
        → AllByRecursion (λ y. x.number < y.number) ys
    left [] b = tt
    left (y ∷ ys) b = (b.0, left ys b.1)

pub last_past : (xs : List Spoken) (r : Spoken) → IsAscending (xs ++ r ∷ [])
    → past_all 0 xs ≤ r.number
last_past xs r a = past_all_least 0 r.number xs (omega arith) (all_before xs r a)

-- a record of this module, and one of another
pub of_same : (i : ℕ) (rs : List Spoken) (r : Spoken) → r.«module» ≡ i
    → of_module i (rs ++ r ∷ []) ≡ of_module i rs ++ r ∷ []
of_same i rs r is =
    filter-append (λ x. x.«module» == i) rs (r ∷ [])
    ∙ ap (λ (l : List Spoken). of_module i rs ++ l) (rw (eq_true r.«module» i is) refl)

pub of_others : (j : ℕ) (rs : List Spoken) (r : Spoken) → r.«module» ≢ j
    → of_module j (rs ++ r ∷ []) ≡ of_module j rs
of_others j rs r other =
    filter-append (λ x. x.«module» == j) rs (r ∷ [])
    ∙ ap (λ (l : List Spoken). of_module j rs ++ l) (rw (eq_false r.«module» j other) refl)
    ∙ append-nil (of_module j rs)

-- the states and words along the entries up to one number and then to another
module _ (m : Meaning) (s : State) (base low high : ℕ) (entries : List Entry) (from : base ≤ low)
    (on : low ≤ high) (end : high ≤ base + length entries) where
  abbrev some : List Entry
  some = take (low - base) entries

  parts : take (high - base) entries ≡ some ++ entries_between base low high entries
  parts =
      ap (λ (n : ℕ). take n entries) {x = high - base} {y = low - base + (high - low)}
      (omega (arith, from, on))
      ∙ take-add (low - base) (high - low) entries

  counted : base + length some ≡ low
  counted =
      ap (λ (n : ℕ). base + n)
      (length-take-le (low - base) entries (omega (arith, from, on, end)))
      ∙ (let back : base + (low - base) ≡ low = omega (arith, from) in back)

  pub state_parts : state_along m s base (take (high - base) entries)
      ≡ state_along m (state_along m s base some) low (entries_between base low high entries)
  state_parts =
      ap (state_along m s base) parts
      ∙ state_append m s base some (entries_between base low high entries)
      ∙ ap (λ (n : ℕ). state_along m (state_along m s base some) n
      (entries_between base low high entries)) counted

  pub words_parts : words_along m s base (take (high - base) entries)
      ≡ words_along m s base some
      ++ words_along m (state_along m s base some) low (entries_between base low high entries)
  words_parts =
      ap (words_along m s base) parts
      ∙ words_append m s base some (entries_between base low high entries)
      ∙ ap (λ (n : ℕ). words_along m s base some ++ words_along m (state_along m s base some) n
      (entries_between base low high entries)) counted

module _ (k : Book) (rs : List Spoken) (r : Spoken) (says : SayRecords k rs) where
  abbrev before : Book
  before = record k { records = rs }

  abbrev after : Book
  after = record k { records = rs ++ r ∷ [] }

  -- the floor of a module, as its records tell
  floor_before : (i : ℕ) → floor_of before i ≡ max k.base (past_all 0 (of_module i rs))
  floor_before i = past_from k.base (of_module i rs)

  placed_before : (j : ℕ) (q : ModuleState) → slice_get k.modules j ≡ Some q
      → IsPlaced (floored before) j q (floor_of before j)
  placed_before j q there =
      let at = says.placed j q (floor_of before q.meaning.own) there
      (map_get (λ x. floor_of before x.meaning.own) k.modules j q there) in
      subst (IsPlaced (floored before) j q) (ap (floor_of before) at.numbered) at

  -- a module that the record is not of
  placed_other : (j : ℕ) (q : ModuleState) → slice_get k.modules j ≡ Some q → r.«module» ≢ j
      → IsPlaced (floored after) j q (floor_of after j)
  placed_other j q there other =
      let same : of_module j (rs ++ r ∷ []) ≡ of_module j rs = of_others j rs r other in
      subst (IsPlaced (floored after) j q)
      (ap (λ (l : List Spoken). past_all k.base (numbered_from k.base l)) (sym same))
      (placed_beside (floored before) (floored after).cursors (rs ++ r ∷ []) j q
      (floor_of before j) same (placed_before j q there))

  -- the module of the record
  module _ (p : ModuleState) (there : slice_get k.modules r.«module» ≡ Some p) where
    abbrev own : List Spoken
    own = of_module r.«module» rs

    abbrev past : ℕ
    past = past_all 0 own

    abbrev low : ℕ
    low = max k.base past

    abbrev high : ℕ
    high = max k.base (r.number + 1)

    at : IsPlaced (floored before) r.«module» p low
    at =
        subst (IsPlaced (floored before) r.«module» p) (floor_before r.«module»)
        (placed_before r.«module» p there)

    whole : of_module r.«module» (rs ++ r ∷ []) ≡ own ++ r ∷ []
    whole = of_same r.«module» rs r refl

    -- its floor with the record, where that rises
    floor_after : past ≤ r.number → floor_of after r.«module» ≡ high
    floor_after rises =
        ap (λ (l : List Spoken). past_all k.base (numbered_from k.base l)) whole
        ∙ past_from k.base (own ++ r ∷ [])
        ∙ ap (max k.base) (past_push own r)
        ∙ (let same : max k.base (max past (r.number + 1)) ≡ high = omega (arith, rises) in same)

    from_parts : numbered_from k.base (own ++ r ∷ [])
        ≡ numbered_from k.base own ++ numbered_from k.base (r ∷ [])
    from_parts = filter-append (λ x. nat_le k.base x.number) own (r ∷ [])

    -- it says the record too where that is what it says next
    placed_next : SaysNext k.base k.entries p.meaning (state_at k p low) past r
        → IsPlaced (floored after) r.«module» p (floor_of after r.«module»)
    placed_next next =
        subst (IsPlaced (floored after) r.«module» p) (sym (floor_after next.rises)) (record {
          numbered = at.numbered;
          from_base = omega arith;
          to_end = next.inside;
          ascending = subst IsAscending (sym whole)
              (ascending_push r own (past_all_below 0 r.number own next.rises) at.ascending);
          exact = ap (numbered_from k.base) whole ∙ from_parts
              ∙ ap (λ (l : List Spoken). l ++ numbered_from k.base (r ∷ [])) at.exact
              ∙ ap (λ (l : List Spoken). words_along p.meaning p.state k.base
              (take (low - k.base) k.entries) ++ l) (sym next.says)
              ∙ sym (words_parts p.meaning p.state k.base low high k.entries (omega arith)
              (omega (arith, next.rises)) next.inside);
        })

    pub says_more : SaysNext k.base k.entries p.meaning (state_at k p low) past r
        → SayRecords k (rs ++ r ∷ [])
    says_more next = record {
      as_many = length-map k.modules (λ x. floor_of after x.meaning.own);
      named = all_append (λ x. x.«module» < length k.modules) rs (r ∷ []) says.named
          (slice_get_within k.modules r.«module» p there, tt);
      placed = λ j q c at_module at_cursor.
          let got = map_get (λ x. floor_of after x.meaning.own) k.modules j q at_module in
          let is : c ≡ floor_of after q.meaning.own =
          same_Some c (floor_of after q.meaning.own) (sym at_cursor ∙ got) in
          let floor : c ≡ floor_of after j =
          is ∙ ap (floor_of after) (placed_before j q at_module).numbered in
          subst (IsPlaced (floored after) j q) (sym floor)
          (elim (cases_eq r.«module» j) [
            | inl same ↦
                let one : p ≡ q =
                same_Some p q (sym there ∙ ap (slice_get k.modules) same ∙ at_module) in
                subst (λ (x : ℕ). IsPlaced (floored after) x q (floor_of after x)) same
                (subst (λ (x : ModuleState). IsPlaced (floored after) r.«module» x
                (floor_of after r.«module»)) one (placed_next next))
            | inr other ↦ placed_other j q at_module other
          ]);
    }

    -- and only then
    pub says_only : SayRecords k (rs ++ r ∷ [])
        → SaysNext k.base k.entries p.meaning (state_at k p low) past r
    says_only more =
        let at_own = more.placed r.«module» p (floor_of after p.meaning.own) there
        (map_get (λ x. floor_of after x.meaning.own) k.modules r.«module» p there) in
        let now : IsPlaced (floored after) r.«module» p (floor_of after r.«module») =
        subst (IsPlaced (floored after) r.«module» p) (ap (floor_of after) at_own.numbered) at_own
        in
        let rises : past ≤ r.number = last_past own r (subst IsAscending whole now.ascending) in
        let floor = floor_after rises in
        let inside : high ≤ k.base + length k.entries = omega (arith, sym floor, now.to_end) in
        let all : numbered_from k.base own ++ numbered_from k.base (r ∷ [])
        ≡ words_along p.meaning p.state k.base (take (high - k.base) k.entries) =
        sym from_parts ∙ ap (numbered_from k.base) (sym whole) ∙ now.exact
        ∙ ap (λ (n : ℕ). words_along p.meaning p.state k.base (take (n - k.base) k.entries)) floor
        in
        record {
          rises = rises;
          inside = inside;
          says = sym (append_cancel_left
              (words_along p.meaning p.state k.base (take (low - k.base) k.entries))
              (numbered_from k.base (r ∷ []))
              (words_along p.meaning (state_at k p low) low
              (entries_between k.base low high k.entries))
              (ap (λ (l : List Spoken). l ++ numbered_from k.base (r ∷ [])) (sym at.exact) ∙ all
              ∙ words_parts p.meaning p.state k.base low high k.entries (omega arith)
              (omega (arith, rises)) inside));
        }

-- a record names a module of the book
pub names_module : (k : Book) (rs : List Spoken) (r : Spoken) → SayRecords k (rs ++ r ∷ [])
    → r.«module» < length k.modules
names_module k rs r says = (all_right (λ x. x.«module» < length k.modules) rs (r ∷ []) says.named).0
