-- The first of lawful records are lawful: a book with all modules at their floors stays so where
-- the last records are taken away.
use Rattle.std.proofs.Common.{◌≡◌, ℕ, ◌+◌, ◌-◌, ◌<◌, ◌≤◌, List, [], ◌∷◌, ◌++◌, length, drop}
use Rattle.std.proofs.Common.{sym, ◌∙◌, ap, subst, arith, nat_lt, nat_le, ◌==◌}
use Rattle.std.proofs.Common.{append-nil, Bool, true, false, if◌then◌else◌}
use Rattle.std.specs.List.{AllByRecursion}
use Rattle.std.proofs.lemmas.List.{take-append-drop, take-take, length-map}
use Rattle.std.proofs.lemmas.List.Elements.{filter-append}
use Rattle.std.proofs.lemmas.Option.{same_Some}
use Rattle.fm_core.specs.Book.{Book, ModuleState, IsLawful, IsPlaced, floored, floor_of, taken}
use Rattle.fm_core.specs.Book.{next_number, state_at}
use Rattle.fm_core.specs.Folds.{words_along}
use Rattle.fm_core.specs.Meaning.{State}
use Rattle.fm_core.specs.Records.{of_module, numbered_from, numbered_before, IsAscending, past_all}
use Rattle.fm_core.proofs.Along.{words_append, words_within}
use Rattle.fm_core.proofs.Lists.{all_map, all_filter, all_right, filter_passes, map_get}
use Rattle.fm_core.proofs.Ordered.{AllBelow, AllFrom, before_all, before_none, past_all_below}
use Rattle.fm_core.proofs.Ordered.{past_all_from, past_all_least, within_below, within_from}
use Rattle.fm_core.proofs.Places.{length_taken, words_below}
use Rattle.fm_core.proofs.Tests.{true_le}
use Rattle.fm_entry.specs.declared.entry.Entry.{Entry}
use Rattle.fm_entry.specs.declared.spoken.Spoken.{Spoken}

-- what holds of each of two lists one after the other holds of the first
all_left : {X : Type 0} (P : X → Type 0) (xs ys : List X) → AllByRecursion P (xs ++ ys)
    → AllByRecursion P xs
all_left P [] ys a = tt
all_left P (x ∷ xs) ys a = (a.0, all_left P xs ys a.1)

-- the first of ascending records ascend
ascending_left : (xs ys : List Spoken) → IsAscending (xs ++ ys) → IsAscending xs
ascending_left [] ys a = tt
ascending_left (x ∷ xs) ys a =
    (all_left (λ r. x.number < r.number) xs ys a.0, ascending_left xs ys a.1)

-- and the later ones are past them
later_past : (n : ℕ) (xs ys : List Spoken) → IsAscending (xs ++ ys) → AllFrom n ys
    → AllFrom (past_all n xs) ys
later_past n [] ys a from = from
later_past n (x ∷ xs) ys a from = both ys (all_right (λ r. x.number < r.number) xs ys a.0)
    (later_past n xs ys a.1 from)
  where
    both : (rs : List Spoken) → AllByRecursion (λ r. x.number < r.number) rs
        → AllFrom (past_all n xs) rs → AllFrom (past_all n (x ∷ xs)) rs
    both [] b f = tt
    both (r ∷ rs) b f = (
      let here : x.number < r.number = b.0 in let there : past_all n xs ≤ r.number = f.0 in
          omega arith,
      both rs b.1 f.1,
    )

-- those from a number on have numbers from it on
from_passes : (n : ℕ) (rs : List Spoken) → AllFrom n (numbered_from n rs)
from_passes n rs =
    all_map (λ r. nat_le n r.number ≡ true) (λ r. n ≤ r.number) (numbered_from n rs)
    (λ r e. true_le n r.number e) (filter_passes (λ r. nat_le n r.number) rs)

-- a first record before ascending ones that are past it, or not
ascending_step : (n : ℕ) (r : Spoken) (rs : List Spoken) (test : Bool)
    → AllByRecursion (λ x. r.number < x.number) (numbered_from n rs)
    → IsAscending (numbered_from n rs)
    → IsAscending (if test then r ∷ numbered_from n rs else numbered_from n rs)
ascending_step n r rs true past rest = (past, rest)
ascending_step n r rs false past rest = rest

-- ascending records are so among those from a number on
ascending_from : (n : ℕ) (rs : List Spoken) → IsAscending rs → IsAscending (numbered_from n rs)
ascending_from n [] a = tt
ascending_from n (r ∷ rs) a =
    ascending_step n r rs (nat_le n r.number)
    (all_filter (λ x. r.number < x.number) (λ x. nat_le n x.number) rs a.0)
    (ascending_from n rs a.1)

-- words numbered below a cursor within what was taken are the words up to that cursor
words_before : (k : Book) (p : ModuleState) (f c : ℕ) → k.base ≤ f → f ≤ c → c ≤ next_number k
    → numbered_before f (words_along p.meaning p.state k.base (taken k c))
    ≡ words_along p.meaning p.state k.base (taken k f)
words_before k p f c low high end =
    let more : List Entry = drop (f - k.base) (taken k c) in
    let fits : f - k.base ≤ c - k.base = omega arith in
    let down : f ≤ next_number k = omega arith in
    let parts : taken k f ++ more ≡ taken k c =
    ap (λ (xs : List Entry). xs ++ more)
    (sym (take-take (f - k.base) (c - k.base) k.entries fits))
    ∙ take-append-drop (f - k.base) (taken k c) in
    let s : State = state_at k p f in
    let n : ℕ = k.base + length (taken k f) in
    let is : n ≡ f = length_taken k f low down in
    let early : List Spoken = words_along p.meaning p.state k.base (taken k f) in
    let late : List Spoken = words_along p.meaning s n more in
    let words : words_along p.meaning p.state k.base (taken k c) ≡ early ++ late =
    ap (words_along p.meaning p.state k.base) (sym parts)
    ∙ words_append p.meaning p.state k.base (taken k f) more in
    let below : AllBelow f early =
    subst (λ (high : ℕ). AllBelow high early) is
    (within_below p.meaning.own k.base n early
    (words_within p.meaning p.state k.base (taken k f))) in
    let from : AllFrom f late =
    subst (λ (low : ℕ). AllFrom low late) is
    (within_from p.meaning.own n (n + length more) late (words_within p.meaning s n more)) in
    ap (numbered_before f) words
    ∙ filter-append (λ r. nat_lt r.number f) early late
    ∙ ap (λ (xs : List Spoken). xs ++ numbered_before f late) (before_all f early below)
    ∙ ap (λ (xs : List Spoken). early ++ xs) (before_none f late from)
    ∙ append-nil early

-- the first records of a module that stands lawfully are its words up to their floor
placed_left : (k : Book) (early : List Spoken) (cs : List ℕ) (late : List Spoken) (i : ℕ)
    (p : ModuleState) (c : ℕ) → k.records ≡ early ++ late → IsPlaced k i p c
    → IsPlaced (record k { cursors = cs; records = early }) i p
    (past_all k.base (numbered_from k.base (of_module i early)))
placed_left k early cs late i p c parts h =
    let a : List Spoken = of_module i early in
    let b : List Spoken = of_module i late in
    let whole : of_module i k.records ≡ a ++ b =
    ap (of_module i) parts ∙ filter-append (λ r. r.«module» == i) early late in
    let a' : List Spoken = numbered_from k.base a in
    let b' : List Spoken = numbered_from k.base b in
    let split : numbered_from k.base (a ++ b) ≡ a' ++ b' =
    filter-append (λ r. nat_le k.base r.number) a b in
    let rising : IsAscending (a ++ b) = subst IsAscending whole h.ascending in
    let rising' : IsAscending (a' ++ b') =
    subst IsAscending split (ascending_from k.base (a ++ b) rising) in
    let words : words_along p.meaning p.state k.base (taken k c) ≡ a' ++ b' =
    sym h.exact ∙ ap (numbered_from k.base) whole ∙ split in
    let f : ℕ = past_all k.base a' in
    let low : k.base ≤ f = past_all_from k.base a' in
    let all_below : AllBelow c (a' ++ b') = subst (AllBelow c) words (words_below k i p c h) in
    let high : f ≤ c =
    past_all_least k.base c a' h.from_base (all_left (λ r. r.number < c) a' b' all_below) in
    let below : AllBelow f a' = past_all_below k.base f a' (omega arith) in
    let from : AllFrom f b' = later_past k.base a' b' rising' (from_passes k.base b) in
    let kept : numbered_before f (a' ++ b') ≡ a' =
    filter-append (λ r. nat_lt r.number f) a' b'
    ∙ ap (λ (xs : List Spoken). xs ++ numbered_before f b') (before_all f a' below)
    ∙ ap (λ (xs : List Spoken). a' ++ xs) (before_none f b' from)
    ∙ append-nil a' in
    record {
      numbered = h.numbered;
      from_base = low;
      to_end = omega (arith, high, h.to_end);
      ascending = ascending_left a b rising;
      exact = sym kept ∙ ap (numbered_before f) (sym words)
          ∙ words_before k p f c low high h.to_end;
    }

-- the first of lawful records are lawful
pub lawful_left : (k : Book) (early late : List Spoken) → k.records ≡ early ++ late
    → IsLawful (floored k) → IsLawful (floored (record k { records = early }))
lawful_left k early late parts h = record {
  as_many = length-map k.modules (λ p. floor_of (record k { records = early }) p.meaning.own);
  named = all_left (λ r. r.«module» < length k.modules) early late
      (subst (AllByRecursion (λ r. r.«module» < length k.modules)) parts h.named);
  placed = λ i p c at_module at_cursor.
      let k' : Book = record k { records = early } in
      let before = h.placed i p (floor_of k p.meaning.own) at_module
      (map_get (λ q. floor_of k q.meaning.own) k.modules i p at_module) in
      let got = map_get (λ q. floor_of k' q.meaning.own) k.modules i p at_module in
      let is : c ≡ floor_of k' p.meaning.own =
      same_Some c (floor_of k' p.meaning.own) (sym at_cursor ∙ got) in
      let own : c ≡ floor_of k' i = is ∙ ap (floor_of k') before.numbered in
      subst (IsPlaced (floored k') i p) (sym own)
      (placed_left (floored k) early (floored k').cursors late i p (floor_of k p.meaning.own) parts
      before);
}
