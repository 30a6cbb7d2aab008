-- Equal saves of counts are of equal counts: each part of a save says where it ends.
use Rattle.std.specs.Prelude.{◌≡◌, ℕ, ◌+◌, ◌^◌, ◌<◌, ◌≤◌, Bool, true, false, ◌&&◌, nat_lt, nat_le}
use Rattle.std.specs.Prelude.{IsTrue, List, [], ◌∷◌, ◌++◌, length, take, drop, flat_map, refl}
use Rattle.std.specs.List.{AllByRecursion, list_all}
use Rattle.std.proofs.Common.{sym, ap, ◌∙◌, append_assoc, append-nil, arith}
use Rattle.std.specs.Str.{is_utf8}
use Rattle.std.proofs.lemmas.List.{take_all}
use Rattle.std.proofs.lemmas.Option.{some_pair_parts}
use Rattle.std.proofs.lemmas.Bool.Decides.{nat_tests}
use Rattle.fm_name.specs.Class.{is_class}
use Rattle.fm_bytes.specs.Numbers.{is_unsigned, u64_bytes, short_text}
use Rattle.fm_bytes.specs.Reading.{Read, number_from, short_text_from}
use Rattle.fm_bytes.proofs.Readers.{IsReader, short_text_reader, long_reader}
use Rattle.fm_entry.proofs.AsciiTexts.{class_text}
use Rattle.fm_core.specs.declared.class_count.ClassCount.{ClassCount}
use Rattle.fm_name.specs.Category.{is_ereport}
use Rattle.fm_core.specs.Counts.{is_count, is_ordered, total_of, are_counts}
use Rattle.fm_core.specs.Counts.{count_bytes, counts_bytes}

-- equal spellings are of equal values, whatever follows them
once : {A : Type 0} (fits : A → Bool) (spell : A → List ℕ) (read : List ℕ → Read A)
    → IsReader fits spell read → (x y : A) (r s : List ℕ) → IsTrue (fits x) → IsTrue (fits y)
    → spell x ++ r ≡ spell y ++ s → (x ≡ y) × (r ≡ s)
once fits spell read reader x y r s a b e =
    some_pair_parts x y r s (sym (reader.whole x r a) ∙ ap read e ∙ reader.whole y s b)

-- a text that a short length fits
abbrev pub is_short_text : List ℕ → Bool
is_short_text t = is_utf8 t && nat_le (length t) 65535

-- a count that fits its bytes
pub record IsShort (x : ClassCount) : Type 0 where
  pub class_fits : IsTrue (is_short_text x.class)
  pub count_fits : IsTrue (is_unsigned x.count)

same_count : (x y : ClassCount) → x.class ≡ y.class → x.count ≡ y.count → x ≡ y
same_count x y a b = λ i. record { class = a i; count = b i }

-- one count, and what follows it
pub count_once : (x y : ClassCount) (r s : List ℕ) → IsShort x → IsShort y
    → count_bytes x ++ r ≡ count_bytes y ++ s → (x ≡ y) × (r ≡ s)
count_once x y r s a b e =
    let apart : short_text x.class ++ (u64_bytes x.count ++ r) ≡ short_text y.class
    ++ (u64_bytes y.count ++ s) =
    sym (append_assoc (short_text x.class) (u64_bytes x.count) r) ∙ e
    ∙ append_assoc (short_text y.class) (u64_bytes y.count) s in
    let first : (x.class ≡ y.class) × (u64_bytes x.count ++ r ≡ u64_bytes y.count ++ s) =
    once is_short_text short_text short_text_from short_text_reader x.class y.class
    (u64_bytes x.count ++ r) (u64_bytes y.count ++ s) a.class_fits b.class_fits apart in
    let second : (x.count ≡ y.count) × (r ≡ s) =
    once is_unsigned u64_bytes (number_from 8) long_reader x.count y.count r s a.count_fits
    b.count_fits first.1 in
    (same_count x y first.0 second.0, second.1)

-- Bytes that are those of some counts and others after them, and also those of more counts: the
-- first counts are the same, and the others are those of the rest.
pub counts_prefix : (xs ys : List ClassCount) (r : List ℕ) → AllByRecursion IsShort xs
    → AllByRecursion IsShort ys → length xs ≤ length ys
    → flat_map count_bytes xs ++ r ≡ flat_map count_bytes ys → (xs ≡ take (length xs) ys)
    × (r ≡ flat_map count_bytes (drop (length xs) ys))
counts_prefix [] ys r a b h e = (refl, e)
counts_prefix (x ∷ xs) [] r a b h e = absurd (let no : ⊥ = omega arith in no)
counts_prefix (x ∷ xs) (y ∷ ys) r a b h e =
    let apart : count_bytes x ++ (flat_map count_bytes xs ++ r) ≡ count_bytes y
    ++ flat_map count_bytes ys =
    sym (append_assoc (count_bytes x) (flat_map count_bytes xs) r) ∙ e in
    let first : (x ≡ y) × (flat_map count_bytes xs ++ r ≡ flat_map count_bytes ys) =
    count_once x y (flat_map count_bytes xs ++ r) (flat_map count_bytes ys) a.0 b.0 apart in
    let rest : (xs ≡ take (length xs) ys) × (r ≡ flat_map count_bytes (drop (length xs) ys)) =
    counts_prefix xs ys r a.1 b.1 (omega arith) first.1 in
    ((let same : x ≡ y = first.0 in let more : xs ≡ take (length xs) ys = rest.0 in cc), rest.1)

-- a true `&&` has two true parts
pub both_true : (a b : Bool) → IsTrue (a && b) → IsTrue a × IsTrue b
both_true true b h = (refl, h)
both_true false b h = absurd (let no : ⊥ = cc in no)

-- a class is a text that a short length fits
pub class_short : (class : List ℕ) → IsTrue (is_class class) → IsTrue (is_short_text class)
class_short class h =
    let text = class_text class h in
    let few : length class ≤ 255 = text.1 in
    let small : nat_le (length class) 65535 ≡ true =
    (let low : length class ≤ 65535 = omega arith in grind (arith, nat_tests)) in
    ap (λ b. b && nat_le (length class) 65535) text.0 ∙ small

pub fits_long : (n : ℕ) → n < 2 ^ 64 → IsTrue (is_unsigned n)
fits_long n h = grind (arith, nat_tests)

counts_short : (xs : List ClassCount) (most : ℕ) → most < 2 ^ 64 → IsTrue (list_all is_count xs)
    → total_of xs ≤ most → AllByRecursion IsShort xs
counts_short [] most m h t = tt
counts_short (x ∷ xs) most m h t =
    let here : IsTrue (is_count x) = (both_true (is_count x) (list_all is_count xs) h).0 in
    let class : IsTrue (is_class x.class) =
    (both_true (is_class x.class) _ (both_true (is_ereport x.class) _ here).0).0 in
    let total : x.count + total_of xs ≤ most = t in
    let fits : x.count < 2 ^ 64 = omega arith in (
      record { class_fits = class_short x.class class; count_fits = fits_long x.count fits },
      counts_short xs most m (both_true (is_count x) (list_all is_count xs) h).1 (omega arith),
    )

-- each count is at least 1, so there are no more of them than were counted
pub length-le-total_of : (xs : List ClassCount) → IsTrue (list_all is_count xs)
    → length xs ≤ total_of xs
length-le-total_of [] h = omega arith
length-le-total_of (x ∷ xs) h =
    let here : IsTrue (is_count x) = (both_true (is_count x) (list_all is_count xs) h).0 in
    let some : IsTrue (nat_lt 0 x.count) =
    (both_true (is_ereport x.class) (nat_lt 0 x.count) here).1 in
    let more : 0 < x.count = grind (arith, nat_tests) in
    omega (arith, length-le-total_of xs (both_true (is_count x) (list_all is_count xs) h).1)

-- what lawful counts are
pub record AreLawfulCounts (xs : List ClassCount) : Type 0 where
  pub ordered : IsTrue (is_ordered xs)
  pub counted : IsTrue (list_all is_count xs)
  pub total_fits : total_of xs ≤ 2 ^ 46
  pub short : AllByRecursion IsShort xs
  pub few : length xs ≤ 2 ^ 46

pub counts_are : (xs : List ClassCount) → IsTrue (are_counts xs) → AreLawfulCounts xs
counts_are xs h =
    let first : IsTrue (is_ordered xs)
    × IsTrue (list_all is_count xs && nat_le (total_of xs) (2 ^ 46)) =
    both_true (is_ordered xs) _ h in
    let second : IsTrue (list_all is_count xs) × IsTrue (nat_le (total_of xs) (2 ^ 46)) =
    both_true (list_all is_count xs) _ first.1 in
    let last : IsTrue (nat_le (total_of xs) (2 ^ 46)) = second.1 in
    let total : total_of xs ≤ 2 ^ 46 = grind (arith, nat_tests) in
    let many : length xs ≤ total_of xs = length-le-total_of xs second.0 in
    record {
      ordered = first.0;
      counted = second.0;
      total_fits = total;
      short = counts_short xs (2 ^ 46) (omega arith) second.0 total;
      few = omega arith;
    }

pub counts_once : (xs ys : List ClassCount) → IsTrue (are_counts xs) → IsTrue (are_counts ys)
    → counts_bytes xs ≡ counts_bytes ys → xs ≡ ys
counts_once xs ys a b e =
    let p : AreLawfulCounts xs = counts_are xs a in
    let q : AreLawfulCounts ys = counts_are ys b in
    let few : IsTrue (is_unsigned (length xs)) =
    fits_long (length xs) (omega (arith, p.few)) in
    let few' : IsTrue (is_unsigned (length ys)) =
    fits_long (length ys) (omega (arith, q.few)) in
    let apart : (length xs ≡ length ys) × (flat_map count_bytes xs ≡ flat_map count_bytes ys) =
    once is_unsigned u64_bytes (number_from 8) long_reader (length xs) (length ys)
    (flat_map count_bytes xs) (flat_map count_bytes ys) few few' e
    in
    let same : length xs ≡ length ys = apart.0 in
    let fits : length xs ≤ length ys = omega arith in
    let back : length ys ≤ length xs = omega arith in
    (counts_prefix xs ys [] p.short q.short fits (append-nil (flat_map count_bytes xs) ∙ apart.1)).0
    ∙ take_all (length xs) ys back
