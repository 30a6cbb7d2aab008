-- Reading counts from bytes, against how they are kept.
use Rattle.std.proofs.Common.{◌≡◌, ℕ, zero, suc, ◌+◌, ◌^◌, ◌<◌, ◌≤◌, true, false, ◌&&◌, nat_lt}
use Rattle.std.proofs.Common.{nat_le, IsTrue, List, [], ◌∷◌, ◌++◌, length, take, drop, get_or, Some}
use Rattle.std.proofs.Common.{None, refl, sym, ◌∙◌, ap, append_assoc, append-nil, arith}
use Rattle.std.specs.Prelude.{flat_map}
use Rattle.std.specs.List.{AllByRecursion, list_all}
use Rattle.std.proofs.lemmas.Bool.Decides.{nat_tests}
use Rattle.std.proofs.lemmas.List.{at_drop_more, take_all, nil_from_length}
use Rattle.std.proofs.lemmas.Option.{some_pair_parts}
use Rattle.fm_name.specs.Class.{is_class}
use Rattle.fm_bytes.specs.Numbers.{AllBytes, is_unsigned, u64_bytes, short_text}
use Rattle.fm_bytes.specs.Reading.{number_from, short_text_from, IsMisspelled}
use Rattle.fm_bytes.specs.declared.fault.ReadFault.{ReadFault}
use Rattle.fm_bytes.specs.declared.fault.ReadFault.TheVariants.{NoSpelling, NoMemory}
use Rattle.fm_core.specs.Faults.{load_fault}
use Rattle.fm_bytes.proofs.Readers.{short_text_reader, long_reader, left_bytes}
use Rattle.fm_core.specs.declared.class_count.ClassCount.{ClassCount}
use Rattle.fm_name.specs.Category.{is_ereport}
use Rattle.fm_core.specs.Counts.{is_count, is_ordered, are_counts, total_of}
use Rattle.fm_core.specs.Counts.{count_bytes, counts_bytes}
use Rattle.fm_core.specs.CountsOnce.{both_true, class_short, is_short_text, counts_prefix, IsShort}
use Rattle.fm_core.specs.CountsOnce.{AreLawfulCounts}
use Rattle.fm_core.specs.CountsOnce.{counts_are}
use Rattle.fm_core.proofs.Lists.{all_map, all_append}
use Rattle.fm_core.specs.Loading.{IsBad, IsKept, NoCount, NoneRead, NoCounts}

kept_text : (x : ClassCount) → IsKept x → IsTrue (is_short_text x.class)
kept_text x k =
    class_short x.class (both_true (is_class x.class) _
    (both_true (is_ereport x.class) _ k.counted).0).0

kept_number : (x : ClassCount) → IsKept x → IsTrue (is_unsigned x.count)
kept_number x k = let h : x.count < 2 ^ 64 = k.fits in grind (arith, nat_tests)

-- how a count reads, whatever follows it
count_text : (x : ClassCount) (rest : List ℕ) → IsKept x
    → short_text_from (count_bytes x ++ rest) ≡ Some (x.class, u64_bytes x.count ++ rest)
count_text x rest k =
    ap short_text_from (append_assoc (short_text x.class) (u64_bytes x.count) rest)
    ∙ short_text_reader.whole x.class (u64_bytes x.count ++ rest) (kept_text x k)

count_number : (x : ClassCount) (rest : List ℕ) → IsKept x
    → number_from 8 (u64_bytes x.count ++ rest) ≡ Some (x.count, rest)
count_number x rest k = long_reader.whole x.count rest (kept_number x k)

-- the bytes begin with no text
pub no_text : (bytes : List ℕ) → short_text_from bytes ≡ None → NoCount bytes
no_text bytes none x rest k e =
    let whole : short_text_from bytes ≡ Some (x.class, u64_bytes x.count ++ rest) =
    ap short_text_from e ∙ count_text x rest k in cc

-- what reads first is the class
text_is : (bytes t more : List ℕ) (x : ClassCount) (rest : List ℕ)
    → short_text_from bytes ≡ Some (t, more) → IsKept x → bytes ≡ count_bytes x ++ rest
    → (t ≡ x.class) × (more ≡ u64_bytes x.count ++ rest)
text_is bytes t more x rest read k e =
    let whole : short_text_from bytes ≡ Some (x.class, u64_bytes x.count ++ rest) =
    ap short_text_from e ∙ count_text x rest k in
    some_pair_parts t x.class more (u64_bytes x.count ++ rest) (sym read ∙ whole)

-- the text is no class of reports
pub no_class : (bytes t more : List ℕ) → short_text_from bytes ≡ Some (t, more)
    → is_ereport t ≡ false → NoCount bytes
no_class bytes t more read other x rest k e =
    let same : t ≡ x.class = (text_is bytes t more x rest read k e).0 in
    let class : is_ereport x.class ≡ true = (both_true (is_ereport x.class) _ k.counted).0 in
    let at : is_ereport t ≡ is_ereport x.class = ap is_ereport same in
    cc

-- no number follows
pub no_number : (bytes t more : List ℕ) → short_text_from bytes ≡ Some (t, more)
    → number_from 8 more ≡ None → NoCount bytes
no_number bytes t more read none x rest k e =
    let same : more ≡ u64_bytes x.count ++ rest = (text_is bytes t more x rest read k e).1 in
    let whole : number_from 8 more ≡ Some (x.count, rest) = ap (number_from 8) same
    ∙ count_number x rest k in
    cc

-- the number is 0
pub no_count : (bytes t more last : List ℕ) (n : ℕ) → short_text_from bytes ≡ Some (t, more)
    → number_from 8 more ≡ Some (n, last) → n ≡ 0 → NoCount bytes
no_count bytes t more last n read number none x rest k e =
    let same : more ≡ u64_bytes x.count ++ rest = (text_is bytes t more x rest read k e).1 in
    let whole : number_from 8 more ≡ Some (x.count, rest) = ap (number_from 8) same
    ∙ count_number x rest k in
    let one : n ≡ x.count = (some_pair_parts n x.count last rest (sym number ∙ whole)).0 in
    let some : IsTrue (nat_lt 0 x.count) =
    (both_true (is_ereport x.class) (nat_lt 0 x.count) k.counted).1 in
    let more_than : 0 < x.count = grind (arith, nat_tests) in
    omega arith

-- what was read is a count
pub read_count : (bytes t more last : List ℕ) (n : ℕ) → AllBytes bytes → AllBytes more
    → short_text_from bytes ≡ Some (t, more) → number_from 8 more ≡ Some (n, last)
    → bytes ≡ (short_text t ++ u64_bytes n) ++ last
read_count bytes t more last n a b read number =
    (short_text_reader.sound bytes (t, more) a read).1
    ∙ ap (λ xs. short_text t ++ xs) ((long_reader.sound more (n, last) b number).1)
    ∙ sym (append_assoc (short_text t) (u64_bytes n) last)

-- a fault of reading that becomes one of the bytes
pub misspelled : (f : ReadFault) → IsBad (load_fault f) → IsMisspelled f
misspelled NoSpelling h = tt
misspelled NoMemory h = absurd h

kept_short : (x : ClassCount) → IsKept x → IsShort x
kept_short x k = record { class_fits = kept_text x k; count_fits = kept_number x k }

all_short : (xs : List ClassCount) → AllByRecursion IsKept xs → AllByRecursion IsShort xs
all_short xs a = all_map IsKept IsShort xs kept_short a

all_counted : (xs : List ClassCount) → AllByRecursion IsKept xs → IsTrue (list_all is_count xs)
all_counted [] a = refl
all_counted (x ∷ xs) a = ap (λ b. b && list_all is_count xs) a.0.counted ∙ all_counted xs a.1

kept_at : (xs : List ClassCount) (i : ℕ) (d : ClassCount) → AllByRecursion IsKept xs → i < length xs
    → IsKept (get_or xs i d)
kept_at [] i d a h = absurd (let no : ⊥ = omega arith in no)
kept_at (x ∷ xs) zero d a h = a.0
kept_at (x ∷ xs) (suc i) d a h = kept_at xs i d a.1 (omega arith)

some_count : (xs : List ClassCount) → 0 < length xs → ClassCount
some_count [] h = absurd (let no : ⊥ = omega arith in no)
some_count (x ∷ xs) h = x

-- where fewer counts than wanted were read and no more follows, there are not as many
pub none_read : (bytes now : List ℕ) (found : List ClassCount) (many : ℕ)
    → bytes ≡ flat_map count_bytes found ++ now → AllByRecursion IsKept found → length found < many
    → NoCount now → NoneRead many bytes
none_read bytes now found many read kept less none ys size all e =
    let fits : length found ≤ length ys = omega arith in
    let room : length found < length ys = omega arith in
    let rest : now ≡ flat_map count_bytes (drop (length found) ys) =
    (counts_prefix found ys now (all_short found kept) (all_short ys all) fits (sym read ∙ e)).1 in
    let one : ClassCount = some_count ys (omega arith) in
    let y : ClassCount = get_or ys (length found) one in
    let next : flat_map count_bytes (drop (length found) ys) ≡ count_bytes y
    ++ flat_map count_bytes (drop (length found + 1) ys) =
    at_drop_more (flat_map count_bytes) ys (length found) one room in
    none y (flat_map count_bytes (drop (length found + 1) ys))
    (kept_at ys (length found) one all room) (rest ∙ next)

flat_push : (xs : List ClassCount) (x : ClassCount)
    → flat_map count_bytes (xs ++ x ∷ []) ≡ flat_map count_bytes xs ++ count_bytes x
flat_push [] x = append-nil (count_bytes x)
flat_push (y ∷ xs) x = ap (λ ys. count_bytes y ++ ys) (flat_push xs x)
    ∙ sym (append_assoc (count_bytes y) (flat_map count_bytes xs) (count_bytes x))

-- one count more
pub read_more : (bytes now next : List ℕ) (found : List ClassCount) (x : ClassCount)
    → bytes ≡ flat_map count_bytes found ++ now → now ≡ count_bytes x ++ next
    → bytes ≡ flat_map count_bytes (found ++ x ∷ []) ++ next
read_more bytes now next found x read more =
    read ∙ ap (λ ys. flat_map count_bytes found ++ ys) more
    ∙ sym (append_assoc (flat_map count_bytes found) (count_bytes x) next)
    ∙ ap (λ ys. ys ++ next) (sym (flat_push found x))

pub kept_more : (found : List ClassCount) (x : ClassCount) → AllByRecursion IsKept found → IsKept x
    → AllByRecursion IsKept (found ++ x ∷ [])
kept_more found x a k = all_append IsKept found (x ∷ []) a (k, tt)

pub bytes_more : (now next : List ℕ) (x : ClassCount) → now ≡ count_bytes x ++ next → AllBytes now
    → AllBytes next
bytes_more now next x e a = left_bytes now (count_bytes x) next e a

counts_kept : (xs : List ClassCount) (most : ℕ) → most < 2 ^ 64 → IsTrue (list_all is_count xs)
    → total_of xs ≤ most → AllByRecursion IsKept xs
counts_kept [] most m h t = tt
counts_kept (x ∷ xs) most m h t =
    let parts : IsTrue (is_count x) × IsTrue (list_all is_count xs) =
    both_true (is_count x) (list_all is_count xs) h in
    let total : x.count + total_of xs ≤ most = t in
    (record { counted = parts.0; fits = omega arith }, counts_kept xs most m parts.1 (omega arith))

lawful_kept : (xs : List ClassCount) → IsTrue (are_counts xs) → AllByRecursion IsKept xs
lawful_kept xs h = let c : AreLawfulCounts xs = counts_are xs h in
    counts_kept xs (2 ^ 46) (omega arith) c.counted c.total_fits

drop_all : (n : ℕ) (xs : List ClassCount) → length xs ≤ n → drop n xs ≡ []
drop_all zero [] h = refl
drop_all zero (x ∷ xs) h = absurd (let no : ⊥ = omega arith in no)
drop_all (suc n) [] h = refl
drop_all (suc n) (x ∷ xs) h = drop_all n xs (omega arith)

-- how lawful counts begin
header : (xs : List ClassCount) (bytes : List ℕ) → IsTrue (are_counts xs) → counts_bytes xs ≡ bytes
    → number_from 8 bytes ≡ Some (length xs, flat_map count_bytes xs)
header xs bytes h e =
    let c : AreLawfulCounts xs = counts_are xs h in
    let few : IsTrue (is_unsigned (length xs)) =
    (let l : length xs < 2 ^ 64 = omega (arith, c.few) in grind (arith, nat_tests)) in
    ap (number_from 8) (sym e) ∙ long_reader.whole (length xs) (flat_map count_bytes xs) few

pub no_header : (bytes : List ℕ) → number_from 8 bytes ≡ None → NoCounts bytes
no_header bytes none xs h e =
    let whole : number_from 8 bytes ≡ Some (length xs, flat_map count_bytes xs) =
    header xs bytes h e in cc

header_is : (xs : List ClassCount) (bytes more : List ℕ) (n : ℕ)
    → number_from 8 bytes ≡ Some (n, more) → IsTrue (are_counts xs) → counts_bytes xs ≡ bytes
    → (n ≡ length xs) × (more ≡ flat_map count_bytes xs)
header_is xs bytes more n read h e =
    some_pair_parts n (length xs) more (flat_map count_bytes xs) (sym read ∙ header xs bytes h e)

pub no_each : (bytes more : List ℕ) (n : ℕ) → number_from 8 bytes ≡ Some (n, more) → NoneRead n more
    → NoCounts bytes
no_each bytes more n read none xs h e =
    let both : (n ≡ length xs) × (more ≡ flat_map count_bytes xs) =
    header_is xs bytes more n read h e in
    none xs (sym both.0) (lawful_kept xs h) both.1

-- the counts that were read are the only ones
same_counts : (bytes more rest : List ℕ) (n : ℕ) (counts xs : List ClassCount)
    → number_from 8 bytes ≡ Some (n, more) → length counts ≡ n
    → more ≡ flat_map count_bytes counts ++ rest → AllByRecursion IsKept counts
    → IsTrue (are_counts xs) → counts_bytes xs ≡ bytes → (counts ≡ xs) × (rest ≡ [])
same_counts bytes more rest n counts xs read size whole kept h e =
    let both : (n ≡ length xs) × (more ≡ flat_map count_bytes xs) =
    header_is xs bytes more n read h e in
    let at : n ≡ length xs = both.0 in
    let fits : length counts ≤ length xs = omega arith in
    let back : length xs ≤ length counts = omega arith in
    let parts : (counts ≡ take (length counts) xs)
    × (rest ≡ flat_map count_bytes (drop (length counts) xs)) =
    counts_prefix counts xs rest (all_short counts kept) (all_short xs (lawful_kept xs h)) fits
    (sym whole ∙ both.1) in
    let nothing : drop (length counts) xs ≡ [] = drop_all (length counts) xs back in
    (parts.0 ∙ take_all (length counts) xs back, parts.1 ∙ ap (flat_map count_bytes) nothing)

pub no_rest : (bytes more rest : List ℕ) (n : ℕ) (counts : List ClassCount)
    → number_from 8 bytes ≡ Some (n, more) → length counts ≡ n
    → more ≡ flat_map count_bytes counts ++ rest → AllByRecursion IsKept counts
    → 0 < length rest → NoCounts bytes
no_rest bytes more rest n counts read size whole kept some xs h e =
    let none : length rest ≡ 0 =
    ap length (same_counts bytes more rest n counts xs read size whole kept h e).1 in
    omega arith

pub not_lawful : (bytes more rest : List ℕ) (n : ℕ) (counts : List ClassCount)
    → number_from 8 bytes ≡ Some (n, more) → length counts ≡ n
    → more ≡ flat_map count_bytes counts ++ rest → AllByRecursion IsKept counts
    → (is_ordered counts && nat_le (total_of counts) (2 ^ 46)) ≡ false → NoCounts bytes
not_lawful bytes more rest n counts read size whole kept fails xs h e =
    let same : counts ≡ xs = (same_counts bytes more rest n counts xs read size whole kept h e).0 in
    let c : AreLawfulCounts xs = counts_are xs h in
    let fits : nat_le (total_of xs) (2 ^ 46) ≡ true =
    (let l : total_of xs ≤ 2 ^ 46 = c.total_fits in grind (arith, nat_tests)) in
    let holds : (is_ordered xs && nat_le (total_of xs) (2 ^ 46)) ≡ true =
    ap (λ b. b && nat_le (total_of xs) (2 ^ 46)) c.ordered ∙ fits in
    let at : (is_ordered counts && nat_le (total_of counts) (2 ^ 46))
    ≡ (is_ordered xs && nat_le (total_of xs) (2 ^ 46)) =
    ap (λ ys. is_ordered ys && nat_le (total_of ys) (2 ^ 46)) same in
    cc

-- the counts that were read are lawful
pub read_lawful : (counts : List ClassCount) → AllByRecursion IsKept counts
    → (is_ordered counts && nat_le (total_of counts) (2 ^ 46)) ≡ true → IsTrue (are_counts counts)
read_lawful counts kept h =
    let parts : IsTrue (is_ordered counts) × IsTrue (nat_le (total_of counts) (2 ^ 46)) =
    both_true (is_ordered counts) (nat_le (total_of counts) (2 ^ 46)) h in
    ap (λ b. b && (list_all is_count counts && nat_le (total_of counts) (2 ^ 46))) parts.0
    ∙ ap (λ b. b && nat_le (total_of counts) (2 ^ 46)) (all_counted counts kept) ∙ parts.1

-- and are kept as the bytes
pub read_same : (bytes more rest : List ℕ) (n : ℕ) (counts : List ClassCount) → AllBytes bytes
    → number_from 8 bytes ≡ Some (n, more) → length counts ≡ n
    → more ≡ flat_map count_bytes counts ++ rest → length rest ≡ 0
    → counts_bytes counts ≡ bytes
read_same bytes more rest n counts a read size whole none =
    let empty : rest ≡ [] = nil_from_length rest none in
    ap (λ k. u64_bytes k ++ flat_map count_bytes counts) size
    ∙ ap (λ ys. u64_bytes n ++ ys)
    (sym (whole ∙ ap (λ ys. flat_map count_bytes counts ++ ys) empty
    ∙ append-nil (flat_map count_bytes counts)))
    ∙ sym (long_reader.sound bytes (n, more) a read).1
