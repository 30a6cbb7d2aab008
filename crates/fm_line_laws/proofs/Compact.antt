-- A value that was read has a compact text no longer than what was read.
use Rattle.std.proofs.Common.{◌≡◌, ℕ, zero, suc, ◌+◌, ◌-◌, ◌^◌, ◌≤◌, ◌<◌, ◌==◌, ◌&&◌, Bool, true}
use Rattle.std.proofs.Common.{false, cond, nat_lt, nat_le, slice_index, slice_range, List, [], ◌∷◌}
use Rattle.std.proofs.Common.{◌++◌, length, drop, decimal, Option, Some, None, option_and_then}
use Rattle.std.proofs.Common.{option_map, IfSome, Ordering, Less, Equal, Greater, nat_cmp, refl, ap}
use Rattle.std.proofs.Common.{subst, arith}
use Rattle.std.specs.Ordering.{match_ordering}
use Rattle.std.specs.Cmp.Lexicographic.{slice_cmp}
use Rattle.std.specs.Str.Parse.{AllDigits}
use Rattle.std.proofs.lemmas.Bool.{ltb-true, leb-true, and_parts, false≢true}
use Rattle.std.proofs.lemmas.Fmt.{length-decimal-le}
use Rattle.std.proofs.lemmas.Int.Digits.{digits_value-lt}
use Rattle.std.proofs.lemmas.Map.Lookups.{exact_bytes}
use Rattle.std.proofs.lemmas.List.{length-append, length-take, length-drop}
use Rattle.std.specs.Float.{binary64}
use Rattle.fast_float.specs.Text.{minus, Parts, scan, digits_end, digits_of, nearest, with_sign}
use Rattle.fast_float.proofs.Reading.{scan_numeral-AllDigits}
use Rattle.json.specs.Print.{quoted}
use Rattle.json.specs.Json as json
use Rattle.serde_json.specs.Data.{Num, unsigned, negative, float, Data, number, array, object, item}
use Rattle.serde_json.specs.Data.{Members, no_members, member, put}
use Rattle.serde_json.specs.Read.{of_json, of_items, of_members, number_of, number_from, float_of}
use Rattle.serde_json.specs.Read.{is_integer}
use Rattle.serde_json.specs.Written.{number_text, comma_if, compact_text, items_text, members_text}
use Rattle.fm_line_laws.proofs.Sized.{if_late, size, items_size, members_size}
use Rattle.fm_line_laws.proofs.Escaped.{chosen}

-- ---- numbers

all_digits : (xs ys : List ℕ) → AllDigits 10 xs → AllDigits 10 ys → AllDigits 10 (xs ++ ys)
all_digits [] ys h k = k
all_digits (x ∷ xs) ys h k = (h.0, all_digits xs ys h.1 k)

-- with a point behind the first a bytes, or without
parts_fit : (bs : List ℕ) (a e : ℕ) (point : Bool)
    → length (slice_range bs 0 a) + length (cond point (slice_range bs (a + 1) (cond point e a)) [])
    ≤ length bs
parts_fit bs a e true =
    omega (
      arith,
      length-take (a - 0) (drop 0 bs),
      length-take (e - (a + 1)) (drop (a + 1) bs),
      length-drop (a + 1) bs,
    )
parts_fit bs a e false = omega (arith, length-take (a - 0) (drop 0 bs))

-- the digits of a numeral stand in its text
digits_fit : (bs : List ℕ) → length (scan bs).whole + length (scan bs).fraction ≤ length bs
unfolding scan
digits_fit bs = let a = digits_end bs 0 in
    parts_fit bs a (digits_end bs (a + 1)) (slice_index bs a == 46)

-- the value of the digits has no more digits
digits_short : (bs : List ℕ) → is_integer (scan bs) ≡ true → digits_of (scan bs) < 2 ^ 64
    → length (decimal (digits_of (scan bs))) ≤ length bs
digits_short bs is below =
    let p = scan bs in
    let all = scan_numeral-AllDigits bs in
    let value = digits_value-lt 10 (p.whole ++ p.fraction)
    (all_digits p.whole p.fraction all.0 all.1) in
    let some = ltb-true 0 (length p.whole) (and_parts _ _ (and_parts _ _ is).0).0 in
    let short = length-decimal-le (length (p.whole ++ p.fraction)) (digits_of p)
    (omega (arith, some, length-append p.whole p.fraction)) value below in
    omega (arith, short, digits_fit bs, length-append p.whole p.fraction)

abbrev Short : ℕ → Num → Type 0
Short n x = length (number_text x) ≤ n

unfoldable Fits : ℕ → Option Num → Type 0
Fits n o = IfSome o (Short n)

none : (n : ℕ) → Fits n None
unfolding Fits
none n = tt

some : (n : ℕ) (x : Num) → Short n x → Fits n (Some x)
unfolding Fits
some n x h = h

float_short : (n : ℕ) (sign : Bool) (p : Parts) → Fits n (float_of sign p)
float_short n sign p =
    chosen (Fits n) _ (Some (float (nearest binary64 sign p))) None (λ e. some n _ (omega arith))
    (λ e. none n)

minus_short : (k n : ℕ) → length (decimal k) + 1 ≤ n → 0 < k → Short n (negative (with_sign true k))
minus_short zero n h some = absurd (omega arith)
minus_short (suc k) n h some = omega arith

unsigned_short : (bs : List ℕ) → Fits (length bs) (number_from false (scan bs))
unsigned_short bs =
    let p = scan bs in
    chosen (Fits (length bs)) (is_integer p && nat_lt (digits_of p) (2 ^ 64))
    (Some (unsigned (digits_of p))) (float_of false p)
    (λ e. let both = and_parts (is_integer p) (nat_lt (digits_of p) (2 ^ 64)) e in
    some (length bs) _ (digits_short bs both.0 (ltb-true (digits_of p) (2 ^ 64) both.1)))
    (λ e. float_short (length bs) false p)

negative_short : (bs : List ℕ) → Fits (length bs + 1) (number_from true (scan bs))
negative_short bs =
    let p = scan bs in
    chosen (Fits (length bs + 1))
    (is_integer p && nat_lt 0 (digits_of p) && nat_le (digits_of p) (2 ^ 63))
    (Some (negative (with_sign true (digits_of p)))) (float_of true p)
    (λ e. let both = and_parts (is_integer p && nat_lt 0 (digits_of p))
    (nat_le (digits_of p) (2 ^ 63)) e in
    let first = and_parts (is_integer p) (nat_lt 0 (digits_of p)) both.0 in
    let below = leb-true (digits_of p) (2 ^ 63) both.1 in
    let short = digits_short bs first.0 (omega (arith, below)) in
    some (length bs + 1) _
    (minus_short (digits_of p) (length bs + 1) (omega (arith, short))
    (ltb-true 0 (digits_of p) first.1)))
    (λ e. float_short (length bs + 1) true p)

signed : (s : List ℕ) (b : Bool) → slice_index s 0 == minus ≡ b
    → Fits (length s) (cond b (number_from true (scan (drop 1 s))) (number_from false (scan s)))
signed s false e = unsigned_short s
signed [] true e = absurd (false≢true e)
signed (x ∷ s) true e =
    subst (λ (n : ℕ). Fits n (number_from true (scan s))) (omega arith) (negative_short s)

number_short : (s : List ℕ) → Fits (length s) (number_of s)
unfolding number_of
number_short s = signed s (slice_index s 0 == minus) refl

-- ---- values

abbrev Compact : ℕ → Data → Type 0
Compact n d = length (compact_text d) ≤ n

-- the members, each with a comma
abbrev pub total : Members → ℕ
total no_members = 0
total (member k d ms) = length (quoted k) + 1 + length (compact_text d) + 1 + total ms

abbrev json_total : json.Members → ℕ
json_total json.no_members = 0
json_total (json.member k j ms) = length (quoted k) + 1 + size j + 1 + json_total ms

comma : (late : Bool) → length (comma_if late) ≡ if_late late 1
comma true = refl
comma false = refl

later_text : (ms : Members) → length (members_text true ms) ≡ total ms + 1
later_text no_members = omega arith
later_text (member k d ms) =
    omega (
      arith,
      length-append (quoted k) (58 ∷ (compact_text d ++ members_text true ms)),
      length-append (compact_text d) (members_text true ms),
      later_text ms,
    )

-- an object is its members, its braces, and no comma behind the last
pub object_length : (k : List ℕ) (d : Data) (ms : Members)
    → length (compact_text (object (member k d ms))) ≡ 1 + total (member k d ms)
object_length k d ms =
    omega (
      arith,
      length-append (quoted k) (58 ∷ (compact_text d ++ members_text true ms)),
      length-append (compact_text d) (members_text true ms),
      later_text ms,
    )

pub object_total : (ms : Members) → 1 + total ms ≤ length (compact_text (object ms))
object_total no_members = omega arith
object_total (member k d ms) = omega (arith, object_length k d ms)

first_text : (ms : Members) (n : ℕ) → total ms ≤ n → 1 ≤ n → length (members_text false ms) ≤ n
first_text no_members n h some = some
first_text (member k d ms) n h some =
    omega (
      arith,
      length-append (quoted k) (58 ∷ (compact_text d ++ members_text true ms)),
      length-append (compact_text d) (members_text true ms),
      later_text ms,
    )

later_size : (ms : json.Members) → members_size true ms ≡ json_total ms + 1
later_size json.no_members = omega arith
later_size (json.member k j ms) = omega (arith, later_size ms)

first_size : (ms : json.Members) → json_total ms ≤ members_size false ms
first_size json.no_members = omega arith
first_size (json.member k j ms) = omega (arith, later_size ms)

some_size : (ms : json.Members) → 1 ≤ members_size false ms
some_size json.no_members = omega arith
some_size (json.member k j ms) = omega (arith, later_size ms)

put_at : (o : Ordering) (k l : List ℕ) (d e : Data) (ms : Members) → slice_cmp nat_cmp k l ≡ o
    → total (put k d ms) ≤ total (member k d no_members) + total ms
    → total (match_ordering o (member k d (member l e ms)) (member l d ms)
    (member l e (put k d ms))) ≤ total (member k d no_members) + total (member l e ms)
put_at Less k l d e ms is later = omega arith
put_at Equal k l d e ms is later = let same : k ≡ l = exact_bytes k l is in
    omega (arith, ap (λ x. length (quoted x)) same)
put_at Greater k l d e ms is later = omega (arith, later)

put_total : (k : List ℕ) (d : Data) (ms : Members)
    → total (put k d ms) ≤ total (member k d no_members) + total ms
put_total k d no_members = omega arith
put_total k d (member l e ms) = put_at (slice_cmp nat_cmp k l) k l d e ms refl (put_total k d ms)

mapped : {A B : Type 0} (P : A → Type 0) (Q : B → Type 0) (f : A → B) (o : Option A) → IfSome o P
    → ((x : A) → P x → Q (f x)) → IfSome (option_map f o) Q
mapped P Q f None h g = tt
mapped P Q f (Some x) h g = g x h

then : {A B : Type 0} (P : A → Type 0) (Q : B → Type 0) (f : A → Option B) (o : Option A)
    → IfSome o P → ((x : A) → P x → IfSome (f x) Q) → IfSome (option_and_then f o) Q
then P Q f None h g = tt
then P Q f (Some x) h g = g x h

numbered : (s : List ℕ) → IfSome (number_of s) (Short (length s))
unfolding Fits
numbered s = number_short s

weaken : (o : Option Members) (m n : ℕ) → m ≤ n → IfSome o (λ ns. total ns ≤ m)
    → IfSome o (λ ns. total ns ≤ n)
weaken None m n le h = tt
weaken (Some ns) m n le h = omega (arith, le, h)

mutual
  pub value_compact : (j : json.Json) → IfSome (of_json j) (Compact (size j))
  value_compact json.null = omega arith
  value_compact (json.boolean true) = omega arith
  value_compact (json.boolean false) = omega arith
  value_compact (json.number s) =
      mapped (Short (length s)) (Compact (length s)) number (number_of s) (numbered s) (λ n h. h)
  value_compact (json.string s) = omega arith
  value_compact (json.array js) =
      mapped (λ ds. length (items_text false ds) ≤ items_size false js)
      (Compact (1 + items_size false js)) array (of_items js) (items_compact js false)
      (λ ds h. omega (arith, h))
  value_compact (json.object ms) =
      mapped (λ ns. total ns ≤ 0 + json_total ms) (Compact (1 + members_size false ms)) object
      (of_members ms no_members) (members_compact ms no_members)
      (λ ns h. omega (
        arith,
        first_text ns (members_size false ms) (omega (arith, h, first_size ms)) (some_size ms),
      ))

  items_compact : (js : json.Items) (late : Bool)
      → IfSome (of_items js) (λ ds. length (items_text late ds) ≤ items_size late js)
  items_compact json.no_items late = omega arith
  items_compact (json.item j js) late =
      then (Compact (size j)) (λ ds. length (items_text late ds) ≤ items_size late (json.item j js))
      (λ d. option_map (item d) (of_items js)) (of_json j) (value_compact j)
      (λ d hd. mapped (λ ds. length (items_text true ds) ≤ items_size true js)
      (λ ds. length (items_text late ds) ≤ items_size late (json.item j js)) (item d)
      (of_items js) (items_compact js true)
      (λ ds hs. omega (
        arith,
        comma late,
        hd,
        hs,
        length-append (comma_if late) (compact_text d ++ items_text true ds),
        length-append (compact_text d) (items_text true ds),
      )))

  members_compact : (ms : json.Members) (found : Members)
      → IfSome (of_members ms found) (λ ns. total ns ≤ total found + json_total ms)
  members_compact json.no_members found = omega arith
  members_compact (json.member k j ms) found =
      then (Compact (size j)) (λ ns. total ns ≤ total found + json_total (json.member k j ms))
      (λ d. of_members ms (put k d found)) (of_json j) (value_compact j)
      (λ d hd. weaken (of_members ms (put k d found)) (total (put k d found) + json_total ms)
      (total found + json_total (json.member k j ms)) (omega (arith, hd, put_total k d found))
      (members_compact ms (put k d found)))
