-- Lists, read and spelled.
use Rattle.std.proofs.Common.{◌≡◌, ℕ, zero, suc, ◌+◌, ◌-◌, ◌<◌, ◌≤◌, Bool, true, false, nat_le}
use Rattle.std.proofs.Common.{IsTrue, List, [], ◌∷◌, ◌++◌, length, length-append, take, drop}
use Rattle.std.proofs.Common.{flat_map, Some, None, if◌then◌else◌, refl, sym, ap, ◌∙◌, arith, subst}
use Rattle.std.specs.List.{list_all}
use Rattle.std.proofs.lemmas.Bool.{false≢true, leb-true, le-leb}
use Rattle.std.proofs.lemmas.List.{take-append-le, take_all}
use Rattle.std.proofs.Math.Seq.{drop-append_seam}
use Rattle.fm_nv.specs.Data.{Pairs, Data, no_pairs, pair, add, count, depth, data_depth}
use Rattle.fm_bytes.specs.Numbers.{AllBytes, u16_bytes}
use Rattle.fm_nv.specs.Spelled.{is_pair_name, value_fits, pairs_fit, list_fits, is_counted}
use Rattle.fm_nv.specs.Spelled.{distinct, body_bytes, pairs_bytes, IsSpelledList}
use Rattle.fm_bytes.specs.Reading.{Read, after, made, items_from, counted_from}
use Rattle.fm_nv.specs.Reading.{pair_from, listed, to_pairs, kept, list_from}
use Rattle.fm_bytes.proofs.Booleans.{and_parts, and_true}
use Rattle.fm_nv.proofs.Places.{depth_positive}
use Rattle.fm_nv.proofs.Adding.{count_add}
use Rattle.fm_bytes.proofs.ReadLoops.{behind, items_more}
use Rattle.fm_bytes.proofs.Readers.{IsReader, after_some, some_same, choice_read, choice_true}
use Rattle.fm_nv.proofs.Readers.{array_reader, array_bytes}
use Rattle.fm_bytes.proofs.Combined.{made_some}
use Rattle.fm_nv.proofs.ValueKinds.{fits_within, pair_within, pair_bytes, pair_reader}

-- there are as many pairs as items
pub count-listed : (xs : List (List ℕ × Data)) → count (listed xs) ≡ length xs
count-listed [] = refl
count-listed (x ∷ xs) = ap suc (count-listed xs)

body_bytes-listed : (xs : List (List ℕ × Data)) → body_bytes (listed xs) ≡ flat_map pair_bytes xs
body_bytes-listed [] = refl
body_bytes-listed (x ∷ xs) = ap (λ (ys : List ℕ). pair_bytes x ++ ys) (body_bytes-listed xs)

spelled-listed : (xs : List (List ℕ × Data)) → pairs_bytes (listed xs) ≡ array_bytes pair_bytes xs
spelled-listed xs = λ i. u16_bytes (count-listed xs i) ++ body_bytes-listed xs i

-- the pairs fit, and are at most one deeper than their values
pub pairs_within : (d : ℕ) (xs : List (List ℕ × Data)) → IsTrue (list_all (pair_within d) xs)
    → IsTrue (pairs_fit (listed xs)) × (depth (listed xs) ≤ suc d)
pairs_within d [] h = (refl, omega arith)
pairs_within d (x ∷ xs) h =
    let parts = and_parts (pair_within d x) _ h in
    let one = and_parts (is_pair_name x.0) _ parts.0 in
    let two = and_parts (value_fits x.1) _ one.1 in
    let deep = leb-true (data_depth x.1) d two.1 in
    let more = pairs_within d xs parts.1 in
    let rest = more.1 in
    (and_true (is_pair_name x.0) _ one.0 (and_true (value_fits x.1) _ two.0 more.0), omega arith)

pairs_back : (d : ℕ) (xs : List (List ℕ × Data)) → IsTrue (pairs_fit (listed xs))
    → depth (listed xs) ≤ suc d → IsTrue (list_all (pair_within d) xs)
pairs_back d [] h k = refl
pairs_back d (x ∷ xs) h k =
    let one = and_parts (is_pair_name x.0) _ h in
    let two = and_parts (value_fits x.1) _ one.1 in
    let value = and_true (value_fits x.1) _ two.0 (le-leb (data_depth x.1) d (omega arith)) in
    and_true (pair_within d x) _ (and_true (is_pair_name x.0) _ one.0 value)
    (pairs_back d xs two.1 (omega arith))

-- a list is that of its names and values
pub to_pairs_back : (ps : Pairs) → listed (to_pairs ps) ≡ ps
to_pairs_back no_pairs = refl
to_pairs_back (pair k d ps) = ap (pair k d) (to_pairs_back ps)

-- the pairs of an array, where the names are distinct
list_sound : (d : ℕ) (list : List ℕ → Read Pairs) → IsReader (fits_within d) pairs_bytes list
    → (bytes : List ℕ) (t : Pairs × List ℕ) → AllBytes bytes
    → after (counted_from 2 (pair_from list) bytes) (λ found rest. kept (listed found) rest)
    ≡ Some t
    → IsTrue (fits_within (suc d) t.0) × (bytes ≡ pairs_bytes t.0 ++ t.1)
list_sound d list r bytes t all h =
    let first = after_some (counted_from 2 (pair_from list) bytes)
    (λ found rest. kept (listed found) rest) t h in
    let known = (array_reader _ _ (pair_from list) (pair_reader d list r)).sound bytes first.0 all
    first.1 in
    let apart = choice_read (distinct (listed first.0.0)) (listed first.0.0) first.0.1 t first.2 in
    let parts = and_parts (nat_le (length first.0.0) 65535) _ known.0 in
    let within = pairs_within d first.0.0 parts.1 in
    let few = leb-true (length first.0.0) 65535 parts.0 in
    let same = count-listed first.0.0 in
    let counted = and_true (nat_le (count (listed first.0.0)) 65535) _
    (le-leb (count (listed first.0.0)) 65535 (omega arith)) apart.0 in
    let fits : IsTrue (fits_within (suc d) (listed first.0.0)) =
    and_true (list_fits (listed first.0.0)) _
    (and_true (is_counted (listed first.0.0)) _ counted within.0)
    (le-leb (depth (listed first.0.0)) (suc d) within.1) in (
      ap (fits_within (suc d)) apart.1 ∙ fits,
      known.1 ∙ ap (λ (xs : List ℕ). xs ++ first.0.1) (sym (spelled-listed first.0.0))
          ∙ sym (λ i. pairs_bytes (apart.1 i) ++ apart.2 i),
    )

list_whole : (d : ℕ) (list : List ℕ → Read Pairs) → IsReader (fits_within d) pairs_bytes list
    → (xs : List (List ℕ × Data)) (rest : List ℕ) → IsTrue (fits_within (suc d) (listed xs))
    → after (counted_from 2 (pair_from list) (pairs_bytes (listed xs) ++ rest))
    (λ found left. kept (listed found) left) ≡ Some (listed xs, rest)
list_whole d list r xs rest h =
    let parts = and_parts (list_fits (listed xs)) _ h in
    let deep = leb-true (depth (listed xs)) (suc d) parts.1 in
    let one = and_parts (is_counted (listed xs)) _ parts.0 in
    let counted = and_parts (nat_le (count (listed xs)) 65535) _ one.0 in
    let few = leb-true (count (listed xs)) 65535 counted.0 in
    let same = count-listed xs in
    let all = and_true (nat_le (length xs) 65535) _ (le-leb (length xs) 65535 (omega arith))
    (pairs_back d xs one.1 deep) in
    ap (λ (bytes : List ℕ). after (counted_from 2 (pair_from list) (bytes ++ rest))
    (λ found left. kept (listed found) left)) (spelled-listed xs)
    ∙ ap (λ (q : Read (List (List ℕ × Data))). after q (λ found left. kept (listed found) left))
    ((array_reader _ _ (pair_from list) (pair_reader d list r)).whole xs rest all)
    ∙ choice_true (distinct (listed xs)) _ _ counted.1

list_whole_at : (d : ℕ) (list : List ℕ → Read Pairs) → IsReader (fits_within d) pairs_bytes list
    → (ps : Pairs) (rest : List ℕ) → IsTrue (fits_within (suc d) ps)
    → after (counted_from 2 (pair_from list) (pairs_bytes ps ++ rest))
    (λ found left. kept (listed found) left) ≡ Some (ps, rest)
list_whole_at d list r ps rest h =
    let P : Pairs → Type 0 = λ qs. IsTrue (fits_within (suc d) qs)
    → after (counted_from 2 (pair_from list) (pairs_bytes qs ++ rest))
    (λ found left. kept (listed found) left) ≡ Some (qs, rest) in
    subst P (to_pairs_back ps) (list_whole d list r (to_pairs ps) rest) h

-- a list that is at most so deep
pub list_reader : (d : ℕ) → IsReader (fits_within d) pairs_bytes (list_from d)
unfolding list_from
list_reader zero = record {
  sound = λ bytes t all h. cc;
  whole = λ ps rest h.
      let deep = leb-true (depth ps) 0 (and_parts (list_fits ps) _ h).1 in
      let some = depth_positive ps in
      absurd (omega arith);
}
list_reader (suc d) = record {
  sound = λ bytes t all h. list_sound d (list_from d) (list_reader d) bytes t all h;
  whole = λ ps rest h. list_whole_at d (list_from d) (list_reader d) ps rest h;
}

-- a list of a depth above 0 is an array of pairs with distinct names
pub list_step : (d : ℕ) (bytes : List ℕ) → 0 < d
    → list_from d bytes ≡ after (counted_from 2 (pair_from (list_from (d - 1))) bytes)
    (λ found rest. kept (listed found) rest)
unfolding list_from
list_step zero bytes h = absurd (omega arith)
list_step (suc d) bytes h =
    let same : d ≡ suc d - 1 = omega arith in
    ap (λ (n : ℕ). after (counted_from 2 (pair_from (list_from n)) bytes)
    (λ found rest. kept (listed found) rest)) same

-- the test within 8 is that of a spelling
pub spelled_within : (ps : Pairs) → IsTrue (fits_within 8 ps) → IsSpelledList ps
spelled_within ps h =
    let parts = and_parts (list_fits ps) _ h in
    record { fits = parts.0; shallow = leb-true (depth ps) 8 parts.1 }

pub within_spelled : (ps : Pairs) → IsSpelledList ps → IsTrue (fits_within 8 ps)
within_spelled ps h = and_true (list_fits ps) _ h.fits (le-leb (depth ps) 8 h.shallow)

-- no list is at most 0 deep
pub list_none : (d : ℕ) (bytes : List ℕ) → d ≡ 0 → list_from d bytes ≡ None
unfolding list_from
list_none zero bytes e = refl
list_none (suc d) bytes e = absurd (omega arith)

-- the pairs that were read fit, but for their names
pub pairs_ready : (d : ℕ) (bytes : List ℕ) (ps : Pairs) (rest : List ℕ) → 0 < d → AllBytes bytes
    → counted_from 2 (pair_from (list_from (d - 1))) bytes ≡ Some (to_pairs ps, rest)
    → IsTrue (pairs_fit ps) × (depth ps ≤ d)
pairs_ready d bytes ps rest above all h =
    let known = (array_reader _ _ (pair_from (list_from (d - 1)))
    (pair_reader (d - 1) (list_from (d - 1)) (list_reader (d - 1)))).sound bytes
    (to_pairs ps, rest) all h in
    let parts = and_parts (nat_le (length (to_pairs ps)) 65535) _ known.0 in
    let within = pairs_within (d - 1) (to_pairs ps) parts.1 in
    let same = to_pairs_back ps in
    let deep : depth (listed (to_pairs ps)) ≤ suc (d - 1) = within.1 in
    (sym (ap pairs_fit same) ∙ within.0, omega (arith, ap depth same, deep))

-- the list was read, or its pairs were not, or a name stands twice
pub list_read : (d : ℕ) (bytes : List ℕ) (found ps : Pairs) (rest : List ℕ) → 0 < d
    → counted_from 2 (pair_from (list_from (d - 1))) bytes ≡ Some (to_pairs found, rest)
    → ps ≡ found → IsTrue (distinct ps) → list_from d bytes ≡ Some (ps, rest)
list_read d bytes found ps rest above h same apart =
    let e : listed (to_pairs found) ≡ ps = to_pairs_back found ∙ sym same in
    list_step d bytes above
    ∙ ap (λ (q : Read (List (List ℕ × Data))). after q (λ found left. kept (listed found) left))
    h
    ∙ ap (λ (qs : Pairs). kept qs rest) e ∙ choice_true (distinct ps) _ _ apart

pub list_unread : (d : ℕ) (bytes : List ℕ) → 0 < d
    → counted_from 2 (pair_from (list_from (d - 1))) bytes ≡ None → list_from d bytes ≡ None
list_unread d bytes above h =
    list_step d bytes above
    ∙ ap (λ (q : Read (List (List ℕ × Data))). after q (λ found left. kept (listed found) left))
    h

choice_false : {B : Type 0} (b : Bool) (x y : B) → b ≡ false → (if b then x else y) ≡ y
choice_false true x y h = absurd (false≢true (sym h))
choice_false false x y h = refl

pub list_twice : (d : ℕ) (bytes : List ℕ) (ps : Pairs) (rest : List ℕ) → 0 < d
    → counted_from 2 (pair_from (list_from (d - 1))) bytes ≡ Some (to_pairs ps, rest)
    → distinct ps ≡ false → list_from d bytes ≡ None
list_twice d bytes ps rest above h twice =
    list_step d bytes above
    ∙ ap (λ (q : Read (List (List ℕ × Data))). after q (λ found left. kept (listed found) left))
    h
    ∙ ap (λ (qs : Pairs). kept qs rest) (to_pairs_back ps) ∙ choice_false (distinct ps) _ _ twice

-- one pair more is one name and value more
pub to_pairs_add : (k : List ℕ) (d : Data) (ps : Pairs)
    → to_pairs (add k d ps) ≡ to_pairs ps ++ (k, d) ∷ []
to_pairs_add k d no_pairs = refl
to_pairs_add k d (pair j e ps) =
    ap (λ (xs : List (List ℕ × Data)). (j, e) ∷ xs) (to_pairs_add k d ps)

-- one pair more was read, and stands behind those before
pub pairs_more : (f : List ℕ → Read (List ℕ × Data)) (total : Read (List (List ℕ × Data)))
    (found new : Pairs) (size at : ℕ) (bytes rest : List ℕ)
    → at < size → total ≡ behind (to_pairs found) (items_from f (size - at) bytes)
    → made (λ p. add p.0 p.1 found) (f bytes) ≡ Some (new, rest)
    → (total ≡ behind (to_pairs new) (items_from f (size - (at + 1)) rest))
    × (count new ≡ count found + 1)
pairs_more f total found new size at bytes rest h before read =
    let some = made_some (λ p. add p.0 p.1 found) (f bytes) (new, rest) read in
    let same : new ≡ add some.0.0.0 some.0.0.1 found = ap (λ (t : Pairs × List ℕ). t.0) some.2 in
    let left : rest ≡ some.0.1 = ap (λ (t : Pairs × List ℕ). t.1) some.2 in
    let one : f bytes ≡ Some (some.0.0, rest) = some.1
    ∙ ap (λ (xs : List ℕ). Some (some.0.0, xs)) (sym left) in (
      items_more f total _ _ size at bytes some.0.0 rest h before one
          (ap to_pairs same ∙ to_pairs_add _ _ found),
      ap count same ∙ count_add _ _ found,
    )

-- what begins with a spelling is read
pub spelled_read : (bytes : List ℕ) (ps : Pairs) (rest : List ℕ) → IsSpelledList ps
    → bytes ≡ pairs_bytes ps ++ rest → list_from 8 bytes ≡ Some (ps, rest)
spelled_read bytes ps rest spelled e = ap (list_from 8) e
    ∙ (list_reader 8).whole ps rest (within_spelled ps spelled)

-- what is read is spelled so
pub read_spelled : (bytes : List ℕ) (t : Pairs × List ℕ) → AllBytes bytes
    → list_from 8 bytes ≡ Some t → IsSpelledList t.0 × (bytes ≡ pairs_bytes t.0 ++ t.1)
read_spelled bytes t all h =
    let known = (list_reader 8).sound bytes t all h in
    (spelled_within t.0 known.0, known.1)

-- no spelling is a proper prefix of another
pub no_prefix : (ps qs : Pairs) (xs ys : List ℕ) → IsSpelledList ps → IsSpelledList qs
    → pairs_bytes ps ++ xs ≡ pairs_bytes qs ++ ys → (ps ≡ qs) × (xs ≡ ys)
no_prefix ps qs xs ys p q e =
    let same = some_same (ps, xs) (qs, ys) (sym (spelled_read _ ps xs p refl)
    ∙ spelled_read _ qs ys q e) in
    (ap (λ (t : Pairs × List ℕ). t.0) same, ap (λ (t : Pairs × List ℕ). t.1) same)

-- where the spelling that was read ends
pub read_ends : (bytes : List ℕ) (ps : Pairs) (rest : List ℕ) (left : ℕ) → AllBytes bytes
    → list_from 8 bytes ≡ Some (ps, rest) → left ≡ length rest
    → (left ≤ length bytes) × (take (length bytes - left) bytes ≡ pairs_bytes ps)
    × (drop (length bytes - left) bytes ≡ rest)
read_ends bytes ps rest left all h size =
    let known = read_spelled bytes (ps, rest) all h in
    let whole : length bytes ≡ length (pairs_bytes ps) + length rest = ap length known.1
    ∙ length-append (pairs_bytes ps) rest in
    let front : length bytes - left ≡ length (pairs_bytes ps) = omega (arith, whole, size) in (
      omega (arith, whole, size),
      (λ i. take (front i) (known.1 i))
          ∙ take-append-le (length (pairs_bytes ps)) (pairs_bytes ps) rest (omega arith)
          ∙ take_all (length (pairs_bytes ps)) (pairs_bytes ps) (omega arith),
      (λ i. drop (front i) (known.1 i)) ∙ drop-append_seam (pairs_bytes ps) rest,
    )
