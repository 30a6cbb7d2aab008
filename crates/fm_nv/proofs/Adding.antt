-- A list with one more pair at its end.
use Rattle.std.proofs.Common.{◌≡◌, ℕ, suc, ◌+◌, ◌<◌, ◌≤◌, max, Bool, true, false, not, nat_le}
use Rattle.std.proofs.Common.{bytes_eq, IsTrue, List, Some, None, if◌then◌else◌, refl, arith}
use Rattle.std.specs.Str.{is_utf8}
use Rattle.std.proofs.lemmas.Bool.{false≢true, le-leb, leb-false, ltb-false}
use Rattle.fm_nv.specs.Data.{Pairs, Data, no_pairs, pair, count, depth, data_depth, add, has}
use Rattle.fm_nv.specs.Spelled.{is_pair_name, value_fits, pairs_fit, distinct, is_counted}
use Rattle.fm_nv.specs.Spelled.{IsSpelledList}
use Rattle.fm_nv.specs.Refusal.{refusal, is_within}
use Rattle.fm_nv.specs.declared.fault.NvFault.TheVariants.{BadName, Twice, TooDeep, TooMany}
use Rattle.fm_bytes.proofs.Booleans.{and_parts, and_true, or_parts, or_false, not_false, not_true}
use Rattle.fm_bytes.proofs.Booleans.{differ_back}

-- the list is as deep as it was, or one deeper than the value
pub depth_add : (k : List ℕ) (d : Data) (ps : Pairs)
    → depth (add k d ps) ≡ max (suc (data_depth d)) (depth ps)
depth_add k d no_pairs = refl
depth_add k d (pair j e ps) = omega (arith, depth_add k d ps)

-- there is one pair more
pub count_add : (k : List ℕ) (d : Data) (ps : Pairs) → count (add k d ps) ≡ count ps + 1
count_add k d no_pairs = refl
count_add k d (pair j e ps) = omega (arith, count_add k d ps)

-- a pair more has a spelling where the others and it have one
pub pairs_fit_add : (k : List ℕ) (d : Data) (ps : Pairs) → IsTrue (is_pair_name k)
    → IsTrue (value_fits d) → IsTrue (pairs_fit ps) → IsTrue (pairs_fit (add k d ps))
pairs_fit_add k d no_pairs name value all =
    and_true (is_pair_name k) _ name (and_true (value_fits d) true value refl)
pairs_fit_add k d (pair j e ps) name value all =
    let one = and_parts (is_pair_name j) _ all in
    let two = and_parts (value_fits e) _ one.1 in
    and_true (is_pair_name j) _ one.0
    (and_true (value_fits e) _ two.0 (pairs_fit_add k d ps name value two.1))

-- another name is there as before
has_add : (j k : List ℕ) (d : Data) (ps : Pairs) → has j ps ≡ false → bytes_eq k j ≡ false
    → has j (add k d ps) ≡ false
has_add j k d no_pairs none other = or_false (bytes_eq k j) false other refl
has_add j k d (pair i e ps) none other =
    let parts = or_parts (bytes_eq i j) (has j ps) none in
    or_false (bytes_eq i j) _ parts.0 (has_add j k d ps parts.1 other)

-- a new name more leaves the names distinct
pub distinct_add : (k : List ℕ) (d : Data) (ps : Pairs) → has k ps ≡ false → IsTrue (distinct ps)
    → IsTrue (distinct (add k d ps))
distinct_add k d no_pairs new all = refl
distinct_add k d (pair j e ps) new all =
    let parts = or_parts (bytes_eq j k) (has k ps) new in
    let one = and_parts (not (has j ps)) _ all in
    and_true (not (has j (add k d ps))) _
    (not_true _ (has_add j k d ps (not_back (has j ps) one.0) (differ_back j k parts.0)))
    (distinct_add k d ps parts.1 one.1) where
      not_back : (a : Bool) → IsTrue (not a) → a ≡ false
      not_back true h = absurd (false≢true h)
      not_back false h = refl

-- where no fault was found, each test for one failed
none_found : (a b c d : Bool)
    → (if a then Some BadName
    else (if b then Some Twice
    else (if c then Some TooDeep else (if d then Some TooMany else None)))) ≡ None
    → (a ≡ false) × (b ≡ false) × (c ≡ false) × (d ≡ false)
none_found true b c d h = cc
none_found false true c d h = cc
none_found false false true d h = cc
none_found false false false true h = cc
none_found false false false false h = (refl, refl, refl, refl)

-- a pair that nothing refuses has a name, and there is room for it
pub name_allowed : (k : List ℕ) (d : Data) (ps : Pairs) → IsTrue (is_utf8 k) → refusal k d ps ≡ None
    → IsTrue (is_pair_name k) × (count ps < 65535)
unfolding refusal
name_allowed k d ps text none =
    let tests = none_found _ _ _ _ none in
    let sized = not_false _ tests.0 in
    let room = or_parts (nat_le 65535 (count ps)) (not (is_within d)) tests.3 in
    (and_true (is_utf8 k) _ text sized, leb-false _ _ room.0)

-- a list with a pair that nothing refuses has a spelling
pub spelled_add : (k : List ℕ) (d : Data) (ps : Pairs) → IsSpelledList ps → IsTrue (is_utf8 k)
    → IsTrue (value_fits d) → refusal k d ps ≡ None
    → IsSpelledList (add k d ps)
unfolding refusal
spelled_add k d ps old text value none =
    let tests = none_found _ _ _ _ none in
    let sized = not_false _ tests.0 in
    let name = and_true (is_utf8 k) _ text sized in
    let room = or_parts (nat_le 65535 (count ps)) (not (is_within d)) tests.3 in
    let parts = and_parts (is_counted ps) _ old.fits in
    let counted = and_parts (nat_le (count ps) 65535) _ parts.0 in
    let few : count (add k d ps) ≤ 65535 = omega (arith, count_add k d ps, leb-false _ _ room.0) in
    let shallow : depth (add k d ps) ≤ 8 = ltb-false _ _ tests.2 in
    record {
      fits = and_true (is_counted (add k d ps)) _
          (and_true (nat_le (count (add k d ps)) 65535) _ (le-leb _ _ few)
          (distinct_add k d ps tests.1 counted.1)) (pairs_fit_add k d ps name value parts.1);
      shallow = shallow;
    }
