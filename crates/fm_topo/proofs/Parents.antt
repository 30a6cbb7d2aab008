-- The path above a path stands before it.
use Rattle.std.proofs.Common.{◌≡◌, ◌<◌, ℕ, zero, suc, Bool, true, false, cond, ◌||◌, List, [], ◌∷◌}
use Rattle.std.proofs.Common.{◌++◌, length, map, drop, refl, arith, ap, sym, ◌∙◌, nat_lt}
use Rattle.std.proofs.Common.{true≢false}
use Rattle.std.specs.Prelude.{◌==◌, if◌then◌else◌}
use Rattle.std.specs.List.{list_any, slice_split, onto_first, position_or_len}
use Rattle.std.specs.declared.cmp.Ordering.{Ordering}
use Rattle.std.specs.declared.cmp.Ordering.TheVariants.{Less}
use Rattle.std.specs.Ordering.{ordering_then}
use Rattle.std.specs.Cmp.{tied_itself}
use Rattle.std.proofs.lemmas.Grind.{common_steps}
use Rattle.fm_name.specs.Path.{part_of, parts_of}
use Rattle.fm_name.specs.Order.{parts_cmp, path_cmp}
use Rattle.fm_name.specs.OrderLaws.{part_cmp_total}
use Rattle.fm_name.proofs.Cutting.{split_none, some_text, count_map}
use Rattle.fm_topo.specs.Fault.{parent_of}

abbrev slashes : List ℕ → Bool
slashes bytes = list_any (λ x. x == 47) bytes

none_at : (x : ℕ) (xs : List ℕ) (t : Bool) → (x == 47) ≡ t
    → (slashes xs ≡ false → position_or_len (λ b. b == 47) xs ≡ length xs)
    → (t || slashes xs) ≡ false
    → position_or_len (λ b. b == 47) (x ∷ xs) ≡ length (x ∷ xs)
none_at x xs true e more h = absurd (true≢false h)
none_at x xs false e more h = rw e (omega (arith, more h))

none_inside : (xs : List ℕ) → slashes xs ≡ false → position_or_len (λ b. b == 47) xs ≡ length xs
none_inside [] h = refl
none_inside (x ∷ xs) h = none_at x xs (x == 47) refl (none_inside xs) h

onto_front : (x : ℕ) (parts rest : List (List ℕ)) → 0 < length parts
    → onto_first x (parts ++ rest) ≡ onto_first x parts ++ rest
onto_front x [] rest h = absurd (omega arith)
onto_front x (p ∷ ps) rest h = refl

-- the parts of the path above, and one more
abbrev IsLonger : List (List ℕ) → List (List ℕ) → Type 0
IsLonger parts above = (last : List ℕ) × (parts ≡ above ++ (last ∷ []))

more_at : (b : ℕ) (bs : List ℕ) (s : Bool)
    → IsLonger (slice_split (λ x. x == 47) bs) (slice_split (λ x. x == 47) (parent_of bs))
    → IsLonger (cond s ([] ∷ slice_split (λ x. x == 47) bs)
    (onto_first b (slice_split (λ x. x == 47) bs)))
    (cond s ([] ∷ slice_split (λ x. x == 47) (parent_of bs))
    (onto_first b (slice_split (λ x. x == 47) (parent_of bs))))
more_at b bs true l = (l.0, ap (λ r. [] ∷ r) l.1)
more_at b bs false l = (
  l.0,
  ap (onto_first b) l.1
      ∙ onto_front b (slice_split (λ x. x == 47) (parent_of bs)) (l.0 ∷ [])
      (some_text (λ x. x == 47) (parent_of bs)),
)

last_at : (b : ℕ) (bs : List ℕ) (s : Bool) → (s || false) ≡ true → slashes bs ≡ false
    → IsLonger (cond s ([] ∷ slice_split (λ x. x == 47) bs)
    (onto_first b (slice_split (λ x. x == 47) bs))) ([] ∷ [])
last_at b bs true h e = (bs, ap (λ r. [] ∷ r) (split_none (λ x. x == 47) bs (none_inside bs e)))
last_at b bs false h e = absurd (true≢false (sym h))

longer_at : (b : ℕ) (bs : List ℕ) (t : Bool) → slashes bs ≡ t
    → (slashes bs ≡ true → IsLonger (slice_split (λ x. x == 47) bs)
    (slice_split (λ x. x == 47) (parent_of bs)))
    → (b == 47 || t) ≡ true
    → IsLonger (slice_split (λ x. x == 47) (b ∷ bs))
    (slice_split (λ x. x == 47) (if t then b ∷ parent_of bs else []))
longer_at b bs true e more h = more_at b bs (b == 47) (more e)
longer_at b bs false e more h = last_at b bs (b == 47) h e

longer : (xs : List ℕ) → slashes xs ≡ true
    → IsLonger (slice_split (λ x. x == 47) xs) (slice_split (λ x. x == 47) (parent_of xs))
longer [] h = absurd (true≢false (sym h))
longer (b ∷ bs) h = longer_at b bs (slashes bs) refl (longer bs) h

or_more : (a b : Bool) → b ≡ true → (a || b) ≡ true
or_more true b h = refl
or_more false b h = h

slashes_drop : (n : ℕ) (xs : List ℕ) → slashes (drop n xs) ≡ true → slashes xs ≡ true
slashes_drop zero xs h = h
slashes_drop (suc n) [] h = h
slashes_drop (suc n) (x ∷ xs) h = or_more (x == 47) (slashes xs) (slashes_drop n xs h)

parent_drop : (n : ℕ) (xs : List ℕ) → slashes (drop n xs) ≡ true
    → drop n (parent_of xs) ≡ parent_of (drop n xs)
parent_drop zero xs h = refl
parent_drop (suc n) [] h = absurd (true≢false (sym h))
parent_drop (suc n) (x ∷ xs) h = rw (slashes_drop n xs h) (parent_drop n xs h)

-- more than one part is parted by a slash
parted_at : (xs : List ℕ) (t : Bool) → slashes xs ≡ t
    → nat_lt 1 (length (map part_of (slice_split (λ b. b == 47) xs))) ≡ true → t ≡ true
parted_at xs true e h = refl
parted_at xs false e h =
    let n = count_map part_of (slice_split (λ b. b == 47) xs) in
    let s = ap length (split_none (λ b. b == 47) xs (none_inside xs e)) in
    let k : 1 < length (map part_of (slice_split (λ b. b == 47) xs)) =
    grind (arith, common_steps) in
    absurd (omega (arith, n, s, k))

parts_less : (xs : List (List ℕ)) (last : List ℕ)
    → parts_cmp (map part_of xs) (map part_of (xs ++ (last ∷ []))) ≡ Less
unfolding parts_cmp
parts_less [] last = refl
parts_less (x ∷ xs) last = rw (tied_itself part_cmp_total (part_of x)) (parts_less xs last)

then_less : (o p : Ordering) → o ≡ Less → ordering_then o p ≡ Less
then_less o p e = rw e refl

pub parent_less : (path : List ℕ) → nat_lt 1 (length (parts_of path)) ≡ true
    → path_cmp (parent_of path) path ≡ Less
unfolding path_cmp parts_of
parent_less path h =
    let s : slashes (drop 6 path) ≡ true = parted_at (drop 6 path) (slashes (drop 6 path)) refl h in
    let l = longer (drop 6 path) s in
    let e : slice_split (λ b. b == 47) (drop 6 (parent_of path))
    ≡ slice_split (λ b. b == 47) (parent_of (drop 6 path)) =
    ap (slice_split (λ b. b == 47)) (parent_drop 6 path s) in
    let p : parts_cmp (map part_of (slice_split (λ b. b == 47) (drop 6 (parent_of path))))
    (map part_of (slice_split (λ b. b == 47) (drop 6 path))) ≡ Less =
    ap (λ z. parts_cmp (map part_of z) (map part_of (slice_split (λ b. b == 47) (drop 6 path)))) e
    ∙ (ap (λ z. parts_cmp (map part_of (slice_split (λ b. b == 47) (parent_of (drop 6 path))))
    (map part_of z)) l.1
    ∙ parts_less (slice_split (λ b. b == 47) (parent_of (drop 6 path))) l.0) in
    then_less _ _ p
