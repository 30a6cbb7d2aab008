-- No two paths have the same parts.
use Rattle.std.proofs.Common.{◌≡◌, ◌<◌, ◌+◌, ◌⊎◌, ℕ, suc, Bool, true, false, List, [], ◌∷◌, ◌++◌}
use Rattle.std.proofs.Common.{length, map, take, drop, refl, arith, nat_eq, ap, sym, ◌∙◌, subst}
use Rattle.std.proofs.Common.{IsTrue, ⊎_elim, not, add-one, one-add}
use Rattle.std.proofs.lemmas.List.Sums.{prefix_len-le-length}
use Rattle.std.proofs.Math.Nat.{eq-or-lt_of_le}
use Rattle.std.proofs.lemmas.List.{take-append-drop}
use Rattle.std.specs.Cmp.{tied_itself}
use Rattle.std.specs.Cmp.Lexicographic.{bytes_decides, slice_cmp, nat_list_cmp_total}
use Rattle.std.specs.declared.cmp.Ordering.{Ordering}
use Rattle.std.specs.declared.cmp.Ordering.TheVariants.{Less, Equal, Greater}
use Rattle.std.specs.Ordering.{nat_cmp, ordering_then}
use Rattle.std.proofs.lemmas.Cmp.{ranked}
use Rattle.fm_name.specs.Order.{part_cmp, parts_cmp, path_cmp}
use Rattle.fm_name.specs.OrderLaws.{bytes_tie, then_equal}
use Rattle.std.specs.Prelude.{◌==◌, codes, decimal}
use Rattle.std.specs.List.{list_all, slice_split, position_or_len, before_first, after_first}
use Rattle.std.specs.List.{join_with_byte, starts_with}
use Rattle.std.proofs.lemmas.Grind.{common_steps}
use Rattle.std.proofs.lemmas.List.Splits.{join_with_byte-slice_split}
use Rattle.fm_name.specs.Path.{PathPart, is_path, is_part, are_parts, is_instance, part_of}
use Rattle.fm_name.specs.Path.{parts_of}
use Rattle.fm_bytes.specs.Decimals.{number_of}
use Rattle.fm_bytes.proofs.Numerals.{numeral_text}
use Rattle.fm_name.proofs.Digits.{has_equals, instance_parts}
use Rattle.fm_name.proofs.Cutting.{all_left}

-- instances with one value are the same: each is its number in decimal
same_instance : (xs ys : List ℕ) → IsTrue (is_instance xs) → IsTrue (is_instance ys)
    → number_of xs ≡ number_of ys → xs ≡ ys
same_instance xs ys p q e =
    let a = instance_parts xs p in
    let b = instance_parts ys q in
    numeral_text xs a.numeral (omega (arith, a.small))
    ∙ (ap decimal e ∙ sym (numeral_text ys b.numeral (omega (arith, b.small))))

-- a part is its name, `=` and its instance
rejoin_step : (n x : ℕ) (xs : List ℕ) → take n xs ++ (61 ∷ drop (n + 1) xs) ≡ xs
    → take (1 + n) (x ∷ xs) ++ (61 ∷ drop (1 + n + 1) (x ∷ xs)) ≡ x ∷ xs
rejoin_step n x xs h = let k = rw add-one at h in simp (one-add, add-one) (ap (λ r. x ∷ r) k)

rejoin_at : (x : ℕ) (xs : List ℕ) (t : Bool) → (x == 61) ≡ t
    → (position_or_len (λ b. b == 61) xs < length xs
    → before_first (λ b. b == 61) xs ++ (61 ∷ after_first (λ b. b == 61) xs) ≡ xs)
    → position_or_len (λ b. b == 61) (x ∷ xs) < length (x ∷ xs)
    → before_first (λ b. b == 61) (x ∷ xs) ++ (61 ∷ after_first (λ b. b == 61) (x ∷ xs)) ≡ x ∷ xs
rejoin_at x xs true e more h = let k : x ≡ 61 = grind (arith, common_steps) in
    rw e (ap (λ b. b ∷ xs) (sym k))
rejoin_at x xs false e more h =
    let k : 1 + position_or_len (λ b. b == 61) xs < suc (length xs) = rw e at h in
    rw e (rejoin_step (position_or_len (λ b. b == 61) xs) x xs (more (omega arith)))

rejoin : (xs : List ℕ) → position_or_len (λ b. b == 61) xs < length xs
    → before_first (λ b. b == 61) xs ++ (61 ∷ after_first (λ b. b == 61) xs) ≡ xs
rejoin [] h = absurd (omega arith)
rejoin (x ∷ xs) h = rejoin_at x xs (x == 61) refl (rejoin xs) h

instance_of : (xs : List ℕ) → IsTrue (is_part xs)
    → IsTrue (is_instance (after_first (λ b. b == 61) xs))
unfolding is_part
instance_of xs h = grind (arith, common_steps)

equals_inside : (xs : List ℕ) → IsTrue (is_part xs) → position_or_len (λ b. b == 61) xs < length xs
equals_inside xs h =
    ⊎_elim (λ e. absurd (has_equals xs e h)) (λ l. l)
    (eq-or-lt_of_le (prefix_len-le-length (λ b. not (b == 61)) xs))

join_same : {a b c d : List ℕ} → a ≡ b → c ≡ d → a ++ (61 ∷ c) ≡ b ++ (61 ∷ d)
join_same e f = cc

texts_cons : {x y : List ℕ} {xs ys : List (List ℕ)} → x ≡ y → xs ≡ ys → x ∷ xs ≡ y ∷ ys
texts_cons e f = cc

same_part : (xs ys : List ℕ) → IsTrue (is_part xs) → IsTrue (is_part ys) → part_of xs ≡ part_of ys
    → xs ≡ ys
same_part xs ys p q e =
    let n : before_first (λ b. b == 61) xs ≡ before_first (λ b. b == 61) ys = ap (λ r. r.name) e in
    let v : number_of (after_first (λ b. b == 61) xs)
    ≡ number_of (after_first (λ b. b == 61) ys) = ap (λ r. r.instance) e in
    let i = same_instance (after_first (λ b. b == 61) xs) (after_first (λ b. b == 61) ys)
    (instance_of xs p) (instance_of ys q) v in
    sym (rejoin xs (equals_inside xs p)) ∙ (join_same n i ∙ rejoin ys (equals_inside ys q))

same_texts : (xs ys : List (List ℕ)) → IsTrue (list_all is_part xs) → IsTrue (list_all is_part ys)
    → map part_of xs ≡ map part_of ys → xs ≡ ys
same_texts [] [] p q e = refl
same_texts [] (y ∷ ys) p q e = cc
same_texts (x ∷ xs) [] p q e = cc
same_texts (x ∷ xs) (y ∷ ys) p q e =
    let a = all_left is_part (x ∷ xs) xs x refl p in
    let b = all_left is_part (y ∷ ys) ys y refl q in
    let h : part_of x ≡ part_of y = cc in
    let t : map part_of xs ≡ map part_of ys = cc in
    texts_cons (same_part x y a.0 b.0 h) (same_texts xs ys a.1 b.1 t)

parts_texts : (xs ys : List ℕ) → parts_of xs ≡ parts_of ys
    → map part_of (slice_split (λ b. b == 47) (drop 6 xs))
    ≡ map part_of (slice_split (λ b. b == 47) (drop 6 ys))
unfolding parts_of
parts_texts xs ys e = e

same_tails : (xs ys : List ℕ) → IsTrue (list_all is_part (slice_split (λ b. b == 47) xs))
    → IsTrue (list_all is_part (slice_split (λ b. b == 47) ys))
    → map part_of (slice_split (λ b. b == 47) xs) ≡ map part_of (slice_split (λ b. b == 47) ys)
    → xs ≡ ys
same_tails xs ys p q e =
    sym (join_with_byte-slice_split 47 xs)
    ∙ (ap (join_with_byte 47) (same_texts _ _ p q e) ∙ join_with_byte-slice_split 47 ys)

-- a path is the scheme and its parts
pub path_texts : (xs : List ℕ) → IsTrue (is_path xs)
    → (xs ≡ codes "hc:///" ++ drop 6 xs)
    × IsTrue (list_all is_part (slice_split (λ b. b == 47) (drop 6 xs)))
unfolding is_path are_parts
path_texts xs h =
    let s : starts_with nat_eq xs (codes "hc:///") ≡ true = grind (arith, common_steps) in
    let l : list_all is_part (slice_split (λ b. b == 47) (drop 6 xs)) ≡ true =
    grind (arith, common_steps) in
    let e : codes "hc:///" ≡ take 6 xs = (bytes_decides (codes "hc:///") (take 6 xs)).0 s in
    (sym (ap (λ r. r ++ drop 6 xs) e ∙ take-append-drop 6 xs), l)

-- two paths with the same parts are the same
pub same_parts : (xs ys : List ℕ) → IsTrue (is_path xs) → IsTrue (is_path ys)
    → parts_of xs ≡ parts_of ys → xs ≡ ys
same_parts xs ys p q e =
    let a = path_texts xs p in
    let b = path_texts ys q in
    let t : drop 6 xs ≡ drop 6 ys = same_tails (drop 6 xs) (drop 6 ys) a.1 b.1 (parts_texts xs ys e)
    in
    a.0 ∙ (ap (λ r. codes "hc:///" ++ r) t ∙ sym b.0)

-- ---- the order of paths, by their parts
part_tie : (p q : PathPart) → part_cmp p q ≡ Equal → p ≡ q
unfolding part_cmp
part_tie p q e =
    let h = then_equal (slice_cmp nat_cmp p.name q.name) (nat_cmp p.instance q.instance) e in
    let a : p.name ≡ q.name = bytes_tie p.name q.name h.0 in
    let b : p.instance ≡ q.instance = ranked p.instance q.instance Equal (sym h.1) in
    λ i. record { name = a i; instance = b i }

-- lists of parts that the order ties are the same
pub parts_tie : (ps qs : List PathPart) → parts_cmp ps qs ≡ Equal → ps ≡ qs
unfolding parts_cmp
parts_tie [] [] e = refl
parts_tie [] (q ∷ qs) e = cc
parts_tie (p ∷ ps) [] e = cc
parts_tie (p ∷ ps) (q ∷ qs) e =
    let h = then_equal (part_cmp p q) (parts_cmp ps qs) e in
    let a = part_tie p q h.0 in
    let b = parts_tie ps qs h.1 in
    λ i. a i ∷ b i

then_is : (o p : Ordering) → (o ≡ Equal → p ≡ Equal) → ordering_then o p ≡ o
then_is Less p h = refl
then_is Equal p h = h refl
then_is Greater p h = refl

-- paths are in the order of their parts
pub path_cmp_is : (xs ys : List ℕ) → IsTrue (is_path xs) → IsTrue (is_path ys)
    → path_cmp xs ys ≡ parts_cmp (parts_of xs) (parts_of ys)
unfolding path_cmp
path_cmp_is xs ys p q =
    then_is (parts_cmp (parts_of xs) (parts_of ys)) (slice_cmp nat_cmp xs ys)
    (λ e. let s = same_parts xs ys p q (parts_tie _ _ e) in
    subst (λ z. slice_cmp nat_cmp xs z ≡ Equal) s (tied_itself nat_list_cmp_total xs))
