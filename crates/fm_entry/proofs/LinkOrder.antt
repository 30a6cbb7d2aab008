-- The order of broken links, from one to the next.
use Rattle.std.proofs.Common.{◌≡◌, ℕ, suc, ◌+◌, ◌-◌, ◌<◌, ◌≤◌, ◌&&◌, Bool, true, false}
use Rattle.std.proofs.Common.{IsTrue, List, [], ◌∷◌, length, drop, get_or, drop-cons}
use Rattle.std.proofs.Common.{length-drop, refl, sym, ap, ◌∙◌, arith}
use Rattle.std.specs.List.{list_all}
use Rattle.std.proofs.lemmas.Bool.Decides.{nat_tests}
use Rattle.fm_bytes.proofs.Booleans.{and_parts, and_true}
use Rattle.fm_entry.specs.declared.broken.Broken.{Broken}
use Rattle.fm_entry.specs.Words.{is_link_before, links_ascend}

-- what stands before a link stands before all that the link stands before
before_more : (x y z : Broken) → IsTrue (is_link_before x y) → IsTrue (is_link_before y z)
    → IsTrue (is_link_before x z)
before_more x y z h k = grind (arith, nat_tests)

before_all : (x y : Broken) (zs : List Broken) → IsTrue (is_link_before x y)
    → IsTrue (list_all (is_link_before y) zs)
    → IsTrue (list_all (is_link_before x) zs)
before_all x y [] h k = refl
before_all x y (z ∷ zs) h k =
    let parts = and_parts (is_link_before y z) _ k in
    and_true (is_link_before x z) _ (before_more x y z h parts.0) (before_all x y zs h parts.1)

both_same : (a b : Bool) → (IsTrue b → IsTrue a) → (a && b) ≡ b
both_same a true f = ap (λ (t : Bool). t && true) (f refl)
both_same true false f = refl
both_same false false f = refl

-- a link that stands before the next one stands before all where they ascend
ascend_next : (x y : Broken) (ys : List Broken) → IsTrue (is_link_before x y)
    → links_ascend (x ∷ y ∷ ys) ≡ links_ascend (y ∷ ys)
ascend_next x y ys h =
    both_same (list_all (is_link_before x) (y ∷ ys)) (links_ascend (y ∷ ys)) (λ k.
    let parts = and_parts (list_all (is_link_before y) ys) _ k in
    and_true (is_link_before x y) _ h (before_all x y ys h parts.0))

ascend_breaks : (x y : Broken) (ys : List Broken) → is_link_before x y ≡ false
    → links_ascend (x ∷ y ∷ ys) ≡ false
ascend_breaks x y ys h =
    ap (λ (t : Bool). (t && list_all (is_link_before x) ys) && links_ascend (y ∷ ys)) h

-- the list from a place on, as two items and the rest
two_from : (xs : List Broken) (at : ℕ) (d : Broken) → 1 ≤ at → at < length xs
    → drop (at - 1) xs ≡ get_or xs (at - 1) d ∷ get_or xs at d ∷ drop (suc at) xs
two_from xs at d some room =
    let back : suc (at - 1) ≡ at = omega arith in
    drop-cons xs (at - 1) d (omega arith)
    ∙ ap (λ (n : ℕ). get_or xs (at - 1) d ∷ drop n xs) back
    ∙ ap (λ (ys : List Broken). get_or xs (at - 1) d ∷ ys) (drop-cons xs at d room)

-- the pair before a place is in order
pub ascend_more : (xs : List Broken) (at : ℕ) (d : Broken) → 1 ≤ at → at < length xs
    → is_link_before (get_or xs (at - 1) d) (get_or xs at d) ≡ true
    → links_ascend (drop (at - 1) xs) ≡ links_ascend (drop ((at + 1) - 1) xs)
ascend_more xs at d some room h =
    let same : at ≡ (at + 1) - 1 = omega arith in
    ap links_ascend (two_from xs at d some room)
    ∙ ascend_next (get_or xs (at - 1) d) (get_or xs at d) (drop (suc at) xs) h
    ∙ ap links_ascend (sym (drop-cons xs at d room))
    ∙ ap (λ (n : ℕ). links_ascend (drop n xs)) same

-- the pair before a place is out of order
pub ascend_fails : (xs : List Broken) (at : ℕ) (d : Broken) → 1 ≤ at → at < length xs
    → is_link_before (get_or xs (at - 1) d) (get_or xs at d) ≡ false
    → links_ascend (drop (at - 1) xs) ≡ false
ascend_fails xs at d some room h =
    ap links_ascend (two_from xs at d some room)
    ∙ ascend_breaks (get_or xs (at - 1) d) (get_or xs at d) (drop (suc at) xs) h

few_ascend : (xs : List Broken) → length xs ≤ 1 → links_ascend xs ≡ true
few_ascend [] h = refl
few_ascend (x ∷ []) h = refl
few_ascend (x ∷ y ∷ xs) h = absurd (omega arith)

-- no pair is left
pub ascend_ends : (xs : List Broken) (at : ℕ) → length xs ≤ at
    → links_ascend (drop (at - 1) xs) ≡ true
ascend_ends xs at h =
    few_ascend (drop (at - 1) xs) (let few = length-drop (at - 1) xs in omega arith)
