-- Parts with which two texts begin alike are passed over when the texts are compared.
use Rattle.std.proofs.Common.{◌≡◌, ◌<◌, ◌≤◌, ◌+◌, ℕ, Bool, true, false, ◌&&◌, List, [], ◌∷◌, ◌++◌}
use Rattle.std.proofs.Common.{length, map, take, drop, get_or, refl, arith, ap, sym, ◌∙◌}
use Rattle.std.proofs.Common.{subst, IsTrue}
use Rattle.std.specs.Prelude.{◌==◌, if◌then◌else◌, codes}
use Rattle.std.specs.List.{slice_split, onto_first, list_all}
use Rattle.std.specs.Ordering.{ordering_then}
use Rattle.std.specs.Cmp.{tied_itself}
use Rattle.std.specs.Cmp.Lexicographic.{slice_cmp}
use Rattle.std.proofs.lemmas.List.{map-append, take-append-drop, drop_more, take_more_same}
use Rattle.std.proofs.lemmas.List.{length-append}
use Rattle.std.proofs.lemmas.List.Folds.{list_all-append}
use Rattle.std.proofs.lemmas.Grind.{common_steps}
use Rattle.fm_name.specs.Path.{PathPart, slash_texts, is_part, is_path, part_of}
use Rattle.fm_name.specs.Order.{part_cmp, parts_cmp}
use Rattle.fm_name.specs.OrderLaws.{part_cmp_total}
use Rattle.fm_name.specs.Shared.{AreAlike}
use Rattle.fm_name.proofs.Cutting.{some_text}
use Rattle.fm_name.proofs.Same.{path_texts}

onto_more : (b : ℕ) (cs ds : List (List ℕ)) → 0 < length cs
    → onto_first b (cs ++ ds) ≡ onto_first b cs ++ ds
onto_more b [] ds h = absurd (omega arith)
onto_more b (c ∷ cs) ds h = refl

step_texts : (b : ℕ) (p xs : List ℕ) (t : Bool) → (b == 47) ≡ t
    → slash_texts (p ++ (47 ∷ xs)) ≡ slash_texts p ++ slash_texts xs
    → slash_texts (b ∷ (p ++ (47 ∷ xs))) ≡ slash_texts (b ∷ p) ++ slash_texts xs
step_texts b p xs true e h = rw e (ap (λ r. [] ∷ r) h)
step_texts b p xs false e h = rw e
    (ap (onto_first b) h ∙ onto_more b (slash_texts p) (slash_texts xs) (some_text _ p))

-- a slash parts the texts before it from those behind it
texts_at : (p xs : List ℕ) → slash_texts (p ++ (47 ∷ xs)) ≡ slash_texts p ++ slash_texts xs
texts_at [] xs = refl
texts_at (b ∷ p) xs = step_texts b p xs (b == 47) refl (texts_at p xs)

parts_at : (p xs : List ℕ) → map part_of (slash_texts (p ++ (47 ∷ xs)))
    ≡ map part_of (slash_texts p) ++ map part_of (slash_texts xs)
parts_at p xs = ap (map part_of) (texts_at p xs)
    ∙ map-append part_of (slash_texts p) (slash_texts xs)

-- parts with which both lists begin
parts_past : (ps qs rs : List PathPart) → parts_cmp (ps ++ qs) (ps ++ rs) ≡ parts_cmp qs rs
unfolding parts_cmp
parts_past [] qs rs = refl
parts_past (p ∷ ps) qs rs =
    ap (λ o. ordering_then o (slice_cmp part_cmp (ps ++ qs) (ps ++ rs)))
    (tied_itself part_cmp_total p)
    ∙ parts_past ps qs rs

order_at : (p xs ys : List ℕ)
    → parts_cmp (map part_of (slash_texts (p ++ (47 ∷ xs))))
    (map part_of (slash_texts (p ++ (47 ∷ ys))))
    ≡ parts_cmp (map part_of (slash_texts xs)) (map part_of (slash_texts ys))
order_at p xs ys =
    ap (λ t. parts_cmp t (map part_of (slash_texts (p ++ (47 ∷ ys))))) (parts_at p xs)
    ∙ (ap (λ t. parts_cmp (map part_of (slash_texts p) ++ map part_of (slash_texts xs)) t)
    (parts_at p ys)
    ∙ parts_past (map part_of (slash_texts p)) (map part_of (slash_texts xs))
    (map part_of (slash_texts ys)))

and_right : (a b : Bool) → (a && b) ≡ true → b ≡ true
and_right true b h = h
and_right false b h = cc

left_at : (p xs : List ℕ) → IsTrue (list_all is_part (slash_texts (p ++ (47 ∷ xs))))
    → IsTrue (list_all is_part (slash_texts xs))
left_at p xs h =
    and_right (list_all is_part (slash_texts p)) (list_all is_part (slash_texts xs))
    (sym (list_all-append is_part (slash_texts p) (slash_texts xs))
    ∙ (sym (ap (list_all is_part) (texts_at p xs)) ∙ h))

around : (xs : List ℕ) (at : ℕ) → at < length xs → get_or xs at 0 ≡ 47
    → xs ≡ take at xs ++ (47 ∷ drop (at + 1) xs)
around xs at l e = sym (take-append-drop at xs)
    ∙ ap (λ r. take at xs ++ r) (drop_more xs at 0 l ∙ ap (λ b. b ∷ drop (at + 1) xs) e)

alike_at : (xs ys : List ℕ) (at : ℕ) → at < length xs → at < length ys → take at xs ≡ take at ys
    → get_or xs at 0 ≡ 47 → get_or ys at 0 ≡ 47 → IsTrue (list_all is_part (slash_texts xs))
    → IsTrue (list_all is_part (slash_texts ys)) → AreAlike xs ys (at + 1)
alike_at xs ys at l k same e f p q =
    let a = around xs at l e in
    let b : ys ≡ take at xs ++ (47 ∷ drop (at + 1) ys) =
    around ys at k f ∙ ap (λ t. t ++ (47 ∷ drop (at + 1) ys)) (sym same) in
    record {
      ours = omega (arith, l);
      theirs = omega (arith, k);
      ours_left = left_at (take at xs) (drop (at + 1) xs)
          (subst (λ z. IsTrue (list_all is_part (slash_texts z))) a p);
      theirs_left = left_at (take at xs) (drop (at + 1) ys)
          (subst (λ z. IsTrue (list_all is_part (slash_texts z))) b q);
      order = ap (λ z. parts_cmp (map part_of (slash_texts z)) (map part_of (slash_texts ys))) a
          ∙ (ap (λ z. parts_cmp
          (map part_of (slash_texts (take at xs ++ (47 ∷ drop (at + 1) xs))))
          (map part_of (slash_texts z))) b
          ∙ order_at (take at xs) (drop (at + 1) xs) (drop (at + 1) ys));
    }

step_alike : (xs ys : List ℕ) (at alike : ℕ) (t : Bool) → (get_or xs at 0 == 47) ≡ t
    → at < length xs → at < length ys → take at xs ≡ take at ys
    → get_or xs at 0 ≡ get_or ys at 0 → IsTrue (list_all is_part (slash_texts xs))
    → IsTrue (list_all is_part (slash_texts ys)) → AreAlike xs ys alike
    → AreAlike xs ys (if get_or xs at 0 == 47 then at + 1 else alike)
step_alike xs ys at alike true e l k same here p q h =
    let x : get_or xs at 0 ≡ 47 = grind (arith, common_steps) in
    rw e (alike_at xs ys at l k same x (sym here ∙ x) p q)
step_alike xs ys at alike false e l k same here p q h = rw e h

-- the first bytes of two texts are the same, and those up to the last slash among them alike
pub record IsAlikeUpTo (xs ys : List ℕ) (at alike : ℕ) : Type 0 where
  pub same : take at xs ≡ take at ys
  pub parts : AreAlike xs ys alike

pub none_alike : (xs ys : List ℕ) → IsTrue (list_all is_part (slash_texts xs))
    → IsTrue (list_all is_part (slash_texts ys)) → IsAlikeUpTo xs ys 0 0
none_alike xs ys p q =
    record {
      same = refl;
      parts =
          record {
            ours = omega arith;
            theirs = omega arith;
            ours_left = p;
            theirs_left = q;
            order = refl;
          };
    }

pub more_alike : (xs ys : List ℕ) (at alike next : ℕ) → at < length xs → at < length ys
    → get_or xs at 0 ≡ get_or ys at 0 → next ≡ (if get_or xs at 0 == 47 then at + 1 else alike)
    → IsTrue (list_all is_part (slash_texts xs)) → IsTrue (list_all is_part (slash_texts ys))
    → IsAlikeUpTo xs ys at alike → IsAlikeUpTo xs ys (at + 1) next
more_alike xs ys at alike next l k here n p q h =
    record {
      same = take_more_same xs ys at 0 l k h.same here;
      parts = subst (AreAlike xs ys) (sym n)
          (step_alike xs ys at alike (get_or xs at 0 == 47) refl l k h.same here p q h.parts);
    }

-- a path begins with `hc:///`
pub root_len : (xs : List ℕ) → IsTrue (is_path xs) → 6 ≤ length xs
root_len xs h = let e = ap length (path_texts xs h).0 in
    omega (arith, e, length-append (codes "hc:///") (drop 6 xs))
