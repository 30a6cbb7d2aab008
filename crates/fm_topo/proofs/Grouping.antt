-- Places in groups, one more.
use Rattle.std.proofs.Common.{◌≡◌, ℕ, suc, ◌+◌, Bool, true, false, cond, bytes_eq, List, [], ◌∷◌}
use Rattle.std.proofs.Common.{◌++◌, length, Option, refl, sym, ap, ◌∙◌, arith, take}
use Rattle.std.proofs.Common.{get_or, ◌<◌, length-take-le, nat_cmp, flat_map, map}
use Rattle.std.specs.Prelude.{if◌then◌else◌, unwrap_or}
use Rattle.std.specs.List.{join_by}
use Rattle.std.specs.Ordering.{is_eq}
use Rattle.std.specs.Cmp.Lexicographic.{slice_cmp}
use Rattle.std.proofs.Math.Seq.{take-suc}
use Rattle.std.proofs.lemmas.Slice.Eq.{bytes_eq-Decides}
use Rattle.std.proofs.lemmas.Map.Text.{is_eq-slice_cmp}
use Rattle.fm_topo.specs.Groups.{numbers_at, text_places}

-- a list with one text more
pub places_push : (q : List ℕ) (at : ℕ) (ts : List (List ℕ)) (t : List ℕ)
    → text_places q at (ts ++ t ∷ [])
    ≡ (if bytes_eq t q then text_places q at ts ++ (at + length ts) ∷ [] else text_places q at ts)
places_push q at [] t = at_end (bytes_eq t q) where
  at_end : (b : Bool) → (if b then at ∷ [] else []) ≡ (if b then (at + 0) ∷ [] else [])
  at_end true = ap (λ (n : ℕ). n ∷ []) (omega arith)
  at_end false = refl
places_push q at (x ∷ ts) t =
    step (bytes_eq x q) (bytes_eq t q) (text_places q (suc at) ts) (places_push q (suc at) ts t)
  where
    step : (b c : Bool) (ps : List ℕ) {qs : List ℕ}
        → qs ≡ (if c then ps ++ (suc at + length ts) ∷ [] else ps)
        → (if b then at ∷ qs else qs)
        ≡ (if c then (if b then at ∷ ps else ps)
        ++ (at + suc (length ts)) ∷ [] else (if b then at ∷ ps else ps))
    step true true ps e =
        ap (λ (xs : List ℕ). at ∷ xs) (e ∙ ap (λ (n : ℕ). ps ++ n ∷ []) (omega arith))
    step true false ps e = ap (λ (xs : List ℕ). at ∷ xs) e
    step false true ps e = e ∙ ap (λ (n : ℕ). ps ++ n ∷ []) (omega arith)
    step false false ps e = e

-- what an update leaves at a text
pub updated : (text q : List ℕ) (w o n : Option (List ℕ))
    → n ≡ cond (is_eq (slice_cmp nat_cmp text q)) w o
    → unwrap_or n [] ≡ (if bytes_eq text q then unwrap_or w [] else unwrap_or o [])
updated text q w o n e =
    ap (λ (x : Option (List ℕ)). unwrap_or x []) e
    ∙ ap (λ (b : Bool). unwrap_or (cond b w o) []) (is_eq-slice_cmp text q)
    ∙ at_choice (bytes_eq text q) where
      at_choice : (b : Bool)
          → unwrap_or (cond b w o) [] ≡ (if b then unwrap_or w [] else unwrap_or o [])
      at_choice true = refl
      at_choice false = refl

-- one place more at its text, and the others as they were
pub one_more : (text q : List ℕ) (old : List (List ℕ × List ℕ)) (at : ℕ) (xs ys mid new : List ℕ)
    → new ≡ (if bytes_eq text q then ys else mid) → ys ≡ xs ++ at ∷ []
    → mid ≡ (if bytes_eq text q then [] else numbers_at old q) → xs ≡ numbers_at old text
    → new ≡ (if bytes_eq text q then numbers_at old q ++ at ∷ [] else numbers_at old q)
one_more text q old at xs ys mid new put pushed taken found =
    by_test (bytes_eq text q) refl put taken where
      by_test : (b : Bool) → bytes_eq text q ≡ b → new ≡ (if b then ys else mid)
          → mid ≡ (if b then [] else numbers_at old q)
          → new ≡ (if b then numbers_at old q ++ at ∷ [] else numbers_at old q)
      by_test true e p t =
          p ∙ pushed
          ∙ ap (λ (zs : List ℕ). zs ++ at ∷ [])
          (found ∙ ap (numbers_at old) ((bytes_eq-Decides text q).0 e))
      by_test false e p t = p ∙ t

-- one text more is grouped
pub grouped_more : (q : List ℕ) (ts : List (List ℕ)) (at : ℕ) (t d : List ℕ) (old new : List ℕ)
    → at < length ts → t ≡ get_or ts at d → old ≡ text_places q 0 (take at ts)
    → new ≡ (if bytes_eq t q then old ++ at ∷ [] else old)
    → new ≡ text_places q 0 (take (at + 1) ts)
grouped_more q ts at t d old new below is before put =
    let size : 0 + length (take at ts) ≡ at = omega (arith, length-take-le at ts (omega arith)) in
    let one : at + 1 ≡ suc at = omega arith in
    let more : take (at + 1) ts ≡ take at ts ++ t ∷ [] =
    ap (λ (n : ℕ). take n ts) one ∙ take-suc ts at d below
    ∙ ap (λ (x : List ℕ). take at ts ++ x ∷ []) (sym is) in
    put ∙ ap (λ (ps : List ℕ). if bytes_eq t q then ps ++ at ∷ [] else ps) before
    ∙ ap (λ (n : ℕ). if bytes_eq t q then text_places q 0 (take at ts)
    ++ n ∷ [] else text_places q 0 (take at ts)) (sym size)
    ∙ sym (places_push q 0 (take at ts) t) ∙ ap (text_places q 0) (sym more)

joined_behind : {A : Type 0} (f : A → List ℕ) (sep : List ℕ) (xs : List A)
    → flat_map (λ y. sep ++ f y) xs ≡ flat_map (λ y. sep ++ y) (map f xs)
joined_behind f sep [] = refl
joined_behind f sep (x ∷ xs) = ap (λ (ys : List ℕ). (sep ++ f x) ++ ys) (joined_behind f sep xs)

-- texts that are joined, by their bytes
pub joined : {A : Type 0} (f : A → List ℕ) (sep : List ℕ) (xs : List A)
    → join_by f sep xs ≡ join_by (λ name. name) sep (map f xs)
joined f sep [] = refl
joined f sep (x ∷ xs) = ap (λ (ys : List ℕ). f x ++ ys) (joined_behind f sep xs)
