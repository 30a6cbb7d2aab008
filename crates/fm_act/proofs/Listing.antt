-- The paths that an actuator lists, place by place.
use Rattle.std.proofs.Common.{◌≡◌, inl, inr, ◌+◌, ◌<◌, ◌≤◌, ℕ, Bool, true, false, List, [], ◌∷◌}
use Rattle.std.proofs.Common.{◌++◌, length}
use Rattle.std.proofs.Common.{take, Option, None, Some, refl, sym, ap, ◌∙◌, arith, nat_lt}
use Rattle.std.specs.Prelude.{IfSome, slice_get, if◌then◌else◌}
use Rattle.std.proofs.lemmas.List.{take_more, take_all}
use Rattle.std.proofs.lemmas.Option.{slice_get_within, get_or_from_slice_get, slice_get-get_or}
use Rattle.std.proofs.lemmas.Bool.{cases_lt}
use Rattle.std.proofs.lemmas.Grind.{common_steps}
use Rattle.fm_act.specs.HeldPaths.{listed_at}

-- what was listed so far is the front of what is held, where that is told
abbrev pub IsFront : Option (List (List ℕ)) → ℕ → List (List ℕ) → Type 0
IsFront told at paths = IfSome told (λ xs. (paths ≡ take at xs) × (at ≤ length xs))

got_more : (xs : List (List ℕ)) (at : ℕ) (x : List ℕ) → slice_get xs at ≡ Some x
    → (take (at + 1) xs ≡ take at xs ++ x ∷ []) × (at < length xs)
got_more xs at x e =
    let within = slice_get_within xs at x e in (
      take_more xs at x within
          ∙ ap (λ y. take at xs ++ y ∷ []) (get_or_from_slice_get xs at x x e),
      within,
    )

listed_there : (b : Bool) (xs : List (List ℕ)) (at : ℕ) (x : List ℕ) → nat_lt at 65536 ≡ b
    → Some x ≡ (if b then slice_get xs at else None) → slice_get xs at ≡ Some x
listed_there true xs at x e f = sym f
listed_there false xs at x e f = cc

pub listed_more : (told : Option (List (List ℕ))) (at : ℕ) (paths : List (List ℕ))
    (r : Option (List ℕ)) (x : List ℕ) → IsFront told at paths
    → IfSome told (λ xs. r ≡ listed_at xs at) → r ≡ Some x
    → IsFront told (at + 1) (paths ++ x ∷ [])
listed_more None at paths r x h f e = tt
listed_more (Some xs) at paths r x h f e =
    let there = listed_there (nat_lt at 65536) xs at x refl (sym e ∙ f) in
    let more = got_more xs at x there in
    let next : at + 1 ≤ length xs = omega (arith, more.1) in
    (ap (λ ps. ps ++ x ∷ []) h.0 ∙ sym more.0, next)

none_there : (b : Bool) (xs : List (List ℕ)) (at : ℕ) → nat_lt at 65536 ≡ b → at < 65536
    → None ≡ (if b then slice_get xs at else None) → slice_get xs at ≡ None
none_there true xs at e lt f = sym f
none_there false xs at e lt f =
    let no : nat_lt at 65536 ≡ true = grind (arith, common_steps) in cc

-- where nothing more is listed, all was
pub listed_all : (told : Option (List (List ℕ))) (at : ℕ) (paths : List (List ℕ))
    (r : Option (List ℕ)) → IsFront told at paths → at < 65536
    → IfSome told (λ xs. r ≡ listed_at xs at) → r ≡ None
    → IfSome told (λ xs. length xs ≤ 65536 → paths ≡ xs)
listed_all None at paths r h lt f e = tt
listed_all (Some xs) at paths r h lt f e = λ few.
    let past = none_there (nat_lt at 65536) xs at refl lt (sym e ∙ f) in
    h.0 ∙ take_all at xs (slice_get_none xs at past)
  where
    slice_get_none : (xs : List (List ℕ)) (at : ℕ) → slice_get xs at ≡ None → length xs ≤ at
    slice_get_none xs at past = elim (cases_lt at (length xs))
        [ inl lt ↦ let there = slice_get-get_or xs at [] lt in cc | inr le ↦ le ]

-- and so it was where as many were listed as are listed
pub listed_most : (told : Option (List (List ℕ))) (at : ℕ) (paths : List (List ℕ))
    → IsFront told at paths → 65536 ≤ at → IfSome told (λ xs. length xs ≤ 65536 → paths ≡ xs)
listed_most None at paths h le = tt
listed_most (Some xs) at paths h le = λ few.
    let past : length xs ≤ at = omega (arith, few, le) in
    h.0 ∙ take_all at xs past
