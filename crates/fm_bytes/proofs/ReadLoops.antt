-- Loops that read the items of an array, one after the other.
use Rattle.std.proofs.Common.{◌≡◌, ℕ, suc, ◌+◌, ◌-◌, ◌<◌, ◌≤◌, List, [], ◌∷◌, ◌++◌, Some, None}
use Rattle.std.proofs.Common.{refl, sym, ap, ◌∙◌, arith, append_assoc}
use Rattle.std.proofs.lemmas.List.{append-nil}
use Rattle.fm_bytes.specs.Reading.{Read, after, items_from}

-- the items that are read, behind some that were read before
abbrev pub behind : {A : Type 0} → List A → Read (List A) → Read (List A)
behind found r = after r (λ xs rest. Some (found ++ xs, rest))

item_onto : {A : Type 0} (found : List A) (x : A) (r : Read (List A))
    → behind found (after r (λ xs more. Some (x ∷ xs, more))) ≡ behind (found ++ x ∷ []) r
item_onto found x None = refl
item_onto found x (Some t) =
    ap (λ (ys : List _). Some (ys, t.1)) (sym (append_assoc found (x ∷ []) t.0))

-- one item more was read
pub items_step : {A : Type 0} (f : List ℕ → Read A) (found : List A) (count at : ℕ) (bytes : List ℕ)
    (x : A) (rest : List ℕ) → at < count
    → f bytes ≡ Some (x, rest)
    → behind found (items_from f (count - at) bytes)
    ≡ behind (found ++ x ∷ []) (items_from f (count - (at + 1)) rest)
items_step f found count at bytes x rest h e =
    let more : count - at ≡ suc (count - (at + 1)) = omega arith in
    ap (λ (n : ℕ). behind found (items_from f n bytes)) more
    ∙ ap (λ (r : Read _).
    behind found (after r
    (λ y left. after (items_from f (count - (at + 1)) left) (λ ys last. Some (y ∷ ys, last)))))
    e
    ∙ item_onto found x (items_from f (count - (at + 1)) rest)

-- one item more was read, and stands behind those before
pub items_more : {A : Type 0} (f : List ℕ → Read A) (total : Read (List A)) (found new : List A)
    (count at : ℕ) (bytes : List ℕ) (x : A) (rest : List ℕ)
    → at < count → total ≡ behind found (items_from f (count - at) bytes) → f bytes ≡ Some (x, rest)
    → new ≡ found ++ x ∷ []
    → total ≡ behind new (items_from f (count - (at + 1)) rest)
items_more f total found new count at bytes x rest h before e push =
    before ∙ items_step f found count at bytes x rest h e
    ∙ ap (λ (xs : List _). behind xs (items_from f (count - (at + 1)) rest)) (sym push)

-- one item more could not be read
pub items_none : {A : Type 0} (f : List ℕ → Read A) (found : List A) (count at : ℕ) (bytes : List ℕ)
    → at < count → f bytes ≡ None
    → behind found (items_from f (count - at) bytes) ≡ None
items_none f found count at bytes h e =
    let more : count - at ≡ suc (count - (at + 1)) = omega arith in
    ap (λ (n : ℕ). behind found (items_from f n bytes)) more
    ∙ ap (λ (r : Read _).
    behind found (after r
    (λ y left. after (items_from f (count - (at + 1)) left) (λ ys last. Some (y ∷ ys, last)))))
    e

-- all items were read
pub items_end : {A : Type 0} (f : List ℕ → Read A) (found : List A) (count at : ℕ) (bytes : List ℕ)
    → count ≤ at
    → behind found (items_from f (count - at) bytes) ≡ Some (found, bytes)
items_end f found count at bytes h =
    let none : count - at ≡ 0 = omega arith in
    ap (λ (n : ℕ). behind found (items_from f n bytes)) none
    ∙ ap (λ (xs : List _). Some (xs, bytes)) (append-nil found)

-- nothing was read before
pub items_start : {A : Type 0} (f : List ℕ → Read A) (count : ℕ) (bytes : List ℕ)
    → items_from f count bytes ≡ behind [] (items_from f (count - 0) bytes)
items_start f count bytes =
    let same : count ≡ count - 0 = omega arith in
    whole (items_from f count bytes) ∙ ap (λ (n : ℕ). behind [] (items_from f n bytes)) same where
      whole : {A : Type 0} (r : Read (List A)) → r ≡ behind [] r
      whole None = refl
      whole (Some t) = refl
