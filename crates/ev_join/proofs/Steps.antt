-- The bound on the steps of a search falls at each turn.
use Rattle.std.proofs.Common.{◌≡◌, ◌<◌, ◌≤◌, ◌+◌, ◌*◌, ◌-◌, ℕ, zero, suc, List, [], ◌∷◌, ◌++◌}
use Rattle.std.proofs.Common.{length}
use Rattle.std.proofs.Common.{arith, ap, ◌∙◌, length-append, append_assoc}
use Rattle.std.proofs.Common.{mul-le-mul_right, suc-mul}
use Rattle.ev_join.specs.Search.{lists, steps_left}

lists_some : (n : ℕ) → 0 < lists n
lists_some zero = omega arith
lists_some (suc n) = let h = lists_some n in omega (arith, h)

-- behind the same numbers, what falls falls
pub falls_behind : (front s t : List ℕ) (m n : ℕ) → n ≡ length front + m
    → steps_left m s < steps_left m t → steps_left n (front ++ s) < steps_left n (front ++ t)
falls_behind [] s t m n is h = let same : n ≡ m = omega (arith, is) in rw same h
falls_behind (x ∷ front) s t m zero is h = absurd (omega (arith, is))
falls_behind (x ∷ front) s t m (suc n) is h =
    let more = falls_behind front s t m n (omega (arith, is)) h in omega (arith, more)

-- a number found, and the next one sought from 0 on
pub deep_here : (m x v : ℕ) → x ≤ v
    → steps_left (suc (suc m)) (v ∷ 0 ∷ []) < steps_left (suc (suc m)) (x ∷ [])
deep_here m x v le =
    let some = lists_some m in
    let fewer : (4294967296 - v) * lists (suc m) ≤ (4294967296 - x) * lists (suc m) =
    mul-le-mul_right (lists (suc m)) (omega (arith, le)) in
    omega (arith, some, fewer)

-- the number before raised
pub back_here : (m x v : ℕ) → v < 4294967296
    → steps_left (suc (suc m)) ((v + 1) ∷ []) < steps_left (suc (suc m)) (v ∷ x ∷ [])
back_here m x v less =
    let some = lists_some m in
    let one : 4294967296 - v ≡ suc (4294967296 - (v + 1)) = omega (arith, less) in
    let more : (4294967296 - v) * lists (suc m)
    ≡ (4294967296 - (v + 1)) * lists (suc m) + lists (suc m) =
    ap (λ k. k * lists (suc m)) one ∙ suc-mul (4294967296 - (v + 1)) (lists (suc m)) in
    omega (arith, some, more)

-- the same in the midst of a search
pub deep_falls : (front : List ℕ) (x v n : ℕ) → length (front ++ v ∷ []) < n → x ≤ v
    → steps_left n ((front ++ v ∷ []) ++ 0 ∷ []) < steps_left n (front ++ x ∷ [])
deep_falls front x v n less le =
    let len = length-append front (v ∷ []) in
    rw (append_assoc front (v ∷ []) (0 ∷ []))
    (falls_behind front (v ∷ 0 ∷ []) (x ∷ []) (suc (suc (n - (length front + 2)))) n
    (omega (arith, less, len)) (deep_here (n - (length front + 2)) x v le))

pub back_falls : (front : List ℕ) (x v n : ℕ) → length (front ++ v ∷ []) < n → v < 4294967296
    → steps_left n (front ++ (v + 1) ∷ []) < steps_left n ((front ++ v ∷ []) ++ x ∷ [])
back_falls front x v n less small =
    let len = length-append front (v ∷ []) in
    rw (append_assoc front (v ∷ []) (x ∷ []))
    (falls_behind front ((v + 1) ∷ []) (v ∷ x ∷ []) (suc (suc (n - (length front + 2)))) n
    (omega (arith, less, len)) (back_here (n - (length front + 2)) x v small))
