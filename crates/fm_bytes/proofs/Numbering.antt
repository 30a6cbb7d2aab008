-- A number of n bytes is spelled by just one list of n bytes.
use Rattle.std.proofs.Common.{◌≡◌, ℕ, zero, suc, ◌+◌, ◌*◌, ◌^◌, ◌%◌, ◌<◌, ◌≤◌, List, [], ◌∷◌, ◌++◌}
use Rattle.std.proofs.Common.{length, take, drop, slice_index, refl, sym, ap, ◌∙◌, arith}
use Rattle.std.proofs.Math.Nat.{mod-lt, one-le-pow, eq_of_mul-eq-mul_right}
use Rattle.std.proofs.lemmas.Nat.{mod-mul-add}
use Rattle.std.proofs.lemmas.List.{append-nil, length-take, take-append-drop}
use Rattle.std.specs.Int.{byte_at, bytes_high_first}
use Rattle.byteorder.specs.Endian.{big_from, big_bytes, big_number}
use Rattle.byteorder.specs.Numbers.{big_from-cons, big_from-lt, big_from-take}
use Rattle.byteorder.specs.Numbers.{big_number-reads_back, length-bytes_high_first}
use Rattle.fm_bytes.specs.Numbers.{AllBytes}

-- the bytes behind some others
pub AllBytes-right : (xs ys : List ℕ) → AllBytes (xs ++ ys) → AllBytes ys
AllBytes-right [] ys h = h
AllBytes-right (x ∷ xs) ys h = AllBytes-right xs ys (λ i. h (suc i))

-- the bytes before some others
pub AllBytes-left : (xs ys : List ℕ) → AllBytes (xs ++ ys) → AllBytes xs
AllBytes-left [] ys h i = omega arith
AllBytes-left (x ∷ xs) ys h zero = h 0
AllBytes-left (x ∷ xs) ys h (suc i) = AllBytes-left xs ys (λ j. h (suc j)) i

byte_below : (k x : ℕ) → byte_at k x < 256
byte_below zero x = mod-lt x (omega arith)
byte_below (suc k) x = mod-lt _ (omega arith)

-- a number's bytes are bytes
pub AllBytes-big_bytes : (n x : ℕ) → AllBytes (bytes_high_first n x)
AllBytes-big_bytes zero x i = omega arith
AllBytes-big_bytes (suc n) x zero = byte_below n x
AllBytes-big_bytes (suc n) x (suc i) = AllBytes-big_bytes n x i

-- two lists of n bytes that read as the same number are the same
pub same_bytes : (n : ℕ) (xs ys : List ℕ) → length xs ≡ n → length ys ≡ n → AllBytes xs
    → AllBytes ys → big_from 0 n xs ≡ big_from 0 n ys → xs ≡ ys
same_bytes zero [] [] lx ly bx by e = refl
same_bytes zero (x ∷ xs) ys lx ly bx by e = absurd (omega arith)
same_bytes zero [] (y ∷ ys) lx ly bx by e = absurd (omega arith)
same_bytes (suc n) [] ys lx ly bx by e = absurd (omega arith)
same_bytes (suc n) (x ∷ xs) [] lx ly bx by e = absurd (omega arith)
same_bytes (suc n) (x ∷ xs) (y ∷ ys) lx ly bx by e =
    let whole : x * 256 ^ n + big_from 0 n xs ≡ y * 256 ^ n + big_from 0 n ys =
    ap (λ (r : ℕ). x * 256 ^ n + r) (sym (big_from-cons 0 n x xs)) ∙ e
    ∙ ap (λ (r : ℕ). y * 256 ^ n + r) (big_from-cons 0 n y ys) in
    let small_x = big_from-lt 0 n xs (λ i. bx (suc i)) in
    let small_y = big_from-lt 0 n ys (λ i. by (suc i)) in
    let low : big_from 0 n xs ≡ big_from 0 n ys =
    sym (mod-mul-add x (256 ^ n) (big_from 0 n xs) small_x) ∙ ap (λ (r : ℕ). r % 256 ^ n) whole
    ∙ mod-mul-add y (256 ^ n) (big_from 0 n ys) small_y in
    let positive : 0 < 256 ^ n = (let h = one-le-pow n 256 (omega arith) in omega arith) in
    let high : x ≡ y = eq_of_mul-eq-mul_right (256 ^ n) positive x y (omega (arith, whole, low)) in
    λ i. high i ∷ same_bytes n xs ys (omega arith) (omega arith) (λ j. bx (suc j)) (λ j. by (suc j))
    low i

-- the first n bytes are the spelling of the number that they read as
pub first_bytes : (n : ℕ) (xs : List ℕ) → n ≤ length xs → AllBytes xs
    → take n xs ≡ big_bytes n (big_number n xs)
first_bytes n xs h bytes =
    let front : AllBytes (take n xs) =
    AllBytes-left (take n xs) (drop n xs)
    (λ i. omega (
      arith,
      bytes i,
      ap (λ (ys : List ℕ). slice_index ys i) (take-append-drop n xs),
    )) in
    let small = big_from-lt 0 n xs bytes in
    let back : big_from 0 n (bytes_high_first n (big_number n xs)) ≡ big_number n xs =
    ap (big_from 0 n) (sym (append-nil (bytes_high_first n (big_number n xs))))
    ∙ big_number-reads_back n (big_number n xs) [] small in
    same_bytes n (take n xs) (bytes_high_first n (big_number n xs))
    (omega (arith, length-take n xs)) (length-bytes_high_first n _) front
    (AllBytes-big_bytes n _)
    (big_from-take 0 n n xs (omega arith) ∙ sym back)
