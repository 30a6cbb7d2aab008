-- What it is to read a spelling: the value that is read is spelled so, and what is spelled is read
-- again whatever follows it.
use Rattle.std.proofs.Common.{◌≡◌, ℕ, zero, suc, ◌^◌, ◌<◌, Bool, true, false, ◌&&◌, ◌==◌, nat_lt}
use Rattle.std.proofs.Common.{nat_le, IsTrue, List, [], ◌∷◌, ◌++◌, length, take, drop, flat_map}
use Rattle.std.proofs.Common.{Option, Some, None, ◌⊎◌, inl, inr, if◌then◌else◌, refl, sym, ap, ◌∙◌}
use Rattle.std.proofs.Common.{arith, subst, append_assoc, length-append}
use Rattle.std.specs.List.{list_all}
use Rattle.std.specs.Str.{is_utf8}
use Rattle.std.proofs.lemmas.Bool.{false≢true, leb-true, le-leb, ltb-true, lt-ltb, eqb-true}
use Rattle.std.proofs.lemmas.List.{length-take, take-append-drop, take-append-le, take_all}
use Rattle.std.proofs.Math.Seq.{drop-append_seam}
use Rattle.std.proofs.Math.Nat.{mod-eq_of_lt}
use Rattle.std.specs.Int.{bytes_high_first}
use Rattle.byteorder.specs.Endian.{big_bytes, big_number}
use Rattle.byteorder.specs.Numbers.{big_from-lt, big_number-reads_back, length-bytes_high_first}
use Rattle.fm_bytes.specs.Numbers.{AllBytes, is_unsigned, u16_bytes, u32_bytes, u64_bytes}
use Rattle.fm_bytes.specs.Numbers.{short_text, long_text, counted_bytes}
use Rattle.fm_bytes.specs.Reading.{Read, after, number_from, piece_from, text_of_length}
use Rattle.fm_bytes.specs.Reading.{short_text_from, long_text_from, items_from, counted_from}
use Rattle.fm_bytes.specs.Reading.{flag_from}
use Rattle.fm_bytes.proofs.Booleans.{and_parts, and_true}
use Rattle.fm_bytes.proofs.Numbering.{AllBytes-right, first_bytes}

-- a reader of the values that fit, against their spelling
pub record IsReader {A : Type 0} (fits : A → Bool) (spell : A → List ℕ) (read : List ℕ → Read A) :
    Type 0 where
  pub sound : (bytes : List ℕ) (t : A × List ℕ) → AllBytes bytes → read bytes ≡ Some t
      → IsTrue (fits t.0) × (bytes ≡ spell t.0 ++ t.1)
  pub whole : (x : A) (rest : List ℕ) → IsTrue (fits x) → read (spell x ++ rest) ≡ Some (x, rest)

-- what was read first, and then
pub after_some : {A B : Type 0} (r : Read A) (f : A → List ℕ → Option B) (y : B)
    → after r f ≡ Some y → (t : A × List ℕ) × (r ≡ Some t) × (f t.0 t.1 ≡ Some y)
after_some None f y h = cc
after_some (Some t) f y h = (t, refl, h)

-- a choice that gave a value
pub choice_some : {B : Type 0} (b : Bool) (x : Option B) (y : B) → (if b then x else None) ≡ Some y
    → IsTrue b × (x ≡ Some y)
choice_some true x y h = (refl, h)
choice_some false x y h = cc

pub some_same : {B : Type 0} (x y : B) → Some x ≡ Some y → x ≡ y
some_same x y h = cc

-- a choice that read a value
pub choice_read : {A : Type 0} (b : Bool) (x : A) (rest : List ℕ) (t : A × List ℕ)
    → (if b then Some (x, rest) else None) ≡ Some t
    → IsTrue b × (t.0 ≡ x) × (t.1 ≡ rest)
choice_read true x rest t h =
    let same = some_same (x, rest) t h in
    (refl, ap (λ (p : _ × List ℕ). p.0) (sym same), ap (λ (p : _ × List ℕ). p.1) (sym same))
choice_read false x rest t h = cc

-- a choice whose test holds
pub choice_true : {B : Type 0} (b : Bool) (x y : B) → IsTrue b → (if b then x else y) ≡ x
choice_true true x y h = refl
choice_true false x y h = absurd (false≢true h)

-- either side of a choice
pub choice_split : {B : Type 0} (b : Bool) (x y z : B) → (if b then x else y) ≡ z
    → (IsTrue b × (x ≡ z)) ⊎ ((b ≡ false) × (y ≡ z))
choice_split true x y z h = inl (refl, h)
choice_split false x y z h = inr (refl, h)

-- the bytes that are left are bytes
pub left_bytes : (bytes front rest : List ℕ) → bytes ≡ front ++ rest → AllBytes bytes
    → AllBytes rest
left_bytes bytes front rest e all = AllBytes-right front rest (subst AllBytes e all)

-- a number of n bytes
pub number_reader : (n : ℕ) → IsReader (λ x. nat_lt x (256 ^ n)) (big_bytes n) (number_from n)
unfolding number_from
number_reader n = record {
  sound = λ bytes t all h.
      let parts = choice_read (nat_le n (length bytes)) (big_number n bytes) (drop n bytes) t h in
      let room = leb-true _ _ parts.0 in
      let front = first_bytes n bytes room all in (
        lt-ltb _ _ (rw parts.1 (big_from-lt 0 n bytes all)),
        rw (parts.1, parts.2) (sym (take-append-drop n bytes)
            ∙ ap (λ (xs : List ℕ). xs ++ drop n bytes) front),
      );
  whole = λ x rest fits.
      let size : length (bytes_high_first n x) ≡ n = length-bytes_high_first n x in
      let room = le-leb n (length (bytes_high_first n x ++ rest))
      (omega (arith, size, length-append (bytes_high_first n x) rest)) in
      let value = big_number-reads_back n x rest (ltb-true _ _ fits) in
      let left : drop n (bytes_high_first n x ++ rest) ≡ rest =
      ap (λ (m : ℕ). drop m (bytes_high_first n x ++ rest)) (sym size)
      ∙ drop-append_seam (bytes_high_first n x) rest in
      choice_true _ _ _ room ∙ (λ i. Some (value i, left i));
}

-- a reader with the same tests and spelling, written otherwise
pub reader_as : {A : Type 0} (fits fits' : A → Bool) (spell spell' : A → List ℕ)
    (read : List ℕ → Read A)
    → ((x : A) → IsTrue (fits x) → IsTrue (fits' x))
    → ((x : A) → IsTrue (fits' x) → IsTrue (fits x))
    → ((x : A) → IsTrue (fits x) → spell x ≡ spell' x) → IsReader fits spell read
    → IsReader fits' spell' read
reader_as fits fits' spell spell' read there back same r = record {
  sound = λ bytes t all h.
      let known = r.sound bytes t all h in
      (there _ known.0, known.1 ∙ ap (λ (xs : List ℕ). xs ++ t.1) (same _ known.0));
  whole = λ x rest fits.
      ap (λ (xs : List ℕ). read (xs ++ rest)) (sym (same x (back x fits)))
      ∙ r.whole x rest (back x fits);
}

-- a number of one byte
byte_spelling : (n : ℕ) → n < 256 → big_bytes 1 n ≡ n ∷ []
byte_spelling n h = ap (λ (m : ℕ). m ∷ []) (mod-eq_of_lt h)

pub byte_reader : IsReader (λ n. nat_le n 255) (λ n. n ∷ []) (number_from 1)
byte_reader =
    reader_as _ (λ n. nat_le n 255) _ (λ n. n ∷ []) (number_from 1)
    (λ n h. le-leb n 255 (let k = ltb-true _ _ h in omega arith))
    (λ n h. lt-ltb n (256 ^ 1) (let k = leb-true _ _ h in omega arith))
    (λ n h. byte_spelling n (let k = ltb-true _ _ h in omega arith))
    (number_reader 1)

-- a number of two bytes
pub short_reader : IsReader (λ n. nat_le n 65535) u16_bytes (number_from 2)
unfolding u16_bytes
short_reader =
    reader_as _ (λ n. nat_le n 65535) _ (big_bytes 2) (number_from 2)
    (λ n h. le-leb n 65535 (let k = ltb-true _ _ h in omega arith))
    (λ n h. lt-ltb n (256 ^ 2) (let k = leb-true _ _ h in omega arith))
    (λ n h. refl)
    (number_reader 2)

-- a number of four bytes
pub word_reader : IsReader (λ n. nat_lt n (2 ^ 32)) u32_bytes (number_from 4)
unfolding u32_bytes
word_reader =
    reader_as _ (λ n. nat_lt n (2 ^ 32)) _ (big_bytes 4) (number_from 4) (λ n h. h) (λ n h. h)
    (λ n h. refl) (number_reader 4)

-- a number of eight bytes
pub long_reader : IsReader is_unsigned u64_bytes (number_from 8)
unfolding u64_bytes
long_reader =
    reader_as _ is_unsigned _ (big_bytes 8) (number_from 8) (λ n h. h) (λ n h. h) (λ n h. refl)
    (number_reader 8)

-- so many bytes that are a text
pub text_sound : (n : ℕ) (bytes : List ℕ) (t : List ℕ × List ℕ) → text_of_length n bytes ≡ Some t
    → (length t.0 ≡ n) × IsTrue (is_utf8 t.0) × (bytes ≡ t.0 ++ t.1)
unfolding text_of_length piece_from
text_sound n bytes t h =
    let first = after_some
    (if nat_le n (length bytes) then Some (take n bytes, drop n bytes) else None)
    (λ x rest. if is_utf8 x then Some (x, rest) else None) t h in
    let second = choice_read (is_utf8 first.0.0) first.0.0 first.0.1 t first.2 in
    let third = choice_read (nat_le n (length bytes)) (take n bytes) (drop n bytes) first.0 first.1
    in
    let room = leb-true n (length bytes) third.0 in
    let value : t.0 ≡ take n bytes = second.1 ∙ third.1 in
    let rest : t.1 ≡ drop n bytes = second.2 ∙ third.2 in (
      ap length value ∙ length-take n bytes ∙ omega arith,
      ap is_utf8 second.1
          ∙ second.0,
      sym ((λ i. value i ++ rest i) ∙ take-append-drop n bytes),
    )

pub text_whole : (xs rest : List ℕ) → IsTrue (is_utf8 xs)
    → text_of_length (length xs) (xs ++ rest) ≡ Some (xs, rest)
unfolding text_of_length piece_from
text_whole xs rest text =
    let room = le-leb (length xs) (length (xs ++ rest)) (omega (arith, length-append xs rest)) in
    let front : take (length xs) (xs ++ rest) ≡ xs =
    take-append-le (length xs) xs rest (omega arith) ∙ take_all (length xs) xs (omega arith) in
    let left : drop (length xs) (xs ++ rest) ≡ rest = drop-append_seam xs rest in
    let piece = choice_true _ (Some (take (length xs) (xs ++ rest), drop (length xs) (xs ++ rest)))
    None room in
    ap (λ (r : Read (List ℕ)). after r (λ t left. if is_utf8 t then Some (t, left) else None))
    (piece ∙ (λ i. Some (front i, left i)))
    ∙ choice_true _ _ _ text

-- a short text behind its length
pub short_text_reader : IsReader (λ t. is_utf8 t && nat_le (length t) 65535) short_text
    short_text_from
unfolding short_text_from
short_text_reader = record {
  sound = λ bytes t all h.
      let first = after_some _ _ _ h in
      let size = short_reader.sound bytes first.0 all first.1 in
      let text = text_sound first.0.0 first.0.1 t first.2 in
      let most = leb-true _ _ size.0 in
      let sized : length t.0 ≡ first.0.0 = text.0 in (
        and_true (is_utf8 t.0) _ text.1 (le-leb (length t.0) 65535 (omega arith)),
        size.1 ∙ (λ i. u16_bytes (sym text.0 i) ++ text.2 i)
            ∙ sym (append_assoc (u16_bytes (length t.0)) t.0 t.1),
      );
  whole = λ x rest fits.
      let one = and_parts _ _ fits in
      ap short_text_from (append_assoc (u16_bytes (length x)) x rest)
      ∙ ap (λ (r : Read ℕ). after r (λ n left. text_of_length n left))
      (short_reader.whole (length x) (x ++ rest) one.1)
      ∙ text_whole x rest one.0;
}

-- a text of at most so many bytes behind its length, where the most fits four bytes
pub long_text_reader : (most : ℕ) → most < 2 ^ 32
    → IsReader (λ t. is_utf8 t && nat_le (length t) most) long_text (long_text_from most)
unfolding long_text_from
long_text_reader most fit = record {
  sound = λ bytes t all h.
      let first = after_some _ _ _ h in
      let some = choice_some _ _ _ first.2 in
      let size = word_reader.sound bytes first.0 all first.1 in
      let text = text_sound first.0.0 first.0.1 t some.1 in
      let within = leb-true _ _ some.0 in
      let sized : length t.0 ≡ first.0.0 = text.0 in (
        and_true (is_utf8 t.0) _ text.1 (le-leb (length t.0) most (omega arith)),
        size.1 ∙ (λ i. u32_bytes (sym text.0 i) ++ text.2 i)
            ∙ sym (append_assoc (u32_bytes (length t.0)) t.0 t.1),
      );
  whole = λ x rest fits.
      let one = and_parts _ _ fits in
      let within = leb-true _ _ one.1 in
      ap (long_text_from most) (append_assoc (u32_bytes (length x)) x rest)
      ∙ ap (λ (r : Read ℕ).
      after r (λ n left. if nat_le n most then text_of_length n left else None))
      (word_reader.whole (length x) (x ++ rest) (lt-ltb _ _ (omega arith)))
      ∙ choice_true _ _ _ one.1 ∙ text_whole x rest one.0;
}

-- so many items
pub items_sound : {A : Type 0} (fits : A → Bool) (spell : A → List ℕ) (read : List ℕ → Read A)
    → IsReader fits spell read
    → (n : ℕ) (bytes : List ℕ) (t : List A × List ℕ) → AllBytes bytes
    → items_from read n bytes ≡ Some t
    → (length t.0 ≡ n) × IsTrue (list_all fits t.0) × (bytes ≡ flat_map spell t.0 ++ t.1)
items_sound fits spell read r zero bytes t all h =
    let same = some_same ([], bytes) t h in
    let value : t.0 ≡ [] = ap (λ (p : List _ × List ℕ). p.0) (sym same) in
    let rest : t.1 ≡ bytes = ap (λ (p : List _ × List ℕ). p.1) (sym same) in (
      ap length value,
      ap (list_all fits) value,
      sym (ap (λ (xs : List _). flat_map spell xs ++ t.1) value ∙ rest),
    )
items_sound fits spell read r (suc n) bytes t all h =
    let first = after_some _ _ _ h in
    let second = after_some _ _ _ first.2 in
    let one = r.sound bytes first.0 all first.1 in
    let more = items_sound fits spell read r n first.0.1 second.0 (left_bytes _ _ _ one.1 all)
    second.1 in
    let same = some_same (first.0.0 ∷ second.0.0, second.0.1) t second.2 in
    let value : t.0 ≡ first.0.0 ∷ second.0.0 = ap (λ (p : List _ × List ℕ). p.0) (sym same) in
    let rest : t.1 ≡ second.0.1 = ap (λ (p : List _ × List ℕ). p.1) (sym same) in (
      ap length value ∙ ap suc more.0,
      ap (list_all fits) value ∙ and_true _ _ one.0 more.1,
      one.1 ∙ ap (λ (xs : List ℕ). spell first.0.0 ++ xs) more.2
          ∙ sym (append_assoc (spell first.0.0) (flat_map spell second.0.0) second.0.1)
          ∙ sym (λ i. flat_map spell (value i) ++ rest i),
    )

pub items_whole : {A : Type 0} (fits : A → Bool) (spell : A → List ℕ) (read : List ℕ → Read A)
    → IsReader fits spell read
    → (xs : List A) (rest : List ℕ) → IsTrue (list_all fits xs)
    → items_from read (length xs) (flat_map spell xs ++ rest) ≡ Some (xs, rest)
items_whole fits spell read r [] rest all = refl
items_whole fits spell read r (x ∷ xs) rest all =
    let parts = and_parts _ _ all in
    ap (λ (bytes : List ℕ).
    after (read bytes) (λ y left. after (items_from read (length xs) left)
    (λ ys more. Some (y ∷ ys, more)))) (append_assoc (spell x) (flat_map spell xs) rest)
    ∙ ap (λ (q : Read _).
    after q (λ y left. after (items_from read (length xs) left)
    (λ ys more. Some (y ∷ ys, more)))) (r.whole x (flat_map spell xs ++ rest) parts.0)
    ∙ ap (λ (q : Read _). after q (λ ys more. Some (x ∷ ys, more)))
    (items_whole fits spell read r xs rest parts.1)

-- a list behind the number of its items in so many bytes
abbrev pub counted_fits : {A : Type 0} → ℕ → (A → Bool) → List A → Bool
counted_fits width fits xs = nat_lt (length xs) (256 ^ width) && list_all fits xs

pub counted_reader : {A : Type 0} (width : ℕ) (fits : A → Bool) (spell : A → List ℕ)
    (read : List ℕ → Read A) → IsReader fits spell read
    → IsReader (counted_fits width fits) (counted_bytes width spell) (counted_from width read)
unfolding counted_from
counted_reader width fits spell read r = record {
  sound = λ bytes t all h.
      let first = after_some (number_from width bytes) (λ n rest. items_from read n rest) t h in
      let size = (number_reader width).sound bytes first.0 all first.1 in
      let more = items_sound fits spell read r first.0.0 first.0.1 t
      (left_bytes bytes (big_bytes width first.0.0) first.0.1 size.1 all) first.2 in
      let sized : length t.0 ≡ first.0.0 = more.0 in (
        and_true (nat_lt (length t.0) (256 ^ width)) _ (ap (λ (n : ℕ). nat_lt n (256 ^ width)) sized
            ∙ size.0) more.1,
        size.1 ∙ (λ i. big_bytes width (sym sized i) ++ more.2 i)
            ∙ sym (append_assoc (big_bytes width (length t.0)) (flat_map spell t.0) t.1),
      );
  whole = λ xs rest fit.
      let parts = and_parts (nat_lt (length xs) (256 ^ width)) _ fit in
      ap (λ (bytes : List ℕ). after (number_from width bytes) (λ n left. items_from read n left))
      (append_assoc (big_bytes width (length xs)) (flat_map spell xs) rest)
      ∙ ap (λ (q : Read ℕ). after q (λ n left. items_from read n left))
      ((number_reader width).whole (length xs) (flat_map spell xs ++ rest) parts.0)
      ∙ items_whole fits spell read r xs rest parts.1;
}

flag_choice : (n : ℕ) (rest : List ℕ) (t : Bool × List ℕ) (zero_is one_is : Bool)
    → (n == 0) ≡ zero_is → (n == 1) ≡ one_is
    → (if zero_is then Some (false, rest) else (if one_is then Some (true, rest) else None))
    ≡ Some t
    → n ∷ rest ≡ (if t.0 then 1 else 0) ∷ t.1
flag_choice n rest t true b e f h =
    let same = some_same (false, rest) t h in
    λ i. (eqb-true n 0 e ∙ ap (λ (p : Bool × List ℕ). if p.0 then 1 else 0) same) i ∷ (same i).1
flag_choice n rest t false true e f h =
    let same = some_same (true, rest) t h in
    λ i. (eqb-true n 1 f ∙ ap (λ (p : Bool × List ℕ). if p.0 then 1 else 0) same) i ∷ (same i).1
flag_choice n rest t false false e f h = cc

flag_whole : (b : Bool) (rest : List ℕ) → flag_from ((if b then 1 else 0) ∷ rest) ≡ Some (b, rest)
unfolding flag_from
flag_whole true rest =
    ap (λ (r : Read ℕ). after r
    (λ n left. if n == 0 then Some (false, left)
    else (if n == 1 then Some (true, left) else None))) (byte_reader.whole 1 rest refl)
flag_whole false rest =
    ap (λ (r : Read ℕ). after r
    (λ n left. if n == 0 then Some (false, left)
    else (if n == 1 then Some (true, left) else None))) (byte_reader.whole 0 rest refl)

-- a truth value
pub flag_reader : IsReader (λ b. true) (λ b. (if b then 1 else 0) ∷ []) flag_from
unfolding flag_from
flag_reader = record {
  sound = λ bytes t all h.
      let first = after_some _ _ _ h in
      let size = byte_reader.sound bytes first.0 all first.1 in
      (refl, size.1 ∙ flag_choice first.0.0 first.0.1 t _ _ refl refl first.2);
  whole = λ b rest fits. flag_whole b rest;
}
