-- What is left after a part, byte by byte, tells what the grammar says of the texts between
-- slashes.
use Rattle.std.proofs.Common.{◌≡◌, ◌<◌, ◌≤◌, ◌+◌, ◌-◌, ◌*◌, ◌^◌, ℕ, Bool, true, false, ◌&&◌, ◌||◌}
use Rattle.std.proofs.Common.{not, List, [], ◌∷◌, length, refl, arith, nat_lt, nat_le, ap, sym, ◌∙◌}
use Rattle.std.proofs.Common.{suc, take, take_all, drop, get_or, Option, Some, None}
use mathlib.Core.Bool.{true≢false}
use Rattle.std.specs.Prelude.{◌==◌, option_and_then, slice_index}
use Rattle.std.specs.List.{slice_split, onto_first, list_all, position_or_len, before_first}
use Rattle.std.specs.List.{after_first}
use Rattle.std.specs.Char.{is_ascii_digit, is_ascii_alphabetic, digit_value}
use Rattle.std.specs.Str.Parse.{digits_value, digits_value_after}
use Rattle.std.proofs.lemmas.Bool.Decides.{nat_tests}
use Rattle.std.proofs.lemmas.Grind.{common_steps}
use Rattle.fm_name.specs.Class.{is_piece_byte}
use Rattle.fm_name.specs.Path.{is_name, is_instance, is_part, are_parts}
use Rattle.fm_name.specs.Tail.{starts_piece, name_rest, instance_rest, part_rest, goes_on}
use Rattle.fm_name.proofs.Cutting.{some_text}
use Rattle.fm_name.proofs.Scanning.{pieces, component_is}

-- ---- an instance

-- whether the bytes are the rest of an instance, of which there are digits already or not, and
-- these mean the number
abbrev pub digits : Bool → ℕ → List ℕ → Bool
digits begun n [] = begun
digits begun n (b ∷ bs) = is_ascii_digit b
    && (not (begun && n == 0) && (nat_lt (n * 10 + (b - 48)) (2 ^ 32)
    && digits true (n * 10 + (b - 48)) bs))

worth : (b : ℕ) → is_ascii_digit b ≡ true → digit_value b ≡ b - 48
worth b e = grind (arith, nat_tests)

grows : (n : ℕ) (ds : List ℕ) → n ≤ digits_value_after 10 n ds
grows n [] = omega arith
grows n (d ∷ ds) = omega (arith, grows (n * 10 + digit_value d) ds)

too_large : (n : ℕ) (ds : List ℕ) → nat_lt n (2 ^ 32) ≡ false
    → nat_lt (digits_value_after 10 n ds) (2 ^ 32) ≡ false
too_large n ds e = let h = grows n ds in grind (arith, nat_tests)

and_false : (x : Bool) → (x && false) ≡ false
and_false true = refl
and_false false = refl

and_assoc : (x y z : Bool) → ((x && y) && z) ≡ (x && (y && z))
and_assoc true y z = refl
and_assoc false y z = refl

step_digits : (n b : ℕ) (bs : List ℕ) (d s : Bool) → 0 < n → is_ascii_digit b ≡ d
    → nat_lt (n * 10 + (b - 48)) (2 ^ 32) ≡ s
    → ((m : ℕ) → 0 < m → m < 2 ^ 32 → digits true m bs
    ≡ (list_all is_ascii_digit bs && nat_lt (digits_value_after 10 m bs) (2 ^ 32)))
    → digits true n (b ∷ bs) ≡ (list_all is_ascii_digit (b ∷ bs)
    && nat_lt (digits_value_after 10 n (b ∷ bs)) (2 ^ 32))
step_digits n b bs false s h e f more = rw e refl
step_digits n b bs true true h e f more =
    let z : (n == 0) ≡ false = grind (arith, nat_tests) in
    let k : n * 10 + (b - 48) < 2 ^ 32 = grind (arith, nat_tests) in
    rw (worth b e, e, z, f) (more (n * 10 + (b - 48)) (omega arith) k)
step_digits n b bs true false h e f more =
    let z : (n == 0) ≡ false = grind (arith, nat_tests) in
    rw (worth b e, e, z, f, too_large (n * 10 + (b - 48)) bs f) (sym (and_false _))

digits_more : (bs : List ℕ) (n : ℕ) → 0 < n → n < 2 ^ 32
    → digits true n bs ≡ (list_all is_ascii_digit bs
    && nat_lt (digits_value_after 10 n bs) (2 ^ 32))
digits_more [] n h k = grind (arith, nat_tests)
digits_more (b ∷ bs) n h k = step_digits n b bs (is_ascii_digit b)
    (nat_lt (n * 10 + (b - 48)) (2 ^ 32)) h refl refl (λ m i j. digits_more bs m i j)

or_true : (x : Bool) → (x || true) ≡ true
or_true true = refl
or_true false = refl

some_bytes : (n : ℕ) → nat_lt 0 (suc n) ≡ true
some_bytes n = grind (arith, nat_tests)

two_digits : (n : ℕ) → (suc (suc n) == 1) ≡ false
two_digits n = grind (arith, nat_tests)

-- an instance, as its digits tell it from the first on
abbrev is_plain : List ℕ → Bool
is_plain bytes =
    list_all is_ascii_digit bytes
    && ((length bytes == 1 || nat_lt 48 (slice_index bytes 0))
    && (nat_lt 0 (length bytes) && nat_lt (digits_value 10 bytes) (2 ^ 32)))

first_digit : (b : ℕ) (bs : List ℕ) (d s : Bool) → is_ascii_digit b ≡ d → nat_lt 48 b ≡ s
    → digits false 0 (b ∷ bs) ≡ is_plain (b ∷ bs)
first_digit b bs false s e f = rw e refl
first_digit b bs true true e f =
    let small : nat_lt (0 * 10 + (b - 48)) (2 ^ 32) ≡ true = grind (arith, nat_tests) in
    let k : 0 * 10 + (b - 48) < 2 ^ 32 = grind (arith, nat_tests) in
    let some : 0 < 0 * 10 + (b - 48) = grind (arith, nat_tests) in
    let more = digits_more bs (0 * 10 + (b - 48)) some k in
    rw (worth b e, e, small, more, f, or_true (length (b ∷ bs) == 1), some_bytes (length bs)) refl
first_digit b [] true false e f = let is : b ≡ 48 = grind (arith, nat_tests) in rw is refl
first_digit b (c ∷ bs) true false e f =
    let is : b ≡ 48 = grind (arith, nat_tests) in
    rw (is, two_digits (length bs)) (and_false (is_ascii_digit c)
    ∙ sym (and_false (is_ascii_digit c && list_all is_ascii_digit bs)))

plainly_first : (b : ℕ) → is_ascii_digit b ≡ true → not (b == 48) ≡ nat_lt 48 b
plainly_first b e = grind (arith, nat_tests)

instance_shape : (b : ℕ) (bs : List ℕ) (d : Bool) → is_ascii_digit b ≡ d
    → is_instance (b ∷ bs) ≡ is_plain (b ∷ bs)
unfolding is_instance
instance_shape b bs false e = rw (e, some_bytes (length bs)) refl
instance_shape b bs true e =
    rw (e, some_bytes (length bs), plainly_first b e)
    (and_assoc (list_all is_ascii_digit bs) (length (b ∷ bs) == 1 || nat_lt 48 b)
    (nat_lt (digits_value 10 (b ∷ bs)) (2 ^ 32)))

-- from the start the digits are an instance
instance_is : (bs : List ℕ) → digits false 0 bs ≡ is_instance bs
unfolding is_instance
instance_is [] = refl
instance_is (b ∷ bs) =
    first_digit b bs (is_ascii_digit b) (nat_lt 48 b) refl refl
    ∙ sym (instance_shape b bs (is_ascii_digit b) refl)

-- ---- what is left after an instance

-- whether something is left, and goes on as it should
abbrev pub goes : ℕ → Option (List ℕ) → Bool
goes room None = false
goes room (Some rest) = goes_on room rest

-- the rest of an instance, and parts
abbrev pub digits_left : Bool → ℕ → ℕ → List (List ℕ) → Bool
digits_left begun n room [] = begun
digits_left begun n room (c ∷ cs) = digits begun n c && are_parts room cs

onto_digit : (begun : Bool) (n room b : ℕ) (cs : List (List ℕ)) → 0 < length cs
    → digits_left begun n room (onto_first b cs)
    ≡ (is_ascii_digit b && (not (begun && n == 0)
    && (nat_lt (n * 10 + (b - 48)) (2 ^ 32) && digits_left true (n * 10 + (b - 48)) room cs)))
onto_digit begun n room b [] h = absurd (omega arith)
onto_digit begun n room b (c ∷ cs) h = grind (arith, common_steps)

no_more : (room : ℕ) → are_parts room [] ≡ true
unfolding are_parts
no_more room = grind (arith, nat_tests)

slash_not : (b : ℕ) → is_ascii_digit b ≡ true → (b == 47) ≡ false
slash_not b e = grind (arith, nat_tests)

step_instance : (room : ℕ) (begun : Bool) (n b : ℕ) (bs : List ℕ) (d s z k : Bool)
    → is_ascii_digit b ≡ d → (b == 47) ≡ s → (begun && n == 0) ≡ z
    → nat_lt (n * 10 + (b - 48)) (2 ^ 32) ≡ k
    → ((m : ℕ) → goes room (instance_rest true m bs)
    ≡ digits_left true m room (slice_split (λ x. x == 47) bs))
    → goes room (instance_rest begun n (b ∷ bs))
    ≡ digits_left begun n room (slice_split (λ x. x == 47) (b ∷ bs))
step_instance room begun n b bs true true z k e f g h more =
    absurd (true≢false (sym f ∙ slash_not b e))
step_instance room begun n b bs true false true k e f g h more =
    rw (e, f, g, onto_digit begun n room b _ (some_text (λ x. x == 47) bs), e, g) refl
step_instance room begun n b bs true false false false e f g h more =
    rw (e, f, g, h, onto_digit begun n room b _ (some_text (λ x. x == 47) bs), e, g, h) refl
step_instance room begun n b bs true false false true e f g h more =
    rw (e, f, g, h, onto_digit begun n room b _ (some_text (λ x. x == 47) bs), e, g, h) (more _)
step_instance room true n b bs false true z k e f g h more = rw (e, f) refl
step_instance room false n b bs false true z k e f g h more = rw (e, f) refl
step_instance room true n b bs false false z k e f g h more =
    rw (e, f, onto_digit true n room b _ (some_text (λ x. x == 47) bs), e) refl
step_instance room false n b bs false false z k e f g h more =
    rw (e, f, onto_digit false n room b _ (some_text (λ x. x == 47) bs), e) refl

instance_left : (bs : List ℕ) (room : ℕ) (begun : Bool) (n : ℕ)
    → goes room (instance_rest begun n bs)
    ≡ digits_left begun n room (slice_split (λ x. x == 47) bs)
instance_left [] room true n = sym (no_more room)
instance_left [] room false n = refl
instance_left (b ∷ bs) room begun n =
    step_instance room begun n b bs (is_ascii_digit b) (b == 47) (begun && n == 0)
    (nat_lt (n * 10 + (b - 48)) (2 ^ 32)) refl refl refl refl
    (λ m. instance_left bs room true m)

-- ---- what is left after a name

-- a piece has begun as well behind its first byte, and none begins with another
pub begun_first : (whole : ℕ) (bs : List ℕ) → starts_piece bs ≡ true
    → name_rest whole false bs ≡ name_rest whole true bs
begun_first whole [] e = absurd (true≢false (sym e))
begun_first whole (b ∷ bs) e = rw e refl

pub none_first : (whole : ℕ) (bs : List ℕ) → starts_piece bs ≡ false
    → name_rest whole false bs ≡ None
none_first whole [] e = refl
none_first whole (b ∷ bs) e = rw e refl

abbrev pub goes_to : ℕ → Option (List ℕ) → Bool
goes_to room None = false
goes_to room (Some bs) = goes room (instance_rest false 0 bs)

-- the rest of a name that has some bytes already, `=` and an instance
abbrev pub part_left : ℕ → Bool → List ℕ → Bool
part_left size begun c =
    (nat_le (size + length (before_first (λ b. b == 61) c)) 32
    && pieces begun (before_first (λ b. b == 61) c)) && is_instance (after_first (λ b. b == 61) c)

abbrev pub parts_left : ℕ → Bool → ℕ → List (List ℕ) → Bool
parts_left size begun room [] = false
parts_left size begun room (c ∷ cs) = part_left size begun c && are_parts room cs

no_instance : is_instance [] ≡ false
unfolding is_instance
no_instance = refl

nothing_left : (size : ℕ) (begun : Bool) (room : ℕ) (cs : List (List ℕ))
    → parts_left size begun room ([] ∷ cs) ≡ false
nothing_left size begun room cs = rw no_instance (ap (λ r. r && are_parts room cs) (and_false _))

place_more : (b : ℕ) (c : List ℕ) → (b == 61) ≡ false
    → position_or_len (λ x. x == 61) (b ∷ c) ≡ suc (position_or_len (λ x. x == 61) c)
place_more b c e = rw e (omega arith)

before_more : (b : ℕ) (c : List ℕ) → (b == 61) ≡ false
    → before_first (λ x. x == 61) (b ∷ c) ≡ b ∷ before_first (λ x. x == 61) c
before_more b c e = ap (λ n. take n (b ∷ c)) (place_more b c e)

after_more : (b : ℕ) (c : List ℕ) → (b == 61) ≡ false
    → after_first (λ x. x == 61) (b ∷ c) ≡ after_first (λ x. x == 61) c
after_more b c e =
    let k : position_or_len (λ x. x == 61) (b ∷ c)
    + 1 ≡ suc (position_or_len (λ x. x == 61) c + 1) = omega (arith, place_more b c e) in
    ap (λ n. drop n (b ∷ c)) k

before_here : (b : ℕ) (c : List ℕ) → (b == 61) ≡ true → before_first (λ x. x == 61) (b ∷ c) ≡ []
before_here b c e = rw e refl

after_here : (b : ℕ) (c : List ℕ) → (b == 61) ≡ true → after_first (λ x. x == 61) (b ∷ c) ≡ c
after_here b c e = rw e refl

equals_not : (b : ℕ) → is_piece_byte b ≡ true → (b == 61) ≡ false
equals_not b e = grind (arith, nat_tests)

hyphen_equals : (b : ℕ) → (b == 45) ≡ true → (b == 61) ≡ false
hyphen_equals b e = grind (arith, nat_tests)

slash_piece : (b : ℕ) → (b == 47) ≡ true → is_piece_byte b ≡ false
slash_piece b e = grind (arith, nat_tests)

slash_equals : (b : ℕ) → (b == 47) ≡ true → (b == 61) ≡ false
slash_equals b e = grind (arith, nat_tests)

slash_hyphen : (b : ℕ) → (b == 47) ≡ true → (b == 45) ≡ false
slash_hyphen b e = grind (arith, nat_tests)

longer : (size n : ℕ) → nat_le (size + suc n) 32 ≡ nat_le (size + 1 + n) 32
longer size n = grind (arith, nat_tests)

no_longer : (size : ℕ) → nat_le (size + 0) 32 ≡ nat_le size 32
no_longer size = grind (arith, nat_tests)

-- one more byte of a piece, a hyphen, an `=`, and any other byte
onto_piece : (size : ℕ) (begun : Bool) (room b : ℕ) (cs : List (List ℕ)) → 0 < length cs
    → is_piece_byte b ≡ true
    → parts_left size begun room (onto_first b cs) ≡ parts_left (size + 1) true room cs
onto_piece size begun room b [] h e = absurd (omega arith)
onto_piece size begun room b (c ∷ cs) h e =
    rw (
      before_more b c (equals_not b e),
      after_more b c (equals_not b e),
      e,
      longer size
          (length (before_first (λ x. x == 61) c)),
    ) refl

onto_hyphen : (size room b : ℕ) (cs : List (List ℕ)) → 0 < length cs → is_piece_byte b ≡ false
    → (b == 45) ≡ true
    → parts_left size true room (onto_first b cs) ≡ parts_left (size + 1) false room cs
onto_hyphen size room b [] h e f = absurd (omega arith)
onto_hyphen size room b (c ∷ cs) h e f =
    rw (
      before_more b c (hyphen_equals b f),
      after_more b c (hyphen_equals b f),
      e,
      f,
      longer size
          (length (before_first (λ x. x == 61) c)),
    ) refl

onto_equals : (size : ℕ) (begun : Bool) (room b : ℕ) (cs : List (List ℕ)) → 0 < length cs
    → (b == 61) ≡ true
    → parts_left size begun room (onto_first b cs)
    ≡ ((nat_le size 32 && begun) && digits_left false 0 room cs)
onto_equals size begun room b [] h e = absurd (omega arith)
onto_equals size begun room b (c ∷ cs) h e =
    rw (before_here b c e, after_here b c e, no_longer size, ← instance_is c)
    (and_assoc (nat_le size 32 && begun) (digits false 0 c) (are_parts room cs))

onto_other : (size : ℕ) (begun : Bool) (room b : ℕ) (cs : List (List ℕ)) → 0 < length cs
    → is_piece_byte b ≡ false → (b == 61) ≡ false → (begun && b == 45) ≡ false
    → parts_left size begun room (onto_first b cs) ≡ false
onto_other size begun room b [] h e f g = absurd (omega arith)
onto_other size true room b (c ∷ cs) h e f g =
    rw (
      before_more b c f,
      e,
      g,
      and_false
          (nat_le (size + length (b ∷ before_first (λ x. x == 61) c)) 32),
    ) refl
onto_other size false room b (c ∷ cs) h e f g =
    rw (
      before_more b c f,
      e,
      and_false (nat_le (size + length (b ∷ before_first (λ x. x == 61) c))
          32),
    ) refl

step_name : (room whole size : ℕ) (begun : Bool) (b : ℕ) (bs : List ℕ) (s t q h k : Bool)
    → (b == 47) ≡ s → is_piece_byte b ≡ t → (b == 61) ≡ q → (b == 45) ≡ h → nat_le size 32 ≡ k
    → size + suc (length bs) ≡ whole + 1
    → ((m : ℕ) (g : Bool) → m + length bs ≡ whole + 1
    → goes_to room (name_rest whole g bs) ≡ parts_left m g room (slice_split (λ x. x == 47) bs))
    → goes_to room (name_rest whole begun (b ∷ bs))
    ≡ parts_left size begun room (slice_split (λ x. x == 47) (b ∷ bs))
step_name room whole size true b bs true t q h k es et eq eh ek all more =
    rw (es, slash_piece b es, slash_equals b es, slash_hyphen b es)
    (sym (nothing_left size true room (slice_split (λ x. x == 47) bs)))
step_name room whole size false b bs true t q h k es et eq eh ek all more =
    rw (es, slash_piece b es) (sym (nothing_left size false room (slice_split (λ x. x == 47) bs)))
step_name room whole size begun b bs false true q h k es et eq eh ek all more =
    rw (es, et) (more (size + 1) true (omega arith)
    ∙ sym (onto_piece size begun room b _ (some_text (λ x. x == 47) bs) et))
step_name room whole size true b bs false false true h true es et eq eh ek all more =
    let small : whole - length bs ≡ size = omega arith in
    rw (es, et, eq, small, ek, onto_equals size true room b _ (some_text (λ x. x == 47) bs) eq, ek)
    (instance_left bs room false 0)
step_name room whole size true b bs false false true h false es et eq eh ek all more =
    let small : whole - length bs ≡ size = omega arith in
    rw (es, et, eq, small, ek, onto_equals size true room b _ (some_text (λ x. x == 47) bs) eq, ek)
    refl
step_name room whole size false b bs false false true h k es et eq eh ek all more =
    rw (
      es,
      et,
      onto_equals size false room b _ (some_text (λ x. x == 47) bs) eq,
      and_false
          (nat_le size 32),
    ) refl
step_name room whole size true b bs false false false true k es et eq eh ek all more =
    rw (es, et, eq, eh) (more (size + 1) false (omega arith)
    ∙ sym (onto_hyphen size room b _ (some_text (λ x. x == 47) bs) et eh))
step_name room whole size true b bs false false false false k es et eq eh ek all more =
    rw (es, et, eq, eh) (sym (onto_other size true room b _ (some_text (λ x. x == 47) bs) et eq eh))
step_name room whole size false b bs false false false h k es et eq eh ek all more =
    rw (es, et) (sym (onto_other size false room b _ (some_text (λ x. x == 47) bs) et eq refl))

name_left : (bs : List ℕ) (room whole size : ℕ) (begun : Bool) → size + length bs ≡ whole + 1
    → goes_to room (name_rest whole begun bs)
    ≡ parts_left size begun room (slice_split (λ x. x == 47) bs)
name_left [] room whole size begun all = sym (nothing_left size begun room [])
name_left (b ∷ bs) room whole size begun all =
    step_name room whole size begun b bs (b == 47) (is_piece_byte b) (b == 61) (b == 45)
    (nat_le size 32) refl refl refl refl refl all (λ m g h. name_left bs room whole m g h)

-- ---- what is left after a part

swap : (x y z : Bool) → (x && (y && z)) ≡ (y && (x && z))
swap true true z = refl
swap true false z = refl
swap false true z = refl
swap false false z = refl

one_less : (n room : ℕ) → nat_le (suc n) (suc room) ≡ nat_le n room
one_less n room = grind (arith, nat_tests)

parts_cons : (room : ℕ) (c : List ℕ) (cs : List (List ℕ))
    → are_parts (suc room) (c ∷ cs) ≡ (is_part c && are_parts room cs)
unfolding are_parts
parts_cons room c cs = ap (λ r. r && (is_part c && list_all is_part cs)) (one_less (length cs) room)
    ∙ swap (nat_le (length cs) room) (is_part c) (list_all is_part cs)

letter_byte : (b : ℕ) → is_ascii_alphabetic b ≡ true → is_piece_byte b ≡ true
letter_byte b e = grind (arith, nat_tests)

letter_slash : (b : ℕ) → is_ascii_alphabetic b ≡ true → (b == 47) ≡ false
letter_slash b e = grind (arith, nat_tests)

one_longer : (n : ℕ) → nat_le (0 + suc n) 32 ≡ nat_le (1 + n) 32
one_longer n = grind (arith, nat_tests)

letter_part : (b : ℕ) (c : List ℕ) → is_ascii_alphabetic b ≡ true
    → is_part (b ∷ c) ≡ part_left 1 true c
unfolding is_part is_name
letter_part b c e =
    let p = letter_byte b e in
    rw (
      before_more b c (equals_not b p),
      after_more b c (equals_not b p),
      e,
      component_is
          (b ∷ before_first (λ x. x == 61) c),
      p,
      one_longer (length (before_first (λ x. x == 61) c)),
    )
    refl

no_letter : (b : ℕ) (c : List ℕ) (q : Bool) → is_ascii_alphabetic b ≡ false → (b == 61) ≡ q
    → is_part (b ∷ c) ≡ false
unfolding is_part is_name
no_letter b c true e f = rw (before_here b c f) refl
no_letter b c false e f = rw (before_more b c f, e) refl

no_bytes : is_part [] ≡ false
unfolding is_part is_name
no_bytes = refl

onto_letter : (room b : ℕ) (cs : List (List ℕ)) → 0 < length cs → is_ascii_alphabetic b ≡ true
    → are_parts (suc room) (onto_first b cs) ≡ parts_left 1 true room cs
onto_letter room b [] h e = absurd (omega arith)
onto_letter room b (c ∷ cs) h e = parts_cons room (b ∷ c) cs
    ∙ ap (λ r. r && are_parts room cs) (letter_part b c e)

onto_none : (room b : ℕ) (cs : List (List ℕ)) → 0 < length cs → is_ascii_alphabetic b ≡ false
    → are_parts (suc room) (onto_first b cs) ≡ false
onto_none room b [] h e = absurd (omega arith)
onto_none room b (c ∷ cs) h e = parts_cons room (b ∷ c) cs
    ∙ ap (λ r. r && are_parts room cs) (no_letter b c (b == 61) e refl)

goes_then : (room : ℕ) (o : Option (List ℕ))
    → goes room (option_and_then (instance_rest false 0) o) ≡ goes_to room o
goes_then room None = refl
goes_then room (Some bs) = refl

step_part : (room b : ℕ) (bs : List ℕ) (a s : Bool) → is_ascii_alphabetic b ≡ a → (b == 47) ≡ s
    → are_parts (suc room) (slice_split (λ x. x == 47) (b ∷ bs)) ≡ goes room (part_rest (b ∷ bs))
step_part room b bs true s e f =
    rw (e, letter_slash b e)
    (onto_letter room b _ (some_text (λ x. x == 47) bs) e
    ∙ sym (goes_then room (name_rest (length bs) true bs)
    ∙ name_left bs room (length bs) 1 true (omega arith)))
step_part room b bs false true e f = rw (e, f)
    (parts_cons room [] _ ∙ ap (λ r. r && are_parts room (slice_split (λ x. x == 47) bs)) no_bytes)
step_part room b bs false false e f = rw (e, f) (onto_none room b _ (some_text (λ x. x == 47) bs) e)

-- the texts are parts where what is left after the first goes on to parts
parts_first : (room : ℕ) (bs : List ℕ) → are_parts (suc room) (slice_split (λ x. x == 47) bs)
    ≡ goes room (part_rest bs)
parts_first room [] = parts_cons room [] [] ∙ ap (λ r. r && are_parts room []) no_bytes
parts_first room (b ∷ bs) = step_part room b bs (is_ascii_alphabetic b) (b == 47) refl refl

pub parts_start : (room : ℕ) (bs : List ℕ) → 0 < room
    → are_parts room (slice_split (λ x. x == 47) bs) ≡ goes (room - 1) (part_rest bs)
parts_start room bs h =
    let e : room ≡ suc (room - 1) = omega arith in
    ap (λ r. are_parts r (slice_split (λ x. x == 47) bs)) e ∙ parts_first (room - 1) bs

pub no_room : (bs : List ℕ) → are_parts 0 (slice_split (λ x. x == 47) bs) ≡ false
unfolding are_parts
no_room bs = let h = some_text (λ x. x == 47) bs in grind (arith, nat_tests)

-- behind a slash there are parts
pub slash_next : (room : ℕ) (rest : List ℕ) → 1 ≤ length rest → get_or rest 0 0 ≡ 47
    → goes_on room rest
    ≡ are_parts room (slice_split (λ x. x == 47) (take (length rest - 1) (drop 1 rest)))
slash_next room [] h e = absurd (omega arith)
slash_next room (b ∷ bs) h e =
    let k : b ≡ 47 = e in
    rw k (ap (λ t. are_parts room (slice_split (λ x. x == 47) t))
    (sym (take_all (length (b ∷ bs) - 1) bs (omega arith))))
