-- A word with a dot is a class: byte by byte it goes on as the grammar of classes has it.
use Rattle.std.proofs.Common.{◌≡◌, ℕ, ◌+◌, ◌<◌, ◌&&◌, ◌||◌, ◌==◌, List, [], ◌∷◌, ◌++◌, length}
use Rattle.std.proofs.Common.{Bool, true, false, nat_le, nat_lt, refl, sym, ap, ◌∙◌}
use Rattle.std.proofs.Common.{subst, arith}
use Rattle.std.specs.Char.{is_ascii_alphabetic}
use Rattle.std.specs.List.{list_all, list_any, slice_split, onto_first}
use Rattle.std.proofs.lemmas.Bool.{false≢true, le-leb}
use Rattle.std.proofs.lemmas.Bool.Decides.{nat_tests}
use Rattle.fm_name.specs.Class.{is_class, are_components, components_of, is_piece_byte}
use Rattle.fm_name.specs.Class.{starts_with_letter}
use Rattle.fm_name.proofs.Cutting.{some_text}
use Rattle.fm_name.proofs.Scanning.{scan, scan_start, any_dots}
use Rattle.ev_lex.specs.Bytes.{is_word_byte, opens_word}
use Rattle.ev_lex.specs.Forms.{IsWord}
use Rattle.ev_lex.specs.Pieces.{is_in_word}

pub and_one : (a b : Bool) → (a && b) ≡ true → a ≡ true
and_one true b e = refl
and_one false b e = e

pub and_two : (a b : Bool) → (a && b) ≡ true → b ≡ true
and_two true b e = e
and_two false b e = absurd (false≢true e)

-- each byte goes on
abbrev AllOn : List ℕ → Type 0
AllOn bytes = (front : List ℕ) (b : ℕ) (back : List ℕ) → bytes ≡ front ++ b ∷ back
    → is_in_word b back ≡ true

-- the parts keep the limit, where the first has so many bytes already
abbrev fit : ℕ → List (List ℕ) → Bool
fit size [] = true
fit size (p ∷ ps) = nat_le (size + length p) 32 && list_all (λ part. nat_le (length part) 32) ps

fit_none : (ps : List (List ℕ)) → list_all (λ part. nat_le (length part) 32) ps ≡ true
    → fit 0 ps ≡ true
fit_none [] e = refl
fit_none (p ∷ ps) e =
    ap (λ n. nat_le n 32 && list_all (λ part. nat_le (length part) 32) ps)
    (let none : 0 + length p ≡ length p = omega arith in none) ∙ e

one_longer : (size n : ℕ) → nat_le (size + (1 + n)) 32 ≡ true → nat_le (size + 1 + n) 32 ≡ true
one_longer size n e = grind (arith, nat_tests)

with_room : (size n : ℕ) → nat_le (size + (1 + n)) 32 ≡ true → nat_lt size 32 ≡ true
with_room size n e = grind (arith, nat_tests)

fit_first : (size b : ℕ) (ps : List (List ℕ)) → 0 < length ps → fit size (onto_first b ps) ≡ true
    → (nat_lt size 32 ≡ true) × (fit (size + 1) ps ≡ true)
fit_first size b [] some e = absurd (omega arith)
fit_first size b (p ∷ ps) some e =
    let others = list_all (λ part. nat_le (length part) 32) ps in
    let long : length (b ∷ p) ≡ 1 + length p = omega arith in
    let first : nat_le (size + (1 + length p)) 32 ≡ true =
    ap (λ n. nat_le (size + n) 32) (sym long)
    ∙ and_one (nat_le (size + length (b ∷ p)) 32) others e in (
      with_room size (length p) first,
      ap (λ t. t && others) (one_longer size (length p) first)
          ∙ and_two (nat_le (size + length (b ∷ p)) 32) others e,
    )

split_other : (b : ℕ) (bs : List ℕ) → (b == 46) ≡ false
    → slice_split (λ x. x == 46) (b ∷ bs) ≡ onto_first b (slice_split (λ x. x == 46) bs)
split_other b bs e = rw e refl

split_dot : (b : ℕ) (bs : List ℕ) → (b == 46) ≡ true
    → slice_split (λ x. x == 46) (b ∷ bs) ≡ [] ∷ slice_split (λ x. x == 46) bs
split_dot b bs e = rw e refl

-- what a byte that is none of a piece is
joint : (b : ℕ) (bs : List ℕ) → is_word_byte b ≡ false → is_in_word b bs ≡ true
    → ((b == 45 || b == 46) ≡ true) × (opens_word bs ≡ true)
joint b bs e on =
    let both : ((b == 45 || b == 46) && opens_word bs) ≡ true =
    sym (ap (λ t. t || ((b == 45 || b == 46) && opens_word bs)) e) ∙ on in (
      and_one (b == 45 || b == 46) (opens_word bs) both,
      and_two (b == 45 || b == 46) (opens_word bs) both,
    )

hyphen : (b : ℕ) → (b == 45 || b == 46) ≡ true → (b == 46) ≡ false → (b == 45) ≡ true
hyphen b e f = grind (arith, nat_tests)

dot_not : (b : ℕ) → is_word_byte b ≡ true → (b == 46) ≡ false
dot_not b e = grind (arith, nat_tests)

on_tail : (b : ℕ) (bs : List ℕ) → AllOn (b ∷ bs) → AllOn bs
on_tail b bs on front c back e = on (b ∷ front) c back (ap (λ l. b ∷ l) e)

scan_letter : (size : ℕ) (begun : Bool) (b : ℕ) (bs : List ℕ) → is_piece_byte b ≡ true
    → nat_lt size 32 ≡ true → scan (size + 1) true bs ≡ true → scan size begun (b ∷ bs) ≡ true
scan_letter size begun b bs e f g = rw (e, f) g

scan_dot : (size : ℕ) (b : ℕ) (bs : List ℕ) → is_piece_byte b ≡ false → (b == 46) ≡ true
    → scan 0 false bs ≡ true → scan size true (b ∷ bs) ≡ true
scan_dot size b bs e f g = rw (e, f) g

scan_hyphen : (size : ℕ) (b : ℕ) (bs : List ℕ) → is_piece_byte b ≡ false → (b == 46) ≡ false
    → (b == 45) ≡ true → nat_lt size 32 ≡ true → scan (size + 1) false bs ≡ true
    → scan size true (b ∷ bs) ≡ true
scan_hyphen size b bs e f g h i = rw (e, f, g, h) i

begun_is : (begun : Bool) (b : ℕ) (bs : List ℕ) → is_word_byte b ≡ false
    → (begun || opens_word (b ∷ bs)) ≡ true → begun ≡ true
begun_is true b bs e f = refl
begun_is false b bs e f = absurd (false≢true (sym e ∙ f))

by_test : {P : Type 0} (b : Bool) → (b ≡ true → P) → (b ≡ false → P) → P
by_test true yes' no' = yes' refl
by_test false yes' no' = no' refl

-- bytes that go on, within the limits, are components
goes : (bs : List ℕ) (size : ℕ) (begun : Bool) → (begun || opens_word bs) ≡ true → AllOn bs
    → fit size (slice_split (λ x. x == 46) bs) ≡ true → scan size begun bs ≡ true
goes [] size true start on fits = refl
goes [] size false start on fits = start
goes (b ∷ bs) size begun start on fits = by_test (is_word_byte b)
    (λ w. let split = split_other b bs (dot_not b w) in
    let parts = fit_first size b (slice_split (λ x. x == 46) bs) (some_text (λ x. x == 46) bs)
    (ap (fit size) (sym split) ∙ fits) in
    scan_letter size begun b bs w parts.0
    (goes bs (size + 1) true refl (on_tail b bs on) parts.1))
    (λ w. let j = joint b bs w (on [] b bs refl) in
    subst (λ t. scan size t (b ∷ bs) ≡ true) (sym (begun_is begun b bs w start))
    (by_test (b == 46)
    (λ d. scan_dot size b bs w d (goes bs 0 false j.1 (on_tail b bs on)
    (fit_none (slice_split (λ x. x == 46) bs)
    (and_two (nat_le (size + 0) 32) _ (ap (fit size) (sym (split_dot b bs d)) ∙ fits)))))
    (λ d. let split = split_other b bs d in
    let parts = fit_first size b (slice_split (λ x. x == 46) bs)
    (some_text (λ x. x == 46) bs) (ap (fit size) (sym split) ∙ fits) in
    scan_hyphen size b bs w d (hyphen b j.0 d) parts.0
    (goes bs (size + 1) false j.1 (on_tail b bs on) parts.1))))

pub letter_opens : (b : ℕ) → is_ascii_alphabetic b ≡ true → is_word_byte b ≡ true
letter_opens b e = grind (arith, nat_tests)

pub word_is_class : (bytes after : List ℕ) → IsWord bytes after
    → list_any (λ b. b == 46) bytes ≡ true
    → is_class bytes ≡ true
unfolding is_class
word_is_class bytes after w dot =
    let letter = w.letter in
    let starts : starts_with_letter bytes ≡ true = ap starts_with_letter letter.2 ∙ letter.3 in
    let opens : opens_word bytes ≡ true = ap opens_word letter.2 ∙ letter_opens letter.0 letter.3 in
    let components : are_components bytes ≡ true =
    sym (scan_start bytes)
    ∙ goes bytes 0 false opens w.inside
    (fit_none (slice_split (λ x. x == 46) bytes) w.parts) in
    let dots : nat_le 2 (length (components_of bytes)) ≡ true = sym (any_dots bytes) ∙ dot in
    rw (le-leb (length bytes) 255 w.short, starts, dots) components
