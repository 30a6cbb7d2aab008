-- Names, classes and texts are ASCII.
use Rattle.std.proofs.Common.{◌≡◌, ℕ, ◌<◌, ◌&&◌, ◌||◌, ◌==◌, Bool, true, false, List, [], ◌∷◌}
use Rattle.std.proofs.Common.{length, nat_le, if◌then◌else◌, Some, None, arith, refl}
use Rattle.std.specs.Str.{IsAscii, IsUtf8}
use Rattle.std.specs.List.{list_all, slice_split, onto_first}
use Rattle.std.proofs.lemmas.Bool.Decides.{nat_tests}
use Rattle.std.proofs.lemmas.Str.{IsUtf8-from_ascii}
use Rattle.std.proofs.lemmas.Str.Ascii.{IsAscii-nil, IsAscii-cons}
use Rattle.fm_name.specs.Class.{is_class, are_components, is_component, is_piece, is_piece_byte}
use Rattle.fm_name.specs.Class.{components_of, starts_with_letter}
use Rattle.ev_lex.specs.Bytes.{is_text_byte}
use Rattle.ev_tree.specs.Tok.{is_name_byte}

and_first : (a b : Bool) → (a && b) ≡ true → a ≡ true
and_first true b e = refl
and_first false b e = e

and_second : (a b : Bool) → (a && b) ≡ true → b ≡ true
and_second true b e = e
and_second false b e = absurd (cc)

and_both : (a b : Bool) → a ≡ true → b ≡ true → (a && b) ≡ true
and_both true b e f = f
and_both false b e f = absurd (cc)

-- where each byte that passes is ASCII
all_ascii : (p : ℕ → Bool) → ((b : ℕ) → p b ≡ true → b < 128) → (bs : List ℕ) → list_all p bs ≡ true
    → IsAscii bs
all_ascii p small [] e = IsAscii-nil
all_ascii p small (b ∷ bs) e =
    IsAscii-cons b bs (small b (and_first (p b) (list_all p bs) e))
    (all_ascii p small bs (and_second (p b) (list_all p bs) e))

name_byte_small : (b : ℕ) → is_name_byte b ≡ true → b < 128
name_byte_small b e = grind (arith, nat_tests)

text_byte_small : (b : ℕ) → is_text_byte b ≡ true → b < 128
text_byte_small b e = grind (arith, nat_tests)

pub names_ascii : (bs : List ℕ) → list_all is_name_byte bs ≡ true → IsAscii bs
names_ascii bs e = all_ascii is_name_byte name_byte_small bs e

pub texts_ascii : (bs : List ℕ) → list_all is_text_byte bs ≡ true → IsAscii bs
texts_ascii bs e = all_ascii is_text_byte text_byte_small bs e

list_all_weaken : {X : Type 0} (p q : X → Bool) → ((x : X) → p x ≡ true → q x ≡ true)
    → (xs : List X) → list_all p xs ≡ true → list_all q xs ≡ true
list_all_weaken p q weak [] e = refl
list_all_weaken p q weak (x ∷ xs) e =
    and_both (q x) (list_all q xs) (weak x (and_first (p x) (list_all p xs) e))
    (list_all_weaken p q weak xs (and_second (p x) (list_all p xs) e))

or_first : (a b : Bool) → a ≡ true → (a || b) ≡ true
or_first true b e = refl
or_first false b e = absurd (cc)

or_second : (a b : Bool) → b ≡ true → (a || b) ≡ true
or_second true b e = refl
or_second false b e = e

-- a byte in front of the parts passes with the first of them
in_front : (q : ℕ → Bool) (b : ℕ) (parts : List (List ℕ)) (R : Type 0)
    → (list_all (list_all q) parts ≡ true → R) → list_all (list_all q) (onto_first b parts) ≡ true
    → (q b ≡ true) × R
in_front q b [] R goes e = (and_first (q b) true (and_first (q b && true) true e), goes refl)
in_front q b (part ∷ parts) R goes e =
    let first : (q b && list_all q part) ≡ true =
    and_first (q b && list_all q part) (list_all (list_all q) parts) e in (
      and_first (q b) (list_all q part) first,
      goes (and_both (list_all q part) (list_all (list_all q) parts)
          (and_second (q b) (list_all q part) first)
          (and_second (q b && list_all q part) (list_all (list_all q) parts) e)),
    )

by_cut : (p q : ℕ → Bool) (b : ℕ) (bs : List ℕ) (rest : Bool)
    → (list_all (list_all q) (slice_split p bs) ≡ true → rest ≡ true) → (c : Bool) → p b ≡ c
    → list_all (list_all q) (if c then [] ∷ slice_split p bs else onto_first b (slice_split p bs))
    ≡ true → ((p b || q b) && rest) ≡ true
by_cut p q b bs rest goes true is e = and_both (p b || q b) rest (or_first (p b) (q b) is) (goes e)
by_cut p q b bs rest goes false is e =
    let both = in_front q b (slice_split p bs) (rest ≡ true) goes e in
    and_both (p b || q b) rest (or_second (p b) (q b) both.0) both.1

-- where each byte of each part passes, each byte passes or cuts
parts_pass : (p q : ℕ → Bool) (bs : List ℕ) → list_all (list_all q) (slice_split p bs) ≡ true
    → list_all (λ b. p b || q b) bs ≡ true
parts_pass p q [] e = refl
parts_pass p q (b ∷ bs) e =
    by_cut p q b bs (list_all (λ x. p x || q x) bs) (parts_pass p q bs) (p b) refl e

piece_bytes : (part : List ℕ) → is_piece part ≡ true → list_all is_piece_byte part ≡ true
piece_bytes part e = and_second _ (list_all is_piece_byte part) e

component_bytes : (part : List ℕ) → is_component part ≡ true
    → list_all (λ b. (b == 45) || is_piece_byte b) part ≡ true
unfolding is_component
component_bytes part e =
    parts_pass (λ b. b == 45) is_piece_byte part
    (list_all_weaken is_piece (list_all is_piece_byte) piece_bytes (slice_split (λ b. b == 45) part)
    (and_second _ (list_all is_piece (slice_split (λ b. b == 45) part)) e))

components_bytes : (bs : List ℕ) → are_components bs ≡ true
    → list_all (λ b. (b == 46) || ((b == 45) || is_piece_byte b)) bs ≡ true
unfolding are_components
components_bytes bs e =
    parts_pass (λ b. b == 46) (λ b. (b == 45) || is_piece_byte b) bs
    (list_all_weaken is_component (list_all (λ b. (b == 45) || is_piece_byte b)) component_bytes
    (slice_split (λ b. b == 46) bs) e)

class_byte_small : (b : ℕ) → ((b == 46) || ((b == 45) || is_piece_byte b)) ≡ true → b < 128
class_byte_small b e = grind (arith, nat_tests)

class_components : (bs : List ℕ) → is_class bs ≡ true → are_components bs ≡ true
unfolding is_class
class_components bs e =
    let two = nat_le 2 (length (components_of bs)) in
    and_second two (are_components bs)
    (and_second (starts_with_letter bs) (two && are_components bs)
    (and_second (nat_le (length bs) 255) (starts_with_letter bs && (two && are_components bs))
    e))

pub class_ascii : (bs : List ℕ) → is_class bs ≡ true → IsAscii bs
class_ascii bs e = all_ascii (λ b. (b == 46) || ((b == 45) || is_piece_byte b)) class_byte_small bs
    (components_bytes bs (class_components bs e))

-- what is no text is no class
pub no_text_no_class : (bs : List ℕ) → (IsUtf8 bs → ⊥)
    → None ≡ (if is_class bs then Some bs else None)
no_text_no_class bs no_text = by_test (is_class bs) refl
  where
    by_test : (c : Bool) → is_class bs ≡ c → None ≡ (if c then Some bs else None)
    by_test true e = absurd (no_text (IsUtf8-from_ascii bs (class_ascii bs e)))
    by_test false e = refl
