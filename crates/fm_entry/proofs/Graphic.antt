-- Classes and paths have neither spaces nor control bytes.
use Rattle.std.proofs.Common.{◌≡◌, ℕ, suc, ◌+◌, ◌<◌, Bool, true, false, ◌&&◌, ◌||◌, ◌==◌, not, cond}
use Rattle.std.proofs.Common.{nat_lt, nat_le, IsTrue, List, [], ◌∷◌, ◌++◌, length, take, drop}
use Rattle.std.proofs.Common.{codes, refl, ◌∙◌, subst, arith}
use Rattle.std.specs.List.{list_all, slice_split, join_with_byte, before_first, after_first}
use Rattle.std.specs.List.{position_or_len}
use Rattle.std.specs.Char.{is_ascii_alphanumeric, is_ascii_digit}
use Rattle.std.specs.Int.{is_in_range}
use Rattle.std.proofs.lemmas.Bool.{leb-true, lt-ltb, eqb-true}
use Rattle.std.proofs.lemmas.List.{take-append-drop}
use Rattle.std.proofs.lemmas.List.Folds.{list_all-append}
use Rattle.std.proofs.lemmas.List.Splits.{join_with_byte-slice_split}
use Rattle.std.proofs.lemmas.Slice.Eq.{bytes_eq-Decides}
use Rattle.fm_name.specs.Class.{is_piece_byte, is_piece, is_component, are_components, is_class}
use Rattle.fm_name.specs.Class.{components_of}
use Rattle.fm_name.specs.Path.{is_name, is_instance, is_part, are_parts, is_path, part_texts}
use Rattle.fm_bytes.specs.Decimals.{are_digits, is_numeral}
use Rattle.fm_bytes.proofs.Booleans.{and_parts, and_true}

-- a byte of a text without spaces, in ASCII
abbrev pub is_graphic : ℕ → Bool
is_graphic b = nat_lt 32 b && nat_lt b 128

abbrev pub graphic : List ℕ → Bool
graphic bs = list_all is_graphic bs

graphic_byte : (b : ℕ) → 32 < b → b < 128 → IsTrue (is_graphic b)
graphic_byte b low high =
    and_true (nat_lt 32 b) (nat_lt b 128) (lt-ltb 32 b low) (lt-ltb b 128 high)

pub graphic_append : (xs ys : List ℕ) → IsTrue (graphic xs) → IsTrue (graphic ys)
    → IsTrue (graphic (xs ++ ys))
graphic_append xs ys h k = list_all-append is_graphic xs ys ∙ and_true (graphic xs) (graphic ys) h k

graphic_halves : (n : ℕ) (xs : List ℕ) → IsTrue (graphic (take n xs)) → IsTrue (graphic (drop n xs))
    → IsTrue (graphic xs)
graphic_halves n xs h k =
    subst (λ (ys : List ℕ). IsTrue (graphic ys)) (take-append-drop n xs)
    (graphic_append (take n xs) (drop n xs) h k)

graphic_join : (c : ℕ) → IsTrue (is_graphic c) → (pieces : List (List ℕ))
    → IsTrue (list_all graphic pieces) → IsTrue (graphic (join_with_byte c pieces))
graphic_join c low [] h = refl
graphic_join c low (x ∷ []) h = (and_parts (graphic x) _ h).0
graphic_join c low (x ∷ y ∷ xs) h =
    let parts = and_parts (graphic x) _ h in
    graphic_append x (c ∷ join_with_byte c (y ∷ xs)) parts.0
    (and_true (is_graphic c) _ low (graphic_join c low (y ∷ xs) parts.1))

graphic_split : (c : ℕ) → IsTrue (is_graphic c) → (bs : List ℕ)
    → IsTrue (list_all graphic (slice_split (λ b. b == c) bs)) → IsTrue (graphic bs)
graphic_split c low bs h =
    subst (λ (ys : List ℕ). IsTrue (graphic ys)) (join_with_byte-slice_split c bs)
    (graphic_join c low (slice_split (λ b. b == c) bs) h)

-- what passes a narrower test
all_of : {A : Type 0} (p q : A → Bool) → ((x : A) → IsTrue (p x) → IsTrue (q x)) → (xs : List A)
    → IsTrue (list_all p xs) → IsTrue (list_all q xs)
all_of p q f [] h = refl
all_of p q f (x ∷ xs) h = let parts = and_parts (p x) _ h in
    and_true (q x) _ (f x parts.0) (all_of p q f xs parts.1)

either : (a b c : Bool) → (IsTrue a → IsTrue c) → (IsTrue b → IsTrue c) → IsTrue (a || b) → IsTrue c
either true b c f g h = f refl
either false b c f g h = g h

in_range : (low high c : ℕ) → 32 < low → high < 128 → IsTrue (is_in_range low high c)
    → IsTrue (is_graphic c)
in_range low high c more less k =
    let sides = and_parts (nat_le low c) (nat_le c high) k in
    let least = leb-true low c sides.0 in
    let most = leb-true c high sides.1 in
    graphic_byte c (omega arith) (omega arith)

piece_byte : (b : ℕ) → IsTrue (is_piece_byte b) → IsTrue (is_graphic b)
piece_byte b h =
    either (is_ascii_alphanumeric b) (b == 95) (is_graphic b)
    (either (is_in_range 48 57 b || is_in_range 65 90 b) (is_in_range 97 122 b) (is_graphic b)
    (either (is_in_range 48 57 b) (is_in_range 65 90 b) (is_graphic b)
    (in_range 48 57 b (omega arith) (omega arith))
    (in_range 65 90 b (omega arith) (omega arith)))
    (in_range 97 122 b (omega arith) (omega arith)))
    (λ e. let same = eqb-true b 95 e in graphic_byte b (omega arith) (omega arith))
    h

piece_graphic : (bs : List ℕ) → IsTrue (is_piece bs) → IsTrue (graphic bs)
piece_graphic bs h = all_of is_piece_byte is_graphic piece_byte bs
    (and_parts (nat_lt 0 (length bs)) _ h).1

component_graphic : (bs : List ℕ) → IsTrue (is_component bs) → IsTrue (graphic bs)
unfolding is_component
component_graphic bs h =
    graphic_split 45 refl bs
    (all_of is_piece graphic piece_graphic (slice_split (λ b. b == 45) bs)
    (and_parts (nat_le (length bs) 32) _ h).1)

pub class_graphic : (bs : List ℕ) → IsTrue (is_class bs) → IsTrue (graphic bs)
unfolding is_class are_components
class_graphic bs h =
    let one = and_parts (nat_le (length bs) 255) _ h in
    let two = and_parts _ _ one.1 in
    let three = and_parts _ _ two.1 in
    graphic_split 46 refl bs
    (all_of is_component graphic component_graphic (components_of bs) three.1)

digit_byte : (b : ℕ) → IsTrue (is_ascii_digit b) → IsTrue (is_graphic b)
digit_byte b h = in_range 48 57 b (omega arith) (omega arith) h

around_one : (b : ℕ) (bs : List ℕ) (is : Bool) (n : ℕ) → (b == 61) ≡ is
    → IsTrue (graphic (take (cond (not is) (1 + n) 0) (b ∷ bs)))
    → IsTrue (graphic (drop (cond (not is) (1 + n) 0 + 1) (b ∷ bs)))
    → (IsTrue (graphic (take n bs)) → IsTrue (graphic (drop (n + 1) bs)) → IsTrue (graphic bs))
    → IsTrue (graphic (b ∷ bs))
around_one b bs true n e h k more = let same = eqb-true b 61 e in
    and_true (is_graphic b) (graphic bs) (graphic_byte b (omega arith) (omega arith)) k
around_one b bs false n e h k more =
    let next : 1 + n ≡ suc n = omega arith in
    let after : 1 + n + 1 ≡ suc (n + 1) = omega arith in
    let front : IsTrue (graphic (take (suc n) (b ∷ bs))) =
    subst (λ (m : ℕ). IsTrue (graphic (take m (b ∷ bs)))) next h in
    let back : IsTrue (graphic (drop (suc (n + 1)) (b ∷ bs))) =
    subst (λ (m : ℕ). IsTrue (graphic (drop m (b ∷ bs)))) after k in
    let parts = and_parts (is_graphic b) (graphic (take n bs)) front in
    and_true (is_graphic b) (graphic bs) parts.0 (more parts.1 back)

around : (bs : List ℕ) → IsTrue (graphic (before_first (λ b. b == 61) bs))
    → IsTrue (graphic (after_first (λ b. b == 61) bs)) → IsTrue (graphic bs)
around [] h k = refl
around (b ∷ bs) h k =
    around_one b bs (b == 61) (position_or_len (λ x. x == 61) bs) refl h k (around bs)

instance_graphic : (bs : List ℕ) → IsTrue (is_instance bs) → IsTrue (graphic bs)
unfolding is_instance
instance_graphic bs h =
    let numeral = and_parts (is_numeral bs) _ h in
    let digits = and_parts (are_digits bs) _ numeral.0 in
    all_of is_ascii_digit is_graphic digit_byte bs
    (and_parts (nat_lt 0 (length bs)) (list_all is_ascii_digit bs) digits.0).1

part_graphic : (bs : List ℕ) → IsTrue (is_part bs) → IsTrue (graphic bs)
unfolding is_part is_name
part_graphic bs h =
    let parts = and_parts (is_name (before_first (λ b. b == 61) bs)) _ h in
    let name = and_parts _ (is_component (before_first (λ b. b == 61) bs)) parts.0 in
    around bs (component_graphic (before_first (λ b. b == 61) bs) name.1)
    (instance_graphic (after_first (λ b. b == 61) bs) parts.1)

pub path_graphic : (bs : List ℕ) → IsTrue (is_path bs) → IsTrue (graphic bs)
unfolding is_path are_parts
path_graphic bs h =
    let one = and_parts (nat_le (length bs) 709) _ h in
    let two = and_parts _ _ one.1 in
    let three = and_parts _ (list_all is_part (part_texts bs)) two.1 in
    let front : codes "hc:///" ≡ take 6 bs =
    (bytes_eq-Decides (codes "hc:///") (take 6 bs)).0 two.0 in
    let start : IsTrue (graphic (take 6 bs)) =
    subst (λ (ys : List ℕ). IsTrue (graphic ys)) front refl in
    graphic_halves 6 bs start
    (graphic_split 47 refl (drop 6 bs)
    (all_of is_part graphic part_graphic (part_texts bs) three.1))
