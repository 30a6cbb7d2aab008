-- Texts that are cut at a byte, and the bytes of names and paths.
use Rattle.std.proofs.Common.{◌≡◌, ◌<◌, ◌≤◌, ◌+◌, ◌-◌, ℕ, zero, suc, Bool, true, false, not, cond}
use Rattle.std.proofs.Common.{◌&&◌, ◌||◌, List, [], ◌∷◌, ◌++◌, length, take, drop, refl, arith, ap}
use Rattle.std.proofs.Common.{sym, ◌∙◌, nat_lt, nat_le, slice_index, add-one, one-add}
use Rattle.std.proofs.Common.{length-take-le, length-drop, length-append, ⊎_elim, true≢false}
use Rattle.std.specs.Prelude.{◌==◌, nat_eq, codes}
use Rattle.std.specs.List.{list_all, position_or_len, before_first, after_first, onto_first}
use Rattle.std.specs.List.{slice_split, starts_with}
use Rattle.std.specs.Char.{is_ascii_digit}
use Rattle.std.specs.Cmp.Lexicographic.{bytes_decides}
use Rattle.std.proofs.Math.Nat.{eq-or-lt_of_le}
use Rattle.std.proofs.Math.Seq.{take-append_seam, drop-append-add}
use Rattle.std.proofs.lemmas.Grind.{common_steps}
use Rattle.std.proofs.lemmas.List.{drop_all, take-append-drop}
use Rattle.std.proofs.lemmas.List.Folds.{list_all-append}
use Rattle.std.proofs.lemmas.List.Sums.{prefix_len-le-length}
use Rattle.fm_name.specs.Class.{is_piece_byte, is_piece, is_component}
use Rattle.fm_name.specs.Path.{is_name, is_instance, is_part, are_parts, is_path}
use Rattle.fm_name.proofs.Cutting.{cut_some}

-- ---- every byte
pub and_both : (a b : Bool) → (a && b) ≡ true → (a ≡ true) × (b ≡ true)
and_both true b h = (refl, h)
and_both false b h = absurd (true≢false (sym h))

pub both_and : (a b : Bool) → a ≡ true → b ≡ true → (a && b) ≡ true
both_and a b e f = rw e f

pub all_parts : {X : Type 0} (p : X → Bool) (x : X) (xs : List X) → list_all p (x ∷ xs) ≡ true
    → (p x ≡ true) × (list_all p xs ≡ true)
all_parts p x xs h = and_both (p x) (list_all p xs) h

pub all_weaker : {X : Type 0} (p q : X → Bool) → ((x : X) → p x ≡ true → q x ≡ true) → (xs : List X)
    → list_all p xs ≡ true → list_all q xs ≡ true
all_weaker p q f [] h = refl
all_weaker p q f (x ∷ xs) h = let t = all_parts p x xs h in
    both_and (q x) (list_all q xs) (f x t.0) (all_weaker p q f xs t.1)

pub all_joined : {X : Type 0} (p : X → Bool) (xs ys : List X) → list_all p xs ≡ true
    → list_all p ys ≡ true → list_all p (xs ++ ys) ≡ true
all_joined p xs ys h k = list_all-append p xs ys ∙ both_and (list_all p xs) (list_all p ys) h k

pub all_index : (p : ℕ → Bool) (xs : List ℕ) (i : ℕ) → list_all p xs ≡ true → i < length xs
    → p (slice_index xs i) ≡ true
all_index p [] i h l = absurd (omega arith)
all_index p (x ∷ xs) zero h l = (all_parts p x xs h).0
all_index p (x ∷ xs) (suc i) h l = all_index p xs i (all_parts p x xs h).1 (omega (arith, l))

-- ---- a text that is cut at its first byte of a kind
not_true : (b : Bool) → not b ≡ true → b ≡ false
not_true true h = absurd (true≢false (sym h))
not_true false h = refl

pub position_at : (p : ℕ → Bool) (xs ys : List ℕ) (y : ℕ) → list_all (λ x. not (p x)) xs ≡ true
    → p y ≡ true → position_or_len p (xs ++ (y ∷ ys)) ≡ length xs
position_at p [] ys y h k = rw k refl
position_at p (x ∷ xs) ys y h k =
    let t = all_parts (λ x. not (p x)) x xs h in
    let e : p x ≡ false = not_true (p x) t.0 in
    rw e (omega (arith, position_at p xs ys y t.1 k))

pub position_none : (p : ℕ → Bool) (xs : List ℕ) → list_all (λ x. not (p x)) xs ≡ true
    → position_or_len p xs ≡ length xs
position_none p [] h = refl
position_none p (x ∷ xs) h =
    let t = all_parts (λ x. not (p x)) x xs h in
    let e : p x ≡ false = not_true (p x) t.0 in
    rw e (omega (arith, position_none p xs t.1))

pub before_at : (p : ℕ → Bool) (xs ys : List ℕ) (y : ℕ) → list_all (λ x. not (p x)) xs ≡ true
    → p y ≡ true → before_first p (xs ++ (y ∷ ys)) ≡ xs
before_at p xs ys y h k = ap (λ n. take n (xs ++ (y ∷ ys))) (position_at p xs ys y h k)
    ∙ take-append_seam xs (y ∷ ys)

pub after_at : (p : ℕ → Bool) (xs ys : List ℕ) (y : ℕ) → list_all (λ x. not (p x)) xs ≡ true
    → p y ≡ true → after_first p (xs ++ (y ∷ ys)) ≡ ys
after_at p xs ys y h k = ap (λ n. drop (n + 1) (xs ++ (y ∷ ys))) (position_at p xs ys y h k)
    ∙ drop-append-add xs (y ∷ ys) 1

pub split_at : (p : ℕ → Bool) (xs ys : List ℕ) (y : ℕ) → list_all (λ x. not (p x)) xs ≡ true
    → p y ≡ true → slice_split p (xs ++ (y ∷ ys)) ≡ xs ∷ slice_split p ys
split_at p xs ys y h k =
    cut_some p (xs ++ (y ∷ ys)) xs ys (sym (before_at p xs ys y h k)) (sym (after_at p xs ys y h k))
    (let e = position_at p xs ys y h k in let l = length-append xs (y ∷ ys) in omega (arith, e, l))

pub position_le : (p : ℕ → Bool) (xs : List ℕ) → position_or_len p xs ≤ length xs
position_le p xs = prefix_len-le-length (λ x. not (p x)) xs

-- where something stands behind the byte, it is there
pub inside : (p : ℕ → Bool) (xs : List ℕ) → 0 < length (after_first p xs)
    → position_or_len p xs < length xs
inside p xs h =
    ⊎_elim (λ e. let d : after_first p xs ≡ [] = ap (λ n. drop (n + 1) xs) e
    ∙ drop_all (length xs + 1) xs (omega arith) in absurd (omega (arith, ap length d)))
    (λ l. l) (eq-or-lt_of_le (position_le p xs))

pub before_length : (p : ℕ → Bool) (xs : List ℕ) → length (before_first p xs) ≡ position_or_len p xs
before_length p xs = length-take-le (position_or_len p xs) xs (position_le p xs)

pub after_length : (p : ℕ → Bool) (xs : List ℕ)
    → length (after_first p xs) ≡ length xs - (position_or_len p xs + 1)
after_length p xs = length-drop (position_or_len p xs + 1) xs

-- ---- what holds of all bytes of all parts
onto_all : (q : ℕ → Bool) (x : ℕ) (parts : List (List ℕ))
    → list_all (λ s. list_all q s) (onto_first x parts) ≡ true → (q x ≡ true)
    × (list_all (λ s. list_all q s) parts ≡ true)
onto_all q x [] h = ((and_both (q x) true (and_both (q x && true) true h).0).0, refl)
onto_all q x (s ∷ ss) h =
    let t = and_both (q x && list_all q s) (list_all (λ s. list_all q s) ss) h in
    let u = and_both (q x) (list_all q s) t.0 in
    (u.0, both_and (list_all q s) (list_all (λ s. list_all q s) ss) u.1 t.1)

split_step : (p q : ℕ → Bool) (x : ℕ) (xs : List ℕ) (t : Bool) → p x ≡ t → (p x ≡ true → q x ≡ true)
    → (list_all (λ s. list_all q s) (slice_split p xs) ≡ true → list_all q xs ≡ true)
    → list_all (λ s. list_all q s)
    (cond t ([] ∷ slice_split p xs) (onto_first x (slice_split p xs))) ≡ true
    → list_all q (x ∷ xs) ≡ true
split_step p q x xs true e f more h = both_and (q x) (list_all q xs) (f e) (more h)
split_step p q x xs false e f more h =
    let t = onto_all q x (slice_split p xs) h in
    both_and (q x) (list_all q xs) t.0 (more t.1)

pub split_all : (p q : ℕ → Bool) → ((x : ℕ) → p x ≡ true → q x ≡ true) → (xs : List ℕ)
    → list_all (λ s. list_all q s) (slice_split p xs) ≡ true → list_all q xs ≡ true
split_all p q f [] h = refl
split_all p q f (x ∷ xs) h = split_step p q x xs (p x) refl (f x) (split_all p q f xs) h

take_more : (n x : ℕ) (xs : List ℕ) → take (1 + n) (x ∷ xs) ≡ x ∷ take n xs
take_more n x xs = rw (one-add n) refl

drop_more : (n x : ℕ) (xs : List ℕ) → drop (1 + n + 1) (x ∷ xs) ≡ drop (n + 1) xs
drop_more n x xs = rw (one-add n, add-one (suc n), add-one n) refl

cut_step : (p q : ℕ → Bool) (x : ℕ) (xs : List ℕ) (t : Bool) → p x ≡ t → (p x ≡ true → q x ≡ true)
    → (list_all q (before_first p xs) ≡ true → list_all q (after_first p xs) ≡ true
    → list_all q xs ≡ true)
    → list_all q (before_first p (x ∷ xs)) ≡ true → list_all q (after_first p (x ∷ xs)) ≡ true
    → list_all q (x ∷ xs) ≡ true
cut_step p q x xs true e f more h k =
    let a : list_all q xs ≡ true = rw e at k in
    both_and (q x) (list_all q xs) (f e) a
cut_step p q x xs false e f more h k =
    let n = position_or_len p xs in
    let i : list_all q (take (1 + n) (x ∷ xs)) ≡ true = rw e at h in
    let j : list_all q (drop (1 + n + 1) (x ∷ xs)) ≡ true = rw e at k in
    let b : list_all q (x ∷ before_first p xs) ≡ true = ap (list_all q) (sym (take_more n x xs))
    ∙ i in
    let a : list_all q (after_first p xs) ≡ true = ap (list_all q) (sym (drop_more n x xs)) ∙ j in
    let t = all_parts q x (before_first p xs) b in
    both_and (q x) (list_all q xs) t.0 (more t.1 a)

pub cut_all : (p q : ℕ → Bool) → ((x : ℕ) → p x ≡ true → q x ≡ true) → (xs : List ℕ)
    → list_all q (before_first p xs) ≡ true → list_all q (after_first p xs) ≡ true
    → list_all q xs ≡ true
cut_all p q f [] h k = refl
cut_all p q f (x ∷ xs) h k = cut_step p q x xs (p x) refl (f x) (cut_all p q f xs) h k

-- ---- names and paths
-- a byte of a name, and one of a path
abbrev pub is_name_byte : ℕ → Bool
is_name_byte b = is_piece_byte b || b == 45

abbrev pub is_path_byte : ℕ → Bool
is_path_byte b = nat_le 35 b && nat_le b 126

piece_bytes : (piece : List ℕ) → is_piece piece ≡ true → list_all is_name_byte piece ≡ true
piece_bytes piece h =
    all_weaker is_piece_byte is_name_byte (λ x e. rw e refl) piece
    (and_both (nat_lt 0 (length piece)) (list_all is_piece_byte piece) h).1

hyphen : (x : ℕ) → (x == 45) ≡ true → is_name_byte x ≡ true
hyphen x e = grind (arith, common_steps)

component_bytes : (c : List ℕ) → is_component c ≡ true → list_all is_name_byte c ≡ true
unfolding is_component
component_bytes c h =
    split_all (λ b. b == 45) is_name_byte hyphen c
    (all_weaker is_piece (λ s. list_all is_name_byte s) piece_bytes (slice_split (λ b. b == 45) c)
    (and_both (nat_le (length c) 32) (list_all is_piece (slice_split (λ b. b == 45) c)) h).1)

pub name_bytes : (name : List ℕ) → is_name name ≡ true → list_all is_name_byte name ≡ true
unfolding is_name
name_bytes name h = component_bytes name (grind (arith, common_steps))

name_path_byte : (x : ℕ) → is_name_byte x ≡ true → is_path_byte x ≡ true
name_path_byte x h = grind (arith, common_steps)

digit_path_byte : (x : ℕ) → is_ascii_digit x ≡ true → is_path_byte x ≡ true
digit_path_byte x h = grind (arith, common_steps)

instance_bytes : (bs : List ℕ) → is_instance bs ≡ true → list_all is_path_byte bs ≡ true
unfolding is_instance
instance_bytes bs h =
    all_weaker is_ascii_digit is_path_byte digit_path_byte bs (grind (arith, common_steps))

equals_byte : (x : ℕ) → (x == 61) ≡ true → is_path_byte x ≡ true
equals_byte x e = grind (arith, common_steps)

part_bytes : (bs : List ℕ) → is_part bs ≡ true → list_all is_path_byte bs ≡ true
unfolding is_part
part_bytes bs h =
    let t = and_both (is_name (before_first (λ b. b == 61) bs))
    (is_instance (after_first (λ b. b == 61) bs)) h in
    cut_all (λ b. b == 61) is_path_byte equals_byte bs
    (all_weaker is_name_byte is_path_byte name_path_byte (before_first (λ b. b == 61) bs)
    (name_bytes (before_first (λ b. b == 61) bs) t.0))
    (instance_bytes (after_first (λ b. b == 61) bs) t.1)

slash_byte : (x : ℕ) → (x == 47) ≡ true → is_path_byte x ≡ true
slash_byte x e = grind (arith, common_steps)

-- a path is the scheme and texts of parts
pub scheme : (path : List ℕ) → is_path path ≡ true → path ≡ codes "hc:///" ++ drop 6 path
unfolding is_path
scheme path h =
    let s : starts_with nat_eq path (codes "hc:///") ≡ true = grind (arith, common_steps) in
    let e : codes "hc:///" ≡ take 6 path = (bytes_decides (codes "hc:///") (take 6 path)).0 s in
    sym (ap (λ r. r ++ drop 6 path) e ∙ take-append-drop 6 path)

tail_bytes : (path : List ℕ) → is_path path ≡ true → list_all is_path_byte (drop 6 path) ≡ true
unfolding is_path are_parts
tail_bytes path h =
    let l : list_all is_part (slice_split (λ b. b == 47) (drop 6 path)) ≡ true =
    grind (arith, common_steps) in
    split_all (λ b. b == 47) is_path_byte slash_byte (drop 6 path)
    (all_weaker is_part (λ s. list_all is_path_byte s) part_bytes
    (slice_split (λ b. b == 47) (drop 6 path)) l)

pub path_bytes : (path : List ℕ) → is_path path ≡ true → list_all is_path_byte path ≡ true
path_bytes path h =
    ap (list_all is_path_byte) (scheme path h)
    ∙ all_joined is_path_byte (codes "hc:///") (drop 6 path) refl (tail_bytes path h)
