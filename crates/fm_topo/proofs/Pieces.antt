-- Lines and their pieces.
use Rattle.std.proofs.Common.{◌≡◌, ◌<◌, ◌≤◌, ◌+◌, ◌-◌, ℕ, zero, suc, Bool, true, false, not, cond}
use Rattle.std.proofs.Common.{◌&&◌, List, [], ◌∷◌, length, take, drop, refl, arith, ap, sym, ◌∙◌}
use Rattle.std.proofs.Common.{add-one, one-add}
use Rattle.std.specs.Prelude.{◌==◌, if◌then◌else◌}
use Rattle.std.specs.List.{list_all, list_any, position_or_len, after_first, onto_first}
use Rattle.std.specs.Str.{IsUtf8, IsAscii}
use Rattle.std.proofs.lemmas.Grind.{common_steps}
use Rattle.std.proofs.lemmas.Str.{IsUtf8-from_ascii}
use Rattle.std.proofs.lemmas.Str.Ascii.{IsAscii-nil, IsAscii-cons}
use Rattle.std.proofs.Math.Seq.{take-length}
use Rattle.fm_topo.specs.Line.{is_clean_byte, parted_words, path_of, words_of}
use Rattle.fm_topo.specs.Word.{word_end}
use Rattle.fm_topo.specs.Fault.{parent_of}

-- ---- clean bytes
all_tail : (p : ℕ → Bool) (x : ℕ) (xs : List ℕ) → list_all p (x ∷ xs) ≡ true → (p x ≡ true)
    × (list_all p xs ≡ true)
all_tail p x xs h = grind (arith, common_steps)

all_cons : (p : ℕ → Bool) (x : ℕ) (xs : List ℕ) → p x ≡ true → list_all p xs ≡ true
    → list_all p (x ∷ xs) ≡ true
all_cons p x xs h k = grind (arith, common_steps)

pub all_take : (p : ℕ → Bool) (n : ℕ) (xs : List ℕ) → list_all p xs ≡ true
    → list_all p (take n xs) ≡ true
all_take p zero xs h = refl
all_take p (suc n) [] h = refl
all_take p (suc n) (x ∷ xs) h = let t = all_tail p x xs h in
    all_cons p x (take n xs) t.0 (all_take p n xs t.1)

pub all_drop : (p : ℕ → Bool) (n : ℕ) (xs : List ℕ) → list_all p xs ≡ true
    → list_all p (drop n xs) ≡ true
all_drop p zero xs h = h
all_drop p (suc n) [] h = refl
all_drop p (suc n) (x ∷ xs) h = all_drop p n xs (all_tail p x xs h).1

clean_small : (x : ℕ) → is_clean_byte x ≡ true → x < 128
clean_small x h = grind (arith, common_steps)

clean_ascii : (xs : List ℕ) → list_all is_clean_byte xs ≡ true → IsAscii xs
clean_ascii [] h = IsAscii-nil
clean_ascii (x ∷ xs) h =
    let t = all_tail is_clean_byte x xs h in
    let small : x < 128 = clean_small x t.0 in
    IsAscii-cons x xs small (clean_ascii xs t.1)

pub clean_utf8 : (xs : List ℕ) → list_all is_clean_byte xs ≡ true → IsUtf8 xs
clean_utf8 xs h = IsUtf8-from_ascii xs (clean_ascii xs h)

pub rest_clean : (n : ℕ) (xs : List ℕ) → list_all is_clean_byte xs ≡ true
    → list_all is_clean_byte (take (length xs - n) (drop n xs)) ≡ true
rest_clean n xs h = all_take is_clean_byte (length xs - n) (drop n xs)
    (all_drop is_clean_byte n xs h)

-- ---- the first place of a byte
space_inside_at : (b : ℕ) (bs : List ℕ) (t : Bool) → (b == 32) ≡ t
    → (position_or_len (λ x. x == 32) bs < length bs → list_any (λ x. x == 32) bs ≡ true)
    → position_or_len (λ x. x == 32) (b ∷ bs) < length (b ∷ bs)
    → list_any (λ x. x == 32) (b ∷ bs) ≡ true
space_inside_at b bs true e more h = rw e refl
space_inside_at b bs false e more h = rw e (more (let k = rw e at h in omega arith))

pub space_inside : (bs : List ℕ) → position_or_len (λ x. x == 32) bs < length bs
    → list_any (λ x. x == 32) bs ≡ true
space_inside [] h = absurd (omega arith)
space_inside (b ∷ bs) h = space_inside_at b bs (b == 32) refl (space_inside bs) h

pub no_space : (bs : List ℕ) → position_or_len (λ x. x == 32) bs ≡ length bs
    → list_any (λ x. x == 32) bs ≡ false
no_space [] h = refl
no_space (b ∷ bs) h = grind (arith, common_steps, no_space bs)

pub words_some : (content rest : List ℕ) → rest ≡ after_first (λ x. x == 32) content
    → position_or_len (λ x. x == 32) content < length content
    → parted_words false rest ≡ words_of content
unfolding words_of
words_some content rest r h = rw (space_inside content h, r) refl

pub words_none : (content : List ℕ) → position_or_len (λ x. x == 32) content ≡ length content
    → [] ≡ words_of content
unfolding words_of
words_none content h = rw (no_space content h) refl

pub path_none : (content : List ℕ) → position_or_len (λ x. x == 32) content ≡ length content
    → content ≡ path_of content
unfolding path_of
path_none content h = sym (take-length content) ∙ ap (λ n. take n content) (sym h)

-- a line is cut at its first space, where it has one
pub ruleset cut_lines = (words_some, words_none, path_none)

-- ---- the first word
word_end_at : (q : Bool) (x : ℕ) (xs : List ℕ) (t : Bool)
    → word_end (if x == 34 then not q else q) xs ≤ length xs
    → cond t 0 (1 + word_end (if x == 34 then not q else q) xs) ≤ length (x ∷ xs)
word_end_at q x xs true h = omega arith
word_end_at q x xs false h = omega (arith, h)

word_end_le : (q : Bool) (xs : List ℕ) → word_end q xs ≤ length xs
word_end_le q [] = omega arith
word_end_le q (x ∷ xs) =
    word_end_at q x xs (x == 32 && not q) (word_end_le (if x == 34 then not q else q) xs)

word_cut_at : (q : Bool) (x : ℕ) (xs : List ℕ) (t : Bool)
    → (word_end (if x == 34 then not q else q) xs < length xs
    → parted_words (if x == 34 then not q else q) xs
    ≡ take (word_end (if x == 34 then not q else q) xs) xs ∷ parted_words false
    (drop (word_end (if x == 34 then not q else q) xs + 1) xs))
    → cond t 0 (1 + word_end (if x == 34 then not q else q) xs) < length (x ∷ xs)
    → cond t ([] ∷ parted_words false xs)
    (onto_first x (parted_words (if x == 34 then not q else q) xs))
    ≡ take (cond t 0 (1 + word_end (if x == 34 then not q else q) xs)) (x ∷ xs)
    ∷ parted_words false (drop (cond t 0 (1 + word_end (if x == 34 then not q else q) xs) + 1)
    (x ∷ xs))
word_cut_at q x xs true more h = refl
word_cut_at q x xs false more h =
    let n = word_end (if x == 34 then not q else q) xs in
    let k = more (omega (arith, h)) in
    rw (k, one-add n) (rw (add-one n, add-one (suc n)) refl)

-- a text is its first word, and the words behind the space
pub word_cut : (q : Bool) (xs : List ℕ) → word_end q xs < length xs
    → parted_words q xs ≡ take (word_end q xs) xs ∷ parted_words false (drop (word_end q xs + 1) xs)
word_cut q [] h = absurd (omega arith)
word_cut q (x ∷ xs) h =
    word_cut_at q x xs (x == 32 && not q) (word_cut (if x == 34 then not q else q) xs) h

word_all_at : (q : Bool) (x : ℕ) (xs : List ℕ) (t : Bool)
    → (word_end (if x == 34 then not q else q) xs ≡ length xs
    → parted_words (if x == 34 then not q else q) xs ≡ xs ∷ [])
    → cond t 0 (1 + word_end (if x == 34 then not q else q) xs) ≡ length (x ∷ xs)
    → cond t ([] ∷ parted_words false xs)
    (onto_first x (parted_words (if x == 34 then not q else q) xs)) ≡ (x ∷ xs) ∷ []
word_all_at q x xs true more h = absurd (omega arith)
word_all_at q x xs false more h = rw (more (omega (arith, h))) refl

pub word_all : (q : Bool) (xs : List ℕ) → word_end q xs ≡ length xs → parted_words q xs ≡ xs ∷ []
word_all q [] h = refl
word_all q (x ∷ xs) h =
    word_all_at q x xs (x == 32 && not q) (word_all (if x == 34 then not q else q) xs) h

-- a text is cut behind its first word
pub ruleset cut_words = (all_take, all_drop, word_cut, word_all)

pub word_length : (xs : List ℕ) → word_end false xs ≤ length xs
word_length xs = word_end_le false xs

-- ---- the path above
parent_init_at : (b : ℕ) (bs : List ℕ) (t : Bool) → list_any (λ x. x == 47) bs ≡ t
    → parent_of (b ∷ bs) ≡ (if list_any (λ x. x == 47) (b ∷ bs) then parent_of (b ∷ bs) else [])
parent_init_at b bs true e = grind (arith, common_steps)
parent_init_at b bs false e = grind (arith, common_steps)

pub parent_init : (xs : List ℕ)
    → parent_of xs ≡ (if list_any (λ x. x == 47) xs then parent_of xs else [])
parent_init [] = refl
parent_init (b ∷ bs) = parent_init_at b bs (list_any (λ x. x == 47) bs) refl
