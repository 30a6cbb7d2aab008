-- The reading of components byte by byte gives what the grammar says.
use Rattle.std.proofs.Common.{◌≡◌, ◌<◌, ◌≤◌, ◌+◌, ℕ, Bool, true, false, ◌&&◌, ◌||◌, List, [], ◌∷◌}
use Rattle.std.proofs.Common.{length, refl, arith, nat_lt, nat_le, ap, sym, ◌∙◌, suc, zero-add}
use mathlib.Core.Bool.{true≢false}
use Rattle.std.specs.Prelude.{◌==◌, if◌then◌else◌}
use Rattle.std.specs.List.{slice_split, onto_first, list_all, list_any}
use Rattle.fm_name.specs.Class.{is_piece_byte, is_piece, is_component, are_components}
use Rattle.fm_name.specs.Class.{components_of}
use Rattle.std.proofs.lemmas.Grind.{common_steps}
use Rattle.fm_name.proofs.Cutting.{some_text}

-- whether the bytes go on to pieces joined by hyphens, where a piece has begun or not
abbrev pub pieces : Bool → List ℕ → Bool
pieces begun [] = begun
pieces begun (b ∷ bs) =
    if is_piece_byte b then pieces true bs else (begun && (b == 45 && pieces false bs))

-- whether the bytes go on to components, where the first has `size` bytes already and its last
-- piece has begun or not
abbrev pub scan : ℕ → Bool → List ℕ → Bool
scan size begun [] = begun
scan size begun (b ∷ bs) =
    if is_piece_byte b then (nat_lt size 32 && scan (size + 1) true bs)
    else (begun
    && (if b == 46 then scan 0 false bs
    else (b == 45 && (nat_lt size 32 && scan (size + 1) false bs))))

-- the pieces, the first of which may have begun
abbrev pieces_left : Bool → List (List ℕ) → Bool
pieces_left true [] = true
pieces_left true (p ∷ ps) = list_all is_piece_byte p && list_all is_piece ps
pieces_left false ps = list_all is_piece ps

onto_piece : (begun : Bool) (b : ℕ) (ps : List (List ℕ)) → 0 < length ps
    → pieces_left begun (onto_first b ps) ≡ (is_piece_byte b && pieces_left true ps)
onto_piece begun b [] h = absurd (omega arith)
onto_piece true b (p ∷ ps) h = grind (arith, common_steps)
onto_piece false b (p ∷ ps) h = grind (arith, common_steps)

hyphen_not : (b : ℕ) → is_piece_byte b ≡ true → (b == 45) ≡ false
hyphen_not b e = grind (arith, common_steps)

dot_not : (b : ℕ) → is_piece_byte b ≡ true → (b == 46) ≡ false
dot_not b e = grind (arith, common_steps)

dot_hyphen : (b : ℕ) → (b == 45) ≡ true → (b == 46) ≡ false
dot_hyphen b e = grind (arith, common_steps)

some_pieces : (ps : List (List ℕ)) → 0 < length ps → list_all is_piece ([] ∷ ps) ≡ false
some_pieces ps h = refl

step_pieces : (begun : Bool) (b : ℕ) (bs : List ℕ) (t h : Bool) → is_piece_byte b ≡ t
    → (b == 45) ≡ h
    → pieces true bs ≡ pieces_left true (slice_split (λ x. x == 45) bs)
    → pieces false bs ≡ pieces_left false (slice_split (λ x. x == 45) bs)
    → (if is_piece_byte b then pieces true bs else (begun && (b == 45 && pieces false bs)))
    ≡ pieces_left begun (slice_split (λ x. x == 45) (b ∷ bs))
step_pieces begun b bs true true e f p q = absurd (true≢false (sym f ∙ hyphen_not b e))
step_pieces begun b bs true false e f p q =
    simp (e, f, p, onto_piece begun b (slice_split (λ x. x == 45) bs) (some_text _ bs))
step_pieces true b bs false true e f p q = simp (e, f, q)
step_pieces false b bs false true e f p q = simp (e, f)
step_pieces true b bs false false e f p q =
    simp (e, f, onto_piece true b (slice_split (λ x. x == 45) bs) (some_text _ bs))
step_pieces false b bs false false e f p q =
    simp (e, f, onto_piece false b (slice_split (λ x. x == 45) bs) (some_text _ bs))

pieces_is : (begun : Bool) (bs : List ℕ) → pieces begun bs
    ≡ pieces_left begun (slice_split (λ x. x == 45) bs)
pieces_is true [] = refl
pieces_is false [] = refl
pieces_is begun (b ∷ bs) = step_pieces begun b bs (is_piece_byte b) (b == 45) refl refl
    (pieces_is true bs) (pieces_is false bs)

-- the components, the first of which has some bytes already
abbrev components_left : ℕ → Bool → List (List ℕ) → Bool
components_left size begun [] = begun
components_left size begun (c ∷ cs) = (nat_le (size + length c) 32 && pieces begun c)
    && list_all is_component cs

pub component_is : (c : List ℕ) → is_component c ≡ (nat_le (0 + length c) 32 && pieces false c)
unfolding is_component
component_is c = ap (λ r. nat_le (length c) 32 && r) (sym (pieces_is false c))
    ∙ ap (λ n. nat_le n 32 && pieces false c) (sym (zero-add (length c)))

all_left : (cs : List (List ℕ)) → 0 < length cs
    → components_left 0 false cs ≡ list_all is_component cs
all_left [] h = absurd (omega arith)
all_left (c ∷ cs) h = ap (λ r. r && list_all is_component cs) (sym (component_is c))

longer : (size n : ℕ) → (nat_lt size 32 && nat_le (size + 1 + n) 32) ≡ nat_le (size + suc n) 32
longer size n = grind (arith, common_steps)

and_move : (a b p r x : Bool) → (a && b) ≡ x → ((x && p) && r) ≡ (a && ((b && p) && r))
and_move true b p r x e = ap (λ z. (z && p) && r) (sym e)
and_move false b p r x e = ap (λ z. (z && p) && r) (sym e)

and_false : (x r : Bool) → ((x && false) && r) ≡ false
and_false true r = refl
and_false false r = refl

guard : (size : ℕ) (l x y : Bool) → nat_lt size 32 ≡ l → (size < 32 → x ≡ y)
    → (nat_lt size 32 && x) ≡ (nat_lt size 32 && y)
guard size true x y e f = let h : size < 32 = grind (arith, common_steps) in rw e (f h)
guard size false x y e f = rw e refl

-- one more byte of a piece, and a hyphen
onto_component : (size : ℕ) (begun : Bool) (b : ℕ) (cs : List (List ℕ)) → 0 < length cs
    → is_piece_byte b ≡ true
    → components_left size begun (onto_first b cs)
    ≡ (nat_lt size 32 && components_left (size + 1) true cs)
onto_component size begun b [] h e = absurd (omega arith)
onto_component size begun b (c ∷ cs) h e =
    rw e (and_move (nat_lt size 32) (nat_le (size + 1 + length c) 32) (pieces true c)
    (list_all is_component cs) _ (longer size (length c)))

onto_hyphen : (size : ℕ) (b : ℕ) (cs : List (List ℕ)) → 0 < length cs → is_piece_byte b ≡ false
    → (b == 45) ≡ true
    → components_left size true (onto_first b cs)
    ≡ (nat_lt size 32 && components_left (size + 1) false cs)
onto_hyphen size b [] h e f = absurd (omega arith)
onto_hyphen size b (c ∷ cs) h e f = rw (e, f)
    (and_move (nat_lt size 32) (nat_le (size + 1 + length c) 32) (pieces false c)
    (list_all is_component cs) _ (longer size (length c)))

onto_unbegun : (size : ℕ) (b : ℕ) (cs : List (List ℕ)) → 0 < length cs → is_piece_byte b ≡ false
    → components_left size false (onto_first b cs) ≡ false
onto_unbegun size b [] h e = absurd (omega arith)
onto_unbegun size b (c ∷ cs) h e = rw e (and_false _ _)

onto_other : (size : ℕ) (b : ℕ) (cs : List (List ℕ)) → 0 < length cs → is_piece_byte b ≡ false
    → (b == 45) ≡ false
    → components_left size true (onto_first b cs) ≡ false
onto_other size b [] h e f = absurd (omega arith)
onto_other size b (c ∷ cs) h e f = rw (e, f) (and_false _ _)

at_dot : (size : ℕ) (begun : Bool) (cs : List (List ℕ)) → size ≤ 32 → 0 < length cs
    → (begun && components_left 0 false cs) ≡ components_left size begun ([] ∷ cs)
at_dot size true cs h k = let e : nat_le (size + 0) 32 ≡ true = grind (arith, common_steps) in
    simp (e, all_left cs k)
at_dot size false cs h k = sym (and_false _ _)

step_scan : (size : ℕ) (begun : Bool) (b : ℕ) (bs : List ℕ) (t d h : Bool) → is_piece_byte b ≡ t
    → (b == 46) ≡ d → (b == 45) ≡ h → size ≤ 32
    → ((n : ℕ) (g : Bool) → n ≤ 32 → scan n g bs
    ≡ components_left n g (slice_split (λ x. x == 46) bs))
    → scan size begun (b ∷ bs) ≡ components_left size begun (slice_split (λ x. x == 46) (b ∷ bs))
step_scan size begun b bs true true h e f g s more = absurd (true≢false (sym f ∙ dot_not b e))
step_scan size begun b bs true false h e f g s more =
    rw (e, f) (guard size (nat_lt size 32) _ _ refl (λ k. more (size + 1) true (omega arith))
    ∙ sym (onto_component size begun b _ (some_text _ bs) e))
step_scan size begun b bs false true h e f g s more =
    rw (e, f) (ap (λ r. begun && r) (more 0 false (omega arith))
    ∙ at_dot size begun _ s (some_text _ bs))
step_scan size true b bs false false true e f g s more =
    rw (e, f, g) (guard size (nat_lt size 32) _ _ refl (λ k. more (size + 1) false (omega arith))
    ∙ sym (onto_hyphen size b _ (some_text _ bs) e g))
step_scan size true b bs false false false e f g s more =
    rw (e, f, g) (sym (onto_other size b _ (some_text _ bs) e g))
step_scan size false b bs false false h e f g s more =
    rw (e, f) (sym (onto_unbegun size b _ (some_text _ bs) e))

scan_is : (bs : List ℕ) (size : ℕ) (begun : Bool) → size ≤ 32
    → scan size begun bs ≡ components_left size begun (slice_split (λ x. x == 46) bs)
scan_is [] size true h = let e : nat_le (size + 0) 32 ≡ true = grind (arith, common_steps) in simp e
scan_is [] size false h = sym (and_false _ _)
scan_is (b ∷ bs) size begun h = step_scan size begun b bs (is_piece_byte b) (b == 46) (b == 45) refl
    refl refl h (λ n g k. scan_is bs n g k)

-- from the start the bytes are components joined by dots
pub scan_start : (bs : List ℕ) → scan 0 false bs ≡ are_components bs
unfolding are_components
scan_start bs = scan_is bs 0 false (omega arith) ∙ all_left _ (some_text _ bs)

pub pieces_start : (bs : List ℕ) → pieces false bs
    ≡ list_all is_piece (slice_split (λ x. x == 45) bs)
pieces_start bs = pieces_is false bs

length_onto : (b : ℕ) (cs : List (List ℕ)) → 0 < length cs → length (onto_first b cs) ≡ length cs
length_onto b [] h = absurd (omega arith)
length_onto b (c ∷ cs) h = refl

step_dots : (b : ℕ) (bs : List ℕ) (t : Bool) → (b == 46) ≡ t
    → list_any (λ x. x == 46) bs ≡ nat_le 2 (length (slice_split (λ x. x == 46) bs))
    → (b == 46 || list_any (λ x. x == 46) bs)
    ≡ nat_le 2 (length (slice_split (λ x. x == 46) (b ∷ bs)))
step_dots b bs true e more = let h = some_text (λ x. x == 46) bs in
    rw e (grind (arith, common_steps))
step_dots b bs false e more = rw e (more ∙ ap (nat_le 2) (sym (length_onto b _ (some_text _ bs))))

-- a dot parts the bytes in two or more
pub any_dots : (bs : List ℕ) → list_any (λ x. x == 46) bs ≡ nat_le 2 (length (components_of bs))
any_dots [] = refl
any_dots (b ∷ bs) = step_dots b bs (b == 46) refl (any_dots bs)
