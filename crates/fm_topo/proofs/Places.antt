-- The line of a place, as it is printed and read.
use Rattle.std.proofs.Common.{◌≡◌, ◌<◌, ◌≤◌, ◌-◌, ◌^◌, ℕ, Bool, true, false, not, ◌&&◌, List, []}
use Rattle.std.proofs.Common.{◌∷◌, ◌++◌, length, take, drop, map, decimal, refl, arith, ap, sym}
use Rattle.std.proofs.Common.{◌∙◌, nat_lt, nat_le, slice_index, length-append, true≢false}
use Rattle.std.proofs.Common.{append_assoc, append-nil, codes, None}
use Rattle.std.specs.Prelude.{◌==◌}
use Rattle.std.specs.Char.{is_ascii_digit}
use Rattle.std.specs.List.{list_all, list_any, before_first, onto_first}
use Rattle.std.specs.List.Sorted.{IsStrictlySortedBy}
use Rattle.std.specs.Map.{keys_of}
use Rattle.std.specs.Ordering.{nat_cmp}
use Rattle.std.specs.Cmp.Lexicographic.{slice_cmp}
use Rattle.std.specs.BTreeMap.{insert_entry}
use Rattle.std.proofs.Math.Seq.{take-length}
use Rattle.std.proofs.lemmas.Grind.{common_steps}
use Rattle.fm_name.specs.Path.{is_name, is_path}
use Rattle.fm_name.specs.Order.{path_cmp}
use Rattle.fm_name.proofs.Cutting.{count_map}
use Rattle.fm_topo.specs.Line.{content_of, is_clean_byte, is_skipped, parted_words}
use Rattle.fm_topo.specs.Line.{path_of, words_of}
use Rattle.fm_topo.specs.Property.{Properties, is_text_byte, property_name, has_twin, properties_of}
use Rattle.fm_topo.specs.Topology.{Topology, has_path, with_line}
use Rattle.fm_topo.specs.Fault.{lacks_parent, set_fault, entry_fault, line_fault}
use Rattle.fm_topo.specs.Printed.{value_text, properties_text, place_line}
use Rattle.fm_topo.specs.Lawful.{is_value, is_pair, IsPlace}
use Rattle.fm_topo.specs.declared.values.TopoValue.{TopoValue}
use Rattle.fm_topo.specs.declared.values.TopoValue.TheVariants.{Number, Text}
use Rattle.fm_topo.proofs.Pieces.{space_inside, no_space}
use Rattle.fm_topo.proofs.Cuts.{and_both, all_parts, all_weaker, all_joined, all_index, position_at}
use Rattle.fm_topo.proofs.Cuts.{position_none, before_at, after_at, is_name_byte, is_path_byte}
use Rattle.fm_topo.proofs.Cuts.{name_bytes, path_bytes, scheme}
use Rattle.fm_topo.proofs.Pairs.{pair_text, decimal_digits, properties_back, words_back}
use Rattle.fm_topo.proofs.Twins.{twins_counted}

-- ---- the words of a line
-- bytes put in front of the first of some words
abbrev onto : List ℕ → List (List ℕ) → List (List ℕ)
onto [] ws = ws
onto (x ∷ xs) ws = onto_first x (onto xs ws)

onto_cons : (xs u : List ℕ) (ws : List (List ℕ)) → onto xs (u ∷ ws) ≡ (xs ++ u) ∷ ws
onto_cons [] u ws = refl
onto_cons (x ∷ xs) u ws = ap (onto_first x) (onto_cons xs u ws)

onto_joined : (xs ys : List ℕ) (ws : List (List ℕ)) → onto (xs ++ ys) ws ≡ onto xs (onto ys ws)
onto_joined [] ys ws = refl
onto_joined (x ∷ xs) ys ws = ap (onto_first x) (onto_joined xs ys ws)

-- a byte that neither parts words nor is a quote
abbrev is_calm_byte : ℕ → Bool
is_calm_byte b = not (b == 32) && not (b == 34)

not_so : (b : Bool) → not b ≡ true → b ≡ false
not_so true h = absurd (true≢false (sym h))
not_so false h = refl

and_no : (b : Bool) → (b && false) ≡ false
and_no true = refl
and_no false = refl

calm_run : (xs rest : List ℕ) → list_all is_calm_byte xs ≡ true
    → parted_words false (xs ++ rest) ≡ onto xs (parted_words false rest)
calm_run [] rest h = refl
calm_run (x ∷ xs) rest h =
    let t = all_parts is_calm_byte x xs h in
    let u = and_both (not (x == 32)) (not (x == 34)) t.0 in
    rw (not_so (x == 32) u.0, not_so (x == 34) u.1) (ap (onto_first x) (calm_run xs rest t.1))

quoted_run : (xs rest : List ℕ) → list_all is_text_byte xs ≡ true
    → parted_words true (xs ++ rest) ≡ onto xs (parted_words true rest)
quoted_run [] rest h = refl
quoted_run (x ∷ xs) rest h =
    let t = all_parts is_text_byte x xs h in
    let q : (x == 34) ≡ false = grind (arith, common_steps) in
    rw (and_no (x == 32), q) (ap (onto_first x) (quoted_run xs rest t.1))

digit_calm : (x : ℕ) → is_ascii_digit x ≡ true → is_calm_byte x ≡ true
digit_calm x h = grind (arith, common_steps)

name_calm : (x : ℕ) → is_name_byte x ≡ true → is_calm_byte x ≡ true
name_calm x h = grind (arith, common_steps)

value_run : (value : TopoValue) (rest : List ℕ) → is_value value ≡ true
    → parted_words false (value_text value ++ rest) ≡ onto (value_text value)
    (parted_words false rest)
value_run (Number n) rest h =
    let k : n < 2 ^ 64 = grind (arith, common_steps) in
    calm_run (decimal n) rest
    (all_weaker is_ascii_digit is_calm_byte digit_calm (decimal n) (decimal_digits n k))
value_run (Text text) rest h =
    ap (λ z. onto_first 34 (parted_words true z)) (append_assoc text (34 ∷ []) rest)
    ∙ (ap (onto_first 34) (quoted_run text (34 ∷ rest) h)
    ∙ ap (onto_first 34) (sym (onto_joined text (34 ∷ []) (parted_words false rest))))

pair_run : (p : List ℕ × TopoValue) (rest : List ℕ) → is_pair p ≡ true
    → parted_words false (pair_text p ++ rest) ≡ onto (pair_text p) (parted_words false rest)
pair_run p rest h =
    let t = and_both (is_name p.0) (is_value p.1) h in
    ap (parted_words false) (append_assoc p.0 (61 ∷ value_text p.1) rest)
    ∙ (calm_run p.0 (61 ∷ (value_text p.1 ++ rest))
    (all_weaker is_name_byte is_calm_byte name_calm p.0 (name_bytes p.0 t.0))
    ∙ (ap (λ z. onto p.0 (onto_first 61 z)) (value_run p.1 rest t.1)
    ∙ sym (onto_joined p.0 (61 ∷ value_text p.1) (parted_words false rest))))

words_text : (p : List ℕ × TopoValue) (ps : Properties) → list_all is_pair (p ∷ ps) ≡ true
    → parted_words false (pair_text p ++ properties_text ps) ≡ pair_text p ∷ map pair_text ps
words_text p [] h =
    pair_run p [] (all_parts is_pair p [] h).0
    ∙ (onto_cons (pair_text p) [] [] ∙ ap (λ z. z ∷ []) (append-nil (pair_text p)))
words_text p (q ∷ ps) h =
    let t = all_parts is_pair p (q ∷ ps) h in
    pair_run p (properties_text (q ∷ ps)) t.0
    ∙ (ap (λ z. onto (pair_text p) ([] ∷ z)) (words_text q ps t.1)
    ∙ (onto_cons (pair_text p) [] (pair_text q ∷ map pair_text ps)
    ∙ ap (λ z. z ∷ pair_text q ∷ map pair_text ps) (append-nil (pair_text p))))

-- ---- the bytes of a line
abbrev pub is_print_byte : ℕ → Bool
is_print_byte b = nat_le 32 b && nat_le b 126

name_print : (x : ℕ) → is_name_byte x ≡ true → is_print_byte x ≡ true
name_print x h = grind (arith, common_steps)

digit_print : (x : ℕ) → is_ascii_digit x ≡ true → is_print_byte x ≡ true
digit_print x h = grind (arith, common_steps)

path_print : (x : ℕ) → is_path_byte x ≡ true → is_print_byte x ≡ true
path_print x h = grind (arith, common_steps)

text_print : (x : ℕ) → is_text_byte x ≡ true → is_print_byte x ≡ true
text_print x h = grind (arith, common_steps)

value_bytes : (value : TopoValue) → is_value value ≡ true
    → list_all is_print_byte (value_text value) ≡ true
value_bytes (Number n) h =
    let k : n < 2 ^ 64 = grind (arith, common_steps) in
    all_weaker is_ascii_digit is_print_byte digit_print (decimal n) (decimal_digits n k)
value_bytes (Text text) h =
    all_joined is_print_byte text (34 ∷ [])
    (all_weaker is_text_byte is_print_byte text_print text h) refl

pair_bytes : (p : List ℕ × TopoValue) → is_pair p ≡ true
    → list_all is_print_byte (pair_text p) ≡ true
pair_bytes p h =
    let t = and_both (is_name p.0) (is_value p.1) h in
    all_joined is_print_byte p.0 (61 ∷ value_text p.1)
    (all_weaker is_name_byte is_print_byte name_print p.0 (name_bytes p.0 t.0))
    (value_bytes p.1 t.1)

properties_bytes : (ps : Properties) → list_all is_pair ps ≡ true
    → list_all is_print_byte (properties_text ps) ≡ true
properties_bytes [] h = refl
properties_bytes (p ∷ ps) h =
    let t = all_parts is_pair p ps h in
    all_joined is_print_byte (32 ∷ pair_text p) (properties_text ps) (pair_bytes p t.0)
    (properties_bytes ps t.1)

pub line_bytes : (place : List ℕ × Properties) → IsPlace place
    → list_all is_print_byte (place_line place) ≡ true
line_bytes place h =
    all_joined is_print_byte place.0 (properties_text place.1)
    (all_weaker is_path_byte is_print_byte path_print place.0 (path_bytes place.0 h.path))
    (properties_bytes place.1 h.pairs)

-- ---- a line is read as its place
no_return : (x : ℕ) → is_print_byte x ≡ true → (x == 13) ≡ false
no_return x h = grind (arith, common_steps)

last_print : (xs : List ℕ) (t : Bool) → nat_lt 0 (length xs) ≡ t → list_all is_print_byte xs ≡ true
    → (t && slice_index xs (length xs - 1) == 13) ≡ false
last_print xs true e h =
    let k : 0 < length xs = grind (arith, common_steps) in
    no_return (slice_index xs (length xs - 1))
    (all_index is_print_byte xs (length xs - 1) h (omega (arith, k)))
last_print xs false e h = refl

content_back : (xs : List ℕ) → list_all is_print_byte xs ≡ true → content_of xs ≡ xs
unfolding content_of
content_back xs h = rw (last_print xs (nat_lt 0 (length xs)) refl h) refl

skipped_not : (xs : List ℕ) → is_skipped (codes "hc:///" ++ xs) ≡ false
unfolding is_skipped
skipped_not xs = refl

not_skipped : (place : List ℕ × Properties) → IsPlace place → is_skipped (place_line place) ≡ false
not_skipped place h =
    ap (λ z. is_skipped (z ++ properties_text place.1)) (scheme place.0 h.path)
    ∙ (ap is_skipped (append_assoc (codes "hc:///") (drop 6 place.0) (properties_text place.1))
    ∙ skipped_not (drop 6 place.0 ++ properties_text place.1))

not_space : (x : ℕ) → is_path_byte x ≡ true → not (x == 32) ≡ true
not_space x h = grind (arith, common_steps)

no_spaces : (path : List ℕ) → is_path path ≡ true → list_all (λ x. not (x == 32)) path ≡ true
no_spaces path h = all_weaker is_path_byte (λ x. not (x == 32)) not_space path (path_bytes path h)

path_back : (path : List ℕ) (ps : Properties) → is_path path ≡ true
    → path_of (path ++ properties_text ps) ≡ path
unfolding path_of
path_back path [] h =
    ap (before_first (λ b. b == 32)) (append-nil path)
    ∙ (ap (λ n. take n path) (position_none (λ b. b == 32) path (no_spaces path h))
    ∙ take-length path)
path_back path (p ∷ ps) h =
    before_at (λ b. b == 32) path (pair_text p ++ properties_text ps) 32 (no_spaces path h) refl

words_line : (path : List ℕ) (ps : Properties) → is_path path ≡ true → list_all is_pair ps ≡ true
    → words_of (path ++ properties_text ps) ≡ map pair_text ps
unfolding words_of
words_line path [] h k =
    let n : list_any (λ x. x == 32) (path ++ []) ≡ false =
    ap (list_any (λ x. x == 32)) (append-nil path)
    ∙ no_space path (position_none (λ b. b == 32) path (no_spaces path h)) in
    rw n refl
words_line path (p ∷ ps) h k =
    let rest = pair_text p ++ properties_text ps in
    let l = length-append path (32 ∷ rest) in
    let at = position_at (λ b. b == 32) path rest 32 (no_spaces path h) refl in
    let n : list_any (λ x. x == 32) (path ++ (32 ∷ rest)) ≡ true =
    space_inside (path ++ (32 ∷ rest)) (omega (arith, l, at)) in
    rw n (ap (parted_words false) (after_at (λ b. b == 32) path rest 32 (no_spaces path h) refl)
    ∙ words_text p ps k)

-- a place is what its line says
pub place_back : (found : Topology) (place : List ℕ × Properties) → IsPlace place
    → with_line found (place_line place) ≡ insert_entry path_cmp found place.0 place.1
unfolding with_line
place_back found place h =
    let c = content_back (place_line place) (line_bytes place h) in
    let s : is_skipped (content_of (place_line place)) ≡ false = ap is_skipped c
    ∙ not_skipped place h in
    let p : path_of (content_of (place_line place)) ≡ place.0 = ap path_of c
    ∙ path_back place.0 place.1 h.path in
    let w : properties_of (words_of (content_of (place_line place))) ≡ place.1 =
    ap properties_of (ap words_of c ∙ words_line place.0 place.1 h.path h.pairs)
    ∙ properties_back place.1 h.pairs h.names in
    rw s (ap (λ z. insert_entry path_cmp found z
    (properties_of (words_of (content_of (place_line place))))) p
    ∙ ap (insert_entry path_cmp found place.0) w)

-- ---- a line has no fault
no_twin : (ps : Properties) → list_all is_pair ps ≡ true
    → IsStrictlySortedBy (slice_cmp nat_cmp) (keys_of ps)
    → has_twin (map property_name (map pair_text ps)) ≡ false
no_twin ps h s =
    let k : nat_lt (length ps) (length (map pair_text ps)) ≡ false =
    (let e = count_map pair_text ps in grind (arith, common_steps)) in
    sym (twins_counted (map pair_text ps))
    ∙ (ap (λ z. nat_lt (length z) (length (map pair_text ps))) (properties_back ps h s) ∙ k)

set_back : (found : Topology) (path : List ℕ) → has_path found path ≡ false
    → lacks_parent found path ≡ false → length found < 65536
    → set_fault found path false ≡ None
unfolding set_fault
set_back found path h l n =
    let m : nat_le 65536 (length found) ≡ false = grind (arith, common_steps) in
    rw (h, l, m) refl

entry_back : (found : Topology) (place : List ℕ × Properties) → IsPlace place
    → has_path found place.0 ≡ false → lacks_parent found place.0 ≡ false → length found < 65536
    → entry_fault found place.0 (map pair_text place.1) ≡ None
unfolding entry_fault
entry_back found place p h l n =
    let s : set_fault found place.0 (has_twin (map property_name (map pair_text place.1))) ≡ None =
    ap (set_fault found place.0) (no_twin place.1 p.pairs p.names) ∙ set_back found place.0 h l n in
    let a : is_path place.0 ≡ true = p.path in
    rw (a, words_back place.1 p.pairs) s

print_clean : (x : ℕ) → is_print_byte x ≡ true → is_clean_byte x ≡ true
print_clean x h = rw h refl

pub no_fault : (found : Topology) (last : ℕ) (place : List ℕ × Properties) → IsPlace place
    → last ≤ 16777216 → has_path found place.0 ≡ false
    → lacks_parent found place.0 ≡ false → length found < 65536
    → line_fault found last (place_line place) ≡ None
unfolding line_fault
no_fault found last place p small h l n =
    let c = content_back (place_line place) (line_bytes place p) in
    let b : list_all is_clean_byte (content_of (place_line place)) ≡ true =
    ap (list_all is_clean_byte) c
    ∙ all_weaker is_print_byte is_clean_byte print_clean (place_line place) (line_bytes place p)
    in
    let z = p.size in
    let s : nat_lt 4096 (length (place_line place)) ≡ false = grind (arith, common_steps) in
    let t : nat_lt 16777216 last ≡ false = grind (arith, common_steps) in
    let k : is_skipped (content_of (place_line place)) ≡ false = ap is_skipped c
    ∙ not_skipped place p in
    let e : entry_fault found (path_of (content_of (place_line place)))
    (words_of (content_of (place_line place))) ≡ None =
    ap (λ y. entry_fault found y (words_of (content_of (place_line place))))
    (ap path_of c ∙ path_back place.0 place.1 p.path)
    ∙ (ap (entry_fault found place.0) (ap words_of c ∙ words_line place.0 place.1 p.path p.pairs)
    ∙ entry_back found place p h l n) in
    rw (b, s, t, k) e
