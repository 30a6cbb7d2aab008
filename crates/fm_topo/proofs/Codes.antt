-- The order of codes is path order.
use Rattle.std.proofs.Common.{◌≡◌, ◌≤◌, ℕ, zero, suc, Bool, true, List, [], ◌∷◌, ◌++◌, length, map}
use Rattle.std.proofs.Common.{drop, refl, arith, ap, sym, ◌∙◌, IsTrue, Some, slice_get}
use Rattle.std.proofs.Common.{append_assoc, append-nil, nat_lt}
use Rattle.std.specs.List.{list_all, slice_split, before_first}
use Rattle.std.specs.Prelude.{◌==◌}
use Rattle.std.specs.declared.cmp.Ordering.{Ordering}
use Rattle.std.specs.declared.cmp.Ordering.TheVariants.{Less, Equal, Greater}
use Rattle.std.specs.Ordering.{nat_cmp, ordering_then}
use Rattle.std.specs.Cmp.Lexicographic.{slice_cmp}
use Rattle.std.proofs.lemmas.Grind.{common_steps}
use Rattle.std.proofs.lemmas.List.{drop_all}
use Rattle.fm_name.specs.Path.{PathPart, is_path, is_part, are_parts, is_name, part_of, parts_of}
use Rattle.fm_name.specs.Path.{names_of, instances_of}
use Rattle.fm_name.specs.Order.{part_cmp, parts_cmp, path_cmp}
use Rattle.fm_name.proofs.Same.{path_cmp_is}
use Rattle.fm_topo.specs.Code.{parts_code, path_code}
use Rattle.fm_topo.proofs.Cuts.{and_both, both_and, all_parts, all_weaker, is_name_byte, name_bytes}

-- ---- lists with a zero behind names
abbrev is_positive : ℕ → Bool
is_positive b = nat_lt 0 b

zero_less : (y : ℕ) → is_positive y ≡ true → nat_cmp 0 y ≡ Less
zero_less y h = grind (arith, common_steps)

zero_greater : (y : ℕ) → is_positive y ≡ true → nat_cmp y 0 ≡ Greater
zero_greater y h = grind (arith, common_steps)

then_then : (o p q : Ordering)
    → ordering_then (ordering_then o p) q ≡ ordering_then o (ordering_then p q)
then_then Less p q = refl
then_then Equal p q = refl
then_then Greater p q = refl

names_cmp : (n m r s : List ℕ) → list_all is_positive n ≡ true → list_all is_positive m ≡ true
    → slice_cmp nat_cmp (n ++ (0 ∷ r)) (m ++ (0 ∷ s))
    ≡ ordering_then (slice_cmp nat_cmp n m) (slice_cmp nat_cmp r s)
names_cmp [] [] r s h k = refl
names_cmp [] (y ∷ m) r s h k = rw (zero_less y (all_parts is_positive y m k).0) refl
names_cmp (x ∷ n) [] r s h k = rw (zero_greater x (all_parts is_positive x n h).0) refl
names_cmp (x ∷ n) (y ∷ m) r s h k =
    ap (ordering_then (nat_cmp x y))
    (names_cmp n m r s (all_parts is_positive x n h).1 (all_parts is_positive y m k).1)
    ∙ sym (then_then (nat_cmp x y) (slice_cmp nat_cmp n m) (slice_cmp nat_cmp r s))

less_some : (n r : List ℕ) → slice_cmp nat_cmp [] (n ++ (0 ∷ r)) ≡ Less
less_some [] r = refl
less_some (x ∷ n) r = refl

greater_some : (n r : List ℕ) → slice_cmp nat_cmp (n ++ (0 ∷ r)) [] ≡ Greater
greater_some [] r = refl
greater_some (x ∷ n) r = refl

-- ---- codes of parts
abbrev is_named : PathPart → Bool
is_named p = list_all is_positive p.name

codes_cmp : (ps qs : List PathPart) → list_all is_named ps ≡ true → list_all is_named qs ≡ true
    → slice_cmp nat_cmp (parts_code ps) (parts_code qs) ≡ parts_cmp ps qs
unfolding parts_cmp part_cmp
codes_cmp [] [] h k = refl
codes_cmp [] (q ∷ qs) h k = less_some q.name (q.instance ∷ parts_code qs)
codes_cmp (p ∷ ps) [] h k = greater_some p.name (p.instance ∷ parts_code ps)
codes_cmp (p ∷ ps) (q ∷ qs) h k =
    let a = all_parts is_named p ps h in
    let b = all_parts is_named q qs k in
    names_cmp p.name q.name (p.instance ∷ parts_code ps) (q.instance ∷ parts_code qs) a.0 b.0
    ∙ (ap (λ o. ordering_then (slice_cmp nat_cmp p.name q.name)
    (ordering_then (nat_cmp p.instance q.instance) o)) (codes_cmp ps qs a.1 b.1)
    ∙ sym (then_then (slice_cmp nat_cmp p.name q.name) (nat_cmp p.instance q.instance)
    (parts_cmp ps qs)))

name_positive : (b : ℕ) → is_name_byte b ≡ true → is_positive b ≡ true
name_positive b h = grind (arith, common_steps)

part_named : (text : List ℕ) → is_part text ≡ true → is_named (part_of text) ≡ true
unfolding is_part
part_named text h =
    let t = and_both (is_name (before_first (λ b. b == 61) text)) _ h in
    all_weaker is_name_byte is_positive name_positive (before_first (λ b. b == 61) text)
    (name_bytes (before_first (λ b. b == 61) text) t.0)

parts_named : (texts : List (List ℕ)) → list_all is_part texts ≡ true
    → list_all is_named (map part_of texts) ≡ true
parts_named [] h = refl
parts_named (t ∷ ts) h =
    let a = all_parts is_part t ts h in
    both_and (is_named (part_of t)) (list_all is_named (map part_of ts)) (part_named t a.0)
    (parts_named ts a.1)

path_named : (path : List ℕ) → IsTrue (is_path path) → list_all is_named (parts_of path) ≡ true
unfolding is_path are_parts parts_of
path_named path h =
    let l : list_all is_part (slice_split (λ b. b == 47) (drop 6 path)) ≡ true =
    grind (arith, common_steps) in
    parts_named (slice_split (λ b. b == 47) (drop 6 path)) l

pub codes_order : (x y code other : List ℕ) → IsTrue (is_path x) → IsTrue (is_path y)
    → code ≡ path_code x → other ≡ path_code y
    → slice_cmp nat_cmp code other ≡ path_cmp x y
unfolding path_code
codes_order x y code other p q e f =
    ap (λ c. slice_cmp nat_cmp c other) e
    ∙ (ap (slice_cmp nat_cmp (parts_code (parts_of x))) f
    ∙ (codes_cmp (parts_of x) (parts_of y) (path_named x p) (path_named y q)
    ∙ sym (path_cmp_is x y p q)))

-- ---- one part more
part_at : (ps : List PathPart) (at : ℕ) (name : List ℕ) (instance : ℕ)
    → slice_get (map (λ p. p.name) ps) at ≡ Some name
    → slice_get (map (λ p. p.instance) ps) at ≡ Some instance
    → parts_code (drop at ps) ≡ name ++ (0 ∷ instance ∷ parts_code (drop (suc at) ps))
part_at [] zero name instance e f = cc
part_at [] (suc at) name instance e f = cc
part_at (p ∷ ps) zero name instance e f =
    let n : p.name ≡ name = cc in
    let i : p.instance ≡ instance = cc in
    rw (n, i) refl
part_at (p ∷ ps) (suc at) name instance e f = part_at ps at name instance e f

pub part_coded : (path old a b new name : List ℕ) (instance at : ℕ)
    → slice_get (names_of path) at ≡ Some name → slice_get (instances_of path) at ≡ Some instance
    → a ≡ old ++ name → b ≡ a ++ (0 ∷ []) → new ≡ b ++ (instance ∷ [])
    → old ++ parts_code (drop at (parts_of path)) ≡ path_code path
    → new ++ parts_code (drop (suc at) (parts_of path)) ≡ path_code path
unfolding names_of instances_of
part_coded path old a b new name instance at n i e f g h =
    let rest = parts_code (drop (suc at) (parts_of path)) in
    ap (λ z. z ++ rest) (g ∙ ap (λ z. z ++ (instance ∷ [])) (f ∙ ap (λ z. z ++ (0 ∷ [])) e))
    ∙ (append_assoc ((old ++ name) ++ (0 ∷ [])) (instance ∷ []) rest
    ∙ (append_assoc (old ++ name) (0 ∷ []) (instance ∷ rest)
    ∙ (append_assoc old name (0 ∷ instance ∷ rest)
    ∙ (ap (λ z. old ++ z) (sym (part_at (parts_of path) at name instance n i)) ∙ h))))

pub code_whole : (path code : List ℕ) (at : ℕ)
    → code ++ parts_code (drop at (parts_of path)) ≡ path_code path → length (parts_of path) ≤ at
    → code ≡ path_code path
code_whole path code at e h =
    sym (append-nil code)
    ∙ (ap (λ ps. code ++ parts_code ps) (sym (drop_all at (parts_of path) h)) ∙ e)

-- a path is coded part by part
pub ruleset coded = (part_coded, code_whole)
