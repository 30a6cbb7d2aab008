-- The pairs of cells whose names stand one behind the other.
use Rattle.std.proofs.Common.{Bool, true, false}
use Rattle.std.proofs.Common.{◌≡◌, ℕ, zero, suc, ◌+◌, ◌-◌, ◌<◌, ◌≤◌, max, nat_lt, IsTrue, List, []}
use Rattle.std.proofs.Common.{◌∷◌, ◌++◌, length, length-append, get_or, take, drop, refl, sym, ap}
use Rattle.std.proofs.Common.{◌∙◌, arith, subst}
use Rattle.std.specs.Bool.{OnTrue}
use Rattle.std.specs.Str.{is_utf8}
use Rattle.std.proofs.lemmas.Bool.{leb-true}
use Rattle.std.proofs.lemmas.List.{take-append-le, take_all}
use Rattle.std.proofs.Math.Seq.{drop-append_seam}
use Rattle.fm_nv.specs.Ascending.{LastIsGreatest, IsPast}
use Rattle.fm_nv.specs.Data.{Pairs, Data, no_pairs, pair, count, depth, data_depth, name_at}
use Rattle.fm_nv.specs.Data.{value_at, add}
use Rattle.fm_nv.specs.Spelled.{is_pair_name, names_fit}
use Rattle.fm_nv.specs.View.{datum, bytes_between, begins, pairs_in, AreEnds, IsContent}
use Rattle.fm_nv.specs.declared.nv.Cell.{Cell}
use Rattle.fm_bytes.proofs.Booleans.{and_parts, and_true}
use Rattle.fm_nv.proofs.Adding.{depth_add}
use Rattle.fm_nv.proofs.Greatest.{past_is_greatest}

-- there are as many pairs as cells
pub count_in : (names : List ℕ) (b : ℕ) (cs : List Cell) → count (pairs_in names b cs) ≡ length cs
count_in names b [] = refl
count_in names b (c ∷ cs) = ap suc (count_in names c.end cs)

-- a name ends where its cell says
pub begins_next : (b : ℕ) (cs : List Cell) (n : ℕ) (c : Cell) → n < length cs → c ≡ get_or cs n c
    → c.end ≡ begins b cs (suc n)
begins_next b [] n c h e = absurd (omega arith)
begins_next b (x ∷ cs) zero c h e = ap (λ (y : Cell). y.end) e
begins_next b (x ∷ cs) (suc n) c h e = begins_next x.end cs n c (omega arith) e

-- the name at a place is what stands between its beginning and the next
pub name_in : (names : List ℕ) (b : ℕ) (cs : List Cell) (n : ℕ) → n < length cs
    → bytes_between (begins b cs n) (begins b cs (suc n)) names ≡ name_at n (pairs_in names b cs)
name_in names b [] n h = absurd (omega arith)
name_in names b (c ∷ cs) zero h = refl
name_in names b (c ∷ cs) (suc n) h = name_in names c.end cs n (omega arith)

-- the value at a place is that of the cell
pub value_in : (names : List ℕ) (b : ℕ) (cs : List Cell) (n : ℕ) (c : Cell) → n < length cs
    → c ≡ get_or cs n c
    → datum c.value ≡ value_at n (pairs_in names b cs)
value_in names b [] n c h e = absurd (omega arith)
value_in names b (x ∷ cs) zero c h e = ap (λ (y : Cell). datum y.value) e
value_in names b (x ∷ cs) (suc n) c h e = value_in names x.end cs n c (omega arith) e

-- ends are no more than the last
pub ends_within : (size b : ℕ) (cs : List Cell) → AreEnds size b cs → b ≤ size
ends_within size b [] h = omega arith
ends_within size b (c ∷ cs) h = let ih = ends_within size c.end cs h.1 in omega (arith, h.0)

-- a name ends behind its beginning, and within the bytes
pub begins_in_order : (size b : ℕ) (cs : List Cell) (n : ℕ) → AreEnds size b cs → n < length cs
    → (begins b cs n ≤ begins b cs (suc n)) × (begins b cs (suc n) ≤ size)
begins_in_order size b [] n h k = absurd (omega arith)
begins_in_order size b (c ∷ cs) zero h k = (h.0, ends_within size c.end cs h.1)
begins_in_order size b (c ∷ cs) (suc n) h k = begins_in_order size c.end cs n h.1 (omega arith)

-- the ends with one cell more
ends_push : (size b : ℕ) (cs : List Cell) (c : Cell) → AreEnds size b cs → size ≤ c.end
    → AreEnds c.end b (cs ++ c ∷ [])
ends_push size b [] c h k = (omega arith, refl)
ends_push size b (x ∷ cs) c h k = (h.0, ends_push size x.end cs c h.1 k)

drop_front : (b : ℕ) (xs ys : List ℕ) → b ≤ length xs → drop b (xs ++ ys) ≡ drop b xs ++ ys
drop_front zero xs ys h = refl
drop_front (suc b) [] ys h = absurd (omega arith)
drop_front (suc b) (x ∷ xs) ys h = drop_front b xs ys (omega arith)

length_drop : (b : ℕ) (xs : List ℕ) → length (drop b xs) + b ≡ length xs + (b - length xs)
length_drop zero xs = omega arith
length_drop (suc b) [] = omega arith
length_drop (suc b) (x ∷ xs) = omega (arith, length_drop b xs)

-- what stands between two places stays where bytes are added
between_front : (b e : ℕ) (xs ys : List ℕ) → b ≤ e → e ≤ length xs
    → bytes_between b e (xs ++ ys) ≡ bytes_between b e xs
between_front b e xs ys h k =
    ap (take (e - b)) (drop_front b xs ys (omega arith))
    ∙ take-append-le (e - b) (drop b xs) ys (omega (arith, length_drop b xs))

-- what was added stands between the end before and the new one
between_back : (xs ys : List ℕ) (e : ℕ) → e ≡ length xs + length ys
    → bytes_between (length xs) e (xs ++ ys) ≡ ys
between_back xs ys e h = ap (take (e - length xs)) (drop-append_seam xs ys)
    ∙ take_all (e - length xs) ys (omega arith)

pairs_push : (names k : List ℕ) (b : ℕ) (cs : List Cell) (c : Cell) → AreEnds (length names) b cs
    → c.end ≡ length names + length k
    → pairs_in (names ++ k) b (cs ++ c ∷ []) ≡ add k (datum c.value) (pairs_in names b cs)
pairs_push names k b [] c h e =
    ap (λ (n : List ℕ). pair n (datum c.value) no_pairs)
    (ap (λ (n : ℕ). bytes_between n c.end (names ++ k)) h ∙ between_back names k c.end e)
pairs_push names k b (x ∷ cs) c h e =
    ap (λ (n : List ℕ). pair n (datum x.value) (pairs_in (names ++ k) x.end (cs ++ c ∷ [])))
    (between_front b x.end names k h.0 (ends_within (length names) x.end cs h.1))
    ∙ ap (pair (bytes_between b x.end names) (datum x.value)) (pairs_push names k x.end cs c h.1 e)

-- a name more is one
names_fit_add : (k : List ℕ) (d : Data) (ps : Pairs) → IsTrue (is_pair_name k)
    → IsTrue (names_fit ps) → IsTrue (names_fit (add k d ps))
names_fit_add k d no_pairs name all = and_true (is_pair_name k) _ name refl
names_fit_add k d (pair j e ps) name all =
    let parts = and_parts (is_pair_name j) _ all in
    and_true (is_pair_name j) _ parts.0 (names_fit_add k d ps name parts.1)

-- the name at a place is one
pub name_fits : (ps : Pairs) (n : ℕ) → IsTrue (names_fit ps) → n < count ps
    → IsTrue (is_pair_name (name_at n ps))
name_fits no_pairs n h k = absurd (omega arith)
name_fits (pair j d ps) zero h k = (and_parts (is_pair_name j) _ h).0
name_fits (pair j d ps) (suc n) h k =
    name_fits ps n (and_parts (is_pair_name j) _ h).1 (omega arith)

-- a cell and its name more are a pair more
pub content_pairs : (names k more : List ℕ) (cs all : List Cell) (c : Cell) (deep : ℕ)
    (ascending : Bool) → IsContent deep ascending names cs → c.end ≡ length names + length k
    → more ≡ names ++ k → all ≡ cs ++ c ∷ []
    → pairs_in more 0 all ≡ add k (datum c.value) (pairs_in names 0 cs)
content_pairs names k more cs all c deep ascending h e named_by held_by =
    (λ i. pairs_in (named_by i) 0 (held_by i)) ∙ pairs_push names k 0 cs c h.ends e

-- the same at the next place, as code names it
pub name_found : (names : List ℕ) (cs : List Cell) (n : ℕ) → n < length cs
    → bytes_between (begins 0 cs n) (begins 0 cs (n + 1)) names ≡ name_at n (pairs_in names 0 cs)
name_found names cs n h =
    let e : suc n ≡ n + 1 = omega arith in
    subst (λ (m : ℕ). bytes_between (begins 0 cs n) (begins 0 cs m) names
    ≡ name_at n (pairs_in names 0 cs)) e (name_in names 0 cs n h)

pub ends_found : (size : ℕ) (cs : List Cell) (n : ℕ) → AreEnds size 0 cs → n < length cs
    → (begins 0 cs n ≤ begins 0 cs (n + 1)) × (begins 0 cs (n + 1) ≤ size)
ends_found size cs n h k =
    let e : suc n ≡ n + 1 = omega arith in
    subst (λ (m : ℕ). (begins 0 cs n ≤ begins 0 cs m) × (begins 0 cs m ≤ size)) e
    (begins_in_order size 0 cs n h k)

pub begins_found : (cs : List Cell) (at : ℕ) (c : Cell) → 0 < at → at ≤ length cs
    → c ≡ get_or cs (at - 1) c → c.end ≡ begins 0 cs at
begins_found cs at c above h e =
    let same : suc (at - 1) ≡ at = omega arith in
    subst (λ (m : ℕ). c.end ≡ begins 0 cs m) same (begins_next 0 cs (at - 1) c (omega arith) e)

name_size : (k : List ℕ) → IsTrue (is_pair_name k) → length k ≤ 255
name_size k h =
    let sized = and_parts (is_utf8 k) _ h in
    leb-true (length k) 255 (and_parts (nat_lt 0 (length k)) _ sized.1).1

where_past : (past : Bool) (k : List ℕ) (d : Data) (ps : Pairs) → OnTrue past (IsPast k ps)
    → OnTrue past (LastIsGreatest (add k d ps))
where_past true k d ps h = past_is_greatest k d ps h
where_past false k d ps h = h

-- what is kept with one pair more
content_more : (deep more : ℕ) (before past : Bool) (names k : List ℕ) (cs : List Cell) (c : Cell)
    → IsContent deep before names cs → IsTrue (is_pair_name k) → length cs < 65535
    → c.end ≡ length names + length k → more ≡ max deep (suc (data_depth (datum c.value)))
    → OnTrue past (IsPast k (pairs_in names 0 cs))
    → IsContent more past (names ++ k) (cs ++ c ∷ [])
content_more deep more before past names k cs c h name room e deeper greatest =
    let same = pairs_push names k 0 cs c h.ends e in
    let size : c.end ≡ length (names ++ k) = omega (arith, length-append names k) in
    let small = name_size k name in
    record {
      depth_is = omega (
        arith,
        ap depth same,
        depth_add k (datum c.value) (pairs_in names 0 cs),
        h.depth_is,
      );
      greatest = subst (λ (ps : Pairs). OnTrue past (LastIsGreatest ps)) (sym same)
          (where_past past k (datum c.value) (pairs_in names 0 cs) greatest);
      ends = subst (λ (n : ℕ). AreEnds n 0 (cs ++ c ∷ [])) size
          (ends_push (length names) 0 cs c h.ends (omega arith));
      named = ap names_fit same
          ∙ names_fit_add k (datum c.value) (pairs_in names 0 cs) name h.named;
      bytes = omega (arith, length-append names k, length-append cs (c ∷ []), h.bytes);
      few = omega (arith, length-append cs (c ∷ []));
    }

pub content_push : (deep more : ℕ) (before past : Bool) (names k all_names : List ℕ)
    (cs all : List Cell) (c : Cell)
    → IsContent deep before names cs → IsTrue (is_pair_name k) → length cs < 65535
    → c.end ≡ length names + length k → more ≡ max deep (suc (data_depth (datum c.value)))
    → OnTrue past (IsPast k (pairs_in names 0 cs))
    → all_names ≡ names ++ k → all ≡ cs ++ c ∷ []
    → IsContent more past all_names all
content_push deep more before past names k all_names cs all c h name room e deeper greatest named_by
    held_by =
    subst (λ (ns : List ℕ). IsContent more past ns all) (sym named_by)
    (subst (λ (ys : List Cell). IsContent more past (names ++ k) ys) (sym held_by)
    (content_more deep more before past names k cs c h name room e deeper greatest))
