-- One line further in a text.
use Rattle.std.proofs.Common.{◌≡◌, ◌<◌, ◌≤◌, ◌+◌, ◌-◌, ℕ, zero, suc, min, Bool, true, false, not}
use Rattle.std.proofs.Common.{◌||◌, List, [], ◌∷◌, ◌++◌, length, take, drop, refl, arith, ap, sym}
use Rattle.std.proofs.Common.{◌∙◌, subst, Option, Some, None, slice_get, add-one, nat_lt, ⊎_elim}
use Rattle.std.proofs.Common.{length-drop}
use Rattle.std.specs.Prelude.{◌==◌, if◌then◌else◌, unwrap_or, sum_by, fold}
use Rattle.std.specs.List.{list_all, position_or_len}
use Rattle.std.proofs.lemmas.Grind.{common_steps}
use Rattle.std.proofs.lemmas.Bool.{cases_lt}
use Rattle.std.proofs.Math.Seq.{take-length}
use Rattle.std.proofs.lemmas.List.{length-take-le}
use Rattle.fm_name.proofs.Cutting.{split_none, cut_some}
use Rattle.fm_topo.specs.Line.{topology_lines, content_of, line_end, is_clean_byte}
use Rattle.fm_topo.specs.Topology.{Topology, with_line, lines_topology, topology_of}
use Rattle.fm_topo.specs.Fault.{line_fault, fault_at, IsCleanBefore, IsFaultless, IsFirstFault}
use Rattle.fm_topo.specs.Reading.{IsAt}
use Rattle.fm_topo.specs.declared.faults.TopoKind.{TopoKind}
use Rattle.fm_topo.specs.declared.faults.TopoKind.TheVariants.{Bytes, Length}
use Rattle.fm_topo.specs.declared.faults.TopoFault.TheVariants.{At}

-- ---- a list at a place
pub get_drop : {X : Type 0} (n : ℕ) (xs ys : List X) (y : X) → drop n xs ≡ y ∷ ys
    → slice_get xs n ≡ Some y
get_drop zero [] ys y e = cc
get_drop zero (x ∷ xs) ys y e = let k : x ≡ y = cc in ap Some k
get_drop (suc n) [] ys y e = cc
get_drop (suc n) (x ∷ xs) ys y e = get_drop n xs ys y e

pub take_more : {X : Type 0} (n : ℕ) (xs ys : List X) (y : X) → drop n xs ≡ y ∷ ys
    → take (suc n) xs ≡ take n xs ++ (y ∷ [])
take_more zero [] ys y e = cc
take_more zero (x ∷ xs) ys y e = let k : x ≡ y = cc in ap (λ z. z ∷ []) k
take_more (suc n) [] ys y e = cc
take_more (suc n) (x ∷ xs) ys y e = ap (λ z. x ∷ z) (take_more n xs ys y e)

drop_more : {X : Type 0} (n : ℕ) (xs ys : List X) (y : X) → drop n xs ≡ y ∷ ys
    → drop (suc n) xs ≡ ys
drop_more zero [] ys y e = cc
drop_more zero (x ∷ xs) ys y e = let k : xs ≡ ys = cc in k
drop_more (suc n) [] ys y e = cc
drop_more (suc n) (x ∷ xs) ys y e = drop_more n xs ys y e

size_drop : {X : Type 0} (n : ℕ) (xs ys : List X) (y : X) → drop n xs ≡ y ∷ ys
    → length xs ≡ n + 1 + length ys
size_drop zero [] ys y e = cc
size_drop zero (x ∷ xs) ys y e = let k : xs ≡ ys = cc in omega (arith, ap length k)
size_drop (suc n) [] ys y e = cc
size_drop (suc n) (x ∷ xs) ys y e = omega (arith, size_drop n xs ys y e)

pub fold_push : {A B : Type 0} (f : B → A → B) (a : B) (xs : List A) (y : A)
    → fold f a (xs ++ (y ∷ [])) ≡ f (fold f a xs) y
fold_push f a [] y = refl
fold_push f a (x ∷ xs) y = fold_push f (f a x) xs y

sum_push : (xs : List (List ℕ)) (y : List ℕ)
    → sum_by (λ line. length line + 1) (xs ++ (y ∷ []))
    ≡ sum_by (λ line. length line + 1) xs + (length y + 1)
sum_push xs y = fold_push (λ n line. n + (length line + 1)) 0 xs y

-- ---- the line at the begin of the rest
line_then : (rest : List ℕ) (at : ℕ) → at ≡ position_or_len (λ b. b == 10) rest → at < length rest
    → topology_lines rest ≡ take at rest ∷ topology_lines (drop (at + 1) rest)
line_then rest at e h =
    cut_some (λ b. b == 10) rest (take at rest) (drop (at + 1) rest) (ap (λ n. take n rest) e)
    (ap (λ n. drop (n + 1) rest) e) (omega arith)

line_last : (rest : List ℕ) (at : ℕ) → at ≡ position_or_len (λ b. b == 10) rest → length rest ≤ at
    → at ≤ length rest → topology_lines rest ≡ take at rest ∷ []
line_last rest at e h k =
    let n : at ≡ length rest = omega arith in
    let m : position_or_len (λ b. b == 10) rest ≡ length rest = omega arith in
    split_none (λ b. b == 10) rest m
    ∙ ap (λ l. l ∷ []) (sym (take-length rest) ∙ ap (λ i. take i rest) (sym n))

-- what the reading knows at a line
record IsNow (text : List ℕ) (number : ℕ) (line : List ℕ) (more : List (List ℕ)) (found : Topology)
    (last : ℕ) : Type 0 where
  fault : fault_at text number ≡ line_fault found last line
  taken : lines_topology (take (number + 1) (topology_lines text)) ≡ with_line found line
  size : sum_by (λ l. length l + 1) (take (number + 1) (topology_lines text))
      ≡ sum_by (λ l. length l + 1) (take number (topology_lines text)) + (length line + 1)
  left : drop (number + 1) (topology_lines text) ≡ more
  lines : length (topology_lines text) ≡ number + 1 + length more

now_at : (text rest line : List ℕ) (more : List (List ℕ)) (number last : ℕ) (found : Topology)
    → IsAt text number rest found → topology_lines rest ≡ line ∷ more
    → last ≡ min (length text - length rest + length line + 1) (length text)
    → IsNow text number line more found last
unfolding fault_at line_end lines_topology
now_at text rest line more number last found a e l =
    let d : drop number (topology_lines text) ≡ line ∷ more = a.lines ∙ e in
    let t : take (number + 1) (topology_lines text) ≡ take number (topology_lines text)
    ++ (line ∷ []) = ap (λ n. take n (topology_lines text)) (add-one number)
    ∙ take_more number (topology_lines text) more line d in
    let g : unwrap_or (slice_get (topology_lines text) number) [] ≡ line =
    ap (λ o. unwrap_or o []) (get_drop number (topology_lines text) more line d) in
    let s : sum_by (λ l. length l + 1) (take (number + 1) (topology_lines text))
    ≡ sum_by (λ l. length l + 1) (take number (topology_lines text)) + (length line + 1) =
    ap (sum_by (λ l. length l + 1)) t ∙ sum_push (take number (topology_lines text)) line in
    let z = a.size in
    let n : min (sum_by (λ l. length l + 1) (take (number + 1) (topology_lines text))) (length text)
    ≡ last =
    ap (λ k. min k (length text)) s
    ∙ (let w : sum_by (λ l. length l + 1) (take number (topology_lines text))
    ≡ length text - length rest = omega arith in
    ap (λ k. min (k + (length line + 1)) (length text)) w
    ∙ (let v : length text - length rest + (length line + 1)
    ≡ length text - length rest + length line + 1 = omega arith in
    ap (λ k. min k (length text)) v ∙ sym l)) in
    record {
      fault = ap (λ f. line_fault f
          (min (sum_by (λ l. length l + 1) (take (number + 1) (topology_lines text))) (length text))
          (unwrap_or (slice_get (topology_lines text) number) [])) (sym a.topology)
          ∙ (ap (λ k. line_fault found k (unwrap_or (slice_get (topology_lines text) number) [])) n
          ∙ ap (line_fault found last) g);
      taken = ap (fold with_line []) t
          ∙ (fold_push with_line [] (take number (topology_lines text)) line
          ∙ ap (λ f. with_line f line) (sym a.topology));
      size = s;
      left = ap (λ n. drop n (topology_lines text)) (add-one number)
          ∙ drop_more number (topology_lines text) more line d;
      lines = size_drop number (topology_lines text) more line d;
    }

short_line : (c f : Bool) (rest : Option TopoKind)
    → (if not c then Some Bytes else if f then Some Length else rest) ≡ None → f ≡ false
short_line true true rest e = cc
short_line true false rest e = refl
short_line false f rest e = cc

last_small : (b : Bool) (last : ℕ) → (b || nat_lt 16777216 last) ≡ false → last ≤ 16777216
last_small true last h = cc
last_small false last h = grind (arith, common_steps)

last_short : (found : Topology) (last : ℕ) (line : List ℕ) → line_fault found last line ≡ None
    → last ≤ 16777216
unfolding line_fault
last_short found last line e =
    let h = short_line (list_all is_clean_byte (content_of line))
    (nat_lt 4096 (length line) || nat_lt 16777216 last) _ e in
    last_small (nat_lt 4096 (length line)) last h

clean_more : (text : List ℕ) (number : ℕ) → IsCleanBefore text number → fault_at text number ≡ None
    → IsCleanBefore text (number + 1)
clean_more text number h e k l =
    ⊎_elim (λ m. h k m) (λ m. let q : number ≡ k = omega arith in
    subst (λ n. fault_at text n ≡ None) q e) (cases_lt k number)

pub at_next : (text rest : List ℕ) (number at last : ℕ) (found new : Topology)
    → IsAt text number rest found → at ≡ position_or_len (λ b. b == 10) rest → at < length rest
    → last ≡ min (length text - length rest + at + 1) (length text)
    → line_fault found last (take at rest) ≡ None → new ≡ with_line found (take at rest)
    → IsAt text (number + 1) (drop (at + 1) rest) new × (length (drop (at + 1) rest) < length rest)
    × (number + 1 ≤ 16777216)
at_next text rest number at last found new a p h l f w =
    let len : length (take at rest) ≡ at = length-take-le at rest (omega arith) in
    let l2 : last ≡ min (length text - length rest + length (take at rest) + 1) (length text) = l
    ∙ ap (λ k. min (length text - length rest + k + 1) (length text)) (sym len) in
    let n = now_at text rest (take at rest) (topology_lines (drop (at + 1) rest)) number last found
    a (line_then rest at p h) l2 in
    let s = last_short found last (take at rest) f in
    let d : length (drop (at + 1) rest) ≡ length rest - (at + 1) = length-drop (at + 1) rest in
    let z = a.size in
    let c = a.count in (
      record {
        lines = n.left;
        clean = clean_more text number a.clean (n.fault ∙ f);
        topology = w ∙ sym n.taken;
        size = omega (arith, n.size, z, d, len);
        short = omega (arith, s, l, d, z, c);
        count = omega (arith, c, d);
      },
      omega (arith, d),
      omega (arith, s, l, c, z),
    )

pub at_end : (text rest : List ℕ) (number at last : ℕ) (found new : Topology)
    → IsAt text number rest found → at ≡ position_or_len (λ b. b == 10) rest → length rest ≤ at
    → at ≤ length rest
    → last ≡ min (length text - length rest + at + 1) (length text)
    → line_fault found last (take at rest) ≡ None → new ≡ with_line found (take at rest)
    → IsFaultless text × (new ≡ topology_of text)
at_end text rest number at last found new a p h k l f w =
    let len : length (take at rest) ≡ at = length-take-le at rest k in
    let l2 : last ≡ min (length text - length rest + length (take at rest) + 1) (length text) = l
    ∙ ap (λ k. min (length text - length rest + k + 1) (length text)) (sym len) in
    let n = now_at text rest (take at rest) [] number last found a (line_last rest at p h k) l2 in
    let e : length (topology_lines text) ≡ number + 1 = omega (arith, n.lines) in
    let c = clean_more text number a.clean (n.fault ∙ f) in (
      subst (λ m. IsCleanBefore text m) (sym e) c,
      w ∙ (sym n.taken ∙ (ap (λ m. lines_topology (take m (topology_lines text))) (sym e)
          ∙ ap lines_topology (take-length (topology_lines text)))),
    )

pub at_fault : (text rest : List ℕ) (number at last : ℕ) (found : Topology) (kind : TopoKind)
    → IsAt text number rest found → at ≡ position_or_len (λ b. b == 10) rest → at ≤ length rest
    → last ≡ min (length text - length rest + at + 1) (length text)
    → line_fault found last (take at rest) ≡ Some kind
    → IsFirstFault text (At (number + 1) kind)
at_fault text rest number at last found kind a p k l f =
    let len : length (take at rest) ≡ at = length-take-le at rest k in
    let l2 : last ≡ min (length text - length rest + length (take at rest) + 1) (length text) = l
    ∙ ap (λ k. min (length text - length rest + k + 1) (length text)) (sym len) in
    ⊎_elim
    (λ h. let n = now_at text rest (take at rest) (topology_lines (drop (at + 1) rest)) number last
    found a (line_then rest at p h) l2 in
    (number, refl, omega (arith, n.lines), n.fault ∙ f, a.clean))
    (λ h. let n = now_at text rest (take at rest) [] number last found a (line_last rest at p h k)
    l2 in
    (number, refl, omega (arith, n.lines), n.fault ∙ f, a.clean)) (cases_lt at (length rest))

-- a line is taken, and more follow or none; or it has a fault
pub ruleset steps = (at_next, at_end, at_fault)

-- before the first line
pub at_start : (text : List ℕ) (found : Topology) → found ≡ [] → IsAt text 0 text found
unfolding lines_topology
at_start text found e = record {
  lines = refl;
  clean = λ k h. absurd (omega arith);
  topology = e;
  size = omega arith;
  short = omega arith;
  count = omega arith;
}
