-- What is printed of a topology reads as it.
use Rattle.std.proofs.Common.{◌≡◌, ◌<◌, ◌≤◌, ℕ, zero, suc, Bool, true, false, not, ◌&&◌, List, []}
use Rattle.std.proofs.Common.{◌∷◌, ◌++◌, length, map, take, fold, refl, arith, ap, sym, ◌∙◌, subst}
use Rattle.std.proofs.Common.{Some, None, is_some, slice_get, unwrap_or, nat_lt, length-append}
use Rattle.std.proofs.Common.{true≢false}
use Rattle.std.specs.Prelude.{◌==◌}
use Rattle.std.specs.List.{list_all, join_with_byte, AllByRecursion}
use Rattle.std.specs.List.Sorted.{IsStrictlySortedBy}
use Rattle.std.specs.Map.{keys_of}
use Rattle.std.proofs.lemmas.Grind.{common_steps}
use Rattle.fm_name.specs.Path.{is_path, parts_of}
use Rattle.fm_name.specs.Order.{path_cmp}
use Rattle.fm_name.specs.OrderLaws.{path_cmp_total, path_tie}
use Rattle.fm_name.proofs.Cutting.{split_none, count_map}
use Rattle.fm_topo.specs.Line.{topology_lines, line_end, content_of, is_skipped}
use Rattle.fm_topo.specs.Property.{Properties}
use Rattle.fm_topo.specs.Topology.{Topology, has_path, with_line, lines_topology}
use Rattle.fm_topo.specs.Fault.{parent_of, lacks_parent, line_fault, fault_at, IsFaultless}
use Rattle.fm_topo.specs.Printed.{place_line, topology_text}
use Rattle.fm_topo.specs.Lawful.{IsPlace, IsTopology, ReadsAs}
use Rattle.fm_topo.proofs.Maps.{all_map, all_front, all_middle, sorted_front, sorted_cut}
use Rattle.fm_topo.proofs.Maps.{lookup_behind, lookup_front, fold_ascending}
use Rattle.fm_topo.proofs.Cuts.{all_weaker, position_none, split_at}
use Rattle.fm_topo.proofs.Parents.{parent_less}
use Rattle.fm_topo.proofs.Places.{is_print_byte, line_bytes, place_back, no_fault}

-- ---- the lines of what is printed
no_newline : (x : ℕ) → is_print_byte x ≡ true → not (x == 10) ≡ true
no_newline x h = grind (arith, common_steps)

no_newlines : (place : List ℕ × Properties) → IsPlace place
    → list_all (λ x. not (x == 10)) (place_line place) ≡ true
no_newlines place h =
    all_weaker is_print_byte (λ x. not (x == 10)) no_newline (place_line place) (line_bytes place h)

lines_back : (p : List ℕ × Properties) (ps : Topology) → AllByRecursion IsPlace (p ∷ ps)
    → topology_lines (topology_text (p ∷ ps)) ≡ map place_line (p ∷ ps)
unfolding topology_text
lines_back p [] a = split_none (λ b. b == 10) (place_line p)
    (position_none (λ b. b == 10) (place_line p) (no_newlines p a.0))
lines_back p (q ∷ qs) a =
    split_at (λ b. b == 10) (place_line p) (join_with_byte 10 (map place_line (q ∷ qs))) 10
    (no_newlines p a.0) refl ∙ ap (λ r. place_line p ∷ r) (lines_back q qs a.1)

folded : (pre post : Topology) → IsStrictlySortedBy path_cmp (keys_of (pre ++ post))
    → AllByRecursion IsPlace post → fold with_line pre (map place_line post) ≡ pre ++ post
folded pre post s a =
    fold_ascending path_cmp_total path_tie IsPlace with_line place_line place_back pre post s a

-- ---- a topology that is cut at a place
cut_at : {X : Type 0} (k : ℕ) (xs : List X) → k < length xs → (pre : List X) × (x : X)
    × (post : List X) × (xs ≡ pre ++ (x ∷ post)) × (length pre ≡ k)
cut_at k [] h = absurd (omega arith)
cut_at zero (x ∷ xs) h = ([], x, xs, refl, refl)
cut_at (suc k) (x ∷ xs) h =
    let c = cut_at k xs (omega (arith, h)) in
    (x ∷ c.0, c.1, c.2, ap (λ r. x ∷ r) c.3, ap suc c.4)

taken : {X Y : Type 0} (f : X → Y) (pre post : List X)
    → take (length pre) (map f (pre ++ post)) ≡ map f pre
taken f [] post = refl
taken f (x ∷ pre) post = ap (λ r. f x ∷ r) (taken f pre post)

gotten : {X Y : Type 0} (f : X → Y) (pre post : List X) (x : X)
    → slice_get (map f (pre ++ (x ∷ post))) (length pre) ≡ Some (f x)
gotten f [] post x = refl
gotten f (y ∷ pre) post x = gotten f pre post x

pub lacks_less : (d p h k : Bool) → (d ≡ true → h ≡ true → k ≡ true) → (d && not (p && h)) ≡ false
    → (d && not (p && k)) ≡ false
lacks_less false p h k f e = refl
lacks_less true false h k f e = e
lacks_less true true true k f e = rw (f refl refl) refl
lacks_less true true false k f e = absurd (true≢false e)

-- a parent that is there stands before
lacks_front : (pre post : Topology) (e : List ℕ × Properties)
    → IsStrictlySortedBy path_cmp (keys_of (pre ++ (e ∷ post)))
    → lacks_parent (pre ++ (e ∷ post)) e.0 ≡ false → lacks_parent pre e.0 ≡ false
lacks_front pre post e s h =
    lacks_less (nat_lt 1 (length (parts_of e.0))) (is_path (parent_of e.0))
    (has_path (pre ++ (e ∷ post)) (parent_of e.0)) (has_path pre (parent_of e.0))
    (λ d k.
    let l = parent_less e.0 d in
    let c = sorted_cut path_cmp_total path_tie pre post e s in
    lookup_front path_cmp_total path_tie pre (e ∷ post) (parent_of e.0)
    (l, all_map (λ y m. path_cmp_total.trans (parent_of e.0) e.0 y.0 l m) post c.1) k) h

-- ---- no line has a fault
fault_at_cut : (text : List ℕ) (pre post : Topology) (e : List ℕ × Properties)
    → topology_lines text ≡ map place_line (pre ++ (e ∷ post)) → IsTopology (pre ++ (e ∷ post))
    → length text ≤ 16777216 → fault_at text (length pre) ≡ None
unfolding fault_at line_end lines_topology
fault_at_cut text pre post e l t small =
    let lines : take (length pre) (topology_lines text) ≡ map place_line pre =
    ap (take (length pre)) l ∙ taken place_line pre (e ∷ post) in
    let before : fold with_line [] (take (length pre) (topology_lines text)) ≡ pre =
    ap (fold with_line []) lines
    ∙ folded [] pre (sorted_front path_cmp pre (e ∷ post) t.order)
    (all_front IsPlace pre (e ∷ post) t.places) in
    let line : unwrap_or (slice_get (topology_lines text) (length pre)) [] ≡ place_line e =
    ap (λ z. unwrap_or (slice_get z (length pre)) []) l
    ∙ ap (λ o. unwrap_or o []) (gotten place_line pre post e) in
    let last : line_end text (length pre) ≤ 16777216 = omega (arith, small) in
    let absent : has_path pre e.0 ≡ false =
    ap is_some (lookup_behind path_cmp_total path_tie pre e.0
    (sorted_cut path_cmp_total path_tie pre post e t.order).0) in
    let parent = lacks_front pre post e t.order
    (all_middle (λ p. lacks_parent (pre ++ (e ∷ post)) p.0 ≡ false) pre post e t.parents) in
    let n = length-append pre (e ∷ post) in
    let c = t.count in
    ap (λ z. line_fault z (line_end text (length pre))
    (unwrap_or (slice_get (topology_lines text) (length pre)) [])) before
    ∙ (ap (line_fault pre (line_end text (length pre))) line
    ∙ no_fault pre (line_end text (length pre)) e (all_middle IsPlace pre post e t.places) last
    absent parent (omega (arith, n, c)))

clean_back : (p : List ℕ × Properties) (ps : Topology) → IsTopology (p ∷ ps)
    → IsFaultless (topology_text (p ∷ ps))
clean_back p ps t k h =
    let l = lines_back p ps t.places in
    let n : length (topology_lines (topology_text (p ∷ ps))) ≡ length (p ∷ ps) = ap length l
    ∙ count_map place_line (p ∷ ps) in
    let c = cut_at k (p ∷ ps) (omega (arith, h, n)) in
    subst (λ m. fault_at (topology_text (p ∷ ps)) m ≡ None) c.4
    (fault_at_cut (topology_text (p ∷ ps)) c.0 c.2 c.1 (l ∙ ap (map place_line) c.3)
    (subst IsTopology c.3 t) t.size)

empty_clean : (k : ℕ) → k < 1 → fault_at [] k ≡ None
unfolding fault_at line_fault content_of is_skipped line_end
empty_clean zero h = refl
empty_clean (suc k) h = absurd (omega (arith, h))

empty_text : topology_text [] ≡ []
unfolding topology_text
empty_text = refl

empty_reads : ReadsAs [] []
unfolding lines_topology with_line content_of is_skipped
empty_reads = (λ k h. empty_clean k h, refl)

pub reads_back : (topology : Topology) → IsTopology topology
    → ReadsAs (topology_text topology) topology
unfolding lines_topology
reads_back [] t = subst (λ z. ReadsAs z []) (sym empty_text) empty_reads
reads_back (p ∷ ps) t = (
  clean_back p ps t,
  ap (fold with_line []) (lines_back p ps t.places)
      ∙ folded [] (p ∷ ps) t.order t.places,
)
