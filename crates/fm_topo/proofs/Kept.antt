-- What a text without a fault means is a topology, and no longer when it is printed.
use Rattle.std.proofs.Common.{◌≡◌, ◌<◌, ◌≤◌, ◌+◌, ◌-◌, ℕ, zero, suc, Bool, true, false, not, ◌&&◌}
use Rattle.std.proofs.Common.{◌||◌, List, [], ◌∷◌, ◌++◌, length, map, take, drop, fold, refl, arith}
use Rattle.std.proofs.Common.{ap, sym, ◌∙◌, subst, Option, Some, None, slice_get, slice_index}
use Rattle.std.proofs.Common.{unwrap_or, nat_lt, nat_le, length-append, length-take, true≢false}
use Rattle.std.proofs.Common.{sum_by, cond, ⊎_elim}
use Rattle.std.specs.Prelude.{◌==◌, if◌then◌else◌}
use Rattle.std.specs.List.{list_all, after_first, onto_first, join_with_byte, AllByRecursion}
use Rattle.std.specs.List.Sorted.{IsStrictlySortedBy}
use Rattle.std.specs.Map.{keys_of}
use Rattle.std.specs.BTreeMap.{insert_entry}
use Rattle.std.proofs.Math.Nat.{eq-or-lt_of_le}
use Rattle.std.proofs.Math.Seq.{take-length}
use Rattle.std.proofs.lemmas.List.Sums.{sum_by-cons}
use Rattle.std.proofs.lemmas.Grind.{common_steps}
use Rattle.fm_name.specs.Path.{is_path, parts_of}
use Rattle.fm_name.specs.Order.{path_cmp}
use Rattle.fm_name.specs.OrderLaws.{path_cmp_total, path_tie}
use Rattle.fm_name.proofs.Cutting.{some_text}
use Rattle.fm_topo.specs.Line.{topology_lines, line_end, content_of, is_skipped, is_clean_byte}
use Rattle.fm_topo.specs.Line.{parted_words, path_of, words_of}
use Rattle.fm_topo.specs.Property.{Properties, is_property, property_name, has_twin, properties_of}
use Rattle.fm_topo.specs.Topology.{Topology, has_path, with_line, lines_topology, topology_of}
use Rattle.fm_topo.specs.Fault.{parent_of, lacks_parent, set_fault, entry_fault, line_fault}
use Rattle.fm_topo.specs.Fault.{fault_at, IsCleanBefore, IsFaultless}
use Rattle.fm_topo.specs.Printed.{properties_text, place_line, topology_text}
use Rattle.fm_topo.specs.Lawful.{IsPlace, IsTopology, ReadsAs}
use Rattle.fm_topo.specs.declared.faults.TopoKind.{TopoKind}
use Rattle.fm_topo.specs.declared.faults.TopoKind.TheVariants.{Path, Property, Twice, Parent}
use Rattle.fm_topo.specs.declared.faults.TopoKind.TheVariants.{Length, Count, Bytes}
use Rattle.fm_topo.proofs.Pieces.{space_inside, no_space}
use Rattle.fm_topo.proofs.Stepping.{get_drop, take_more, fold_push}
use Rattle.fm_topo.proofs.Maps.{total, total_push, all_map, all_insert, sorted_insert, total_insert}
use Rattle.fm_topo.proofs.Maps.{length_insert, lookup_still}
use Rattle.fm_topo.proofs.Cuts.{position_le, before_length, after_length}
use Rattle.fm_topo.proofs.Pairs.{pairs_all, read_all, properties_length}
use Rattle.fm_topo.proofs.Round.{lacks_less}

abbrev line_size : List ℕ → ℕ
line_size line = length line + 1

abbrev place_size : List ℕ × Properties → ℕ
place_size place = length (place_line place) + 1

-- ---- lengths
onto_total : (x : ℕ) (ws : List (List ℕ)) → 0 < total line_size ws
    → total line_size (onto_first x ws) ≡ total line_size ws + 1
onto_total x [] h = absurd (omega (arith, h))
onto_total x (w ∷ ws) h = omega arith

words_at : (x : ℕ) (xs : List ℕ) (t : Bool) (on next : List (List ℕ))
    → total line_size on ≡ length xs + 1 → total line_size next ≡ length xs + 1
    → total line_size (cond t ([] ∷ next) (onto_first x on)) ≡ length (x ∷ xs) + 1
words_at x xs true on next e f = omega (arith, f)
words_at x xs false on next e f = omega (arith, e, onto_total x on (omega (arith, e)))

words_total : (q : Bool) (xs : List ℕ) → total line_size (parted_words q xs) ≡ length xs + 1
words_total q [] = refl
words_total q (x ∷ xs) =
    words_at x xs (x == 32 && not q) (parted_words (if x == 34 then not q else q) xs)
    (parted_words false xs)
    (words_total (if x == 34 then not q else q) xs) (words_total false xs)

lines_total : (xs : List ℕ) → total line_size (topology_lines xs) ≡ length xs + 1
lines_total [] = refl
lines_total (x ∷ xs) =
    words_at x xs (x == 10) (topology_lines xs) (topology_lines xs) (lines_total xs)
    (lines_total xs)

content_at : (b : Bool) (n : ℕ) (xs : List ℕ) → length (if b then take n xs else xs) ≤ length xs
content_at true n xs = omega (arith, length-take n xs)
content_at false n xs = omega arith

content_length : (line : List ℕ) → length (content_of line) ≤ length line
unfolding content_of
content_length line =
    content_at (nat_lt 0 (length line) && slice_index line (length line - 1) == 13)
    (length line - 1) line

-- a line is its path and its words
content_total : (content : List ℕ)
    → length (path_of content) + total line_size (words_of content) ≡ length content
unfolding path_of words_of
content_total content =
    let b = before_length (λ b. b == 32) content in
    let a = after_length (λ b. b == 32) content in
    let w = words_total false (after_first (λ b. b == 32) content) in
    ⊎_elim (λ e. rw (no_space content e) (omega (arith, b, e)))
    (λ l. rw (space_inside content l) (omega (arith, b, a, w, l)))
    (eq-or-lt_of_le (position_le (λ b. b == 32) content))

-- ---- what a line without a fault is
if_none : (b : Bool) (k : TopoKind) (r : Option TopoKind) → (if b then Some k else r) ≡ None
    → (b ≡ false) × (r ≡ None)
if_none true k r e = cc
if_none false k r e = (refl, e)

not_no : (b : Bool) → not b ≡ false → b ≡ true
not_no true h = refl
not_no false h = absurd (true≢false h)

-- a path with properties that has its place among those found
record IsGood (found : Topology) (path : List ℕ) (words : List (List ℕ)) : Type 0 where
  spelled : is_path path ≡ true
  properties : list_all is_property words ≡ true
  parent : lacks_parent found path ≡ false
  room : length found < 65536

entry_good : (found : Topology) (path : List ℕ) (words : List (List ℕ))
    → entry_fault found path words ≡ None → IsGood found path words
unfolding entry_fault set_fault
entry_good found path words e =
    let a = if_none (not (is_path path)) Path _ e in
    let b = if_none (not (list_all is_property words)) Property _ a.1 in
    let c = if_none (has_path found path || has_twin (map property_name words)) Twice _ b.1 in
    let d = if_none (lacks_parent found path) Parent _ c.1 in
    let f = if_none (nat_le 65536 (length found)) Count None d.1 in
    let n = f.0 in
    record {
      spelled = not_no (is_path path) a.0;
      properties = not_no (list_all is_property words) b.0;
      parent = d.0;
      room = less (length found) n;
    }
  where
    less : (n : ℕ) → nat_le 65536 n ≡ false → n < 65536
    less n h = grind (arith, common_steps)

neither : (n last : ℕ) → (nat_lt 4096 n || nat_lt 16777216 last) ≡ false → (n ≤ 4096)
    × (last ≤ 16777216)
neither n last h = grind (arith, common_steps)

line_good : (found : Topology) (last : ℕ) (line : List ℕ) → line_fault found last line ≡ None
    → (length line ≤ 4096) × (last ≤ 16777216)
    × (is_skipped (content_of line) ≡ false
    → IsGood found (path_of (content_of line)) (words_of (content_of line)))
unfolding line_fault
line_good found last line e =
    let a = if_none (not (list_all is_clean_byte (content_of line))) Bytes _ e in
    let b = if_none (nat_lt 4096 (length line) || nat_lt 16777216 last) Length _ a.1 in
    let n = neither (length line) last b.0 in (
      n.0,
      n.1,
      λ s. entry_good found (path_of (content_of line)) (words_of (content_of line))
          (let r = b.1 in rw s at r),
    )

-- ---- the place of a line
place_good : (found : Topology) (line : List ℕ) → length line ≤ 4096
    → IsGood found (path_of (content_of line)) (words_of (content_of line))
    → IsPlace (path_of (content_of line), properties_of (words_of (content_of line)))
    × (length (place_line (path_of (content_of line), properties_of (words_of (content_of line))))
    ≤ length line)
place_good found line small g =
    let path = path_of (content_of line) in
    let words = words_of (content_of line) in
    let ps = properties_of words in
    let r = read_all words g.properties in
    let s = r.size in
    let c = content_length line in
    let t = content_total (content_of line) in
    let p = properties_length ps in
    let l = length-append path (properties_text ps) in
    let n : length (place_line (path, ps)) ≤ length line = omega (arith, s, c, t, p, l) in (
      record {
        path = g.spelled;
        pairs = pairs_all ps r.pairs;
        names = r.names;
        size =
            omega (arith, n, small);
      },
      n,
    )

-- ---- the topology of lines
record IsGrown (lines : List (List ℕ)) (found : Topology) : Type 0 where
  places : AllByRecursion IsPlace found
  order : IsStrictlySortedBy path_cmp (keys_of found)
  parents : AllByRecursion (λ place. lacks_parent found place.0 ≡ false) found
  count : length found ≤ 65536
  size : total place_size found ≤ total line_size lines

lacks_still : (found : Topology) (path new : List ℕ) (ps : Properties)
    → lacks_parent found path ≡ false
    → lacks_parent (insert_entry path_cmp found new ps) path ≡ false
lacks_still found path new ps h =
    lacks_less (nat_lt 1 (length (parts_of path))) (is_path (parent_of path))
    (has_path found (parent_of path))
    (has_path (insert_entry path_cmp found new ps) (parent_of path))
    (λ d k. lookup_still path_cmp_total path_tie found (parent_of path) new ps k) h

grown_skipped : (lines : List (List ℕ)) (found : Topology) (line : List ℕ) → IsGrown lines found
    → IsGrown (lines ++ (line ∷ [])) found
grown_skipped lines found line g =
    let t = total_push line_size lines line in
    let s = g.size in
    record {
      places = g.places;
      order = g.order;
      parents = g.parents;
      count = g.count;
      size =
          omega (arith, t, s);
    }

grown_more : (lines : List (List ℕ)) (found : Topology) (line : List ℕ) → IsGrown lines found
    → length line ≤ 4096
    → IsGood found (path_of (content_of line)) (words_of (content_of line))
    → IsGrown (lines ++ (line ∷ []))
    (insert_entry path_cmp found (path_of (content_of line))
    (properties_of (words_of (content_of line))))
grown_more lines found line g small good =
    let path = path_of (content_of line) in
    let ps = properties_of (words_of (content_of line)) in
    let place = place_good found line small good in
    let t = total_push line_size lines line in
    let s = g.size in
    let i = total_insert path_cmp_total path_tie place_size found path ps in
    let n = length_insert path_cmp_total path_tie found path ps in
    let r = good.room in
    record {
      places = all_insert path_cmp_total path_tie IsPlace found path ps g.places place.0;
      order = sorted_insert path_cmp_total path_tie found path ps g.order;
      parents = all_insert path_cmp_total path_tie
          (λ p. lacks_parent (insert_entry path_cmp found path ps) p.0 ≡ false) found path ps
          (all_map (λ p h. lacks_still found p.0 path ps h) found g.parents)
          (lacks_still found path path ps good.parent);
      count = omega (arith, n, r);
      size = omega (arith, t, s, i, place.1);
    }

grown_at : (lines : List (List ℕ)) (found : Topology) (line : List ℕ) (t : Bool)
    → is_skipped (content_of line) ≡ t → IsGrown lines found → length line ≤ 4096
    → (is_skipped (content_of line) ≡ false
    → IsGood found (path_of (content_of line)) (words_of (content_of line)))
    → IsGrown (lines ++ (line ∷ []))
    (if t then found else insert_entry path_cmp found (path_of (content_of line))
    (properties_of (words_of (content_of line))))
grown_at lines found line true e g small good = grown_skipped lines found line g
grown_at lines found line false e g small good = grown_more lines found line g small (good e)

grown : (lines : List (List ℕ)) (found : Topology) (last : ℕ) (line : List ℕ) → IsGrown lines found
    → line_fault found last line ≡ None
    → IsGrown (lines ++ (line ∷ [])) (with_line found line)
unfolding with_line
grown lines found last line g e =
    let h = line_good found last line e in
    grown_at lines found line (is_skipped (content_of line)) refl g h.0 h.2

-- ---- the topology of a text
drop_some : {X : Type 0} (k : ℕ) (xs : List X) → k < length xs → (x : X) × (more : List X)
    × (drop k xs ≡ x ∷ more)
drop_some k [] h = absurd (omega (arith, h))
drop_some zero (x ∷ xs) h = (x, xs, refl)
drop_some (suc k) (x ∷ xs) h = drop_some k xs (omega (arith, h))

none_grown : IsGrown [] []
unfolding IsStrictlySortedBy
none_grown = record {
  places = tt;
  order = tt;
  parents = tt;
  count = omega arith;
  size =
      omega arith;
}

so_far : (text : List ℕ) (k : ℕ) → k ≤ length (topology_lines text) → IsCleanBefore text k
    → IsGrown (take k (topology_lines text)) (lines_topology (take k (topology_lines text)))
unfolding lines_topology fault_at
so_far text zero h c = none_grown
so_far text (suc k) h c =
    let d = drop_some k (topology_lines text) (omega (arith, h)) in
    let g = so_far text k (omega (arith, h)) (λ j l. c j (omega (arith, l))) in
    let t = take_more k (topology_lines text) d.1 d.0 d.2 in
    let line : unwrap_or (slice_get (topology_lines text) k) [] ≡ d.0 =
    ap (λ o. unwrap_or o []) (get_drop k (topology_lines text) d.1 d.0 d.2) in
    let fault : line_fault (fold with_line [] (take k (topology_lines text))) (line_end text k) d.0
    ≡ None =
    sym (ap (line_fault (fold with_line [] (take k (topology_lines text))) (line_end text k)) line)
    ∙ c k (omega arith) in
    let more = grown (take k (topology_lines text))
    (fold with_line [] (take k (topology_lines text))) (line_end text k) d.0 g fault in
    subst (λ z. IsGrown z (fold with_line [] z)) (sym t)
    (subst (IsGrown (take k (topology_lines text) ++ (d.0 ∷ [])))
    (sym (fold_push with_line [] (take k (topology_lines text)) d.0)) more)

text_length : (p : List ℕ × Properties) (ps : Topology)
    → length (topology_text (p ∷ ps)) + 1 ≡ total place_size (p ∷ ps)
unfolding topology_text
text_length p [] = omega arith
text_length p (q ∷ qs) =
    let l = length-append (place_line p) (10 ∷ join_with_byte 10 (map place_line (q ∷ qs))) in
    omega (arith, l, text_length q qs)

text_short : (topology : Topology) (n : ℕ) → total place_size topology ≤ n + 1
    → length (topology_text topology) ≤ n
unfolding topology_text
text_short [] n h = omega arith
text_short (p ∷ ps) n h = let l = text_length p ps in omega (arith, h, l)

sum_total : (xs : List (List ℕ)) → sum_by (λ line. length line + 1) xs ≡ total line_size xs
sum_total [] = refl
sum_total (x ∷ xs) = sum_by-cons (λ line. length line + 1) x xs
    ∙ ap (λ n. length x + 1 + n) (sum_total xs)

-- a text without a fault is within its limit
within : (text : List ℕ) → IsFaultless text → length text ≤ 16777216
unfolding fault_at line_end
within text c =
    let n = length (topology_lines text) - 1 in
    let some = some_text (λ b. b == 10) text in
    let e : n + 1 ≡ length (topology_lines text) = omega (arith, some) in
    let all : take (n + 1) (topology_lines text) ≡ topology_lines text =
    ap (λ k. take k (topology_lines text)) e ∙ take-length (topology_lines text) in
    let s : sum_by (λ line. length line + 1) (take (n + 1) (topology_lines text))
    ≡ length text + 1 =
    ap (sum_by (λ line. length line + 1)) all
    ∙ (sum_total (topology_lines text) ∙ lines_total text) in
    let l = (line_good (lines_topology (take n (topology_lines text))) (line_end text n)
    (unwrap_or (slice_get (topology_lines text) n) []) (c n (omega (arith, some)))).1 in
    omega (arith, l, s)

pub topology_from : (text : List ℕ) → IsFaultless text → IsTopology (topology_of text)
    × (length (topology_text (topology_of text)) ≤ length text)
topology_from text c =
    let all : take (length (topology_lines text)) (topology_lines text) ≡ topology_lines text =
    take-length (topology_lines text) in
    let g : IsGrown (topology_lines text) (topology_of text) =
    subst (λ z. IsGrown z (lines_topology z)) all
    (so_far text (length (topology_lines text)) (omega arith) c) in
    let s = g.size in
    let n : length (topology_text (topology_of text)) ≤ length text =
    text_short (topology_of text) (length text) (omega (arith, s, lines_total text)) in
    let w = within text c in (
      record {
        places = g.places;
        order = g.order;
        parents = g.parents;
        count = g.count;
        size =
            omega (arith, n, w);
      },
      n,
    )

-- no text that means a topology is shorter than what is printed of it
pub shortest : (topology : Topology) (text : List ℕ) → ReadsAs text topology
    → length (topology_text topology) ≤ length text
shortest topology text r =
    subst (λ z. length (topology_text z) ≤ length text) r.1 (topology_from text r.0).1

pub lawful : (topology : Topology) (text : List ℕ) → IsFaultless text → topology ≡ topology_of text
    → IsTopology topology
lawful topology text c e = subst IsTopology (sym e) (topology_from text c).0
