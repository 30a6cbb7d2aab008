-- The map of a line's properties has fewer names than the line has words where a name stands twice.
use Rattle.std.proofs.Common.{◌≡◌, ◌≤◌, ◌+◌, ℕ, Bool, true, false, ◌||◌, cond, List, [], ◌∷◌}
use Rattle.std.proofs.Common.{length, map, fold, refl, arith, ap, sym, ◌∙◌, nat_lt, bytes_eq}
use Rattle.std.specs.Prelude.{◌==◌}
use Rattle.std.specs.declared.cmp.Ordering.{Ordering}
use Rattle.std.specs.declared.cmp.Ordering.TheVariants.{Less, Equal, Greater}
use Rattle.std.specs.Ordering.{nat_cmp, match_ordering, ordering_reverse, is_eq}
use Rattle.std.specs.Cmp.Lexicographic.{slice_cmp, texts_ties, nat_list_cmp_total}
use Rattle.std.specs.List.{list_any, after_first, AllByRecursion}
use Rattle.std.specs.List.Sorted.{IsStrictlySortedBy}
use Rattle.std.specs.Map.{keys_of}
use Rattle.std.specs.BTreeMap.{insert_entry}
use Rattle.std.proofs.lemmas.Grind.{common_steps}
use Rattle.fm_name.specs.OrderLaws.{bytes_tie}
use Rattle.fm_topo.specs.Property.{Properties, property_name, has_twin, value_of, with_word}
use Rattle.fm_topo.specs.Property.{properties_of}
use Rattle.fm_topo.specs.declared.values.TopoValue.{TopoValue}
use Rattle.fm_topo.proofs.Maps.{all_map, all_keys, sorted_insert}

abbrev name_cmp : List ℕ → List ℕ → Ordering
name_cmp = slice_cmp nat_cmp

-- whether properties have a name
abbrev has_name : List ℕ → Properties → Bool
has_name name ps = list_any (λ p. bytes_eq p.0 name) ps

-- ---- which names compare equal
turned : (x y : List ℕ) (r : Ordering) → name_cmp x y ≡ r
    → bytes_eq y x ≡ is_eq (ordering_reverse r)
turned x y r h = texts_ties y x ∙ ap is_eq (nat_list_cmp_total.antisymm y x ∙ ap ordering_reverse h)

none_behind : (k : List ℕ) (ps : Properties) → AllByRecursion (λ p. name_cmp k p.0 ≡ Less) ps
    → has_name k ps ≡ false
none_behind k [] a = refl
none_behind k (p ∷ ps) a = rw (turned k p.0 Less a.0) (none_behind k ps a.1)

-- ---- how many properties there are with one more
size_at : (k : List ℕ) (v : TopoValue) (e : List ℕ × TopoValue) (es : Properties) (r : Ordering)
    → name_cmp k e.0 ≡ r
    → AllByRecursion (λ y. name_cmp e.0 y ≡ Less) (keys_of es)
    → length (insert_entry name_cmp es k v) + cond (has_name k es) 1 0 ≡ length es + 1
    → length (match_ordering r ((k, v) ∷ e ∷ es) ((e.0, v) ∷ es) (e ∷ insert_entry name_cmp es k v))
    + cond (has_name k (e ∷ es)) 1 0 ≡ length (e ∷ es) + 1
size_at k v e es Less h a more =
    let behind = all_map (λ p l. nat_list_cmp_total.trans k e.0 p.0 h l) es
    (all_keys (λ y. name_cmp e.0 y ≡ Less) es a) in
    rw (none_behind k (e ∷ es) (h, behind)) (omega arith)
size_at k v e es Equal h a more = rw (turned k e.0 Equal h) (omega arith)
size_at k v e es Greater h a more = rw (turned k e.0 Greater h) (omega (arith, more))

size_put : (es : Properties) (k : List ℕ) (v : TopoValue) → IsStrictlySortedBy name_cmp (keys_of es)
    → length (insert_entry name_cmp es k v) + cond (has_name k es) 1 0 ≡ length es + 1
unfolding IsStrictlySortedBy
size_put [] k v s = refl
size_put (e ∷ es) k v s = size_at k v e es (name_cmp k e.0) refl s.0 (size_put es k v s.1)

-- ---- which names there are with one more
or_again : (a b : Bool) → (a || b) ≡ (a || (a || b))
or_again true b = refl
or_again false b = refl

or_swapped : (a b c : Bool) → (a || (b || c)) ≡ (b || (a || c))
or_swapped true true c = refl
or_swapped true false c = refl
or_swapped false b c = refl

names_at : (q k : List ℕ) (v : TopoValue) (e : List ℕ × TopoValue) (es : Properties) (r : Ordering)
    → name_cmp k e.0 ≡ r
    → has_name q (insert_entry name_cmp es k v) ≡ (bytes_eq k q || has_name q es)
    → has_name q (match_ordering r ((k, v) ∷ e ∷ es) ((e.0, v) ∷ es)
    (e ∷ insert_entry name_cmp es k v)) ≡ (bytes_eq k q || has_name q (e ∷ es))
names_at q k v e es Less h more = refl
names_at q k v e es Equal h more =
    or_again (bytes_eq e.0 q) (has_name q es)
    ∙ ap (λ z. bytes_eq z q || has_name q (e ∷ es)) (sym (bytes_tie k e.0 h))
names_at q k v e es Greater h more =
    ap (λ b. bytes_eq e.0 q || b) more ∙ or_swapped (bytes_eq e.0 q) (bytes_eq k q) (has_name q es)

names_put : (q : List ℕ) (es : Properties) (k : List ℕ) (v : TopoValue)
    → has_name q (insert_entry name_cmp es k v) ≡ (bytes_eq k q || has_name q es)
names_put q [] k v = refl
names_put q (e ∷ es) k v = names_at q k v e es (name_cmp k e.0) refl (names_put q es k v)

-- ---- how many there are with those of words
or_sorted : (a b c d : Bool) → ((a || b) || (c || d)) ≡ ((b || c) || (a || d))
or_sorted true true c d = refl
or_sorted true false true d = refl
or_sorted true false false d = refl
or_sorted false true c d = refl
or_sorted false false c d = refl

-- whether one of the names is a name of the properties
abbrev have_one : Properties → List (List ℕ) → Bool
have_one found names = list_any (λ name. has_name name found) names

one_put : (found : Properties) (k : List ℕ) (v : TopoValue) (names : List (List ℕ))
    → have_one (insert_entry name_cmp found k v) names
    ≡ (have_one found names || list_any (bytes_eq k) names)
one_put found k v [] = refl
one_put found k v (name ∷ names) =
    ap (λ b. b || have_one (insert_entry name_cmp found k v) names) (names_put name found k v)
    ∙ (ap (λ b. (bytes_eq k name || has_name name found) || b) (one_put found k v names)
    ∙ or_sorted (bytes_eq k name) (has_name name found) (have_one found names)
    (list_any (bytes_eq k) names))

or_moved : (a b c : Bool) → ((a || b) || c) ≡ (a || (b || c))
or_moved true b c = refl
or_moved false b c = refl

most_words : (found : Properties) (words : List (List ℕ))
    → IsStrictlySortedBy name_cmp (keys_of found)
    → length (fold with_word found words) ≤ length found + length words
unfolding with_word
most_words found [] s = omega arith
most_words found (word ∷ words) s =
    let new = with_word found word in
    let more = most_words new words
    (sorted_insert nat_list_cmp_total bytes_tie found (property_name word) _ s) in
    let size = size_put found (property_name word) (value_of (after_first (λ b. b == 61) word)) s in
    omega (arith, more, size)

-- one more word: its name is there, or it is new
word_at : (kept before after words all : ℕ) (there more : Bool) → all ≡ words + 1
    → after + cond there 1 0 ≡ before + 1 → kept ≤ after + words
    → nat_lt kept (after + words) ≡ more → nat_lt kept (before + all) ≡ (there || more)
word_at kept before after words all true more one size most h = grind (arith, common_steps)
word_at kept before after words all false more one size most h =
    let same : before + all ≡ after + words = omega (arith, one, size) in
    ap (nat_lt kept) same ∙ h

words_counted : (found : Properties) (words : List (List ℕ))
    → IsStrictlySortedBy name_cmp (keys_of found)
    → nat_lt (length (fold with_word found words)) (length found + length words)
    ≡ (have_one found (map property_name words) || has_twin (map property_name words))
unfolding with_word
words_counted found [] s = grind (arith, common_steps)
words_counted found (word ∷ words) s =
    let name = property_name word in
    let value = value_of (after_first (λ b. b == 61) word) in
    let names = map property_name words in
    let new = insert_entry name_cmp found name value in
    let ascend = sorted_insert nat_list_cmp_total bytes_tie found name value s in
    let more = words_counted new words ascend
    ∙ (ap (λ b. b || has_twin names) (one_put found name value names)
    ∙ or_moved (have_one found names) (list_any (bytes_eq name) names) (has_twin names)) in
    word_at (length (fold with_word new words)) (length found) (length new) (length words)
    (length (word ∷ words)) (has_name name found) _
    (omega arith) (size_put found name value s) (most_words new words ascend) more
    ∙ sym (or_moved (has_name name found) (have_one found names)
    (list_any (bytes_eq name) names || has_twin names))

-- the map keeps fewer names than there are words just where a name stands twice
pub twins_counted : (words : List (List ℕ))
    → nat_lt (length (properties_of words)) (length words) ≡ has_twin (map property_name words)
unfolding properties_of IsStrictlySortedBy
twins_counted words =
    let same : length words ≡ 0 + length words = omega arith in
    ap (nat_lt (length (properties_of words))) same ∙ words_counted [] words tt
    ∙ ap (λ b. b || has_twin (map property_name words)) (nobody (map property_name words))
  where
    nobody : (names : List (List ℕ)) → have_one [] names ≡ false
    nobody [] = refl
    nobody (name ∷ names) = nobody names
