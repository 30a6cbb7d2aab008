-- How a list of names and values is kept as a tree of numbers, by which a proof tells two lists
-- apart.
use Rattle.std.specs.Prelude.{◌≡◌, ℕ, zero, suc, ℤ, pos, negsuc, Bool, true, false, List, [], ◌∷◌}
use Rattle.std.specs.Prelude.{refl}
use Rattle.std.proofs.Common.{sym, ap, ◌∙◌}
use base.Stored.{Gv, gnil, gnum, gcons, Coded, num}
use Rattle.fm_nv.specs.Data.{Pairs, Data, Lists, no_pairs, pair, boolean, unsigned, signed, text}
use Rattle.fm_nv.specs.Data.{nested, unsigneds, texts, lists, no_lists, list_then}

abbrev first : Gv → Gv
first gnil = gnil
first (gnum n) = gnil
first (gcons a b) = a

abbrev second : Gv → Gv
second gnil = gnil
second (gnum n) = gnil
second (gcons a b) = b

abbrev bit_code : Bool → Gv
bit_code false = gnum 0
bit_code true = gnum 1

abbrev bit_back : ℕ → Bool
bit_back zero = false
bit_back (suc n) = true

bit_same : (b : Bool) → bit_back (num (bit_code b)) ≡ b
bit_same false = refl
bit_same true = refl

abbrev whole_code : ℤ → Gv
whole_code (pos n) = gcons (gnum 0) (gnum n)
whole_code (negsuc n) = gcons (gnum 1) (gnum n)

abbrev whole_by : ℕ → ℕ → ℤ
whole_by zero n = pos n
whole_by (suc k) n = negsuc n

abbrev whole_back : Gv → ℤ
whole_back g = whole_by (num (first g)) (num (second g))

whole_same : (z : ℤ) → whole_back (whole_code z) ≡ z
whole_same (pos n) = refl
whole_same (negsuc n) = refl

abbrev numbers_code : List ℕ → Gv
numbers_code [] = gnil
numbers_code (n ∷ ns) = gcons (gnum n) (numbers_code ns)

abbrev texts_code : List (List ℕ) → Gv
texts_code [] = gnil
texts_code (t ∷ ts) = gcons (numbers_code t) (texts_code ts)

abbrev mutual
  pairs_code : Pairs → Gv
  pairs_code no_pairs = gnil
  pairs_code (pair k d ps) = gcons (numbers_code k) (gcons (data_code d) (pairs_code ps))

  data_code : Data → Gv
  data_code (boolean b) = gcons (gnum 0) (bit_code b)
  data_code (unsigned n) = gcons (gnum 1) (gnum n)
  data_code (signed z) = gcons (gnum 2) (whole_code z)
  data_code (text t) = gcons (gnum 3) (numbers_code t)
  data_code (nested ps) = gcons (gnum 4) (pairs_code ps)
  data_code (unsigneds ns) = gcons (gnum 5) (numbers_code ns)
  data_code (texts ts) = gcons (gnum 6) (texts_code ts)
  data_code (lists ls) = gcons (gnum 7) (lists_code ls)

  lists_code : Lists → Gv
  lists_code no_lists = gnil
  lists_code (list_then ps ls) = gcons (pairs_code ps) (lists_code ls)

-- all that a tree may be the code of
record Back : Type 0 where
  numbers : List ℕ
  words : List (List ℕ)
  datum : Data
  pairs : Pairs
  arrays : Lists
  -- the value and the pairs after it, where the tree is what follows a name
  after : Data × Pairs

abbrev no_back : Back
no_back = record {
  numbers = [];
  words = [];
  datum = boolean false;
  pairs = no_pairs;
  arrays =
      no_lists;
  after = (boolean false, no_pairs);
}

abbrev by_tag : ℕ → Gv → Back → Data
by_tag zero g r = boolean (bit_back (num g))
by_tag (suc zero) g r = unsigned (num g)
by_tag (suc (suc zero)) g r = signed (whole_back g)
by_tag (suc (suc (suc zero))) g r = text r.numbers
by_tag (suc (suc (suc (suc zero)))) g r = nested r.pairs
by_tag (suc (suc (suc (suc (suc zero))))) g r = unsigneds r.numbers
by_tag (suc (suc (suc (suc (suc (suc zero)))))) g r = texts r.words
by_tag (suc (suc (suc (suc (suc (suc (suc n))))))) g r = lists r.arrays

abbrev back : Gv → Back
back gnil = no_back
back (gnum n) = no_back
back (gcons a b) = record {
  numbers = num a ∷ (back b).numbers;
  words = (back a).numbers ∷ (back b).words;
  datum = by_tag (num a) b (back b);
  pairs = pair (back a).numbers (back b).after.0 (back b).after.1;
  arrays = list_then (back a).pairs (back b).arrays;
  after = ((back a).datum, (back b).pairs);
}

numbers_same : (ns : List ℕ) → (back (numbers_code ns)).numbers ≡ ns
numbers_same [] = refl
numbers_same (n ∷ ns) = λ i. n ∷ numbers_same ns i

words_same : (ts : List (List ℕ)) → (back (texts_code ts)).words ≡ ts
words_same [] = refl
words_same (t ∷ ts) = λ i. numbers_same t i ∷ words_same ts i

mutual
  pairs_same : (ps : Pairs) → (back (pairs_code ps)).pairs ≡ ps
  pairs_same no_pairs = refl
  pairs_same (pair k d ps) = λ i. pair (numbers_same k i) (data_same d i) (pairs_same ps i)

  data_same : (d : Data) → (back (data_code d)).datum ≡ d
  data_same (boolean b) = λ i. boolean (bit_same b i)
  data_same (unsigned n) = refl
  data_same (signed z) = λ i. signed (whole_same z i)
  data_same (text t) = λ i. text (numbers_same t i)
  data_same (nested ps) = λ i. nested (pairs_same ps i)
  data_same (unsigneds ns) = λ i. unsigneds (numbers_same ns i)
  data_same (texts ts) = λ i. texts (words_same ts i)
  data_same (lists ls) = λ i. lists (lists_same ls i)

  lists_same : (ls : Lists) → (back (lists_code ls)).arrays ≡ ls
  lists_same no_lists = refl
  lists_same (list_then ps ls) = λ i. list_then (pairs_same ps i) (lists_same ls i)

pub stored_pairs : Coded Pairs
stored_pairs = record {
  code = pairs_code;
  inj = λ x y e. sym (pairs_same x)
      ∙ ap (λ g. (back g).pairs) e ∙ pairs_same y;
}
