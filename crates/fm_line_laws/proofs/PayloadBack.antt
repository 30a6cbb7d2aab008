-- A list that was made of a value that was read is that value again.
use Rattle.std.proofs.Common.{◌≡◌, ℕ, pos, negsuc, List, [], ◌∷◌, Option, Some, None, option_map}
use Rattle.std.proofs.Common.{option_and_then, is_none, refl, sym, ap, ◌∙◌, Greater, nat_cmp}
use Rattle.std.specs.Ordering.{match_ordering, ordering_reverse}
use Rattle.std.specs.Cmp.Lexicographic.{slice_cmp, nat_list_cmp_total}
use Rattle.std.proofs.lemmas.Option.{cond_some}
use Rattle.serde_json.specs.Data.{Num, unsigned, negative, float, Data, null, boolean, number}
use Rattle.serde_json.specs.Data.{string, array, object, Items, no_items, item, Members, no_members}
use Rattle.serde_json.specs.Data.{member, put}
use Rattle.serde_json.specs.Find.{as_str}
use Rattle.fm_nv.specs.Data as nv
use Rattle.fm_nv.specs.Refusal.{refusal}
use Rattle.fm_line_laws.specs.Names.{IsNameBefore}
use Rattle.fm_line_laws.proofs.Reading.{IsBeforeAll, IsReadNumber, IsRead, ItemsRead, MembersRead}
use Rattle.fm_line.specs.Payload.{joined, unsigned_in, unsigneds_of, texts_of, number_value}
use Rattle.fm_line.specs.Payload.{array_value, added, value_of, lists_from, list_of, pairs_onto}
use Rattle.fm_line.specs.Printed.{data_of, lists_items, members_onto, payload_data, numbers_items}
use Rattle.fm_line.specs.Printed.{texts_items}

-- ---- what is known where something was found

pub then_some : {A B : Type 0} (f : A → Option B) (o : Option A) (y : B)
    → option_and_then f o ≡ Some y → (x : A) × (o ≡ Some x) × (f x ≡ Some y)
then_some f None y h = let no_one : ⊥ = cc in absurd no_one
then_some f (Some x) y h = (x, refl, h)

pub map_some : {A B : Type 0} (f : A → B) (o : Option A) (y : B) → option_map f o ≡ Some y → (x : A)
    × (o ≡ Some x) × (f x ≡ y)
map_some f None y h = let no_one : ⊥ = cc in absurd no_one
map_some f (Some x) y h = (x, refl, cc)

pub joined_some : {A : Type 0} (o : Option A) (os : Option (List A)) (ys : List A)
    → joined o os ≡ Some ys
    → (x : A) × (xs : List A) × (o ≡ Some x) × (os ≡ Some xs) × (x ∷ xs ≡ ys)
joined_some None os ys h = let no_one : ⊥ = cc in absurd no_one
joined_some (Some x) None ys h = let no_one : ⊥ = cc in absurd no_one
joined_some (Some x) (Some xs) ys h = (x, xs, refl, refl, cc)

pub added_some : (k : List ℕ) (o : Option nv.Data) (found more : nv.Pairs)
    → added k o found ≡ Some more → (v : nv.Data) × (o ≡ Some v) × (nv.add k v found ≡ more)
added_some k None found more h = let no_one : ⊥ = cc in absurd no_one
added_some k (Some v) found more h =
    (v, refl, (cond_some (is_none (refusal k v found)) (nv.add k v found) more h).1)

-- ---- members in order

-- one object's members, and then another's
abbrev joined_members : Members → Members → Members
joined_members no_members ns = ns
joined_members (member k d ms) ns = member k d (joined_members ms ns)

-- all names of an object stand before a name
abbrev AreBefore : Members → List ℕ → Type 0
AreBefore no_members k = Unit {0}
AreBefore (member l e ms) k = IsNameBefore l k × AreBefore ms k

-- all names of an object stand before all names of another
abbrev AreBeforeAll : Members → Members → Type 0
AreBeforeAll ms no_members = Unit {0}
AreBeforeAll ms (member k d ns) = AreBefore ms k × AreBeforeAll ms ns

none_before : (ns : Members) → AreBeforeAll no_members ns
none_before no_members = tt
none_before (member k d ns) = (tt, none_before ns)

before_with : (ms : Members) (k q : List ℕ) (d : Data) → AreBefore ms q → IsNameBefore k q
    → AreBefore (joined_members ms (member k d no_members)) q
before_with no_members k q d h hk = (hk, tt)
before_with (member l e ms) k q d h hk = (h.0, before_with ms k q d h.1 hk)

all_before_with : (ms ns : Members) (k : List ℕ) (d : Data) → AreBeforeAll ms ns → IsBeforeAll k ns
    → AreBeforeAll (joined_members ms (member k d no_members)) ns
all_before_with ms no_members k d h hk = tt
all_before_with ms (member q e ns) k d h hk =
    (before_with ms k q d h.0 hk.0, all_before_with ms ns k d h.1 hk.1)

behind_first : (k l : List ℕ) → IsNameBefore l k → slice_cmp nat_cmp k l ≡ Greater
behind_first k l h = nat_list_cmp_total.antisymm k l ∙ ap ordering_reverse h

-- a name behind all others goes last
put_last : (k : List ℕ) (d : Data) (ms : Members) → AreBefore ms k
    → put k d ms ≡ joined_members ms (member k d no_members)
put_last k d no_members h = refl
put_last k d (member l e ms) h =
    ap (λ o. match_ordering o (member k d (member l e ms)) (member l d ms)
    (member l e (put k d ms))) (behind_first k l h.0)
    ∙ ap (member l e) (put_last k d ms h.1)

join_one : (ms ns : Members) (k : List ℕ) (d : Data)
    → joined_members (joined_members ms (member k d no_members)) ns
    ≡ joined_members ms (member k d ns)
join_one no_members ns k d = refl
join_one (member l e ms) ns k d = ap (member l e) (join_one ms ns k d)

join_none : (ms : Members) → joined_members ms no_members ≡ ms
join_none no_members = refl
join_none (member k d ms) = ap (member k d) (join_none ms)

onto_add : (k : List ℕ) (v : nv.Data) (found : nv.Pairs) (ms : Members)
    → members_onto ms (nv.add k v found) ≡ put k (data_of v) (members_onto ms found)
onto_add k v nv.no_pairs ms = refl
onto_add k v (nv.pair l e ps) ms = onto_add k v ps (put l (data_of e) ms)

-- ---- numbers, texts and arrays of them

number_back : (n : Num) (v : nv.Data) → IsReadNumber n → number_value n ≡ Some v
    → data_of v ≡ number n
number_back (unsigned n) v r h = let same : nv.unsigned n ≡ v = cc in sym (ap data_of same)
number_back (negative (pos n)) v r h = absurd r
number_back (negative (negsuc n)) v r h = let same : nv.signed (negsuc n) ≡ v = cc in
    sym (ap data_of same)
number_back (float x) v r h = cc

unsigned_is : (d : Data) (n : ℕ) → unsigned_in d ≡ Some n → number (unsigned n) ≡ d
unsigned_is null n h = cc
unsigned_is (boolean b) n h = cc
unsigned_is (number (unsigned m)) n h = let same : m ≡ n = cc in
    sym (ap (λ k. number (unsigned k)) same)
unsigned_is (number (negative z)) n h = cc
unsigned_is (number (float x)) n h = cc
unsigned_is (string s) n h = cc
unsigned_is (array ds) n h = cc
unsigned_is (object ms) n h = cc

text_is : (d : Data) (s : List ℕ) → as_str d ≡ Some s → string s ≡ d
text_is null s h = cc
text_is (boolean b) s h = cc
text_is (number n) s h = cc
text_is (string t) s h = let same : t ≡ s = cc in sym (ap string same)
text_is (array ds) s h = cc
text_is (object ms) s h = cc

unsigneds_back : (ds : Items) (ns : List ℕ) → unsigneds_of ds ≡ Some ns → numbers_items ns ≡ ds
unsigneds_back no_items ns h = let same : [] ≡ ns = cc in sym (ap numbers_items same)
unsigneds_back (item d ds) ns h =
    let parts = joined_some (unsigned_in d) (unsigneds_of ds) ns h in
    sym (ap numbers_items parts.4)
    ∙ ap (λ e. item e (numbers_items parts.1)) (unsigned_is d parts.0 parts.2)
    ∙ ap (item d) (unsigneds_back ds parts.1 parts.3)

texts_back : (ds : Items) (ts : List (List ℕ)) → texts_of ds ≡ Some ts → texts_items ts ≡ ds
texts_back no_items ts h = let same : [] ≡ ts = cc in sym (ap texts_items same)
texts_back (item d ds) ts h =
    let parts = joined_some (as_str d) (texts_of ds) ts h in
    sym (ap texts_items parts.4)
    ∙ ap (λ e. item e (texts_items parts.1)) (text_is d parts.0 parts.2)
    ∙ ap (item d) (texts_back ds parts.1 parts.3)

array_back : (a : Option (List ℕ)) (b : Option (List (List ℕ))) (c : Option (List nv.Pairs))
    (v : nv.Data) (d : Data)
    → ((ns : List ℕ) → a ≡ Some ns → array (numbers_items ns) ≡ d)
    → ((ts : List (List ℕ)) → b ≡ Some ts → array (texts_items ts) ≡ d)
    → ((ls : List nv.Pairs) → c ≡ Some ls → array (lists_items (nv.lists_of ls)) ≡ d)
    → array_value a b c ≡ Some v → data_of v ≡ d
array_back (Some ns) b c v d fa fb fc h = let same : nv.unsigneds ns ≡ v = cc in
    sym (ap data_of same) ∙ fa ns refl
array_back None (Some ts) c v d fa fb fc h = let same : nv.texts ts ≡ v = cc in
    sym (ap data_of same) ∙ fb ts refl
array_back None None (Some ls) v d fa fb fc h = let same : nv.lists (nv.lists_of ls) ≡ v = cc in
    sym (ap data_of same) ∙ fc ls refl
array_back None None None v d fa fb fc h = cc

-- ---- values and lists

mutual
  value_back : (d : Data) (v : nv.Data) → IsRead d → value_of d ≡ Some v → data_of v ≡ d
  value_back null v r h = cc
  value_back (boolean b) v r h = let same : nv.boolean b ≡ v = cc in sym (ap data_of same)
  value_back (number n) v r h = number_back n v r h
  value_back (string s) v r h = let same : nv.text s ≡ v = cc in sym (ap data_of same)
  value_back (array ds) v r h =
      array_back (unsigneds_of ds) (texts_of ds) (lists_from ds) v (array ds)
      (λ ns e. ap array (unsigneds_back ds ns e)) (λ ts e. ap array (texts_back ds ts e))
      (λ ls e. ap array (lists_back ds ls r e)) h
  value_back (object ms) v r h =
      let found = map_some nv.nested (pairs_onto nv.no_pairs ms) v h in
      sym (ap data_of found.2)
      ∙ ap object (onto_back ms nv.no_pairs found.0 no_members r (none_before ms) refl found.1)

  lists_back : (ds : Items) (ls : List nv.Pairs) → ItemsRead ds → lists_from ds ≡ Some ls
      → lists_items (nv.lists_of ls) ≡ ds
  lists_back no_items ls r h = let same : [] ≡ ls = cc in
      sym (ap (λ l. lists_items (nv.lists_of l)) same)
  lists_back (item d ds) ls r h =
      let parts = joined_some (list_of d) (lists_from ds) ls h in
      sym (ap (λ l. lists_items (nv.lists_of l)) parts.4)
      ∙ ap (λ e. item e (lists_items (nv.lists_of parts.1))) (list_back d parts.0 r.0 parts.2)
      ∙ ap (item d) (lists_back ds parts.1 r.1 parts.3)

  pub list_back : (d : Data) (ps : nv.Pairs) → IsRead d → list_of d ≡ Some ps → payload_data ps ≡ d
  list_back null ps r h = cc
  list_back (boolean b) ps r h = cc
  list_back (number n) ps r h = cc
  list_back (string s) ps r h = cc
  list_back (array ds) ps r h = cc
  list_back (object ms) ps r h =
      ap object (onto_back ms nv.no_pairs ps no_members r (none_before ms) refl h)

  onto_back : (ns : Members) (found ps : nv.Pairs) (ms : Members) → MembersRead ns
      → AreBeforeAll ms ns → members_onto no_members found ≡ ms
      → pairs_onto found ns ≡ Some ps → members_onto no_members ps ≡ joined_members ms ns
  onto_back no_members found ps ms r before made h = let same : found ≡ ps = cc in
      sym (ap (members_onto no_members) same) ∙ made ∙ sym (join_none ms)
  onto_back (member k d ns) found ps ms r before made h =
      let step = then_some (λ more. pairs_onto more ns) (added k (value_of d) found) ps h in
      let with_one = added_some k (value_of d) found step.0 step.1 in
      let whole : members_onto no_members step.0 ≡ joined_members ms (member k d no_members) =
      sym (ap (members_onto no_members) with_one.2)
      ∙ onto_add k with_one.0 found no_members
      ∙ ap (λ e. put k e (members_onto no_members found)) (value_back d with_one.0 r.0 with_one.1)
      ∙ ap (put k d) made
      ∙ put_last k d ms before.0 in
      onto_back ns step.0 ps (joined_members ms (member k d no_members)) r.2
      (all_before_with ms ns k d before.1 r.1) whole step.2
      ∙ join_one ms ns k d

-- a payload that a line gives is printed as what it was read from, so it reads as itself
pub payload_again : (d : Data) (ps : nv.Pairs) → IsRead d → list_of d ≡ Some ps
    → list_of (payload_data ps) ≡ Some ps
payload_again d ps r h = ap list_of (list_back d ps r h) ∙ h
