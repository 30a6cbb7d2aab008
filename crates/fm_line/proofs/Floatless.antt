-- No float stands in what a list is as JSON.
use Rattle.std.proofs.Common.{◌≡◌, ℕ, ℤ, pos, negsuc, List, [], ◌∷◌, Bool, true, false, ◌||◌}
use Rattle.std.proofs.Common.{Ordering, Less, Equal, Greater, refl, nat_cmp}
use Rattle.std.specs.Ordering.{match_ordering}
use Rattle.std.specs.Cmp.Lexicographic.{slice_cmp}
use Rattle.std.proofs.lemmas.Bool.{or_from}
use Rattle.serde_json.specs.Data.{Data, Members, no_members, member, put}
use Rattle.serde_json.specs.Find.{is_float, of_integer}
use Rattle.serde_json.specs.Written.{has_float, items_have_float, members_have_float}
use Rattle.fm_nv.specs.Data as nv
use Rattle.fm_line.specs.Printed.{data_of, lists_items, members_onto, payload_data, numbers_items}
use Rattle.fm_line.specs.Printed.{texts_items, report_data}

first_of_neither : (a b : Bool) → (a || b) ≡ false → a ≡ false
first_of_neither true b h = h
first_of_neither false b h = refl

second_of_neither : (a b : Bool) → (a || b) ≡ false → b ≡ false
second_of_neither true b h = cc
second_of_neither false b h = h

chosen : (o : Ordering) (a b c : Members) → members_have_float a ≡ false
    → members_have_float b ≡ false → members_have_float c ≡ false
    → members_have_float (match_ordering o a b c) ≡ false
chosen Less a b c p q r = p
chosen Equal a b c p q r = q
chosen Greater a b c p q r = r

put_floatless : (k : List ℕ) (d : Data) (ms : Members) → has_float d ≡ false
    → members_have_float ms ≡ false → members_have_float (put k d ms) ≡ false
put_floatless k d no_members p q = or_from (has_float d) false p refl
put_floatless k d (member l e ms) p q =
    chosen (slice_cmp nat_cmp k l) (member k d (member l e ms)) (member l d ms)
    (member l e (put k d ms))
    (or_from (has_float d) (has_float e || members_have_float ms) p q)
    (or_from (has_float d) (members_have_float ms) p
    (second_of_neither (has_float e) (members_have_float ms) q))
    (or_from (has_float e) (members_have_float (put k d ms))
    (first_of_neither (has_float e) (members_have_float ms) q)
    (put_floatless k d ms p (second_of_neither (has_float e) (members_have_float ms) q)))

integer_floatless : (z : ℤ) → is_float (of_integer z) ≡ false
integer_floatless (pos n) = refl
integer_floatless (negsuc n) = refl

numbers_floatless : (ns : List ℕ) → items_have_float (numbers_items ns) ≡ false
numbers_floatless [] = refl
numbers_floatless (n ∷ ns) = numbers_floatless ns

texts_floatless : (ts : List (List ℕ)) → items_have_float (texts_items ts) ≡ false
texts_floatless [] = refl
texts_floatless (t ∷ ts) = texts_floatless ts

mutual
  data_floatless : (d : nv.Data) → has_float (data_of d) ≡ false
  data_floatless (nv.boolean b) = refl
  data_floatless (nv.unsigned n) = refl
  data_floatless (nv.signed z) = integer_floatless z
  data_floatless (nv.text t) = refl
  data_floatless (nv.nested ps) = onto_floatless no_members ps refl
  data_floatless (nv.unsigneds ns) = numbers_floatless ns
  data_floatless (nv.texts ts) = texts_floatless ts
  data_floatless (nv.lists ls) = lists_floatless ls

  lists_floatless : (ls : nv.Lists) → items_have_float (lists_items ls) ≡ false
  lists_floatless nv.no_lists = refl
  lists_floatless (nv.list_then ps ls) =
      or_from (members_have_float (members_onto no_members ps)) (items_have_float (lists_items ls))
      (onto_floatless no_members ps refl) (lists_floatless ls)

  onto_floatless : (found : Members) (ps : nv.Pairs) → members_have_float found ≡ false
      → members_have_float (members_onto found ps) ≡ false
  onto_floatless found nv.no_pairs h = h
  onto_floatless found (nv.pair k d ps) h =
      onto_floatless (put k (data_of d) found) ps
      (put_floatless k (data_of d) found (data_floatless d) h)

pub payload_floatless : (ps : nv.Pairs) → has_float (payload_data ps) ≡ false
payload_floatless ps = onto_floatless no_members ps refl

pub report_floatless : (class path : List ℕ) (moment : ℕ) (ps : nv.Pairs)
    → has_float (report_data class path moment ps) ≡ false
report_floatless class path moment ps =
    or_from (has_float (payload_data ps)) false (payload_floatless ps) refl
