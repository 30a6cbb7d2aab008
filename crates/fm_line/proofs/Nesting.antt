-- How deep a list nests as JSON.
use Rattle.std.proofs.Common.{ℕ, suc, ◌+◌, ◌*◌, ◌-◌, ◌≤◌, List, [], ◌∷◌, arith, Ordering, Less}
use Rattle.std.proofs.Common.{Equal, Greater, nat_cmp}
use Rattle.std.specs.Ordering.{match_ordering}
use Rattle.std.specs.Cmp.Lexicographic.{slice_cmp}
use Rattle.serde_json.specs.Data.{Data, Members, no_members, member, put, depth, items_depth}
use Rattle.serde_json.specs.Data.{members_depth}
use Rattle.fm_nv.specs.Data as nv
use Rattle.fm_line.specs.Printed.{data_of, lists_items, members_onto, numbers_items, texts_items}
use Rattle.fm_line.specs.Printed.{report_data}

chosen_depth : (o : Ordering) (a b c : Members) (n : ℕ) → members_depth a ≤ n → members_depth b ≤ n
    → members_depth c ≤ n → members_depth (match_ordering o a b c) ≤ n
chosen_depth Less a b c n p q r = p
chosen_depth Equal a b c n p q r = q
chosen_depth Greater a b c n p q r = r

put_depth : (k : List ℕ) (d : Data) (ms : Members) (n : ℕ) → depth d ≤ n → members_depth ms ≤ n
    → members_depth (put k d ms) ≤ n
put_depth k d no_members n p q = omega arith
put_depth k d (member l e ms) n p q =
    chosen_depth (slice_cmp nat_cmp k l) (member k d (member l e ms)) (member l d ms)
    (member l e (put k d ms)) n
    (omega arith) (omega arith) (omega (arith, put_depth k d ms n p (omega arith)))

numbers_depth : (ns : List ℕ) → items_depth (numbers_items ns) ≤ 0
numbers_depth [] = omega arith
numbers_depth (n ∷ ns) = omega (arith, numbers_depth ns)

texts_depth : (ts : List (List ℕ)) → items_depth (texts_items ts) ≤ 0
texts_depth [] = omega arith
texts_depth (t ∷ ts) = omega (arith, texts_depth ts)

some_depth : (ps : nv.Pairs) → 1 ≤ nv.depth ps
some_depth nv.no_pairs = omega arith
some_depth (nv.pair k d ps) = omega (arith, some_depth ps)

mutual
  value_depth : (d : nv.Data) → depth (data_of d) ≤ 2 * nv.data_depth d + 1
  value_depth (nv.boolean b) = omega arith
  value_depth (nv.unsigned n) = omega arith
  value_depth (nv.signed z) = omega arith
  value_depth (nv.text t) = omega arith
  value_depth (nv.nested ps) =
      omega (
        arith,
        onto_depth ps no_members (2 * nv.depth ps - 1) (omega arith)
            (omega (arith, some_depth ps)),
        some_depth ps,
      )
  value_depth (nv.unsigneds ns) = omega (arith, numbers_depth ns)
  value_depth (nv.texts ts) = omega (arith, texts_depth ts)
  value_depth (nv.lists ls) = omega (arith, array_depth ls)

  array_depth : (ls : nv.Lists) → items_depth (lists_items ls) ≤ 2 * nv.lists_depth ls
  array_depth nv.no_lists = omega arith
  array_depth (nv.list_then ps ls) =
      omega (
        arith,
        onto_depth ps no_members (2 * nv.depth ps - 1) (omega arith)
            (omega (arith, some_depth ps)),
        some_depth ps,
        array_depth ls,
      )

  onto_depth : (ps : nv.Pairs) (found : Members) (n : ℕ) → members_depth found ≤ n
      → 2 * nv.depth ps ≤ n + 1 → members_depth (members_onto found ps) ≤ n
  onto_depth nv.no_pairs found n p q = p
  onto_depth (nv.pair k d ps) found n p q =
      onto_depth ps (put k (data_of d) found) n
      (put_depth k (data_of d) found n (omega (arith, value_depth d)) p) (omega arith)

list_depth : (ps : nv.Pairs) → suc (members_depth (members_onto no_members ps)) ≤ 2 * nv.depth ps
list_depth ps = omega (
  arith,
  onto_depth ps no_members (2 * nv.depth ps - 1) (omega arith)
      (omega (arith, some_depth ps)),
  some_depth ps,
)

-- a report whose payload is at most 8 deep nests far less than what can be read
pub report_depth : (class path : List ℕ) (moment : ℕ) (ps : nv.Pairs) → nv.depth ps ≤ 8
    → depth (report_data class path moment ps) ≤ 127
report_depth class path moment ps h = omega (arith, list_depth ps)
