-- The names of a payload that was read ascend.
use Rattle.std.proofs.Common.{◌≡◌, ℕ, List, [], Option, Some, None, refl, subst}
use Rattle.std.proofs.Common.{sym}
use Rattle.serde_json.specs.Data.{Num, unsigned, negative, float, Data, null, boolean, number}
use Rattle.serde_json.specs.Data.{string, array, object}
use Rattle.serde_json.specs.Data.{Items, no_items, item, Members, no_members, member}
use Rattle.fm_nv.specs.Data as nv
use Rattle.fm_bytes.proofs.Readers.{some_same}
use Rattle.fm_entry.specs.declared.entry.Entry.{Entry}
use Rattle.fm_entry.specs.declared.entry.Entry.TheVariants.{Report, Tick, Repaired, Replaced}
use Rattle.fm_entry.specs.declared.entry.Entry.TheVariants.{Acquit, Reload}
use Rattle.fm_line.specs.Forms.{line_entry}
use Rattle.fm_line.specs.Payload.{number_value, array_value, unsigneds_of, texts_of, added}
use Rattle.fm_line.specs.Payload.{value_of, lists_from}
use Rattle.fm_line.specs.Payload.{list_of, pairs_onto}
use Rattle.fm_line_laws.specs.Names.{IsNameBefore, IsBeforeNames, NamesAscend, ValueAscends}
use Rattle.fm_line_laws.specs.Names.{ListsAscend, PayloadAscends}
use Rattle.fm_line_laws.proofs.Reading.{IsBeforeAll, IsRead, ItemsRead, MembersRead}
use Rattle.fm_line_laws.proofs.PayloadBack.{then_some, map_some, joined_some, added_some}
use Rattle.fm_line_laws.proofs.Payloads.{IsSource, of_none, of_value, EntrySource, entry_source}
use Rattle.std.proofs.Common.{Ok}

-- each name that was found stands before all members that are left
abbrev AreFoundBefore : nv.Pairs → Members → Type 0
AreFoundBefore nv.no_pairs ms = Unit {0}
AreFoundBefore (nv.pair k d ps) ms = IsBeforeAll k ms × AreFoundBefore ps ms

before_added : (l k : List ℕ) (v : nv.Data) (ps : nv.Pairs) → IsBeforeNames l ps → IsNameBefore l k
    → IsBeforeNames l (nv.add k v ps)
before_added l k v nv.no_pairs h is = (is, tt)
before_added l k v (nv.pair j e ps) h is = (h.0, before_added l k v ps h.1 is)

ascends_added : (k : List ℕ) (v : nv.Data) (d : Data) (ps : nv.Pairs) (ns : Members)
    → NamesAscend ps
    → ValueAscends v → AreFoundBefore ps (member k d ns) → NamesAscend (nv.add k v ps)
ascends_added k v d nv.no_pairs ns h hv before = (hv, tt, tt)
ascends_added k v d (nv.pair l e ps) ns h hv before =
    (h.0, before_added l k v ps h.1 before.0.0, ascends_added k v d ps ns h.2 hv before.1)

found_added : (k : List ℕ) (v : nv.Data) (d : Data) (ps : nv.Pairs) (ns : Members)
    → AreFoundBefore ps (member k d ns) → IsBeforeAll k ns → AreFoundBefore (nv.add k v ps) ns
found_added k v d nv.no_pairs ns before is = (is, tt)
found_added k v d (nv.pair l e ps) ns before is = (before.0.1, found_added k v d ps ns before.1 is)

number_ascends : (n : Num) (v : nv.Data) → number_value n ≡ Some v → ValueAscends v
number_ascends (unsigned n) v h = subst ValueAscends (some_same (nv.unsigned n) v h) tt
number_ascends (negative z) v h = subst ValueAscends (some_same (nv.signed z) v h) tt
number_ascends (float x) v h = cc

array_ascends : (a : Option (List ℕ)) (b : Option (List (List ℕ))) (c : Option (List nv.Pairs))
    (v : nv.Data)
    → ((ls : List nv.Pairs) → c ≡ Some ls → ListsAscend (nv.lists_of ls))
    → array_value a b c ≡ Some v
    → ValueAscends v
array_ascends (Some ns) b c v f h = subst ValueAscends (some_same (nv.unsigneds ns) v h) tt
array_ascends None (Some ts) c v f h = subst ValueAscends (some_same (nv.texts ts) v h) tt
array_ascends None None (Some ls) v f h =
    subst ValueAscends (some_same (nv.lists (nv.lists_of ls)) v h) (f ls refl)
array_ascends None None None v f h = cc

mutual
  value_ascends : (d : Data) (v : nv.Data) → IsRead d → value_of d ≡ Some v → ValueAscends v
  value_ascends null v r h = cc
  value_ascends (boolean b) v r h = subst ValueAscends (some_same (nv.boolean b) v h) tt
  value_ascends (number n) v r h = number_ascends n v h
  value_ascends (string s) v r h = subst ValueAscends (some_same (nv.text s) v h) tt
  value_ascends (array ds) v r h =
      array_ascends (unsigneds_of ds) (texts_of ds) (lists_from ds) v
      (λ ls e. lists_ascend ds ls r e) h
  value_ascends (object ms) v r h =
      let found = map_some nv.nested (pairs_onto nv.no_pairs ms) v h in
      subst ValueAscends found.2 (onto_ascends ms nv.no_pairs found.0 r tt tt found.1)

  lists_ascend : (ds : Items) (ls : List nv.Pairs) → ItemsRead ds → lists_from ds ≡ Some ls
      → ListsAscend (nv.lists_of ls)
  lists_ascend no_items ls r h =
      subst (λ (l : List nv.Pairs). ListsAscend (nv.lists_of l)) (some_same [] ls h) tt
  lists_ascend (item d ds) ls r h =
      let parts = joined_some (list_of d) (lists_from ds) ls h in
      subst (λ (l : List nv.Pairs). ListsAscend (nv.lists_of l)) parts.4
      (list_ascends d parts.0 r.0 parts.2, lists_ascend ds parts.1 r.1 parts.3)

  pub list_ascends : (d : Data) (ps : nv.Pairs) → IsRead d → list_of d ≡ Some ps → NamesAscend ps
  list_ascends null ps r h = cc
  list_ascends (boolean b) ps r h = cc
  list_ascends (number n) ps r h = cc
  list_ascends (string s) ps r h = cc
  list_ascends (array ds) ps r h = cc
  list_ascends (object ms) ps r h = onto_ascends ms nv.no_pairs ps r tt tt h

  onto_ascends : (ns : Members) (found ps : nv.Pairs) → MembersRead ns → NamesAscend found
      → AreFoundBefore found ns
      → pairs_onto found ns ≡ Some ps → NamesAscend ps
  onto_ascends no_members found ps r ascends before h =
      subst NamesAscend (some_same found ps h) ascends
  onto_ascends (member k d ns) found ps r ascends before h =
      let step = then_some (λ more. pairs_onto more ns) (added k (value_of d) found) ps h in
      let with_one = added_some k (value_of d) found step.0 step.1 in
      let value = value_ascends d with_one.0 r.0 with_one.1 in
      onto_ascends ns step.0 ps r.2
      (subst NamesAscend with_one.2 (ascends_added k with_one.0 d found ns ascends value before))
      (subst (λ (qs : nv.Pairs). AreFoundBefore qs ns) with_one.2
      (found_added k with_one.0 d found ns before r.1))
      step.2

source_ascends : (ps : nv.Pairs) → IsSource ps → NamesAscend ps
source_ascends ps (of_none is) = subst NamesAscend (sym is) tt
source_ascends ps (of_value d h is) = list_ascends d ps h is

entry_ascends : (e : Entry) → EntrySource e → PayloadAscends e
entry_ascends (Report c p t y) h = source_ascends y h
entry_ascends (Tick t) h = tt
entry_ascends (Repaired p t) h = tt
entry_ascends (Replaced p t) h = tt
entry_ascends (Acquit c t) h = tt
entry_ascends (Reload c t) h = tt

-- the names of the payload of a line's entry ascend
pub payload_ascends : (line : List ℕ) (e : Entry) → line_entry line ≡ Ok e → PayloadAscends e
payload_ascends line e is = entry_ascends e (entry_source line e is)
