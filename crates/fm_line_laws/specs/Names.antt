-- The names of a list in ascending order, at every depth.
use Rattle.std.specs.Prelude.{ℕ, ◌≡◌, List}
use Rattle.std.specs.Ordering.{nat_cmp}
use Rattle.std.specs.declared.cmp.Ordering.TheVariants.{Less}
use Rattle.std.specs.Cmp.Lexicographic.{slice_cmp}
use Rattle.fm_nv.specs.Data.{Pairs, Data, Lists, no_pairs, pair, boolean, unsigned, signed, text}
use Rattle.fm_nv.specs.Data.{nested, unsigneds, texts, lists, no_lists, list_then}
use Rattle.fm_entry.specs.declared.entry.Entry.{Entry}
use Rattle.fm_entry.specs.declared.entry.Entry.TheVariants.{Report}

-- a name stands before another in byte order
abbrev pub IsNameBefore : List ℕ → List ℕ → Type 0
IsNameBefore k l = slice_cmp nat_cmp k l ≡ Less

-- a name stands before all names of some pairs
abbrev pub IsBeforeNames : List ℕ → Pairs → Type 0
IsBeforeNames k no_pairs = Unit {0}
IsBeforeNames k (pair l d ps) = IsNameBefore k l × IsBeforeNames k ps

-- Each name stands before all that follow it, in a list and in each list in it.
abbrev mutual
  pub NamesAscend : Pairs → Type 0
  NamesAscend no_pairs = Unit {0}
  NamesAscend (pair k d ps) = ValueAscends d × IsBeforeNames k ps × NamesAscend ps

  pub ValueAscends : Data → Type 0
  ValueAscends (boolean b) = Unit {0}
  ValueAscends (unsigned n) = Unit {0}
  ValueAscends (signed z) = Unit {0}
  ValueAscends (text t) = Unit {0}
  ValueAscends (nested ps) = NamesAscend ps
  ValueAscends (unsigneds ns) = Unit {0}
  ValueAscends (texts ts) = Unit {0}
  ValueAscends (lists ls) = ListsAscend ls

  pub ListsAscend : Lists → Type 0
  ListsAscend no_lists = Unit {0}
  ListsAscend (list_then ps ls) = NamesAscend ps × ListsAscend ls

-- the names of an entry's payload ascend
abbrev pub PayloadAscends : Entry → Type 0
PayloadAscends (Report class path moment payload) = NamesAscend payload
PayloadAscends _ = Unit {0}
