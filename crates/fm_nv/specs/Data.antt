-- What a list of names and values is, as data: its pairs in order, and the eight kinds of a value.
use Rattle.std.specs.Prelude.{ℕ, zero, suc, ◌+◌, ◌*◌, max, ℤ, Bool, false, ◌||◌, if◌then◌else◌}
use Rattle.std.specs.Prelude.{bytes_eq, List, [], ◌∷◌, Option, Some, None}

mutual
  -- the pairs of a list, in order
  pub data Pairs : Type 0 where
    no_pairs : Pairs
    pair : List ℕ → Data → Pairs → Pairs

  -- a value of one of the eight kinds; a text is its bytes
  pub data Data : Type 0 where
    boolean : Bool → Data
    unsigned : ℕ → Data
    signed : ℤ → Data
    text : List ℕ → Data
    nested : Pairs → Data
    unsigneds : List ℕ → Data
    texts : List (List ℕ) → Data
    lists : Lists → Data

  -- an array of lists
  pub data Lists : Type 0 where
    no_lists : Lists
    list_then : Pairs → Lists → Lists

-- an array of lists, from its items
abbrev pub lists_of : List Pairs → Lists
lists_of [] = no_lists
lists_of (ps ∷ rest) = list_then ps (lists_of rest)

-- how many lists an array has
abbrev pub lists_count : Lists → ℕ
lists_count no_lists = 0
lists_count (list_then ps ls) = suc (lists_count ls)

-- how many pairs a list has
abbrev pub count : Pairs → ℕ
count no_pairs = 0
count (pair k d ps) = suc (count ps)

-- the list with one more pair at its end
abbrev pub add : List ℕ → Data → Pairs → Pairs
add name d no_pairs = pair name d no_pairs
add name d (pair k e ps) = pair k e (add name d ps)

-- one list after the other
abbrev pub append : Pairs → Pairs → Pairs
append no_pairs qs = qs
append (pair k d ps) qs = pair k d (append ps qs)

-- whether a list has a name
abbrev pub has : List ℕ → Pairs → Bool
has name no_pairs = false
has name (pair k d ps) = bytes_eq k name || has name ps

-- the value at a name
abbrev pub find : List ℕ → Pairs → Option Data
find name no_pairs = None
find name (pair k d ps) = if bytes_eq k name then Some d else find name ps

-- the name at a place, counted from 0; past the end no name
abbrev pub name_at : ℕ → Pairs → List ℕ
name_at n no_pairs = []
name_at zero (pair k d ps) = k
name_at (suc n) (pair k d ps) = name_at n ps

-- the value at a place, counted from 0; past the end the value false
abbrev pub value_at : ℕ → Pairs → Data
value_at n no_pairs = boolean false
value_at zero (pair k d ps) = d
value_at (suc n) (pair k d ps) = value_at n ps

-- the pairs from a place on
abbrev pub from : ℕ → Pairs → Pairs
from n no_pairs = no_pairs
from zero (pair k d ps) = pair k d ps
from (suc n) (pair k d ps) = from n ps

-- How deep lists stand in lists: a list is one deeper than the deepest list among its values.
abbrev mutual
  pub depth : Pairs → ℕ
  depth no_pairs = 1
  depth (pair k d ps) = max (suc (data_depth d)) (depth ps)

  pub data_depth : Data → ℕ
  data_depth (boolean b) = 0
  data_depth (unsigned n) = 0
  data_depth (signed z) = 0
  data_depth (text t) = 0
  data_depth (nested ps) = depth ps
  data_depth (unsigneds ns) = 0
  data_depth (texts ts) = 0
  data_depth (lists ls) = lists_depth ls

  pub lists_depth : Lists → ℕ
  lists_depth no_lists = 0
  lists_depth (list_then ps ls) = max (depth ps) (lists_depth ls)

-- how far down the content of a list reaches: three steps for each list in a list
abbrev pub content_reach : Pairs → ℕ
content_reach ps = 3 * depth ps

-- how far down a list reaches
abbrev pub reach : Pairs → ℕ
reach ps = content_reach ps + 1

-- how far down an array of lists reaches
abbrev pub lists_reach : List Pairs → ℕ
lists_reach ls = 3 * lists_depth (lists_of ls) + 2
