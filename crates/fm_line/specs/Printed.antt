-- The line of an entry: the plain form, or the JSON form where the entry is a report with a
-- payload.
use Rattle.std.specs.Prelude.{ℕ, ◌==◌, if◌then◌else◌, List, [], ◌++◌, map, codes, decimal}
use Rattle.serde_json.specs.Data.{Data, boolean, number, unsigned, string, array, object, Items}
use Rattle.serde_json.specs.Data.{no_items, item, Members, no_members, member, put}
use Rattle.serde_json.specs.Find.{of_integer}
use Rattle.serde_json.specs.View.{items_of}
use Rattle.serde_json.specs.Written.{compact_text}
use Rattle.fm_nv.specs.Data as nv
use Rattle.fm_entry.specs.declared.entry.Entry.{Entry}
use Rattle.fm_entry.specs.declared.entry.Entry.TheVariants.{Report, Tick, Repaired, Replaced}
use Rattle.fm_entry.specs.declared.entry.Entry.TheVariants.{Acquit, Reload}

-- numbers from 0, as the items of an array
abbrev pub numbers_items : List ℕ → Items
numbers_items ns = items_of (map (λ n. number (unsigned n)) ns)

-- texts, as the items of an array
abbrev pub texts_items : List (List ℕ) → Items
texts_items ts = items_of (map string ts)

-- A value and a list as JSON: an object has the names in byte order.
abbrev mutual
  pub data_of : nv.Data → Data
  data_of (nv.boolean b) = boolean b
  data_of (nv.unsigned n) = number (unsigned n)
  data_of (nv.signed z) = number (of_integer z)
  data_of (nv.text t) = string t
  data_of (nv.nested ps) = object (members_onto no_members ps)
  data_of (nv.unsigneds ns) = array (numbers_items ns)
  data_of (nv.texts ts) = array (texts_items ts)
  data_of (nv.lists ls) = array (lists_items ls)

  pub lists_items : nv.Lists → Items
  lists_items nv.no_lists = no_items
  lists_items (nv.list_then ps ls) = item (object (members_onto no_members ps)) (lists_items ls)

  -- the members that were found, with those of a list
  pub members_onto : Members → nv.Pairs → Members
  members_onto found nv.no_pairs = found
  members_onto found (nv.pair k d ps) = members_onto (put k (data_of d) found) ps

-- the object that a list is
abbrev pub payload_data : nv.Pairs → Data
payload_data ps = object (members_onto no_members ps)

-- a list as compact JSON
abbrev pub payload_text : nv.Pairs → List ℕ
payload_text ps = compact_text (payload_data ps)

-- the object of a report with a payload
abbrev pub report_data : List ℕ → List ℕ → ℕ → nv.Pairs → Data
report_data class path moment ps =
    object (member (codes "class") (string class) (member (codes "path") (string path)
    (member (codes "payload") (payload_data ps)
    (member (codes "time") (number (unsigned moment)) no_members))))

-- a report without a payload
abbrev pub plain_report : List ℕ → List ℕ → ℕ → List ℕ
plain_report class path moment =
    codes "report " ++ (class ++ (codes " " ++ (path ++ (codes " " ++ decimal moment))))

-- a report with a payload
abbrev pub json_report : List ℕ → List ℕ → ℕ → nv.Pairs → List ℕ
json_report class path moment ps = compact_text (report_data class path moment ps)

abbrev pub report_line : List ℕ → List ℕ → ℕ → nv.Pairs → List ℕ
report_line class path moment ps =
    if nv.count ps == 0 then plain_report class path moment else json_report class path moment ps

-- the line of an entry, without a newline; a reload has none
abbrev pub line_text : Entry → List ℕ
line_text (Report class path moment payload) = report_line class path moment payload
line_text (Tick moment) = codes "tick " ++ decimal moment
line_text (Repaired path moment) = codes "repaired " ++ (path ++ (codes " " ++ decimal moment))
line_text (Replaced path moment) = codes "replaced " ++ (path ++ (codes " " ++ decimal moment))
line_text (Acquit case moment) =
    codes "acquit dx" ++ (decimal case.module
    ++ (codes "/" ++ (decimal case.case ++ (codes " " ++ decimal moment))))
line_text (Reload conf moment) = []
