-- What the front of some bytes reads as: entries and their parts.
use Rattle.std.specs.Prelude.{ℕ, ◌^◌, ◌==◌, nat_lt, List, None, if◌then◌else◌}
use Rattle.fm_name.specs.Category.{is_ereport}
use Rattle.fm_name.specs.Class.{is_class}
use Rattle.fm_name.specs.Path.{is_path}
use Rattle.fm_bytes.specs.Reading.{Read, after, made, number_from, short_text_from, both_from}
use Rattle.fm_bytes.specs.Reading.{where_from}
use Rattle.fm_nv.specs.Data.{Pairs}
use Rattle.fm_nv.specs.Reading.{list_from}
use Rattle.fm_entry.specs.declared.entry.Entry.{Entry}
use Rattle.fm_entry.specs.declared.entry.Entry.TheVariants.{Report, Tick, Repaired, Replaced}
use Rattle.fm_entry.specs.declared.entry.Entry.TheVariants.{Acquit, Reload}

-- a class
unfoldable pub class_from : List ℕ → Read (List ℕ)
class_from bytes = where_from is_class short_text_from bytes

-- a path
unfoldable pub path_from : List ℕ → Read (List ℕ)
path_from bytes = where_from is_path short_text_from bytes

-- a class of the category of reports
unfoldable pub report_class_from : List ℕ → Read (List ℕ)
report_class_from bytes = where_from is_ereport class_from bytes

-- a moment
unfoldable pub moment_from : List ℕ → Read ℕ
moment_from bytes = where_from (λ n. nat_lt n (2 ^ 62)) (number_from 8) bytes

-- a module
unfoldable pub module_from : List ℕ → Read ℕ
module_from bytes = where_from (λ n. nat_lt n 8) (number_from 4) bytes

-- a case of a module
unfoldable pub case_from : List ℕ → Read ℕ
case_from bytes = where_from (λ n. nat_lt n (2 ^ 63)) (number_from 8) bytes

-- the fields of a report
unfoldable pub report_from : List ℕ → Read (List ℕ × (List ℕ × (ℕ × Pairs)))
report_from bytes = both_from report_class_from
    (both_from path_from (both_from moment_from (list_from 8))) bytes

-- the fields of an acquittal
unfoldable pub acquit_from : List ℕ → Read (ℕ × (ℕ × ℕ))
acquit_from bytes = both_from module_from (both_from case_from moment_from) bytes

-- the entry that a byte names the kind of
unfoldable pub tagged_from : ℕ → List ℕ → Read Entry
tagged_from tag bytes =
    if tag == 1 then made (λ f. Report f.0 f.1.0 f.1.1.0 f.1.1.1) (report_from bytes)
    else (if tag == 2 then made Tick (moment_from bytes)
    else (if tag == 3 then made (λ f. Repaired f.0 f.1) (both_from path_from moment_from bytes)
    else (if tag == 4 then made (λ f. Replaced f.0 f.1) (both_from path_from moment_from bytes)
    else (if tag == 5 then made (λ f. Acquit (record { «module» = f.0; case = f.1.0 }) f.1.1)
    (acquit_from bytes)
    else (if tag == 6 then made (λ f. Reload f.0 f.1) (both_from (number_from 4) moment_from bytes)
    else None)))))

-- an entry
unfoldable pub entry_from : List ℕ → Read Entry
entry_from bytes = after (number_from 1 bytes) (λ tag rest. tagged_from tag rest)
