-- What a counter counts, and when it speaks.
use Rattle.std.specs.Prelude.{ℕ, ◌+◌, ◌/◌, ◌%◌, ◌^◌, Bool, true, ◌&&◌, ◌==◌, nat_lt, nat_le}
use Rattle.std.specs.Prelude.{if◌then◌else◌, List, [], ◌∷◌, ◌++◌, length, flat_map}
use Rattle.std.specs.List.{list_all}
use Rattle.std.specs.declared.cmp.Ordering.{Ordering}
use Rattle.std.specs.declared.cmp.Ordering.TheVariants.{Less, Equal, Greater}
use Rattle.std.specs.Ordering.{nat_cmp, is_lt}
use Rattle.std.specs.Cmp.Lexicographic.{slice_cmp}
use Rattle.fm_name.specs.Category.{is_ereport}
use Rattle.fm_bytes.specs.Numbers.{u64_bytes, short_text}
use Rattle.fm_entry.specs.declared.entry.Entry.{Entry}
use Rattle.fm_entry.specs.declared.entry.Entry.TheVariants.{Report}
use Rattle.fm_entry.specs.declared.list_event.ListEvent.{ListEvent}
use Rattle.fm_entry.specs.declared.list_event.ListKind.TheVariants.{Upset as UpsetWord}
use Rattle.fm_core.specs.declared.class_count.ClassCount.{ClassCount}

-- how a counted class stands to a class, in byte order
abbrev pub order : ClassCount → List ℕ → Ordering
order x class = slice_cmp nat_cmp x.class class

abbrev pub one_more : Ordering → List ℕ → ClassCount → List ClassCount → List ClassCount
    → List ClassCount
one_more Less class x xs more = x ∷ more
one_more Equal class x xs more = record x { count = x.count + 1 } ∷ xs
one_more Greater class x xs more = record { class = class; count = 1 } ∷ x ∷ xs

-- the counts with one report more of a class, in byte order of classes
abbrev pub plus_one : List ℕ → List ClassCount → List ClassCount
plus_one class [] = record { class = class; count = 1 } ∷ []
plus_one class (x ∷ xs) = one_more (order x class) class x xs (plus_one class xs)

abbrev pub count_or : Ordering → ClassCount → ℕ → ℕ
count_or Less x more = more
count_or Equal x more = x.count
count_or Greater x more = more

-- how many reports of a class were counted
abbrev pub count_of : List ℕ → List ClassCount → ℕ
count_of class [] = 0
count_of class (x ∷ xs) = count_or (order x class) x (count_of class xs)

-- how many reports were counted
abbrev pub total_of : List ClassCount → ℕ
total_of [] = 0
total_of (x ∷ xs) = x.count + total_of xs

-- the number of the next case: a third of each count, rounded down
abbrev pub cases_of : List ClassCount → ℕ
cases_of [] = 0
cases_of (x ∷ xs) = x.count / 3 + cases_of xs

-- a count is of a class of reports, and is at least 1
abbrev pub is_count : ClassCount → Bool
is_count x = is_ereport x.class && nat_lt 0 x.count

-- each class is past the one before it, and the first past `class`
abbrev pub is_past : List ℕ → List ClassCount → Bool
is_past class [] = true
is_past class (x ∷ xs) = is_lt (slice_cmp nat_cmp class x.class) && is_past x.class xs

-- the classes ascend strictly
abbrev pub is_ordered : List ClassCount → Bool
is_ordered [] = true
is_ordered (x ∷ xs) = is_past x.class xs

-- the counts of a counter: classes of reports that ascend, each counted, and no more than 2^46 in
-- all
abbrev pub are_counts : List ClassCount → Bool
are_counts xs = is_ordered xs && (list_all is_count xs && nat_le (total_of xs) (2 ^ 46))

-- the counts after a report of a class
abbrev pub report_counts : List ClassCount → List ℕ → List ClassCount
report_counts xs class = if nat_lt (total_of xs) (2 ^ 46) then plus_one class xs else xs

-- the counts after an entry: a report is counted as long as no more than 2^46 would be
abbrev pub counts_after : List ClassCount → Entry → List ClassCount
counts_after xs (Report class path moment payload) = report_counts xs class
counts_after xs _ = xs

-- the word at every third report of a class: an upset without suspects
abbrev pub third : ℕ → ℕ → List ℕ → List ℕ → ℕ → ListEvent
third own case class path moment =
    record {
      kind = UpsetWord;
      case = record { «module» = own; case = case };
      moment = moment;
      conf = 0;
      observed = record { class = class; path = path } ∷ [];
      suspects = [];
      broken = [];
    }

-- whether one report more of a class is a third one that is counted
abbrev pub is_third : List ClassCount → List ℕ → Bool
is_third xs class = nat_lt (total_of xs) (2 ^ 46) && ((count_of class xs + 1) % 3 == 0)

-- what a counter says at a report
abbrev pub report_words : ℕ → List ClassCount → List ℕ → List ℕ → ℕ → List ListEvent
report_words own xs class path moment =
    if is_third xs class then third own (cases_of xs) class path moment ∷ [] else []

-- what a counter says at an entry
abbrev pub counter_words : ℕ → List ClassCount → Entry → List ListEvent
counter_words own xs (Report class path moment payload) = report_words own xs class path moment
counter_words own xs _ = []

-- how one count is kept: the class as a short text, and the count in eight bytes
abbrev pub count_bytes : ClassCount → List ℕ
count_bytes x = short_text x.class ++ u64_bytes x.count

-- how counts are kept: how many there are in eight bytes, and each in turn
abbrev pub counts_bytes : List ClassCount → List ℕ
counts_bytes xs = u64_bytes (length xs) ++ flat_map count_bytes xs
