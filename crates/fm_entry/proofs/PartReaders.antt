-- Classes, paths, numbers in their limits, and payloads, read and spelled.
use Rattle.std.proofs.Common.{ℕ, ◌^◌, ◌<◌, ◌==◌, nat_lt, nat_le, [], ◌∷◌, length, refl, arith}
use Rattle.std.specs.Str.{is_utf8}
use Rattle.std.proofs.lemmas.Bool.{leb-true, le-leb, ltb-true, lt-ltb, eqb-true}
use Rattle.fm_name.specs.Category.{is_ereport}
use Rattle.fm_name.specs.Class.{is_class}
use Rattle.fm_name.specs.Path.{is_path}
use Rattle.fm_bytes.specs.Numbers.{is_unsigned, u32_bytes, u64_bytes, short_text}
use Rattle.fm_bytes.specs.Reading.{number_from, short_text_from}
use Rattle.fm_bytes.proofs.Booleans.{and_parts, and_true}
use Rattle.fm_bytes.proofs.Readers.{IsReader, reader_as, byte_reader, word_reader, long_reader}
use Rattle.fm_bytes.proofs.Readers.{short_text_reader}
use Rattle.fm_entry.specs.Reading.{class_from, path_from, report_class_from, moment_from}
use Rattle.fm_entry.specs.Reading.{module_from}
use Rattle.fm_entry.specs.Reading.{case_from}
use Rattle.fm_entry.specs.WordReading.{record_number_from, certainty_from, own_from}
use Rattle.fm_entry.proofs.AsciiTexts.{class_text, path_text}
use Rattle.fm_bytes.proofs.Combined.{where_reader}

-- a class
pub class_reader : IsReader is_class short_text class_from
unfolding class_from
class_reader =
    reader_as _ is_class _ short_text _ (λ x h. (and_parts _ (is_class x) h).1)
    (λ x h. let known = class_text x h in
    let few = known.1 in
    and_true _ (is_class x) (and_true (is_utf8 x) _ known.0 (le-leb (length x) 65535 (omega arith)))
    h)
    (λ x h. refl) (where_reader _ is_class short_text short_text_from short_text_reader)

-- a path
pub path_reader : IsReader is_path short_text path_from
unfolding path_from
path_reader =
    reader_as _ is_path _ short_text _ (λ x h. (and_parts _ (is_path x) h).1)
    (λ x h. let known = path_text x h in
    let few = known.1 in
    and_true _ (is_path x) (and_true (is_utf8 x) _ known.0 (le-leb (length x) 65535 (omega arith)))
    h)
    (λ x h. refl) (where_reader _ is_path short_text short_text_from short_text_reader)

-- a class of the category of reports
pub report_class_reader : IsReader is_ereport short_text report_class_from
unfolding report_class_from
report_class_reader =
    reader_as _ is_ereport _ short_text _ (λ x h. (and_parts (is_class x) (is_ereport x) h).1)
    (λ x h. and_true (is_class x) (is_ereport x) (and_parts (is_class x) _ h).0 h) (λ x h. refl)
    (where_reader is_class is_ereport short_text class_from class_reader)

-- a moment
pub moment_reader : IsReader (λ n. nat_lt n (2 ^ 62)) u64_bytes moment_from
unfolding moment_from
moment_reader =
    reader_as _ (λ n. nat_lt n (2 ^ 62)) _ u64_bytes _ (λ n h. (and_parts (is_unsigned n) _ h).1)
    (λ n h. let few = ltb-true n (2 ^ 62) h in
    and_true (is_unsigned n) _ (lt-ltb n (2 ^ 64) (omega arith)) h)
    (λ n h. refl) (where_reader is_unsigned (λ n. nat_lt n (2 ^ 62)) u64_bytes (number_from 8)
    long_reader)

-- a case of a module
pub case_reader : IsReader (λ n. nat_lt n (2 ^ 63)) u64_bytes case_from
unfolding case_from
case_reader =
    reader_as _ (λ n. nat_lt n (2 ^ 63)) _ u64_bytes _ (λ n h. (and_parts (is_unsigned n) _ h).1)
    (λ n h. let few = ltb-true n (2 ^ 63) h in
    and_true (is_unsigned n) _ (lt-ltb n (2 ^ 64) (omega arith)) h)
    (λ n h. refl) (where_reader is_unsigned (λ n. nat_lt n (2 ^ 63)) u64_bytes (number_from 8)
    long_reader)

-- the number of a record
pub record_number_reader : IsReader (λ n. nat_lt n (2 ^ 46)) u64_bytes record_number_from
unfolding record_number_from
record_number_reader =
    reader_as _ (λ n. nat_lt n (2 ^ 46)) _ u64_bytes _ (λ n h. (and_parts (is_unsigned n) _ h).1)
    (λ n h. let few = ltb-true n (2 ^ 46) h in
    and_true (is_unsigned n) _ (lt-ltb n (2 ^ 64) (omega arith)) h)
    (λ n h. refl) (where_reader is_unsigned (λ n. nat_lt n (2 ^ 46)) u64_bytes (number_from 8)
    long_reader)

-- a module
pub module_reader : IsReader (λ n. nat_lt n 8) u32_bytes module_from
unfolding module_from
module_reader =
    reader_as _ (λ n. nat_lt n 8) _ u32_bytes _ (λ n h. (and_parts (nat_lt n (2 ^ 32)) _ h).1)
    (λ n h. let few = ltb-true n 8 h in
    and_true (nat_lt n (2 ^ 32)) _ (lt-ltb n (2 ^ 32) (omega arith)) h)
    (λ n h. refl) (where_reader (λ n. nat_lt n (2 ^ 32)) (λ n. nat_lt n 8) u32_bytes (number_from 4)
    word_reader)

-- the number of the record's module
pub own_reader : (own : ℕ) → own < 8 → IsReader (λ n. n == own) u32_bytes (own_from own)
unfolding own_from
own_reader own small =
    reader_as _ (λ n. n == own) _ u32_bytes _ (λ n h. (and_parts (nat_lt n (2 ^ 32)) _ h).1)
    (λ n h. let same = eqb-true n own h in
    and_true (nat_lt n (2 ^ 32)) _ (lt-ltb n (2 ^ 32) (omega arith)) h)
    (λ n h. refl) (where_reader (λ n. nat_lt n (2 ^ 32)) (λ n. n == own) u32_bytes (number_from 4)
    word_reader)

-- a certainty
pub certainty_reader : IsReader (λ n. nat_le n 100) (λ n. n ∷ []) certainty_from
unfolding certainty_from
certainty_reader =
    reader_as _ (λ n. nat_le n 100) _ (λ n. n ∷ []) _ (λ n h. (and_parts (nat_le n 255) _ h).1)
    (λ n h. let few = leb-true n 100 h in and_true (nat_le n 255) _ (le-leb n 255 (omega arith)) h)
    (λ n h. refl) (where_reader (λ n. nat_le n 255) (λ n. nat_le n 100) (λ n. n ∷ [])
    (number_from 1) byte_reader)
