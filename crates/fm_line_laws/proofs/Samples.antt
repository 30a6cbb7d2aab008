-- Lines and what they say, each computed from the definitions.
use Rattle.std.proofs.Common.{◌≡◌, [], ◌∷◌, ◌++◌, refl, codes, Ok, Err, negsuc}
use Rattle.std.specs.Str.{is_utf8, chars}
use Rattle.serde_json.proofs.OnLiterals.{serde_json_on_literals}
use Rattle.fm_name.specs.Category.{category_of}
use Rattle.fm_name.specs.Class.{is_component, are_components, is_class}
use Rattle.fm_name.specs.Path.{is_name, is_instance, is_part, are_parts, is_path}
use Rattle.fm_nv.specs.Data.{no_pairs, pair, unsigned, signed, nested, unsigneds}
use Rattle.fm_nv.specs.Refusal.{refusal}
use Rattle.fm_entry.specs.declared.entry.Entry.TheVariants.{Report, Tick, Repaired, Acquit}
use Rattle.fm_entry.specs.CaseText.{case_numbers, case_named}
use Rattle.fm_line.specs.Forms.{text_of, class_in, path_in, case_in, moment_in, report, tick}
use Rattle.fm_line.specs.Forms.{repaired, replaced, acquit, words, two_words, three_words}
use Rattle.fm_line.specs.Forms.{four_words, one_key, acquit_keys, replaced_keys, repaired_keys}
use Rattle.fm_line.specs.Forms.{two_keys, report_keys, four_keys, object_entry, json_of, json_entry}
use Rattle.fm_line.specs.Forms.{without_return, is_json, content_entry, line_entry}
use Rattle.fm_bytes.specs.Decimals.{numeral_within}
use Rattle.fm_line.specs.declared.fault.LineFault.TheVariants.{Json, Shape, Class, Path, Time}
use Rattle.fm_line.specs.declared.fault.LineFault.TheVariants.{Value}

-- the definitions by which a line computes
unfoldable on_lines : Unit {0}
unfolding serde_json_on_literals is_utf8 chars category_of is_component are_components is_class
    is_name is_instance is_part are_parts is_path refusal case_numbers case_named numeral_within
    text_of class_in path_in case_in moment_in report tick repaired replaced acquit words two_words
    three_words four_words one_key acquit_keys replaced_keys repaired_keys two_keys report_keys
    four_keys object_entry json_of json_entry without_return is_json content_entry line_entry
on_lines = tt

-- no JSON
json_cut : line_entry (codes "{\"class\":") ≡ Err Json
unfolding on_lines
json_cut = refl

-- no form
unknown_word : line_entry (codes "hello") ≡ Err Shape
unfolding on_lines
unknown_word = refl

-- a class of another category
other_category : line_entry (codes "report fault.cpu.core hc:///chassis=0 1") ≡ Err Class
unfolding on_lines
other_category = refl

-- no path
no_path : line_entry (codes "report ereport.cpu.ue chassis=0 1") ≡ Err Path
unfolding on_lines
no_path = refl

-- 2^62 is no moment
moment_past : line_entry (codes "tick 4611686018427387904") ≡ Err Time
unfolding on_lines
moment_past = refl

-- the greatest moment
moment_last : line_entry (codes "tick 4611686018427387903") ≡ Ok (Tick 4611686018427387903)
unfolding on_lines
moment_last = refl

-- a leading zero
moment_zero_led : line_entry (codes "tick 05") ≡ Err Time
unfolding on_lines
moment_zero_led = refl

-- an empty word is a word
moment_missing : line_entry (codes "tick ") ≡ Err Time
unfolding on_lines
moment_missing = refl

-- a blank before the first word
blank_led : line_entry (codes " tick 5") ≡ Err Shape
unfolding on_lines
blank_led = refl

-- an empty word is a class
empty_class : line_entry (codes "report  hc:///c=0 1") ≡ Err Class
unfolding on_lines
empty_class = refl

-- a report
plain_report : line_entry (codes "report ereport.cpu.ue hc:///chassis=0/cpu=1 10")
    ≡ Ok (Report (codes "ereport.cpu.ue") (codes "hc:///chassis=0/cpu=1") 10 no_pairs)
unfolding on_lines
plain_report = refl

-- a repair
plain_repair : line_entry (codes "repaired hc:///chassis=0 7")
    ≡ Ok (Repaired (codes "hc:///chassis=0") 7)
unfolding on_lines
plain_repair = refl

-- a tick, with blanks round it
json_tick : line_entry (codes " {\"tick\":5} ") ≡ Ok (Tick 5)
unfolding on_lines
json_tick = refl

-- of a key that stands twice the last value counts
last_key : line_entry (codes "{\"tick\":1,\"tick\":2}") ≡ Ok (Tick 2)
unfolding on_lines
last_key = refl

-- a float is no moment
float_time : line_entry (codes "{\"tick\":5.0}") ≡ Err Time
unfolding on_lines
float_time = refl

-- a number that JSON does not hold
infinite : line_entry (codes "{\"tick\":1e999}") ≡ Err Json
unfolding on_lines
infinite = refl

-- a key too many
extra_key : line_entry (codes "{\"tick\":5,\"x\":1}") ≡ Err Shape
unfolding on_lines
extra_key = refl

-- the class is looked at before the path
class_first : line_entry (codes "{\"class\":\"fault.a.b\",\"path\":\"x\",\"time\":-1}") ≡ Err Class
unfolding on_lines
class_first = refl

-- a payload, in byte order of the names
payload : line_entry (codes
    "{\"class\":\"ereport.cpu.ue\",\"path\":\"hc:///chassis=0/cpu=1\",\"time\":10000000000,\"payload\":{\"ena\":17,\"bank\":3}}")
    ≡ Ok (Report (codes "ereport.cpu.ue") (codes "hc:///chassis=0/cpu=1") 10000000000 (pair (codes
    "bank") (unsigned 3) (pair (codes "ena") (unsigned 17) no_pairs)))
unfolding on_lines
payload = refl

-- a float
float_value : line_entry
    (codes "{\"class\":\"ereport.a.b\",\"path\":\"hc:///c=0\",\"time\":1,\"payload\":{\"x\":1.5}}")
    ≡ Err Value
unfolding on_lines
float_value = refl

-- -0 is a float
minus_zero : line_entry
    (codes "{\"class\":\"ereport.a.b\",\"path\":\"hc:///c=0\",\"time\":1,\"payload\":{\"x\":-0}}")
    ≡ Err Value
unfolding on_lines
minus_zero = refl

-- null
null_value : line_entry
    (codes "{\"class\":\"ereport.a.b\",\"path\":\"hc:///c=0\",\"time\":1,\"payload\":{\"x\":null}}")
    ≡ Err Value
unfolding on_lines
null_value = refl

-- an array of mixed items
mixed_array : line_entry
    (codes
    "{\"class\":\"ereport.a.b\",\"path\":\"hc:///c=0\",\"time\":1,\"payload\":{\"x\":[1,\"a\"]}}")
    ≡ Err Value
unfolding on_lines
mixed_array = refl

-- an empty name
empty_name : line_entry
    (codes "{\"class\":\"ereport.a.b\",\"path\":\"hc:///c=0\",\"time\":1,\"payload\":{\"\":1}}")
    ≡ Err Value
unfolding on_lines
empty_name = refl

-- an array without items
empty_array : line_entry
    (codes "{\"class\":\"ereport.a.b\",\"path\":\"hc:///c=0\",\"time\":1,\"payload\":{\"x\":[]}}")
    ≡ Ok (Report (codes "ereport.a.b") (codes "hc:///c=0") 1
    (pair (codes "x") (unsigneds []) no_pairs))
unfolding on_lines
empty_array = refl

-- 2^64 - 1
greatest : line_entry
    (codes
    "{\"class\":\"ereport.a.b\",\"path\":\"hc:///c=0\",\"time\":1,\"payload\":{\"x\":18446744073709551615}}")
    ≡ Ok (Report (codes "ereport.a.b") (codes "hc:///c=0") 1 (pair (codes "x") (unsigned
    18446744073709551615) no_pairs))
unfolding on_lines
greatest = refl

-- 2^64
too_great : line_entry
    (codes
    "{\"class\":\"ereport.a.b\",\"path\":\"hc:///c=0\",\"time\":1,\"payload\":{\"x\":18446744073709551616}}")
    ≡ Err Value
unfolding on_lines
too_great = refl

-- -2^63
least : line_entry (codes
    "{\"class\":\"ereport.a.b\",\"path\":\"hc:///c=0\",\"time\":1,\"payload\":{\"x\":-9223372036854775808}}")
    ≡ Ok (Report (codes "ereport.a.b") (codes "hc:///c=0") 1 (pair (codes "x") (signed (negsuc
    9223372036854775807)) no_pairs))
unfolding on_lines
least = refl

-- eight objects in one another
depth_eight : line_entry
    (codes
    "{\"class\":\"ereport.a.b\",\"path\":\"hc:///c=0\",\"time\":1,\"payload\":{\"a\":{\"a\":{\"a\":{\"a\":{\"a\":{\"a\":{\"a\":{\"a\":1}}}}}}}}}")
    ≡ Ok (Report (codes "ereport.a.b") (codes "hc:///c=0") 1 (pair (codes "a") (nested (pair (codes
    "a") (nested (pair (codes "a") (nested (pair (codes "a") (nested (pair (codes "a") (nested
    (pair (codes "a") (nested (pair (codes "a") (nested (pair (codes "a") (unsigned 1) no_pairs))
    no_pairs)) no_pairs)) no_pairs)) no_pairs)) no_pairs)) no_pairs)) no_pairs))
unfolding on_lines
depth_eight = refl

-- nine objects in one another
depth_nine : line_entry
    (codes
    "{\"class\":\"ereport.a.b\",\"path\":\"hc:///c=0\",\"time\":1,\"payload\":{\"a\":{\"a\":{\"a\":{\"a\":{\"a\":{\"a\":{\"a\":{\"a\":{\"a\":1}}}}}}}}}}")
    ≡ Err Value
unfolding on_lines
depth_nine = refl

-- a payload that is no object
no_object : line_entry
    (codes "{\"class\":\"ereport.a.b\",\"path\":\"hc:///c=0\",\"time\":1,\"payload\":[]}")
    ≡ Err Value
unfolding on_lines
no_object = refl

-- an acquittal
acquittal : line_entry (codes "acquit dx3/12 7")
    ≡ Ok (Acquit (record { «module» = 3; case = 12 }) 7)
unfolding on_lines
acquittal = refl

-- a case name of no module
no_case : line_entry (codes "acquit dx8/12 7") ≡ Err Value
unfolding on_lines
no_case = refl

-- a final carriage return is dropped
returned : line_entry (codes "tick 5" ++ 13 ∷ []) ≡ Ok (Tick 5)
unfolding on_lines
returned = refl
