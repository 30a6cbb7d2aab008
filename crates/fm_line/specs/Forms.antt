-- The entry that a line says, or its first fault: the forms of a line, over its bytes.
use Rattle.std.specs.Prelude.{ℕ, ◌-◌, ◌==◌, ◌&&◌, not, Bool, false, List, [], ◌∷◌, length}
use Rattle.std.specs.Prelude.{take, codes, slice_index, nat_lt, find, if◌then◌else◌, Option, Some}
use Rattle.std.specs.Prelude.{None, option_and_then, Result, Ok, Err, bytes_eq}
use Rattle.std.specs.List.{slice_split}
use Rattle.std.specs.Str.{is_utf8}
use Rattle.serde_json.specs.Data.{Data, null, boolean, number, string, array, object}
use Rattle.serde_json.specs.Events.{members_len}
use Rattle.serde_json.specs.Find.{get, as_str, as_number, as_u64}
use Rattle.serde_json.specs.Read.{read}
use Rattle.fm_name.specs.Category.{is_ereport}
use Rattle.fm_name.specs.Path.{is_path}
use Rattle.fm_nv.specs.Data.{Pairs, no_pairs}
use Rattle.fm_entry.specs.declared.case_name.CaseName.{CaseName}
use Rattle.fm_entry.specs.declared.entry.Entry.{Entry}
use Rattle.fm_entry.specs.declared.entry.Entry.TheVariants.{Report, Tick, Repaired, Replaced}
use Rattle.fm_entry.specs.declared.entry.Entry.TheVariants.{Acquit}
use Rattle.fm_entry.specs.CaseText.{case_named}
use Rattle.fm_line.specs.Blank.{is_blank}
use Rattle.fm_line.specs.Lines.{line_limit}
use Rattle.fm_line.specs.Numbers.{as_moment, moment_of_word}
use Rattle.fm_line.specs.Payload.{list_of}
use Rattle.fm_line.specs.declared.fault.LineFault.{LineFault}
use Rattle.fm_line.specs.declared.fault.LineFault.TheVariants.{Json, Shape, Class, Path, Time}
use Rattle.fm_line.specs.declared.fault.LineFault.TheVariants.{Value, TooLong}

-- ---- the parts of an entry, each found or not

-- the text that some bytes are
unfoldable pub text_of : List ℕ → Option (List ℕ)
text_of bytes = if is_utf8 bytes then Some bytes else None

-- the class of a report
unfoldable pub class_in : Option (List ℕ) → Option (List ℕ)
class_in text = option_and_then (λ class. if is_ereport class then Some class else None) text

-- a path
unfoldable pub path_in : Option (List ℕ) → Option (List ℕ)
path_in text = option_and_then (λ path. if is_path path then Some path else None) text

-- a case name
unfoldable pub case_in : Option (List ℕ) → Option CaseName
case_in text = option_and_then case_named text

-- a moment, as a JSON value: an integer
unfoldable pub moment_in : Data → Option ℕ
moment_in d = option_and_then as_moment (option_and_then as_u64 (as_number d))

-- ---- the entries, each of its parts, and the fault of the first part that is not there

-- what comes of a part that is needed
abbrev pub needed : {A B : Type 0} → Option A → LineFault → (A → Result B LineFault)
    → Result B LineFault
needed (Some x) fault next = next x
needed None fault next = Err fault

unfoldable pub report : Option (List ℕ) → Option (List ℕ) → Option ℕ → Option Pairs
    → Result Entry LineFault
report class path moment payload =
    needed class Class (λ c.
    needed path Path (λ p.
    needed moment Time (λ t. needed payload Value (λ y. Ok (Report c p t y)))))

unfoldable pub tick : Option ℕ → Result Entry LineFault
tick moment = needed moment Time (λ t. Ok (Tick t))

unfoldable pub repaired : Option (List ℕ) → Option ℕ → Result Entry LineFault
repaired path moment = needed path Path (λ p. needed moment Time (λ t. Ok (Repaired p t)))

unfoldable pub replaced : Option (List ℕ) → Option ℕ → Result Entry LineFault
replaced path moment = needed path Path (λ p. needed moment Time (λ t. Ok (Replaced p t)))

unfoldable pub acquit : Option CaseName → Option ℕ → Result Entry LineFault
acquit case moment = needed moment Time (λ t. needed case Value (λ c. Ok (Acquit c t)))

-- ---- the plain form: words with one space between them

abbrev pub is_space : ℕ → Bool
is_space b = b == 32

-- the words of a line; two spaces side by side have an empty word between them
unfoldable pub words : List ℕ → List (List ℕ)
words line = slice_split is_space line

-- the words after the first, in what stands after the space that ends it, if one does
abbrev pub words_after : Option (List ℕ) → List (List ℕ)
words_after None = []
words_after (Some rest) = words rest

unfoldable pub two_words : List ℕ → List ℕ → Result Entry LineFault
two_words first moment =
    if bytes_eq first (codes "tick") then tick (moment_of_word moment) else Err Shape

unfoldable pub three_words : List ℕ → List ℕ → List ℕ → Result Entry LineFault
three_words first what moment =
    if bytes_eq first (codes "repaired") then repaired (path_in (text_of what))
    (moment_of_word moment)
    else (if bytes_eq first (codes "replaced") then replaced (path_in (text_of what))
    (moment_of_word moment)
    else (if bytes_eq first (codes "acquit") then acquit (case_in (text_of what))
    (moment_of_word moment)
    else Err Shape))

unfoldable pub four_words : List ℕ → List ℕ → List ℕ → List ℕ → Result Entry LineFault
four_words first class path moment =
    if bytes_eq first (codes "report") then report (class_in (text_of class))
    (path_in (text_of path)) (moment_of_word moment) (Some no_pairs)
    else Err Shape

-- by the number of words
abbrev pub words_entry : List (List ℕ) → Result Entry LineFault
words_entry [] = Err Shape
words_entry (a ∷ []) = Err Shape
words_entry (a ∷ b ∷ []) = two_words a b
words_entry (a ∷ b ∷ c ∷ []) = three_words a b c
words_entry (a ∷ b ∷ c ∷ d ∷ []) = four_words a b c d
words_entry (a ∷ b ∷ c ∷ d ∷ e ∷ more) = Err Shape

-- ---- the JSON form: an object with exactly the keys of one entry

-- how many keys an object has, each once
abbrev pub key_count : Data → ℕ
key_count null = 0
key_count (boolean b) = 0
key_count (number n) = 0
key_count (string s) = 0
key_count (array ds) = 0
key_count (object ms) = members_len ms

-- one key: `tick`
unfoldable pub one_key : Data → Result Entry LineFault
one_key d = needed (get (codes "tick") d) Shape (λ t. tick (moment_in t))

-- two keys: `acquit` and `time`
unfoldable pub acquit_keys : Data → Data → Result Entry LineFault
acquit_keys d t = needed (get (codes "acquit") d) Shape
    (λ c. acquit (case_in (as_str c)) (moment_in t))

-- two keys: `replaced` and `time`, or those of an acquittal
unfoldable pub replaced_keys : Option Data → Data → Data → Result Entry LineFault
replaced_keys (Some p) d t = replaced (path_in (as_str p)) (moment_in t)
replaced_keys None d t = acquit_keys d t

-- two keys: `repaired` and `time`, or those of the others
unfoldable pub repaired_keys : Option Data → Data → Data → Result Entry LineFault
repaired_keys (Some p) d t = repaired (path_in (as_str p)) (moment_in t)
repaired_keys None d t = replaced_keys (get (codes "replaced") d) d t

unfoldable pub two_keys : Data → Result Entry LineFault
two_keys d = needed (get (codes "time") d) Shape (λ t. repaired_keys (get (codes "repaired") d) d t)

-- the keys `class`, `path` and `time`, with the payload that stands beside them
unfoldable pub report_keys : Data → Option Pairs → Result Entry LineFault
report_keys d payload =
    needed (get (codes "class") d) Shape
    (λ c. needed (get (codes "path") d) Shape (λ p. needed (get (codes "time") d) Shape (λ t.
    report (class_in (as_str c)) (path_in (as_str p)) (moment_in t) payload)))

-- four keys: those and `payload`
unfoldable pub four_keys : Data → Result Entry LineFault
four_keys d = needed (get (codes "payload") d) Shape (λ y. report_keys d (list_of y))

-- by the number of keys; what is no object has none
unfoldable pub object_entry : Data → Result Entry LineFault
object_entry d =
    if key_count d == 1 then one_key d
    else (if key_count d == 2 then two_keys d
    else (if key_count d == 3 then report_keys d (Some no_pairs)
    else (if key_count d == 4 then four_keys d
    else Err Shape)))

-- the value that the bytes are as JSON
unfoldable pub json_of : List ℕ → Option Data
json_of line = option_and_then read (text_of line)

unfoldable pub json_entry : List ℕ → Result Entry LineFault
json_entry line = needed (json_of line) Json object_entry

-- ---- a line

-- the line without its final carriage return
unfoldable pub without_return : List ℕ → List ℕ
without_return line =
    if nat_lt 0 (length line) && (slice_index line (length line - 1) == 13) then take
    (length line - 1) line else line

-- a byte that is no blank
abbrev pub is_inked : ℕ → Bool
is_inked b = not (is_blank b)

-- the byte opens an object
abbrev pub opens_object : Option ℕ → Bool
opens_object None = false
opens_object (Some b) = b == 123

-- the JSON form begins with an object, blanks before it aside
unfoldable pub is_json : List ℕ → Bool
is_json line = opens_object (find is_inked line)

unfoldable pub content_entry : List ℕ → Result Entry LineFault
content_entry line = if is_json line then json_entry line else words_entry (words line)

-- the entry of a line, or the first of its faults: the length counts the final carriage return,
-- which is dropped then
unfoldable pub line_entry : List ℕ → Result Entry LineFault
line_entry line = if nat_lt line_limit (length line) then Err TooLong else content_entry
    (without_return line)
