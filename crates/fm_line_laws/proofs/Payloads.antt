-- The payload of a line's entry is what its own JSON says.
use Rattle.std.proofs.Common.{◌≡◌, List, ℕ, Option, Some, None, Result, Ok, Err, IfSome, refl, sym}
use Rattle.std.proofs.Common.{subst}
use Rattle.std.proofs.Common.{option_and_then, codes}
use Rattle.serde_json.specs.Data.{Data}
use Rattle.serde_json.specs.Find.{get}
use Rattle.serde_json.specs.Read.{read}
use Rattle.fm_nv.specs.Data.{Pairs, no_pairs}
use Rattle.fm_bytes.proofs.Readers.{some_same}
use Rattle.fm_entry.specs.declared.entry.Entry.{Entry}
use Rattle.fm_entry.specs.declared.entry.Entry.TheVariants.{Report, Tick, Repaired, Replaced}
use Rattle.fm_entry.specs.declared.entry.Entry.TheVariants.{Acquit, Reload}
use Rattle.fm_line.specs.Forms.{text_of, json_of, line_entry, without_return, words}
use Rattle.fm_line.specs.Payload.{list_of}
use Rattle.fm_line.specs.declared.fault.LineFault.{LineFault}
use Rattle.fm_line.specs.Printed.{payload_data}
use Rattle.fm_line_laws.specs.Cases.{Form, AReport}
use Rattle.fm_line_laws.specs.Cases.{HasWords}
use Rattle.fm_line_laws.specs.Cases.{report_words, tick_words, repair_words, replacement_words}
use Rattle.fm_line_laws.specs.Cases.{acquittal_words, HasLineForm, in_words, in_json, HasKeys}
use Rattle.fm_line_laws.specs.Cases.{report_object}
use Rattle.fm_line_laws.specs.Cases.{payload_object, tick_object, repair_object, replacement_object}
use Rattle.fm_line_laws.specs.Cases.{acquittal_object, form_of, Says, too_long, no_json, no_form}
use Rattle.fm_line_laws.specs.Cases.{no_class, no_path, no_time, no_value, entry}
use Rattle.fm_line_laws.specs.Printing.{HasReadPayload}
use Rattle.fm_line_laws.proofs.Cases.{says_entry}
use Rattle.fm_line_laws.proofs.Reading.{IsRead, get_read, read_read}
use Rattle.fm_line_laws.proofs.PayloadBack.{payload_again}

-- the payload of a form, where it has one, is of no pairs or of a value that was read
pub data IsSource (ps : Pairs) : Type 0 where
  of_none : ps ≡ no_pairs → IsSource ps
  of_value : (d : Data) → IsRead d → list_of d ≡ Some ps → IsSource ps

abbrev FormSource : Form → Type 0
FormSource (AReport class path moment payload) = IfSome payload IsSource
FormSource _ = Unit {0}

list_source : (d : Data) (o : Option Pairs) → IsRead d → list_of d ≡ o → IfSome o IsSource
list_source d None h is = tt
list_source d (Some ps) h is = of_value d h is

found_read : (k : List ℕ) (d y : Data) → IsRead d → get k d ≡ Some y → IsRead y
found_read k d y h is = subst (λ (o : Option Data). IfSome o IsRead) is (get_read k d h)

keys_source : (d : Data) (f : Form) → IsRead d → HasKeys d f → FormSource f
keys_source d f h (report_object c p t n fc fp ft) = of_none refl
keys_source d f h (payload_object c p t y n fc fp ft fy) =
    list_source y (list_of y) (found_read (codes "payload") d y h fy) refl
keys_source d f h (tick_object t n ft) = tt
keys_source d f h (repair_object p t n fp ft) = tt
keys_source d f h (replacement_object p t n fp ft) = tt
keys_source d f h (acquittal_object c t n fc ft) = tt

words_source : (ws : List (List ℕ)) (f : Form) → HasWords ws f → FormSource f
words_source ws f (report_words c p t) = of_none refl
words_source ws f (tick_words t) = tt
words_source ws f (repair_words p t) = tt
words_source ws f (replacement_words p t) = tt
words_source ws f (acquittal_words c t) = tt

text_read : (text : Option (List ℕ)) → IfSome (option_and_then read text) IsRead
text_read None = tt
text_read (Some text) = read_read text

json_read : (line : List ℕ) → IfSome (json_of line) IsRead
unfolding json_of
json_read line = text_read (text_of line)

form_source : (content : List ℕ) (f : Form) → HasLineForm content f → FormSource f
form_source content f (in_words is has) = words_source (words content) f has
form_source content f (in_json d is said has) =
    keys_source d f (subst (λ (o : Option Data). IfSome o IsRead) said (json_read content)) has

-- what is said of the payload of an entry
abbrev pub EntrySource : Entry → Type 0
EntrySource (Report class path moment payload) = IsSource payload
EntrySource _ = Unit {0}

source_of : (e : Entry) (f : Form) → form_of e ≡ Some f → FormSource f → EntrySource e
source_of (Report c p t y) f is h =
    subst FormSource (sym (some_same (AReport (Some c) (Some p) (Some t) (Some y)) f is)) h
source_of (Tick t) f is h = tt
source_of (Repaired p t) f is h = tt
source_of (Replaced p t) f is h = tt
source_of (Acquit c t) f is h = tt
source_of (Reload c t) f is h = tt

abbrev AnswerSource : Result Entry LineFault → Type 0
AnswerSource (Ok e) = EntrySource e
AnswerSource (Err fault) = Unit {0}

said_source : (line : List ℕ) (r : Result Entry LineFault) → Says line r → AnswerSource r
said_source line r (too_long long) = tt
said_source line r (no_json short b) = tt
said_source line r (no_form short unbroken none) = tt
said_source line r (no_class f short has lacks) = tt
said_source line r (no_path f short has lacks) = tt
said_source line r (no_time f short has lacks) = tt
said_source line r (no_value f short has lacks) = tt
said_source line r (entry e f is short has) =
    source_of e f is (form_source (without_return line) f has)

-- the payload of a line's entry is of no pairs or of a value that was read
pub entry_source : (line : List ℕ) (e : Entry) → line_entry line ≡ Ok e → EntrySource e
entry_source line e is =
    subst AnswerSource is (said_source line (line_entry line) (says_entry line))

source_own : (ps : Pairs) → IsSource ps → list_of (payload_data ps) ≡ Some ps
source_own ps (of_none is) =
    subst (λ (qs : Pairs). list_of (payload_data qs) ≡ Some qs) (sym is) refl
source_own ps (of_value d h is) = payload_again d ps h is

own_payload : (e : Entry) → EntrySource e → HasReadPayload e
own_payload (Report c p t y) h = source_own y h
own_payload (Tick t) h = tt
own_payload (Repaired p t) h = tt
own_payload (Replaced p t) h = tt
own_payload (Acquit c t) h = tt
own_payload (Reload c t) h = tt

-- the payload of a line's entry is what its own JSON says
pub entry_payload : (line : List ℕ) (e : Entry) → line_entry line ≡ Ok e → HasReadPayload e
entry_payload line e is = own_payload e (entry_source line e is)
