-- What a line says, by cases: when it has each of the faults, and when it says an entry.
use Rattle.std.specs.Prelude.{ℕ, ◌≡◌, ◌<◌, ◌≤◌, List, [], ◌∷◌, length, codes, true, false, Option}
use Rattle.std.specs.Prelude.{Some, None, Result, Ok, Err}
use Rattle.serde_json.specs.Data.{Data}
use Rattle.serde_json.specs.Find.{get, as_str}
use Rattle.fm_nv.specs.Data.{Pairs, no_pairs}
use Rattle.fm_entry.specs.declared.case_name.CaseName.{CaseName}
use Rattle.fm_entry.specs.declared.entry.Entry.{Entry}
use Rattle.fm_entry.specs.declared.entry.Entry.TheVariants.{Report, Tick, Repaired, Replaced}
use Rattle.fm_entry.specs.declared.entry.Entry.TheVariants.{Acquit, Reload}
use Rattle.fm_line.specs.Forms.{text_of, class_in, path_in, case_in, moment_in, words, key_count}
use Rattle.fm_line.specs.Forms.{json_of, is_json, without_return}
use Rattle.fm_line.specs.Lines.{line_limit}
use Rattle.fm_line.specs.Numbers.{moment_of_word}
use Rattle.fm_line.specs.Payload.{list_of}
use Rattle.fm_line.specs.declared.fault.LineFault.{LineFault}
use Rattle.fm_line.specs.declared.fault.LineFault.TheVariants.{Json, Shape, Class, Path, Time}
use Rattle.fm_line.specs.declared.fault.LineFault.TheVariants.{Value, TooLong}

-- ---- the forms

-- the form that a line has, with its parts: each is there, or what stands in its place is no such
-- part
pub data Form : Type 0 where
  AReport : (class path : Option (List ℕ)) (moment : Option ℕ) (payload : Option Pairs) → Form
  ATick : (moment : Option ℕ) → Form
  ARepair : (path : Option (List ℕ)) (moment : Option ℕ) → Form
  AReplacement : (path : Option (List ℕ)) (moment : Option ℕ) → Form
  AnAcquittal : (case : Option CaseName) (moment : Option ℕ) → Form

-- the plain form: the first word and the number of the words say which; a report has no pairs
pub data HasWords : List (List ℕ) → Form → Type 0 where
  report_words : (class path moment : List ℕ)
      → HasWords (codes "report" ∷ class ∷ path ∷ moment ∷ [])
      (AReport (class_in (text_of class)) (path_in (text_of path)) (moment_of_word moment)
      (Some no_pairs))
  tick_words : (moment : List ℕ)
      → HasWords (codes "tick" ∷ moment ∷ []) (ATick (moment_of_word moment))
  repair_words : (path moment : List ℕ)
      → HasWords (codes "repaired" ∷ path ∷ moment ∷ [])
      (ARepair (path_in (text_of path)) (moment_of_word moment))
  replacement_words : (path moment : List ℕ)
      → HasWords (codes "replaced" ∷ path ∷ moment ∷ [])
      (AReplacement (path_in (text_of path)) (moment_of_word moment))
  acquittal_words : (case moment : List ℕ)
      → HasWords (codes "acquit" ∷ case ∷ moment ∷ [])
      (AnAcquittal (case_in (text_of case)) (moment_of_word moment))

-- the JSON form: the object has the keys that are named and, as it has so many, no other
pub data HasKeys (d : Data) : Form → Type 0 where
  report_object : (class path moment : Data) → key_count d ≡ 3 → get (codes "class") d ≡ Some class
      → get (codes "path") d ≡ Some path → get (codes "time") d ≡ Some moment
      → HasKeys d (AReport (class_in (as_str class)) (path_in (as_str path)) (moment_in moment)
      (Some no_pairs))
  payload_object : (class path moment payload : Data) → key_count d ≡ 4
      → get (codes "class") d ≡ Some class → get (codes "path") d ≡ Some path
      → get (codes "time") d ≡ Some moment → get (codes "payload") d ≡ Some payload
      → HasKeys d (AReport (class_in (as_str class)) (path_in (as_str path)) (moment_in moment)
      (list_of payload))
  tick_object : (moment : Data) → key_count d ≡ 1 → get (codes "tick") d ≡ Some moment
      → HasKeys d (ATick (moment_in moment))
  repair_object : (path moment : Data) → key_count d ≡ 2 → get (codes "repaired") d ≡ Some path
      → get (codes "time") d ≡ Some moment
      → HasKeys d (ARepair (path_in (as_str path)) (moment_in moment))
  replacement_object : (path moment : Data) → key_count d ≡ 2 → get (codes "replaced") d ≡ Some path
      → get (codes "time") d ≡ Some moment
      → HasKeys d (AReplacement (path_in (as_str path)) (moment_in moment))
  acquittal_object : (case moment : Data) → key_count d ≡ 2 → get (codes "acquit") d ≡ Some case
      → get (codes "time") d ≡ Some moment
      → HasKeys d (AnAcquittal (case_in (as_str case)) (moment_in moment))

-- the form of a line that has lost its carriage return
pub data HasLineForm (content : List ℕ) (form : Form) : Type 0 where
  in_words : is_json content ≡ false → HasWords (words content) form → HasLineForm content form
  in_json : (d : Data) → is_json content ≡ true → json_of content ≡ Some d → HasKeys d form
      → HasLineForm content form

-- it begins as JSON and can't be read as JSON
abbrev pub IsBroken : List ℕ → Type 0
IsBroken content = (is_json content ≡ true) × (json_of content ≡ None)

-- ---- the first part that is not there

-- a report's class comes first
abbrev pub LacksClass : Form → Type 0
LacksClass (AReport None path moment payload) = Unit {0}
LacksClass _ = ⊥

-- then the path
abbrev pub LacksPath : Form → Type 0
LacksPath (AReport (Some class) None moment payload) = Unit {0}
LacksPath (ARepair None moment) = Unit {0}
LacksPath (AReplacement None moment) = Unit {0}
LacksPath _ = ⊥

-- then the moment
abbrev pub LacksTime : Form → Type 0
LacksTime (AReport (Some class) (Some path) None payload) = Unit {0}
LacksTime (ATick None) = Unit {0}
LacksTime (ARepair (Some path) None) = Unit {0}
LacksTime (AReplacement (Some path) None) = Unit {0}
LacksTime (AnAcquittal case None) = Unit {0}
LacksTime _ = ⊥

-- and last a report's payload or the case name of an acquittal
abbrev pub LacksValue : Form → Type 0
LacksValue (AReport (Some class) (Some path) (Some moment) None) = Unit {0}
LacksValue (AnAcquittal None (Some moment)) = Unit {0}
LacksValue _ = ⊥

-- the form that has every part of the entry; a reload has none
abbrev pub form_of : Entry → Option Form
form_of (Report class path moment payload) =
    Some (AReport (Some class) (Some path) (Some moment) (Some payload))
form_of (Tick moment) = Some (ATick (Some moment))
form_of (Repaired path moment) = Some (ARepair (Some path) (Some moment))
form_of (Replaced path moment) = Some (AReplacement (Some path) (Some moment))
form_of (Acquit case moment) = Some (AnAcquittal (Some case) (Some moment))
form_of (Reload conf moment) = None

-- ---- what a line says

-- each fault with its condition, and the entry; the length counts the final carriage return
pub data Says (line : List ℕ) : Result Entry LineFault → Type 0 where
  too_long : line_limit < length line → Says line (Err TooLong)
  no_json : length line ≤ line_limit → IsBroken (without_return line) → Says line (Err Json)
  no_form : length line ≤ line_limit → (IsBroken (without_return line) → ⊥)
      → ((form : Form) → HasLineForm (without_return line) form → ⊥) → Says line (Err Shape)
  no_class : (form : Form) → length line ≤ line_limit → HasLineForm (without_return line) form
      → LacksClass form → Says line (Err Class)
  no_path : (form : Form) → length line ≤ line_limit → HasLineForm (without_return line) form
      → LacksPath form → Says line (Err Path)
  no_time : (form : Form) → length line ≤ line_limit → HasLineForm (without_return line) form
      → LacksTime form → Says line (Err Time)
  no_value : (form : Form) → length line ≤ line_limit → HasLineForm (without_return line) form
      → LacksValue form → Says line (Err Value)
  entry : (said : Entry) (form : Form) → form_of said ≡ Some form → length line ≤ line_limit
      → HasLineForm (without_return line) form → Says line (Ok said)
