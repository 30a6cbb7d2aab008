-- What is printed for an entry that a line gives reads as the entry.
use Rattle.std.proofs.Common.{◌≡◌, ℕ, ◌^◌, ◌<◌, ◌≤◌, ◌==◌, ◌++◌, ◌∷◌, [], List, Bool, true, false}
use Rattle.std.proofs.Common.{cond, length, codes, Some, None, Result, Ok, Err, OnOk, IsTrue, refl}
use Rattle.std.proofs.Common.{sym, ap, ◌∙◌, subst, arith, append_assoc, decimal}
use Rattle.std.proofs.lemmas.Bool.{le-leb, false≢true}
use Rattle.fm_bytes.proofs.Booleans.{and_true}
use Rattle.fm_line.proofs.Cutting.{positive_eqb}
use Rattle.fm_line.proofs.Spelling.{entry_spelled, entry_no_reload}
use Rattle.fm_line.specs.Sound.{HasSpelledPayload, ReadsAsJson}
use Rattle.fm_line_laws.specs.Printing.{HasReadPayload}
use Rattle.fm_line_laws.proofs.Payloads.{entry_payload}
use Rattle.fm_line.specs.declared.fault.LineFault.TheVariants.{Json}
use Rattle.serde_json.specs.Data.{Data, number, unsigned, string, object, Members, no_members}
use Rattle.serde_json.specs.Data.{member}
use Rattle.serde_json.specs.Written.{compact_text, members_text, comma_if}
use Rattle.json.specs.Print.{quoted}
use Rattle.fm_name.specs.Category.{category_of, is_ereport_category}
use Rattle.fm_name.specs.Class.{is_class}
use Rattle.fm_name.specs.Path.{is_path}
use Rattle.fm_name.specs.declared.classes.Category.TheVariants.{Ereport}
use Rattle.fm_nv.specs.Data as nv
use Rattle.fm_entry.specs.Entries.{IsCaseName, IsSpelled, is_reload}
use Rattle.fm_entry.specs.declared.case_name.CaseName.{CaseName}
use Rattle.fm_entry.specs.declared.entry.Entry.{Entry}
use Rattle.fm_entry.specs.declared.entry.Entry.TheVariants.{Report, Tick, Repaired, Replaced}
use Rattle.fm_entry.specs.declared.entry.Entry.TheVariants.{Acquit, Reload}
use Rattle.fm_entry.proofs.Graphic.{is_graphic, graphic, graphic_append, class_graphic}
use Rattle.fm_entry.proofs.Graphic.{path_graphic}
use Rattle.fm_line_laws.proofs.PlainBack.{text_of_graphic, decimal_graphic, EndsPlainly}
use Rattle.fm_line_laws.proofs.PlainBack.{ends_behind, line_is, two_is, three_is, four_is}
use Rattle.fm_entry.specs.CaseText.{case_text}
use Rattle.fm_entry.proofs.CaseTexts.{case_back}
use Rattle.fm_bytes.proofs.Numerals.{numeral_back}
use Rattle.fm_line.specs.Forms.{text_of, needed, words, words_entry, class_in, path_in, case_in}
use Rattle.fm_line.specs.Forms.{moment_in, report, tick, repaired, replaced, acquit, is_json}
use Rattle.fm_line.specs.Forms.{two_words, three_words, four_words, report_keys, four_keys}
use Rattle.fm_line.specs.Forms.{object_entry, json_of, json_entry, content_entry, line_entry}
use Rattle.fm_line.specs.Lines.{line_limit}
use Rattle.fm_line.specs.Numbers.{last_moment, as_moment, moment_of_word}
use Rattle.fm_line.specs.Payload.{list_of}
use Rattle.fm_line.specs.Printed.{payload_data, report_data, plain_report, json_report, report_line}
use Rattle.fm_line.specs.Printed.{line_text}

-- ---- parts

path_back : (path : List ℕ) → IsTrue (is_path path) → path_in (text_of path) ≡ Some path
unfolding path_in
path_back path is = ap path_in (text_of_graphic path (path_graphic path is))
    ∙ ap (λ t. cond t (Some path) None) is

class_known : (class : List ℕ) → IsTrue (is_class class) → category_of class ≡ Some Ereport
    → class_in (Some class) ≡ Some class
unfolding class_in
class_known class is category =
    ap (λ t. cond t (Some class) None)
    (and_true (is_class class) _ is (ap is_ereport_category category))

class_back : (class : List ℕ) → IsTrue (is_class class) → category_of class ≡ Some Ereport
    → class_in (text_of class) ≡ Some class
class_back class is category = ap class_in (text_of_graphic class (class_graphic class is))
    ∙ class_known class is category

path_known : (path : List ℕ) → IsTrue (is_path path) → path_in (Some path) ≡ Some path
unfolding path_in
path_known path is = ap (λ t. cond t (Some path) None) is

moment_back : (n : ℕ) → n < 2 ^ 62 → moment_of_word (decimal n) ≡ Some n
moment_back n below = numeral_back last_moment n (omega arith) (omega arith)

-- ---- entries in the plain form

tick_back : (n : ℕ) → n < 2 ^ 62 → length (codes "tick " ++ decimal n) ≤ line_limit
    → line_entry (codes "tick " ++ decimal n) ≡ Ok (Tick n)
unfolding is_json two_words tick
tick_back n below short = two_is (codes "tick") n refl (omega arith) short refl
    ∙ ap tick (moment_back n below)

repaired_back : (path : List ℕ) (n : ℕ) → IsTrue (is_path path) → n < 2 ^ 62
    → length (codes "repaired " ++ (path ++ (codes " " ++ decimal n))) ≤ line_limit
    → line_entry (codes "repaired " ++ (path ++ (codes " " ++ decimal n))) ≡ Ok (Repaired path n)
unfolding is_json three_words repaired
repaired_back path n is below short =
    three_is (codes "repaired") path n refl (path_graphic path is) (omega arith) short refl
    ∙ ap (λ p. repaired p (moment_of_word (decimal n))) (path_back path is)
    ∙ ap (repaired (Some path)) (moment_back n below)

replaced_back : (path : List ℕ) (n : ℕ) → IsTrue (is_path path) → n < 2 ^ 62
    → length (codes "replaced " ++ (path ++ (codes " " ++ decimal n))) ≤ line_limit
    → line_entry (codes "replaced " ++ (path ++ (codes " " ++ decimal n))) ≡ Ok (Replaced path n)
unfolding is_json three_words replaced
replaced_back path n is below short =
    three_is (codes "replaced") path n refl (path_graphic path is) (omega arith) short refl
    ∙ ap (λ p. replaced p (moment_of_word (decimal n))) (path_back path is)
    ∙ ap (replaced (Some path)) (moment_back n below)

report_back : (class path : List ℕ) (n : ℕ) → IsTrue (is_class class)
    → category_of class ≡ Some Ereport → IsTrue (is_path path) → n < 2 ^ 62
    → length (plain_report class path n) ≤ line_limit
    → line_entry (plain_report class path n) ≡ Ok (Report class path n nv.no_pairs)
unfolding is_json four_words report
report_back class path n is category is_p below short =
    four_is (codes "report") class path n refl (class_graphic class is) (path_graphic path is_p)
    (omega arith) short refl
    ∙ ap (λ c. report c (path_in (text_of path)) (moment_of_word (decimal n)) (Some nv.no_pairs))
    (class_back class is category)
    ∙ ap (λ p. report (Some class) p (moment_of_word (decimal n)) (Some nv.no_pairs))
    (path_back path is_p)
    ∙ ap (λ t. report (Some class) (Some path) t (Some nv.no_pairs)) (moment_back n below)

-- ---- case names

case_graphic : (name : CaseName) → IsCaseName name → IsTrue (graphic (case_text name))
case_graphic name is =
    graphic_append (codes "dx") (decimal name.module ++ 47 ∷ decimal name.case) refl
    (graphic_append (decimal name.module) (47 ∷ decimal name.case)
    (decimal_graphic name.module (omega (arith, is.module_fits)))
    (and_true (is_graphic 47) (graphic (decimal name.case)) refl
    (decimal_graphic name.case (omega (arith, is.case_fits)))))

case_in_back : (name : CaseName) → IsCaseName name → case_in (text_of (case_text name)) ≡ Some name
unfolding case_in
case_in_back name is = ap case_in (text_of_graphic (case_text name) (case_graphic name is))
    ∙ case_back name is

acquit_back : (name : CaseName) (n : ℕ) → IsCaseName name → n < 2 ^ 62
    → length (line_text (Acquit name n)) ≤ line_limit
    → line_entry (line_text (Acquit name n)) ≡ Ok (Acquit name n)
unfolding is_json three_words acquit
acquit_back name n is below short =
    let whole : codes "acquit" ++ 32 ∷ (case_text name ++ 32 ∷ decimal n)
    ≡ line_text (Acquit name n) =
    ap (λ l. codes "acquit dx" ++ l)
    (append_assoc (decimal name.module) (47 ∷ decimal name.case) (32 ∷ decimal n)) in
    ap line_entry (sym whole)
    ∙ three_is (codes "acquit") (case_text name) n refl (case_graphic name is) (omega arith)
    (subst (λ (l : List ℕ). length l ≤ line_limit) (sym whole) short) refl
    ∙ ap (λ c. acquit c (moment_of_word (decimal n))) (case_in_back name is)
    ∙ ap (acquit (Some name)) (moment_back n below)

-- ---- reports with a payload

closed : EndsPlainly (125 ∷ [])
closed = record { some = omega arith; last = refl }

members_end : (later : Bool) (ms : Members) → EndsPlainly (members_text later ms)
members_end later no_members = closed
members_end later (member k d ms) =
    ends_behind (comma_if later) (quoted k ++ 58 ∷ (compact_text d ++ members_text true ms))
    (ends_behind (quoted k) (58 ∷ (compact_text d ++ members_text true ms))
    (ends_behind (58 ∷ []) (compact_text d ++ members_text true ms)
    (ends_behind (compact_text d) (members_text true ms) (members_end true ms))))

object_ends : (ms : Members) → EndsPlainly (compact_text (object ms))
object_ends ms = ends_behind (123 ∷ []) (members_text false ms) (members_end false ms)

object_is_json : (ms : Members) → is_json (compact_text (object ms)) ≡ true
unfolding is_json
object_is_json ms = refl

report_ends : (class path : List ℕ) (n : ℕ) (ps : nv.Pairs)
    → EndsPlainly (json_report class path n ps)
report_ends class path n ps =
    object_ends (member (codes "class") (string class)
    (member (codes "path") (string path)
    (member (codes "payload") (payload_data ps)
    (member (codes "time") (number (unsigned n)) no_members))))

report_is_json : (class path : List ℕ) (n : ℕ) (ps : nv.Pairs)
    → is_json (json_report class path n ps) ≡ true
report_is_json class path n ps =
    object_is_json (member (codes "class") (string class)
    (member (codes "path") (string path)
    (member (codes "payload") (payload_data ps)
    (member (codes "time") (number (unsigned n)) no_members))))

report_said : (class path : List ℕ) (n : ℕ) (ps : nv.Pairs)
    → object_entry (report_data class path n ps)
    ≡ report (class_in (Some class)) (path_in (Some path)) (as_moment n) (list_of (payload_data ps))
unfolding object_entry four_keys report_keys moment_in
report_said class path n ps = refl

below_is : (n : ℕ) → n < 2 ^ 62 → as_moment n ≡ Some n
below_is n below = ap (λ t. cond t (Some n) None) (le-leb n last_moment (omega arith))

json_line : (line : List ℕ) (d : Data) → length line ≤ line_limit → EndsPlainly line
    → is_json line ≡ true → json_of line ≡ Some d → line_entry line ≡ object_entry d
unfolding content_entry json_entry
json_line line d short ends json said =
    line_is line short ends ∙ ap (λ t. cond t (json_entry line) (words_entry (words line))) json
    ∙ ap (λ o. needed o Json object_entry) said

json_back : (class path : List ℕ) (n : ℕ) (ps : nv.Pairs) → IsTrue (is_class class)
    → category_of class ≡ Some Ereport → IsTrue (is_path path) → n < 2 ^ 62
    → list_of (payload_data ps) ≡ Some ps
    → json_of (json_report class path n ps) ≡ Some (report_data class path n ps)
    → length (json_report class path n ps) ≤ line_limit
    → line_entry (json_report class path n ps) ≡ Ok (Report class path n ps)
unfolding report
json_back class path n ps is category is_p below own said short =
    json_line (json_report class path n ps) (report_data class path n ps) short
    (report_ends class path n ps) (report_is_json class path n ps) said
    ∙ report_said class path n ps
    ∙ ap (λ c. report c (path_in (Some path)) (as_moment n) (list_of (payload_data ps)))
    (class_known class is category)
    ∙ ap (λ p. report (Some class) p (as_moment n) (list_of (payload_data ps)))
    (path_known path is_p)
    ∙ ap (λ t. report (Some class) (Some path) t (list_of (payload_data ps))) (below_is n below)
    ∙ ap (report (Some class) (Some path) (Some n)) own

-- ---- entries

report_line_back : (class path : List ℕ) (n : ℕ) (ps : nv.Pairs)
    → IsSpelled (Report class path n ps) → HasReadPayload (Report class path n ps)
    → ReadsAsJson (Report class path n ps)
    → length (report_line class path n ps) ≤ line_limit
    → line_entry (report_line class path n ps) ≡ Ok (Report class path n ps)
report_line_back class path n nv.no_pairs is own said short =
    report_back class path n is.body.class_is is.body.category_is is.body.path_is is.moment_fits
    short
report_line_back class path n (nv.pair k d ps) is own said short =
    let some : (nv.count (nv.pair k d ps) == 0) ≡ false =
    positive_eqb (nv.count (nv.pair k d ps)) (omega arith) in
    let line : report_line class path n (nv.pair k d ps)
    ≡ json_report class path n (nv.pair k d ps) =
    ap (λ t. cond t (plain_report class path n) (json_report class path n (nv.pair k d ps))) some in
    ap line_entry line
    ∙ json_back class path n (nv.pair k d ps) is.body.class_is is.body.category_is is.body.path_is
    is.moment_fits own (said some)
    (subst (λ (l : List ℕ). length l ≤ line_limit) line short)

entry_back : (entry : Entry) → is_reload entry ≡ false → IsSpelled entry → HasReadPayload entry
    → ReadsAsJson entry → length (line_text entry) ≤ line_limit
    → line_entry (line_text entry) ≡ Ok entry
entry_back (Report class path moment payload) line is own said short =
    report_line_back class path moment payload is own said short
entry_back (Tick moment) line is own said short = tick_back moment is.moment_fits short
entry_back (Repaired path moment) line is own said short =
    repaired_back path moment is.body is.moment_fits short
entry_back (Replaced path moment) line is own said short =
    replaced_back path moment is.body is.moment_fits short
entry_back (Acquit case moment) line is own said short =
    acquit_back case moment is.body is.moment_fits short
entry_back (Reload conf moment) line is own said short = absurd (false≢true (sym line))

-- what is printed for the entry of a line reads as the entry
pub line_back : (line : List ℕ) (entry : Entry) → line_entry line ≡ Ok entry
    → HasSpelledPayload entry → ReadsAsJson entry → length (line_text entry) ≤ line_limit
    → line_entry (line_text entry) ≡ Ok entry
line_back line entry is spelled said short =
    entry_back entry (entry_no_reload line entry is) (entry_spelled line entry is spelled)
    (entry_payload line entry is) said short

-- what follows where a call succeeded
pub ok_then : {A E : Type 0} (P Q : Type 0) (result : Result A E) → OnOk result P → (P → Q)
    → OnOk result Q
ok_then P Q (Ok done) h next = next h
ok_then P Q (Err fault) h next = tt
