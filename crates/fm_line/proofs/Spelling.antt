-- The entry of a line has a spelling, if its payload has one.
use Rattle.std.proofs.Common.{◌≡◌, ℕ, ◌<◌, ◌^◌, ◌∷◌, [], List, Bool, true, false, cond, Option}
use Rattle.std.proofs.Common.{Some}
use Rattle.std.proofs.Common.{None, Result, Ok, Err, IfSome, IsTrue, refl, subst, nat_le, codes}
use Rattle.std.proofs.Common.{option_and_then, arith}
use Rattle.std.proofs.lemmas.Bool.{leb-true}
use Rattle.std.proofs.lemmas.Option.{IfSome_then}
use Rattle.serde_json.specs.Data.{Data}
use Rattle.serde_json.specs.Find.{get, as_str, as_number, as_u64}
use Rattle.fm_name.specs.Category.{category_of, is_ereport}
use Rattle.fm_name.specs.Class.{is_class}
use Rattle.fm_name.specs.Path.{is_path}
use Rattle.fm_name.specs.declared.classes.Category.TheVariants.{Ereport}
use Rattle.fm_nv.specs.Data.{Pairs, no_pairs}
use Rattle.fm_bytes.proofs.Booleans.{and_parts}
use Rattle.fm_bytes.proofs.Numerals.{numeral_spelled}
use Rattle.fm_entry.specs.declared.case_name.CaseName.{CaseName}
use Rattle.fm_entry.specs.declared.entry.Entry.{Entry}
use Rattle.fm_entry.specs.Entries.{IsSpelled, IsCaseName, is_reload}
use Rattle.fm_entry.specs.CaseText.{case_named}
use Rattle.fm_entry.proofs.CaseTexts.{case_spelled}
use Rattle.fm_entry.proofs.EntryReader.{ereport_is}
use Rattle.fm_line.specs.declared.fault.LineFault.{LineFault}
use Rattle.fm_line.specs.declared.fault.LineFault.TheVariants.{Shape, TooLong, Json}
use Rattle.fm_line.specs.Forms.{text_of, class_in, path_in, case_in, moment_in, needed, report}
use Rattle.fm_line.specs.Forms.{tick}
use Rattle.fm_line.specs.Forms.{repaired, replaced, acquit, words, words_entry, two_words}
use Rattle.fm_line.specs.Forms.{three_words}
use Rattle.fm_line.specs.Forms.{four_words, one_key, acquit_keys, replaced_keys, repaired_keys}
use Rattle.fm_line.specs.Forms.{two_keys}
use Rattle.fm_line.specs.Forms.{report_keys, four_keys, object_entry, json_of, json_entry}
use Rattle.fm_line.specs.Forms.{without_return, content_entry, line_entry}
use Rattle.fm_line.specs.Numbers.{last_moment, as_moment, moment_of_word}
use Rattle.fm_line.specs.Payload.{list_of}
use Rattle.fm_line.specs.Sound.{HasSpelledPayload}

-- an entry with a spelled payload is spelled; a fault owes nothing
abbrev SpelledOf : Result Entry LineFault → Type 0
SpelledOf (Ok entry) = HasSpelledPayload entry → IsSpelled entry
SpelledOf (Err fault) = Unit {0}

-- an entry is no reload
abbrev NoReloadOf : Result Entry LineFault → Type 0
NoReloadOf (Ok entry) = is_reload entry ≡ false
NoReloadOf (Err fault) = Unit {0}

record IsLineAnswer (result : Result Entry LineFault) : Type 0 where
  pub spelled : SpelledOf result
  pub no_reload : NoReloadOf result

fault_sound : (fault : LineFault) → IsLineAnswer (Err fault)
fault_sound fault = record { spelled = tt; no_reload = tt }

-- the class of a report
abbrev IsReportClass : List ℕ → Type 0
IsReportClass class = IsTrue (is_class class) × (category_of class ≡ Some Ereport)

abbrev IsMoment : ℕ → Type 0
IsMoment n = n < 2 ^ 62

class_sound : (text : Option (List ℕ)) → IfSome (class_in text) IsReportClass
unfolding class_in
class_sound None = tt
class_sound (Some class) =
    elim (is_ereport class) as (λ t. is_ereport class ≡ t
    → IfSome (cond t (Some class) None) IsReportClass) [
      | true ↦ λ e. let parts = and_parts (is_class class) _ e in
          (parts.0, ereport_is (category_of class) parts.1)
      | false ↦ λ e. tt
    ] refl

path_sound : (text : Option (List ℕ)) → IfSome (path_in text) (λ p. IsTrue (is_path p))
unfolding path_in
path_sound None = tt
path_sound (Some path) =
    elim (is_path path) as
    (λ t. is_path path ≡ t → IfSome (cond t (Some path) None) (λ p. IsTrue (is_path p))) [
      | true ↦ λ e. e
      | false ↦ λ e. tt
    ] refl

within_sound : (n : ℕ) → IfSome (as_moment n) IsMoment
within_sound n =
    elim (nat_le n last_moment) as (λ t. nat_le n last_moment ≡ t
    → IfSome (cond t (Some n) None) IsMoment) [
      | true ↦ λ e. let most = leb-true n last_moment e in omega arith
      | false ↦ λ e. tt
    ] refl

case_sound : (text : Option (List ℕ)) → IfSome (case_in text) IsCaseName
unfolding case_in
case_sound None = tt
case_sound (Some text) = IfSome_then (case_named text) (case_spelled text) (λ name h. h.1)

then_moment : (o : Option ℕ) → IfSome (option_and_then as_moment o) IsMoment
then_moment None = tt
then_moment (Some n) = within_sound n

moment_sound : (d : Data) → IfSome (moment_in d) IsMoment
unfolding moment_in
moment_sound d = then_moment (option_and_then as_u64 (as_number d))

word_sound : (word : List ℕ) → IfSome (moment_of_word word) IsMoment
word_sound word =
    IfSome_then (moment_of_word word) (numeral_spelled last_moment word (omega arith))
    (λ n h. let most = h.1 in omega arith)

-- where a part is missing
no_part : {fault : LineFault} → IsLineAnswer (Err fault)
no_part = record { spelled = tt; no_reload = tt }

report_sound : (c p : Option (List ℕ)) (t : Option ℕ) (y : Option Pairs) → IfSome c IsReportClass
    → IfSome p (λ p. IsTrue (is_path p)) → IfSome t IsMoment → IsLineAnswer (report c p t y)
unfolding report
report_sound None p t y hc hp ht = no_part
report_sound (Some c) None t y hc hp ht = no_part
report_sound (Some c) (Some p) None y hc hp ht = no_part
report_sound (Some c) (Some p) (Some t) None hc hp ht = no_part
report_sound (Some c) (Some p) (Some t) (Some y) hc hp ht = record {
  spelled = λ hy. record {
    moment_fits = ht;
    body = record { class_is = hc.0; category_is = hc.1; path_is = hp; payload_is = hy };
  };
  no_reload = refl;
}

tick_sound : (t : Option ℕ) → IfSome t IsMoment → IsLineAnswer (tick t)
unfolding tick
tick_sound None ht = no_part
tick_sound (Some t) ht =
    record { spelled = λ _. record { moment_fits = ht; body = tt }; no_reload = refl }

repaired_sound : (p : Option (List ℕ)) (t : Option ℕ) → IfSome p (λ p. IsTrue (is_path p))
    → IfSome t IsMoment → IsLineAnswer (repaired p t)
unfolding repaired
repaired_sound None t hp ht = no_part
repaired_sound (Some p) None hp ht = no_part
repaired_sound (Some p) (Some t) hp ht =
    record { spelled = λ _. record { moment_fits = ht; body = hp }; no_reload = refl }

replaced_sound : (p : Option (List ℕ)) (t : Option ℕ) → IfSome p (λ p. IsTrue (is_path p))
    → IfSome t IsMoment → IsLineAnswer (replaced p t)
unfolding replaced
replaced_sound None t hp ht = no_part
replaced_sound (Some p) None hp ht = no_part
replaced_sound (Some p) (Some t) hp ht =
    record { spelled = λ _. record { moment_fits = ht; body = hp }; no_reload = refl }

acquit_sound : (c : Option CaseName) (t : Option ℕ) → IfSome c IsCaseName → IfSome t IsMoment
    → IsLineAnswer (acquit c t)
unfolding acquit
acquit_sound c None hc ht = no_part
acquit_sound None (Some t) hc ht = no_part
acquit_sound (Some c) (Some t) hc ht =
    record { spelled = λ _. record { moment_fits = ht; body = hc }; no_reload = refl }

if_sound : (b : Bool) (x y : Result Entry LineFault) → IsLineAnswer x → IsLineAnswer y
    → IsLineAnswer (cond b x y)
if_sound true x y hx hy = hx
if_sound false x y hx hy = hy

needed_sound : {A : Type 0} (o : Option A) (fault : LineFault) (f : A → Result Entry LineFault)
    → ((x : A) → IsLineAnswer (f x)) → IsLineAnswer (needed o fault f)
needed_sound (Some x) fault f h = h x
needed_sound None fault f h = fault_sound fault

three_sound : (a b c : List ℕ) → IsLineAnswer (three_words a b c)
unfolding three_words
three_sound a b c =
    if_sound _ _ _ (repaired_sound (path_in (text_of b)) (moment_of_word c) (path_sound (text_of b))
    (word_sound c))
    (if_sound _ _ _ (replaced_sound (path_in (text_of b)) (moment_of_word c)
    (path_sound (text_of b)) (word_sound c))
    (if_sound _ _ _ (acquit_sound (case_in (text_of b)) (moment_of_word c) (case_sound (text_of b))
    (word_sound c)) (fault_sound Shape)))

words_sound : (ws : List (List ℕ)) → IsLineAnswer (words_entry ws)
unfolding two_words four_words
words_sound [] = fault_sound Shape
words_sound (a ∷ []) = fault_sound Shape
words_sound (a ∷ b ∷ []) =
    if_sound _ _ _ (tick_sound (moment_of_word b) (word_sound b)) (fault_sound Shape)
words_sound (a ∷ b ∷ c ∷ []) = three_sound a b c
words_sound (a ∷ b ∷ c ∷ d ∷ []) =
    if_sound _ _ _ (report_sound (class_in (text_of b)) (path_in (text_of c)) (moment_of_word d)
    (Some no_pairs) (class_sound (text_of b)) (path_sound (text_of c)) (word_sound d))
    (fault_sound Shape)
words_sound (a ∷ b ∷ c ∷ d ∷ e ∷ more) = fault_sound Shape

acquit_keys_sound : (d t : Data) → IsLineAnswer (acquit_keys d t)
unfolding acquit_keys
acquit_keys_sound d t =
    needed_sound (get (codes "acquit") d) Shape _
    (λ c. acquit_sound (case_in (as_str c)) (moment_in t) (case_sound (as_str c)) (moment_sound t))

replaced_keys_sound : (o : Option Data) (d t : Data) → IsLineAnswer (replaced_keys o d t)
unfolding replaced_keys
replaced_keys_sound (Some p) d t =
    replaced_sound (path_in (as_str p)) (moment_in t) (path_sound (as_str p)) (moment_sound t)
replaced_keys_sound None d t = acquit_keys_sound d t

repaired_keys_sound : (o : Option Data) (d t : Data) → IsLineAnswer (repaired_keys o d t)
unfolding repaired_keys
repaired_keys_sound (Some p) d t =
    repaired_sound (path_in (as_str p)) (moment_in t) (path_sound (as_str p)) (moment_sound t)
repaired_keys_sound None d t = replaced_keys_sound (get (codes "replaced") d) d t

report_keys_sound : (d : Data) (y : Option Pairs) → IsLineAnswer (report_keys d y)
unfolding report_keys
report_keys_sound d y =
    needed_sound (get (codes "class") d) Shape _
    (λ c. needed_sound (get (codes "path") d) Shape _
    (λ p. needed_sound (get (codes "time") d) Shape _ (λ t.
    report_sound (class_in (as_str c)) (path_in (as_str p)) (moment_in t) y (class_sound (as_str c))
    (path_sound (as_str p)) (moment_sound t))))

object_sound : (d : Data) → IsLineAnswer (object_entry d)
unfolding object_entry one_key two_keys four_keys
object_sound d =
    if_sound _ _ _ (needed_sound (get (codes "tick") d) Shape _
    (λ t. tick_sound (moment_in t) (moment_sound t)))
    (if_sound _ _ _ (needed_sound (get (codes "time") d) Shape _
    (λ t. repaired_keys_sound (get (codes "repaired") d) d t))
    (if_sound _ _ _ (report_keys_sound d (Some no_pairs))
    (if_sound _ _ _
    (needed_sound (get (codes "payload") d) Shape _ (λ y. report_keys_sound d (list_of y)))
    (fault_sound Shape))))

line_sound : (line : List ℕ) → IsLineAnswer (line_entry line)
unfolding line_entry content_entry json_entry
line_sound line =
    if_sound _ _ _ (fault_sound TooLong)
    (if_sound _ _ _ (needed_sound (json_of (without_return line)) Json _ object_sound)
    (words_sound (words (without_return line))))

-- the entry of a line has a spelling, if its payload has one
pub entry_spelled : (line : List ℕ) (entry : Entry) → line_entry line ≡ Ok entry
    → HasSpelledPayload entry → IsSpelled entry
entry_spelled line entry is = (subst IsLineAnswer is (line_sound line)).spelled

-- no line gives a reload
pub entry_no_reload : (line : List ℕ) (entry : Entry) → line_entry line ≡ Ok entry
    → is_reload entry ≡ false
entry_no_reload line entry is = (subst IsLineAnswer is (line_sound line)).no_reload
