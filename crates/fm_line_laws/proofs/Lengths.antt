-- What is printed for the entry of a line is no longer than the line.
use Rattle.std.proofs.Common.{nat_le}
use Rattle.std.proofs.Common.{◌≡◌, ℕ, ◌+◌, ◌-◌, ◌<◌, ◌≤◌, ◌==◌, ◌∷◌, ◌++◌, [], List, Bool}
use Rattle.std.proofs.Common.{true, false, cond, length, take, codes, decimal, Option, Some, None}
use Rattle.std.proofs.Common.{Result, Ok, Err, IfSome, Ordering, Less, Equal, Greater, nat_cmp}
use Rattle.std.proofs.Common.{option_and_then, bytes_eq, nat_lt, refl, ap, ◌∙◌, subst, arith}
use Rattle.std.specs.List.{slice_split, onto_first}
use Rattle.std.specs.Ordering.{match_ordering}
use Rattle.std.specs.Cmp.Lexicographic.{slice_cmp}
use Rattle.std.proofs.lemmas.Bool.{ltb-false, false≢true}
use Rattle.std.proofs.lemmas.List.{length-append, length-take}
use Rattle.std.proofs.lemmas.List.Splits.{slice_split-cons_yes, slice_split-cons_no}
use Rattle.std.proofs.lemmas.List.Splits.{length-slice_split}
use Rattle.std.proofs.lemmas.Map.Lookups.{exact_bytes}
use Rattle.std.proofs.lemmas.Slice.Eq.{bytes_eq-Decides}
use Rattle.std.specs.Prelude.{⊤}
use Rattle.json.specs.Json as json
use Rattle.json.specs.Lex.{tokens}
use Rattle.json.specs.Print.{escape_letter, escape_byte, escape, quoted}
use Rattle.serde_json.specs.Data.{Num, unsigned, negative, float, Data, null, boolean, number}
use Rattle.serde_json.specs.Data.{string, array, object, Members, no_members, member}
use Rattle.serde_json.specs.Find.{get_member, as_str, as_u64}
use Rattle.serde_json.specs.Read.{read, of_json, max_depth}
use Rattle.serde_json.specs.Written.{compact_text}
use Rattle.fm_name.specs.Category.{is_ereport}
use Rattle.fm_name.specs.Path.{is_path}
use Rattle.fm_nv.specs.Data as nv
use Rattle.fm_entry.specs.declared.case_name.CaseName.{CaseName}
use Rattle.fm_entry.specs.declared.entry.Entry.{Entry}
use Rattle.fm_line.specs.declared.fault.LineFault.{LineFault}
use Rattle.fm_line.specs.declared.fault.LineFault.TheVariants.{Json, Shape, Class, Path, Time}
use Rattle.fm_line.specs.declared.fault.LineFault.TheVariants.{Value, TooLong}
use Rattle.fm_entry.specs.CaseText.{case_text, case_named}
use Rattle.fm_entry.proofs.CaseTexts.{case_spelled}
use Rattle.fm_bytes.proofs.Numerals.{numeral_spelled}
use Rattle.std.proofs.lemmas.Option.{IfSome_then}
use Rattle.fm_line.specs.Forms.{text_of, class_in, path_in, case_in, moment_in, needed, report}
use Rattle.fm_line.specs.Forms.{tick, repaired, replaced, acquit, is_space, words, words_entry}
use Rattle.fm_line.specs.Forms.{two_words, three_words, four_words, key_count, one_key, acquit_keys}
use Rattle.fm_line.specs.Forms.{replaced_keys, repaired_keys, two_keys, report_keys, four_keys}
use Rattle.fm_line.specs.Forms.{object_entry, json_of, json_entry, without_return, is_json}
use Rattle.fm_line.specs.Forms.{content_entry, line_entry}
use Rattle.fm_line.specs.Lines.{line_limit}
use Rattle.fm_line.specs.Numbers.{last_moment, as_moment, moment_of_word}
use Rattle.fm_line.specs.Payload.{list_of}
use Rattle.fm_line_laws.specs.Printing.{IsShortest}
use Rattle.fm_line.specs.Printed.{payload_data, plain_report, json_report, line_text}
use Rattle.fm_line_laws.proofs.Reading.{IsRead, get_read, read_read, then_read}
use Rattle.fm_line_laws.proofs.PayloadBack.{list_back}
use Rattle.fm_line_laws.proofs.Sized.{size, value_size}
use Rattle.fm_line_laws.proofs.Compact.{total, object_total, object_length, value_compact}
use Rattle.fm_line_laws.proofs.Escaped.{chosen}

-- ---- numbers and case names

second : (a b c : Bool) → cond a false (cond b c false) ≡ true → b ≡ true
second true b c h = absurd (false≢true h)
second false true c h = refl
second false false c h = h

if_found : {A : Type 0} (P : A → Type 0) (b : Bool) (o : Option A) → (b ≡ true → IfSome o P)
    → IfSome (cond b o None) P
if_found P true o f = f refl
if_found P false o f = tt

moment_kept : (P : ℕ → Type 0) (n : ℕ) → P n → IfSome (as_moment n) P
moment_kept P n h = if_found P (nat_le n last_moment) (Some n) (λ e. h)

-- a number is written in no more digits than a word that reads as it
abbrev IsWritten : ℕ → ℕ → Type 0
IsWritten length_of n = length (decimal n) ≤ length_of

word_written : (word : List ℕ) → IfSome (moment_of_word word) (IsWritten (length word))
word_written word =
    IfSome_then (moment_of_word word) (numeral_spelled last_moment word (omega arith))
    (λ n h. omega (arith, ap length h.0))

-- ---- case names

-- the text of a case name
abbrev IsCaseWritten : ℕ → CaseName → Type 0
IsCaseWritten n c = length (decimal c.module) + length (decimal c.case) + 3 ≤ n

wider : (c : Option CaseName) (m n : ℕ) → IfSome c (IsCaseWritten m) → m ≤ n
    → IfSome c (IsCaseWritten n)
wider None m n h le = tt
wider (Some c) m n h le = omega (arith, h, le)

text_written : (text : List ℕ) (name : CaseName) → text ≡ case_text name
    → IsCaseWritten (length text) name
text_written text name same =
    omega (arith, ap length same, length-append (decimal name.module) (47 ∷ decimal name.case))

case_written : (text : List ℕ) → IfSome (case_named text) (IsCaseWritten (length text))
case_written text = IfSome_then (case_named text) (case_spelled text)
    (λ name h. text_written text name h.0)

-- ---- the parts of an entry

abbrev IsWithin : ℕ → List ℕ → Type 0
IsWithin n s = length s ≤ n

text_within : (bytes : List ℕ) → IfSome (text_of bytes) (IsWithin (length bytes))
unfolding text_of
text_within bytes = if_found (IsWithin (length bytes)) _ (Some bytes) (λ e. omega arith)

class_within : (P : List ℕ → Type 0) (o : Option (List ℕ)) → IfSome o P → IfSome (class_in o) P
unfolding class_in
class_within P o h = then_read P P _ o h (λ c hc. if_found P (is_ereport c) (Some c) (λ e. hc))

path_within : (P : List ℕ → Type 0) (o : Option (List ℕ)) → IfSome o P → IfSome (path_in o) P
unfolding path_in
path_within P o h = then_read P P _ o h (λ p hp. if_found P (is_path p) (Some p) (λ e. hp))

case_within : (n : ℕ) (o : Option (List ℕ)) → IfSome o (IsWithin n)
    → IfSome (case_in o) (IsCaseWritten n)
unfolding case_in
case_within n o h = then_read (IsWithin n) (IsCaseWritten n) case_named o h
    (λ t ht. wider (case_named t) (length t) n (case_written t) ht)

-- ---- entries, and what is printed for them

-- the line of an entry has at most n bytes
unfoldable FitsIn : ℕ → Result Entry LineFault → Type 0
FitsIn n (Ok entry) = length (line_text entry) ≤ n
FitsIn n (Err fault) = ⊤

no_line : (n : ℕ) (fault : LineFault) → FitsIn n (Err fault)
unfolding FitsIn
no_line n fault = tt

needed_fits : {A : Type 0} (P : A → Type 0) (n : ℕ) (o : Option A) (fault : LineFault)
    (next : A → Result Entry LineFault) → IfSome o P → ((x : A) → P x → FitsIn n (next x))
    → FitsIn n (needed o fault next)
needed_fits P n None fault next h f = no_line n fault
needed_fits P n (Some x) fault next h f = f x h

tick_fits : (a n : ℕ) (moment : Option ℕ) → IfSome moment (IsWritten a) → 5 + a ≤ n
    → FitsIn n (tick moment)
unfolding FitsIn tick
tick_fits a n moment h le =
    needed_fits (IsWritten a) n moment Time _ h (λ t ht. omega (arith, ht, le))

repaired_fits : (a b n : ℕ) (path : Option (List ℕ)) (moment : Option ℕ) → IfSome path (IsWithin a)
    → IfSome moment (IsWritten b) → 10 + a + b ≤ n → FitsIn n (repaired path moment)
unfolding FitsIn repaired
repaired_fits a b n path moment hp hm le =
    needed_fits (IsWithin a) n path Path _ hp
    (λ p hp. needed_fits (IsWritten b) n moment Time _ hm
    (λ t ht. omega (arith, hp, ht, le, length-append p (codes " " ++ decimal t))))

replaced_fits : (a b n : ℕ) (path : Option (List ℕ)) (moment : Option ℕ) → IfSome path (IsWithin a)
    → IfSome moment (IsWritten b) → 10 + a + b ≤ n → FitsIn n (replaced path moment)
unfolding FitsIn replaced
replaced_fits a b n path moment hp hm le =
    needed_fits (IsWithin a) n path Path _ hp
    (λ p hp. needed_fits (IsWritten b) n moment Time _ hm
    (λ t ht. omega (arith, hp, ht, le, length-append p (codes " " ++ decimal t))))

acquit_fits : (a b n : ℕ) (case : Option CaseName) (moment : Option ℕ)
    → IfSome case (IsCaseWritten a) → IfSome moment (IsWritten b) → 8 + a + b ≤ n
    → FitsIn n (acquit case moment)
unfolding FitsIn acquit
acquit_fits a b n case moment hc hm le =
    needed_fits (IsWritten b) n moment Time _ hm
    (λ t ht. needed_fits (IsCaseWritten a) n case Value _ hc
    (λ c hc. omega (
      arith,
      hc,
      ht,
      le,
      length-append (decimal c.module)
          (codes "/" ++ (decimal c.case ++ (codes " " ++ decimal t))),
      length-append (decimal c.case) (codes " " ++ decimal t),
    )))

plain_fits : (a b c n : ℕ) (class path : Option (List ℕ)) (moment : Option ℕ)
    → IfSome class (IsWithin a) → IfSome path (IsWithin b) → IfSome moment (IsWritten c)
    → 9 + a + b + c ≤ n
    → FitsIn n (report class path moment (Some nv.no_pairs))
unfolding FitsIn report
plain_fits a b c n class path moment hc hp hm le =
    needed_fits (IsWithin a) n class Class _ hc
    (λ s hs. needed_fits (IsWithin b) n path Path _ hp
    (λ p hp. needed_fits (IsWritten c) n moment Time _ hm
    (λ t ht. omega (
      arith,
      hs,
      hp,
      ht,
      le,
      length-append s (codes " " ++ (p ++ (codes " " ++ decimal t))),
      length-append p (codes " " ++ decimal t),
    ))))

-- ---- the plain form

-- the words, each with a space
abbrev spaced : List (List ℕ) → ℕ
spaced [] = 0
spaced (w ∷ ws) = length w + 1 + spaced ws

spaced_first : (x : ℕ) (ws : List (List ℕ)) → 0 < length ws
    → spaced (onto_first x ws) ≡ 1 + spaced ws
spaced_first x [] some = absurd (omega arith)
spaced_first x (w ∷ ws) some = omega arith

spaced_by : (b : Bool) (x : ℕ) (line : List ℕ) → is_space x ≡ b
    → spaced (slice_split is_space line) ≡ length line + 1
    → spaced (slice_split is_space (x ∷ line)) ≡ length (x ∷ line) + 1
spaced_by true x line is h = omega (arith, ap spaced (slice_split-cons_yes is_space x line is), h)
spaced_by false x line is h =
    omega (
      arith,
      ap spaced (slice_split-cons_no is_space x line is),
      spaced_first x (slice_split is_space line)
          (omega (arith, length-slice_split is_space line)),
      h,
    )

spaced_words : (line : List ℕ) → spaced (slice_split is_space line) ≡ length line + 1
spaced_words [] = omega arith
spaced_words (x ∷ line) = spaced_by (is_space x) x line refl (spaced_words line)

fits_if : (n : ℕ) (b : Bool) (x y : Result Entry LineFault) → (b ≡ true → FitsIn n x) → FitsIn n y
    → FitsIn n (cond b x y)
fits_if n true x y f h = f refl
fits_if n false x y f h = h

word_is : (word other : List ℕ) → bytes_eq word other ≡ true → length word ≡ length other
word_is word other e = ap length ((bytes_eq-Decides word other).0 e)

two_fit : (n : ℕ) (a b : List ℕ) → spaced (a ∷ b ∷ []) ≤ n + 1 → FitsIn n (two_words a b)
unfolding two_words
two_fit n a b le =
    fits_if n (bytes_eq a (codes "tick")) _ (Err Shape)
    (λ e. tick_fits (length b) n (moment_of_word b) (word_written b)
    (omega (arith, le, word_is a (codes "tick") e))) (no_line n Shape)

three_fit : (n : ℕ) (a b c : List ℕ) → spaced (a ∷ b ∷ c ∷ []) ≤ n + 1
    → FitsIn n (three_words a b c)
unfolding three_words
three_fit n a b c le =
    let moment = word_written c in
    fits_if n (bytes_eq a (codes "repaired")) _ _
    (λ e. repaired_fits (length b) (length c) n (path_in (text_of b)) (moment_of_word c)
    (path_within (IsWithin (length b)) (text_of b) (text_within b)) moment
    (omega (arith, le, word_is a (codes "repaired") e)))
    (fits_if n (bytes_eq a (codes "replaced")) _ _
    (λ e. replaced_fits (length b) (length c) n (path_in (text_of b)) (moment_of_word c)
    (path_within (IsWithin (length b)) (text_of b) (text_within b)) moment
    (omega (arith, le, word_is a (codes "replaced") e)))
    (fits_if n (bytes_eq a (codes "acquit")) _ (Err Shape)
    (λ e. acquit_fits (length b) (length c) n (case_in (text_of b)) (moment_of_word c)
    (case_within (length b) (text_of b) (text_within b)) moment
    (omega (arith, le, word_is a (codes "acquit") e)))
    (no_line n Shape)))

four_fit : (n : ℕ) (a b c d : List ℕ) → spaced (a ∷ b ∷ c ∷ d ∷ []) ≤ n + 1
    → FitsIn n (four_words a b c d)
unfolding four_words
four_fit n a b c d le =
    fits_if n (bytes_eq a (codes "report")) _ (Err Shape)
    (λ e. plain_fits (length b) (length c) (length d) n (class_in (text_of b)) (path_in (text_of c))
    (moment_of_word d) (class_within (IsWithin (length b)) (text_of b) (text_within b))
    (path_within (IsWithin (length c)) (text_of c) (text_within c)) (word_written d)
    (omega (arith, le, word_is a (codes "report") e)))
    (no_line n Shape)

words_fit : (n : ℕ) (ws : List (List ℕ)) → spaced ws ≤ n + 1 → FitsIn n (words_entry ws)
words_fit n [] le = no_line n Shape
words_fit n (a ∷ []) le = no_line n Shape
words_fit n (a ∷ b ∷ []) le = two_fit n a b le
words_fit n (a ∷ b ∷ c ∷ []) le = three_fit n a b c le
words_fit n (a ∷ b ∷ c ∷ d ∷ []) le = four_fit n a b c d le
words_fit n (a ∷ b ∷ c ∷ d ∷ e ∷ more) le = no_line n Shape

plain_line_fits : (line : List ℕ) → FitsIn (length line) (words_entry (words line))
unfolding words
plain_line_fits line =
    words_fit (length line) (slice_split is_space line) (omega (arith, spaced_words line))

-- ---- the JSON form: the members of an object, and what is taken out of it

abbrev IsOther : Ordering → Type 0
IsOther Less = ⊤
IsOther Equal = ⊥
IsOther Greater = ⊤

abbrev without : List ℕ → Members → Members
without k no_members = no_members
without k (member l e ms) =
    match_ordering (slice_cmp nat_cmp k l) (member l e (without k ms)) ms
    (member l e (without k ms))

-- the bytes of a member with its comma
abbrev cost : List ℕ → Data → ℕ
cost k d = length (quoted k) + 2 + length (compact_text d)

taken_at : (o : Ordering) (k l : List ℕ) (d e : Data) (ms : Members) → slice_cmp nat_cmp k l ≡ o
    → match_ordering o (get_member k ms) (Some e) (get_member k ms) ≡ Some d
    → (get_member k ms ≡ Some d → total (without k ms) + cost k d ≤ total ms)
    → total (match_ordering o (member l e (without k ms)) ms (member l e (without k ms))) + cost k d
    ≤ total (member l e ms)
taken_at Less k l d e ms is found later = omega (arith, later found)
taken_at Equal k l d e ms is found later =
    let name : k ≡ l = exact_bytes k l is in
    let value : e ≡ d = cc in
    omega (arith, ap (λ s. length (quoted s)) name, ap (λ x. length (compact_text x)) value)
taken_at Greater k l d e ms is found later = omega (arith, later found)

taken : (k : List ℕ) (d : Data) (ms : Members) → get_member k ms ≡ Some d
    → total (without k ms) + cost k d ≤ total ms
taken k d no_members found = let no_one : ⊥ = cc in absurd no_one
taken k d (member l e ms) found =
    taken_at (slice_cmp nat_cmp k l) k l d e ms refl found (taken k d ms)

past : (o : Ordering) (x y : Option Data) → IsOther o → x ≡ match_ordering o x y x
past Less x y h = refl
past Equal x y h = absurd h
past Greater x y h = refl

left_at : (o : Ordering) (j k l : List ℕ) (e : Data) (ms : Members) → slice_cmp nat_cmp k l ≡ o
    → IsOther (slice_cmp nat_cmp j k) → get_member j (without k ms) ≡ get_member j ms
    → get_member j (match_ordering o (member l e (without k ms)) ms (member l e (without k ms)))
    ≡ match_ordering (slice_cmp nat_cmp j l) (get_member j ms) (Some e) (get_member j ms)
left_at Less j k l e ms is other later =
    ap (λ x. match_ordering (slice_cmp nat_cmp j l) x (Some e) x) later
left_at Equal j k l e ms is other later =
    past (slice_cmp nat_cmp j l) (get_member j ms) (Some e)
    (subst (λ (m : List ℕ). IsOther (slice_cmp nat_cmp j m)) (exact_bytes k l is) other)
left_at Greater j k l e ms is other later =
    ap (λ x. match_ordering (slice_cmp nat_cmp j l) x (Some e) x) later

left : (j k : List ℕ) (ms : Members) → IsOther (slice_cmp nat_cmp j k)
    → get_member j (without k ms) ≡ get_member j ms
left j k no_members other = refl
left j k (member l e ms) other =
    left_at (slice_cmp nat_cmp k l) j k l e ms refl other (left j k ms other)

-- members under different names cost no more than all members do
two_cost : (j k : List ℕ) (x y : Data) (ms : Members) → IsOther (slice_cmp nat_cmp j k)
    → get_member j ms ≡ Some x → get_member k ms ≡ Some y → cost j x + cost k y ≤ total ms
two_cost j k x y ms jk fj fk = let first = taken k y ms fk in let second =
    taken j x (without k ms) (left j k ms jk ∙ fj) in omega (arith, first, second)

three_cost : (i j k : List ℕ) (w x y : Data) (ms : Members) → IsOther (slice_cmp nat_cmp i j)
    → IsOther (slice_cmp nat_cmp i k) → IsOther (slice_cmp nat_cmp j k)
    → get_member i ms ≡ Some w → get_member j ms ≡ Some x → get_member k ms ≡ Some y
    → cost i w + cost j x + cost k y ≤ total ms
three_cost i j k w x y ms ij ik jk fi fj fk =
    let first = taken k y ms fk in
    let others = two_cost i j w x (without k ms) ij (left i k ms ik ∙ fi) (left j k ms jk ∙ fj) in
    omega (arith, first, others)

-- ---- the parts of an object

needed_is : {A : Type 0} (n : ℕ) (o : Option A) (fault : LineFault)
    (next : A → Result Entry LineFault) → ((x : A) → o ≡ Some x → FitsIn n (next x))
    → FitsIn n (needed o fault next)
needed_is n None fault next f = no_line n fault
needed_is n (Some x) fault next f = f x refl

moment_found : (o : Option Num) (a : ℕ) → IfSome o (λ x. length (compact_text (number x)) ≤ a)
    → IfSome (option_and_then as_moment (option_and_then as_u64 o)) (IsWritten a)
moment_found None a h = tt
moment_found (Some (unsigned n)) a h = moment_kept (IsWritten a) n h
moment_found (Some (negative z)) a h = tt
moment_found (Some (float x)) a h = tt

moment_fits : (d : Data) → IfSome (moment_in d) (IsWritten (length (compact_text d)))
unfolding moment_in
moment_fits null = tt
moment_fits (boolean b) = tt
moment_fits (number x) = moment_found (Some x) (length (compact_text (number x))) (omega arith)
moment_fits (string s) = tt
moment_fits (array ds) = tt
moment_fits (object ms) = tt

abbrev IsQuotedWithin : ℕ → List ℕ → Type 0
IsQuotedWithin n s = length (quoted s) ≤ n

text_fits : (d : Data) → IfSome (as_str d) (IsQuotedWithin (length (compact_text d)))
text_fits null = tt
text_fits (boolean b) = tt
text_fits (number x) = tt
text_fits (string s) = omega arith
text_fits (array ds) = tt
text_fits (object ms) = tt

abbrev HasBytes : List ℕ → Type 0
HasBytes s = 1 ≤ length s

some_byte : (x : ℕ) → HasBytes (escape_byte x)
unfolding escape_byte
some_byte x = chosen HasBytes (nat_lt 0 (escape_letter x)) _ _ (λ t. omega arith)
    (λ f. chosen HasBytes (nat_lt x 32) _ _ (λ t. omega arith) (λ g. omega arith))

escape_longer : (s : List ℕ) → length s ≤ length (escape s)
escape_longer [] = omega arith
escape_longer (x ∷ s) =
    omega (arith, some_byte x, escape_longer s, length-append (escape_byte x) (escape s))

quoted_longer : (s : List ℕ) → length s + 2 ≤ length (quoted s)
quoted_longer s = omega (arith, escape_longer s, length-append (escape s) (34 ∷ []))

unquoted : (n : ℕ) (o : Option (List ℕ)) → IfSome o (IsQuotedWithin n) → IfSome o (IsWithin n)
unquoted n None h = tt
unquoted n (Some s) h = omega (arith, h, quoted_longer s)

abbrev IsPayloadWithin : ℕ → nv.Pairs → Type 0
IsPayloadWithin n ps = length (compact_text (payload_data ps)) ≤ n

payload_by : (d : Data) (o : Option nv.Pairs) → IsRead d → list_of d ≡ o
    → IfSome o (IsPayloadWithin (length (compact_text d)))
payload_by d None r is = tt
payload_by d (Some ps) r is = omega (arith, ap (λ x. length (compact_text x)) (list_back d ps r is))

-- ---- a report with its payload

json_length : (class path : List ℕ) (moment : ℕ) (ps : nv.Pairs)
    → length (json_report class path moment ps) ≡ 37 + length (quoted class) + length (quoted path)
    + length (compact_text (payload_data ps)) + length (decimal moment)
unfolding escape_byte
json_length class path moment ps =
    omega (
      arith,
      object_length (codes "class") (string class)
          (member (codes "path") (string path)
          (member (codes "payload") (payload_data ps)
          (member (codes "time") (number (unsigned moment)) no_members))),
    )

line_by : (b : Bool) (n : ℕ) (x y : List ℕ) → length x ≤ n → length y ≤ n → length (cond b x y) ≤ n
line_by true n x y p q = p
line_by false n x y p q = q

full_fits : (a b c e n : ℕ) (class path : Option (List ℕ)) (moment : Option ℕ)
    (payload : Option nv.Pairs)
    → IfSome class (IsQuotedWithin a) → IfSome path (IsQuotedWithin b) → IfSome moment (IsWritten c)
    → IfSome payload (IsPayloadWithin e) → 37 + a + b + c + e ≤ n
    → FitsIn n (report class path moment payload)
unfolding FitsIn report
full_fits a b c e n class path moment payload hc hp hm hy le =
    needed_fits (IsQuotedWithin a) n class Class _ hc
    (λ s hs. needed_fits (IsQuotedWithin b) n path Path _ hp
    (λ p hp. needed_fits (IsWritten c) n moment Time _ hm
    (λ t ht. needed_fits (IsPayloadWithin e) n payload Value _ hy
    (λ ps hps. line_by (nv.count ps == 0) n (plain_report s p t) (json_report s p t ps)
    (omega (
      arith,
      hs,
      hp,
      ht,
      le,
      quoted_longer s,
      quoted_longer p,
      length-append s (codes " " ++ (p ++ (codes " " ++ decimal t))),
      length-append p (codes " " ++ decimal t),
    ))
    (omega (arith, hs, hp, ht, hps, le, json_length s p t ps))))))

-- ---- the forms of an object

one_fits : (n : ℕ) (ms : Members) → 1 + total ms ≤ n → FitsIn n (one_key (object ms))
unfolding one_key escape_byte
one_fits n ms le =
    needed_is n (get_member (codes "tick") ms) Shape _
    (λ t ft. tick_fits (length (compact_text t)) n (moment_in t) (moment_fits t)
    (omega (arith, taken (codes "tick") t ms ft, le)))

acquit_keys_fit : (n : ℕ) (ms : Members) (t : Data) → 1 + total ms ≤ n
    → get_member (codes "time") ms ≡ Some t → FitsIn n (acquit_keys (object ms) t)
unfolding acquit_keys escape_byte
acquit_keys_fit n ms t le ft =
    needed_is n (get_member (codes "acquit") ms) Shape _
    (λ c fc. acquit_fits (length (compact_text c)) (length (compact_text t)) n (case_in (as_str c))
    (moment_in t)
    (case_within (length (compact_text c)) (as_str c)
    (unquoted (length (compact_text c)) (as_str c) (text_fits c))) (moment_fits t)
    (omega (arith, two_cost (codes "acquit") (codes "time") c t ms tt fc ft, le)))

replaced_keys_fit : (n : ℕ) (ms : Members) (t : Data) (o : Option Data) → 1 + total ms ≤ n
    → get_member (codes "time") ms ≡ Some t → get_member (codes "replaced") ms ≡ o
    → FitsIn n (replaced_keys o (object ms) t)
unfolding replaced_keys escape_byte
replaced_keys_fit n ms t (Some p) le ft fp =
    replaced_fits (length (compact_text p)) (length (compact_text t)) n (path_in (as_str p))
    (moment_in t)
    (path_within (IsWithin (length (compact_text p))) (as_str p)
    (unquoted (length (compact_text p)) (as_str p) (text_fits p))) (moment_fits t)
    (omega (arith, two_cost (codes "replaced") (codes "time") p t ms tt fp ft, le))
replaced_keys_fit n ms t None le ft fp = acquit_keys_fit n ms t le ft

repaired_keys_fit : (n : ℕ) (ms : Members) (t : Data) (o : Option Data) → 1 + total ms ≤ n
    → get_member (codes "time") ms ≡ Some t → get_member (codes "repaired") ms ≡ o
    → FitsIn n (repaired_keys o (object ms) t)
unfolding repaired_keys escape_byte
repaired_keys_fit n ms t (Some p) le ft fp =
    repaired_fits (length (compact_text p)) (length (compact_text t)) n (path_in (as_str p))
    (moment_in t)
    (path_within (IsWithin (length (compact_text p))) (as_str p)
    (unquoted (length (compact_text p)) (as_str p) (text_fits p))) (moment_fits t)
    (omega (arith, two_cost (codes "repaired") (codes "time") p t ms tt fp ft, le))
repaired_keys_fit n ms t None le ft fp =
    replaced_keys_fit n ms t (get_member (codes "replaced") ms) le ft refl

three_keys_fit : (n : ℕ) (ms : Members) → 1 + total ms ≤ n
    → FitsIn n (report_keys (object ms) (Some nv.no_pairs))
unfolding report_keys escape_byte
three_keys_fit n ms le =
    needed_is n (get_member (codes "class") ms) Shape _
    (λ c fc. needed_is n (get_member (codes "path") ms) Shape _
    (λ p fp. needed_is n (get_member (codes "time") ms) Shape _
    (λ t ft. plain_fits (length (compact_text c)) (length (compact_text p))
    (length (compact_text t)) n (class_in (as_str c)) (path_in (as_str p)) (moment_in t)
    (class_within (IsWithin (length (compact_text c))) (as_str c)
    (unquoted (length (compact_text c)) (as_str c) (text_fits c)))
    (path_within (IsWithin (length (compact_text p))) (as_str p)
    (unquoted (length (compact_text p)) (as_str p) (text_fits p))) (moment_fits t)
    (omega (
      arith,
      three_cost (codes "class") (codes "path") (codes "time") c p t ms tt tt tt fc fp
          ft,
      le,
    )))))

four_keys_fit : (n : ℕ) (ms : Members) → IsRead (object ms) → 1 + total ms ≤ n
    → FitsIn n (four_keys (object ms))
unfolding four_keys report_keys escape_byte
four_keys_fit n ms r le =
    needed_is n (get_member (codes "payload") ms) Shape _
    (λ y fy. needed_is n (get_member (codes "class") ms) Shape _
    (λ c fc. needed_is n (get_member (codes "path") ms) Shape _
    (λ p fp. needed_is n (get_member (codes "time") ms) Shape _
    (λ t ft. full_fits (length (compact_text c)) (length (compact_text p)) (length (compact_text t))
    (length (compact_text y)) n (class_in (as_str c)) (path_in (as_str p)) (moment_in t)
    (list_of y)
    (class_within (IsQuotedWithin (length (compact_text c))) (as_str c) (text_fits c))
    (path_within (IsQuotedWithin (length (compact_text p))) (as_str p) (text_fits p))
    (moment_fits t)
    (payload_by y (list_of y)
    (subst (λ (o : Option Data). IfSome o IsRead) fy (get_read (codes "payload") (object ms) r))
    refl)
    (omega (
      arith,
      taken (codes "payload") y ms fy,
      three_cost (codes "class") (codes "path") (codes "time") c p t (without (codes "payload") ms)
          tt tt tt (left (codes "class") (codes "payload") ms tt ∙ fc)
          (left (codes "path") (codes "payload") ms tt ∙ fp)
          (left (codes "time") (codes "payload") ms tt ∙ ft),
      le,
    ))))))

two_keys_fit : (n : ℕ) (ms : Members) → 1 + total ms ≤ n → FitsIn n (two_keys (object ms))
unfolding two_keys
two_keys_fit n ms le =
    needed_is n (get_member (codes "time") ms) Shape _
    (λ t ft. repaired_keys_fit n ms t (get_member (codes "repaired") ms) le ft refl)

object_fits : (n : ℕ) (d : Data) → IsRead d → length (compact_text d) ≤ n
    → FitsIn n (object_entry d)
unfolding object_entry
object_fits n null r le = no_line n Shape
object_fits n (boolean b) r le = no_line n Shape
object_fits n (number x) r le = no_line n Shape
object_fits n (string s) r le = no_line n Shape
object_fits n (array ds) r le = no_line n Shape
object_fits n (object ms) r le =
    let within : 1 + total ms ≤ n = omega (arith, object_total ms, le) in
    fits_if n (key_count (object ms) == 1) _ _ (λ e. one_fits n ms within)
    (fits_if n (key_count (object ms) == 2) _ _ (λ e. two_keys_fit n ms within)
    (fits_if n (key_count (object ms) == 3) _ _ (λ e. three_keys_fit n ms within)
    (fits_if n (key_count (object ms) == 4) _ (Err Shape) (λ e. four_keys_fit n ms r within)
    (no_line n Shape))))

-- ---- lines

abbrev IsSizedJson : List ℕ → json.Json → Type 0
IsSizedJson text j = size j ≤ length text

json_by : (text : List ℕ) (o : Option json.Json)
    → option_and_then (λ p. json.if_last p.0 p.1) (json.value max_depth (tokens text)) ≡ o
    → IfSome o (IsSizedJson text)
json_by text None is = tt
json_by text (Some j) is = value_size max_depth text j is

abbrev IsSized : ℕ → Data → Type 0
IsSized n d = length (compact_text d) ≤ n

smaller : (m n : ℕ) (o : Option Data) → m ≤ n → IfSome o (IsSized m) → IfSome o (IsSized n)
smaller m n None le h = tt
smaller m n (Some d) le h = omega (arith, le, h)

read_sized : (text : List ℕ) → IfSome (read text) (IsSized (length text))
read_sized text = then_read (IsSizedJson text) (IsSized (length text)) of_json _
    (json_by text _ refl) (λ j hj. smaller (size j) (length text) (of_json j) hj (value_compact j))

both : (n : ℕ) (o : Option Data) → IfSome o IsRead → IfSome o (IsSized n)
    → IfSome o (λ d. IsRead d × IsSized n d)
both n None r s = tt
both n (Some d) r s = (r, s)

json_sized : (line : List ℕ) → IfSome (json_of line) (λ d. IsRead d × IsSized (length line) d)
unfolding json_of
json_sized line =
    then_read (IsWithin (length line)) (λ d. IsRead d × IsSized (length line) d) read
    (text_of line) (text_within line)
    (λ text ht. both (length line) (read text) (read_read text)
    (smaller (length text) (length line) (read text) ht (read_sized text)))

json_line_fits : (line : List ℕ) → FitsIn (length line) (json_entry line)
unfolding json_entry
json_line_fits line =
    needed_fits (λ d. IsRead d × IsSized (length line) d) (length line) (json_of line) Json
    object_entry (json_sized line) (λ d h. object_fits (length line) d h.0 h.1)

content_fits : (line : List ℕ) → FitsIn (length line) (content_entry line)
unfolding content_entry
content_fits line = fits_if (length line) (is_json line) (json_entry line)
    (words_entry (words line)) (λ e. json_line_fits line) (plain_line_fits line)

fits_more : (m n : ℕ) (r : Result Entry LineFault) → m ≤ n → FitsIn m r → FitsIn n r
unfolding FitsIn
fits_more m n (Ok entry) le h = omega (arith, le, h)
fits_more m n (Err fault) le h = tt

no_longer : (line : List ℕ) → length (without_return line) ≤ length line
unfolding without_return
no_longer line = line_by _ (length line) (take (length line - 1) line) line
    (omega (arith, length-take (length line - 1) line)) (omega arith)

limited : (n : ℕ) (b : Bool) (x : Result Entry LineFault) (entry : Entry)
    → cond b (Err TooLong) x ≡ Ok entry → FitsIn n x → (b ≡ false) × (length (line_text entry) ≤ n)
unfolding FitsIn
limited n true x entry is h = let no_one : ⊥ = cc in absurd no_one
limited n false x entry is h = (refl, subst (FitsIn n) is h)

-- what is known of a line that gives an entry
record IsLineOf (line : List ℕ) (entry : Entry) : Type 0 where
  pub within : length line ≤ line_limit
  pub fits : length (line_text entry) ≤ length line

line_of : (line : List ℕ) (entry : Entry) → line_entry line ≡ Ok entry → IsLineOf line entry
unfolding line_entry
line_of line entry is =
    let fits = fits_more (length (without_return line)) (length line)
    (content_entry (without_return line)) (no_longer line) (content_fits (without_return line))
    in
    let parts = limited (length line) (nat_lt line_limit (length line))
    (content_entry (without_return line)) entry is fits in
    record { within = ltb-false line_limit (length line) parts.0; fits = parts.1 }

-- what is printed for the entry of a line is no longer than that line
pub printed_shortest : (entry : Entry) → IsShortest entry
printed_shortest entry line is = (line_of line entry is).fits

-- so it is within the limit of a line
pub printed_within : (line : List ℕ) (entry : Entry) → line_entry line ≡ Ok entry
    → length (line_text entry) ≤ line_limit
printed_within line entry is = let known = line_of line entry is in
    omega (arith, known.within, known.fits)
