-- What a line says by cases is its entry or its first fault.
use Rattle.std.proofs.Common.{◌≡◌, ◌≢◌, ◌⊎◌, inl, inr, ℕ, ◌<◌, ◌≤◌, ◌==◌, ◌||◌, ◌&&◌, ◌∷◌, [], List}
use Rattle.std.proofs.Common.{Bool, true, false, cond, length, codes, nat_lt, bytes_eq, Option}
use Rattle.std.proofs.Common.{Some, None, Result, Ok, Err, refl, sym, ap, ◌∙◌, subst, arith}
use Rattle.std.proofs.Common.{Ordering, Less, Equal, Greater, nat_cmp}
use Rattle.std.specs.Ordering.{match_ordering}
use Rattle.std.specs.Cmp.Lexicographic.{slice_cmp}
use Rattle.std.proofs.lemmas.Bool.{lt-ltb, le-ltb, ltb-true, ltb-false, eqb-true}
use Rattle.std.proofs.lemmas.Map.Lookups.{exact_bytes}
use Rattle.std.proofs.lemmas.Slice.Eq.{bytes_eq-Decides}
use Rattle.serde_json.specs.Data.{Data, null, boolean, number, string, array, object, no_members}
use Rattle.serde_json.specs.Data.{member}
use Rattle.serde_json.specs.Find.{get, get_member, as_str}
use Rattle.fm_nv.specs.Data.{Pairs, no_pairs}
use Rattle.fm_entry.specs.declared.entry.Entry.{Entry}
use Rattle.fm_entry.specs.declared.entry.Entry.TheVariants.{Report, Tick, Repaired, Replaced}
use Rattle.fm_entry.specs.declared.entry.Entry.TheVariants.{Acquit, Reload}
use Rattle.fm_bytes.proofs.Readers.{some_same}
use Rattle.fm_line.specs.Forms as forms
use Rattle.fm_line.specs.Forms.{text_of, class_in, path_in, case_in, moment_in, needed, words}
use Rattle.fm_line.specs.Forms.{words_entry, key_count, object_entry, json_of, json_entry, is_json}
use Rattle.fm_line.specs.Forms.{without_return, content_entry, line_entry}
use Rattle.fm_line.specs.Lines.{line_limit}
use Rattle.fm_line.specs.Numbers.{moment_of_word}
use Rattle.fm_line.specs.Payload.{list_of}
use Rattle.fm_line.specs.declared.fault.LineFault.{LineFault}
use Rattle.fm_line.specs.declared.fault.LineFault.TheVariants.{Json, Shape, Class, Path, Time}
use Rattle.fm_line.specs.declared.fault.LineFault.TheVariants.{Value, TooLong}
use Rattle.fm_line_laws.specs.Cases.{Form, AReport, ATick, ARepair, AReplacement, AnAcquittal}
use Rattle.fm_line_laws.specs.Cases.{HasWords, report_words, tick_words, repair_words}
use Rattle.fm_line_laws.specs.Cases.{replacement_words, acquittal_words, HasLineForm, in_words, in_json}
use Rattle.fm_line_laws.specs.Cases.{HasKeys, report_object, payload_object, tick_object}
use Rattle.fm_line_laws.specs.Cases.{repair_object, replacement_object, acquittal_object, IsBroken}
use Rattle.fm_line_laws.specs.Cases.{LacksClass, LacksPath, LacksTime, LacksValue, form_of, Says}
use Rattle.fm_line_laws.specs.Cases.{too_long, no_json, no_form, no_class, no_path, no_time}
use Rattle.fm_line_laws.specs.Cases.{no_value, entry}

-- ---- what the parts of a form give

abbrev form_entry : Form → Result Entry LineFault
form_entry (AReport class path moment payload) = forms.report class path moment payload
form_entry (ATick moment) = forms.tick moment
form_entry (ARepair path moment) = forms.repaired path moment
form_entry (AReplacement path moment) = forms.replaced path moment
form_entry (AnAcquittal case moment) = forms.acquit case moment

says_form : (line : List ℕ) (f : Form) → length line ≤ line_limit → HasLineForm (without_return line) f
    → Says line (form_entry f)
unfolding forms.report forms.tick forms.repaired forms.replaced forms.acquit
says_form line (AReport None p t y) short has = no_class (AReport None p t y) short has tt
says_form line (AReport (Some c) None t y) short has =
    no_path (AReport (Some c) None t y) short has tt
says_form line (AReport (Some c) (Some p) None y) short has =
    no_time (AReport (Some c) (Some p) None y) short has tt
says_form line (AReport (Some c) (Some p) (Some t) None) short has =
    no_value (AReport (Some c) (Some p) (Some t) None) short has tt
says_form line (AReport (Some c) (Some p) (Some t) (Some y)) short has =
    entry (Report c p t y) (AReport (Some c) (Some p) (Some t) (Some y)) refl short has
says_form line (ATick None) short has = no_time (ATick None) short has tt
says_form line (ATick (Some t)) short has = entry (Tick t) (ATick (Some t)) refl short has
says_form line (ARepair None t) short has = no_path (ARepair None t) short has tt
says_form line (ARepair (Some p) None) short has = no_time (ARepair (Some p) None) short has tt
says_form line (ARepair (Some p) (Some t)) short has =
    entry (Repaired p t) (ARepair (Some p) (Some t)) refl short has
says_form line (AReplacement None t) short has = no_path (AReplacement None t) short has tt
says_form line (AReplacement (Some p) None) short has =
    no_time (AReplacement (Some p) None) short has tt
says_form line (AReplacement (Some p) (Some t)) short has =
    entry (Replaced p t) (AReplacement (Some p) (Some t)) refl short has
says_form line (AnAcquittal c None) short has = no_time (AnAcquittal c None) short has tt
says_form line (AnAcquittal None (Some t)) short has =
    no_value (AnAcquittal None (Some t)) short has tt
says_form line (AnAcquittal (Some c) (Some t)) short has =
    entry (Acquit c t) (AnAcquittal (Some c) (Some t)) refl short has

class_lacks : (f : Form) → LacksClass f → form_entry f ≡ Err Class
unfolding forms.report
class_lacks (AReport None p t y) h = refl
class_lacks _ h = absurd h

path_lacks : (f : Form) → LacksPath f → form_entry f ≡ Err Path
unfolding forms.report forms.repaired forms.replaced
path_lacks (AReport (Some c) None t y) h = refl
path_lacks (ARepair None t) h = refl
path_lacks (AReplacement None t) h = refl
path_lacks _ h = absurd h

time_lacks : (f : Form) → LacksTime f → form_entry f ≡ Err Time
unfolding forms.report forms.tick forms.repaired forms.replaced forms.acquit
time_lacks (AReport (Some c) (Some p) None y) h = refl
time_lacks (ATick None) h = refl
time_lacks (ARepair (Some p) None) h = refl
time_lacks (AReplacement (Some p) None) h = refl
time_lacks (AnAcquittal c None) h = refl
time_lacks _ h = absurd h

value_lacks : (f : Form) → LacksValue f → form_entry f ≡ Err Value
unfolding forms.report forms.acquit
value_lacks (AReport (Some c) (Some p) (Some t) None) h = refl
value_lacks (AnAcquittal None (Some t)) h = refl
value_lacks _ h = absurd h

form_same : (f g : Form) (e : Entry) → form_entry f ≡ Ok e → Some f ≡ Some g → form_entry g ≡ Ok e
form_same f g e is same = sym (ap form_entry (some_same f g same)) ∙ is

entry_whole : (e : Entry) (f : Form) → form_of e ≡ Some f → form_entry f ≡ Ok e
unfolding forms.report forms.tick forms.repaired forms.replaced forms.acquit
entry_whole (Report c p t y) f h =
    form_same (AReport (Some c) (Some p) (Some t) (Some y)) f (Report c p t y) refl h
entry_whole (Tick t) f h = form_same (ATick (Some t)) f (Tick t) refl h
entry_whole (Repaired p t) f h = form_same (ARepair (Some p) (Some t)) f (Repaired p t) refl h
entry_whole (Replaced p t) f h = form_same (AReplacement (Some p) (Some t)) f (Replaced p t) refl h
entry_whole (Acquit c t) f h = form_same (AnAcquittal (Some c) (Some t)) f (Acquit c t) refl h
entry_whole (Reload c t) f h = cc

-- ---- the plain form

words_are : (ws : List (List ℕ)) (f : Form) → HasWords ws f → words_entry ws ≡ form_entry f
unfolding forms.two_words forms.three_words forms.four_words
words_are ws f (report_words c p t) = refl
words_are ws f (tick_words t) = refl
words_are ws f (repair_words p t) = refl
words_are ws f (replacement_words p t) = refl
words_are ws f (acquittal_words c t) = refl

-- whether words have a form
abbrev has_words : List (List ℕ) → Bool
has_words (a ∷ b ∷ []) = bytes_eq a (codes "tick")
has_words (a ∷ b ∷ c ∷ []) =
    bytes_eq a (codes "repaired") || (bytes_eq a (codes "replaced") || bytes_eq a (codes "acquit"))
has_words (a ∷ b ∷ c ∷ d ∷ []) = bytes_eq a (codes "report")
has_words _ = false

words_have : (ws : List (List ℕ)) (f : Form) → HasWords ws f → has_words ws ≡ true
words_have ws f (report_words c p t) = refl
words_have ws f (tick_words t) = refl
words_have ws f (repair_words p t) = refl
words_have ws f (replacement_words p t) = refl
words_have ws f (acquittal_words c t) = refl

-- a form, or none, and then the answer is `Shape`
data Known (Has : Form → Type 0) (answer : Result Entry LineFault) : Type 0 where
  formed : (f : Form) → Has f → Known Has answer
  formless : ((f : Form) → Has f → ⊥) → answer ≡ Err Shape → Known Has answer

no_words : (ws : List (List ℕ)) → has_words ws ≡ false → words_entry ws ≡ Err Shape
    → Known (HasWords ws) (words_entry ws)
no_words ws none shape = formless (λ f has. let yes = words_have ws f has in cc) shape

is_text : (a b : List ℕ) → bytes_eq a b ≡ true → b ≡ a
is_text a b same = sym ((bytes_eq-Decides a b).0 same)

two_known : (a b : List ℕ) (t : Bool) → bytes_eq a (codes "tick") ≡ t
    → Known (HasWords (a ∷ b ∷ [])) (words_entry (a ∷ b ∷ []))
unfolding forms.two_words
two_known a b true is =
    formed (ATick (moment_of_word b))
    (subst (λ (w : List ℕ). HasWords (w ∷ b ∷ []) (ATick (moment_of_word b)))
    (is_text a (codes "tick") is) (tick_words b))
two_known a b false is =
    no_words (a ∷ b ∷ []) is (ap (λ t. cond t (forms.tick (moment_of_word b)) (Err Shape)) is)

abbrev three_by : (x y z : Bool) (r p c : Result Entry LineFault) → Result Entry LineFault
three_by x y z r p c = cond x r (cond y p (cond z c (Err Shape)))

three_known : (a b c : List ℕ) (x y z : Bool) → bytes_eq a (codes "repaired") ≡ x
    → bytes_eq a (codes "replaced") ≡ y → bytes_eq a (codes "acquit") ≡ z
    → Known (HasWords (a ∷ b ∷ c ∷ [])) (words_entry (a ∷ b ∷ c ∷ []))
unfolding forms.three_words
three_known a b c true y z is _ _ =
    formed (ARepair (path_in (text_of b)) (moment_of_word c))
    (subst (λ (w : List ℕ).
    HasWords (w ∷ b ∷ c ∷ []) (ARepair (path_in (text_of b)) (moment_of_word c)))
    (is_text a (codes "repaired") is) (repair_words b c))
three_known a b c false true z _ is _ =
    formed (AReplacement (path_in (text_of b)) (moment_of_word c))
    (subst (λ (w : List ℕ).
    HasWords (w ∷ b ∷ c ∷ []) (AReplacement (path_in (text_of b)) (moment_of_word c)))
    (is_text a (codes "replaced") is) (replacement_words b c))
three_known a b c false false true _ _ is =
    formed (AnAcquittal (case_in (text_of b)) (moment_of_word c))
    (subst (λ (w : List ℕ).
    HasWords (w ∷ b ∷ c ∷ []) (AnAcquittal (case_in (text_of b)) (moment_of_word c)))
    (is_text a (codes "acquit") is) (acquittal_words b c))
three_known a b c false false false r p q =
    let none : has_words (a ∷ b ∷ c ∷ []) ≡ false =
    ap (λ x. x || (bytes_eq a (codes "replaced") || bytes_eq a (codes "acquit"))) r
    ∙ ap (λ y. y || bytes_eq a (codes "acquit")) p ∙ q in
    let R = forms.repaired (path_in (text_of b)) (moment_of_word c) in
    let P = forms.replaced (path_in (text_of b)) (moment_of_word c) in
    let C = forms.acquit (case_in (text_of b)) (moment_of_word c) in
    no_words (a ∷ b ∷ c ∷ []) none
    (ap (λ x. three_by x (bytes_eq a (codes "replaced")) (bytes_eq a (codes "acquit")) R P C) r
    ∙ ap (λ y. three_by false y (bytes_eq a (codes "acquit")) R P C) p
    ∙ ap (λ z. three_by false false z R P C) q)

four_known : (a b c d : List ℕ) (t : Bool) → bytes_eq a (codes "report") ≡ t
    → Known (HasWords (a ∷ b ∷ c ∷ d ∷ [])) (words_entry (a ∷ b ∷ c ∷ d ∷ []))
unfolding forms.four_words
four_known a b c d true is =
    formed (AReport (class_in (text_of b)) (path_in (text_of c)) (moment_of_word d) (Some no_pairs))
    (subst (λ (w : List ℕ).
    HasWords (w ∷ b ∷ c ∷ d ∷ [])
    (AReport (class_in (text_of b)) (path_in (text_of c)) (moment_of_word d) (Some no_pairs)))
    (is_text a (codes "report") is) (report_words b c d))
four_known a b c d false is =
    no_words (a ∷ b ∷ c ∷ d ∷ []) is
    (ap (λ t. cond t (forms.report (class_in (text_of b)) (path_in (text_of c))
    (moment_of_word d) (Some no_pairs)) (Err Shape)) is)

words_known : (ws : List (List ℕ)) → Known (HasWords ws) (words_entry ws)
words_known [] = no_words [] refl refl
words_known (a ∷ []) = no_words (a ∷ []) refl refl
words_known (a ∷ b ∷ []) = two_known a b (bytes_eq a (codes "tick")) refl
words_known (a ∷ b ∷ c ∷ []) =
    three_known a b c (bytes_eq a (codes "repaired")) (bytes_eq a (codes "replaced"))
    (bytes_eq a (codes "acquit")) refl refl refl
words_known (a ∷ b ∷ c ∷ d ∷ []) = four_known a b c d (bytes_eq a (codes "report")) refl
words_known (a ∷ b ∷ c ∷ d ∷ e ∷ more) = no_words (a ∷ b ∷ c ∷ d ∷ e ∷ more) refl refl

-- ---- the JSON form

-- what an object of so many keys gives
abbrev by_count : ℕ → Data → Result Entry LineFault
by_count n d = cond (n == 1) (forms.one_key d)
    (cond (n == 2) (forms.two_keys d)
    (cond (n == 3) (forms.report_keys d (Some no_pairs))
    (cond (n == 4) (forms.four_keys d) (Err Shape))))

count_is : (d : Data) (n : ℕ) → key_count d ≡ n → object_entry d ≡ by_count n d
unfolding object_entry
count_is d n count = ap (λ m. by_count m d) count

-- an object of two keys has no third
found_in : (o : Ordering) (k l : List ℕ) (e x : Data) (rest : Option Data) (Q : Type 0)
    → slice_cmp nat_cmp k l ≡ o → match_ordering o rest (Some e) rest ≡ Some x → (rest ≡ Some x → Q)
    → (k ≡ l) ⊎ Q
found_in Less k l e x rest Q is found later = inr (later found)
found_in Equal k l e x rest Q is found later = inl (exact_bytes k l is)
found_in Greater k l e x rest Q is found later = inr (later found)

found_last : (k l : List ℕ) (e x : Data) → get_member k (member l e no_members) ≡ Some x → (k ≡ l)
    ⊎ ⊥
found_last k l e x found = found_in (slice_cmp nat_cmp k l) k l e x None ⊥ refl found (λ h. cc)

the_one : (k l : List ℕ) → (k ≡ l) ⊎ ⊥ → k ≡ l
the_one k l (inl same) = same
the_one k l (inr no_one) = absurd no_one

found_two : (k l m : List ℕ) (e g x : Data)
    → get_member k (member l e (member m g no_members)) ≡ Some x → (k ≡ l) ⊎ (k ≡ m)
found_two k l m e g x found =
    found_in (slice_cmp nat_cmp k l) k l e x (get_member k (member m g no_members)) (k ≡ m) refl
    found (λ h. the_one k m (found_last k m g x h))

crowded : (a b c l m : List ℕ) → a ≢ b → a ≢ c → b ≢ c → (a ≡ l) ⊎ (a ≡ m) → (b ≡ l) ⊎ (b ≡ m)
    → (c ≡ l) ⊎ (c ≡ m) → ⊥
crowded a b c l m ab ac bc (inl p) (inl q) r = ab (p ∙ sym q)
crowded a b c l m ab ac bc (inl p) (inr q) (inl r) = ac (p ∙ sym r)
crowded a b c l m ab ac bc (inl p) (inr q) (inr r) = bc (q ∙ sym r)
crowded a b c l m ab ac bc (inr p) (inr q) r = ab (p ∙ sym q)
crowded a b c l m ab ac bc (inr p) (inl q) (inr r) = ac (p ∙ sym r)
crowded a b c l m ab ac bc (inr p) (inl q) (inl r) = bc (q ∙ sym r)

no_third : (a b c : List ℕ) (d x y z : Data) → a ≢ b → a ≢ c → b ≢ c → key_count d ≡ 2
    → get a d ≡ Some x → get b d ≡ Some y → get c d ≡ Some z → ⊥
no_third a b c null x y z ab ac bc count fa fb fc = absurd (omega (arith, count))
no_third a b c (boolean t) x y z ab ac bc count fa fb fc = absurd (omega (arith, count))
no_third a b c (number n) x y z ab ac bc count fa fb fc = absurd (omega (arith, count))
no_third a b c (string s) x y z ab ac bc count fa fb fc = absurd (omega (arith, count))
no_third a b c (array ds) x y z ab ac bc count fa fb fc = absurd (omega (arith, count))
no_third a b c (object no_members) x y z ab ac bc count fa fb fc = absurd (omega (arith, count))
no_third a b c (object (member l e no_members)) x y z ab ac bc count fa fb fc =
    absurd (omega (arith, count))
no_third a b c (object (member l e (member m g no_members))) x y z ab ac bc count fa fb fc =
    crowded a b c l m ab ac bc (found_two a l m e g x fa) (found_two b l m e g y fb)
    (found_two c l m e g z fc)
no_third a b c (object (member l e (member m g (member n h ms)))) x y z ab ac bc count fa fb fc =
    absurd (omega (arith, count))

absent : (c : List ℕ) (d : Data) (o : Option Data) → get c d ≡ o
    → ((z : Data) → get c d ≡ Some z → ⊥) → get c d ≡ None
absent c d None is never = is
absent c d (Some z) is never = absurd (never z is)

-- two texts whose bytes differ
differ : (a b : List ℕ) → bytes_eq a b ≡ false → a ≢ b
differ a b other e = let same = (bytes_eq-Decides a b).1 e in cc

-- what the keys of a report give
abbrev report_from : Option Data → Option Data → Option Data → Option Pairs → Result Entry LineFault
report_from class path time payload =
    needed class Shape (λ c.
    needed path Shape (λ p.
    needed time Shape (λ t. forms.report (class_in (as_str c)) (path_in (as_str p))
    (moment_in t) payload)))

report_is : (d c p t : Data) (y : Option Pairs) → get (codes "class") d ≡ Some c
    → get (codes "path") d ≡ Some p → get (codes "time") d ≡ Some t
    → forms.report_keys d y ≡ forms.report (class_in (as_str c)) (path_in (as_str p)) (moment_in t)
    y
unfolding forms.report_keys
report_is d c p t y fc fp ft =
    ap (λ o. report_from o (get (codes "path") d) (get (codes "time") d) y) fc
    ∙ ap (λ o. report_from (Some c) o (get (codes "time") d) y) fp
    ∙ ap (λ o. report_from (Some c) (Some p) o y) ft

keys_are : (d : Data) (f : Form) → HasKeys d f → object_entry d ≡ form_entry f
unfolding forms.one_key forms.two_keys forms.repaired_keys forms.replaced_keys forms.acquit_keys
    forms.report_keys forms.four_keys
keys_are d f (report_object c p t count fc fp ft) = count_is d 3 count
    ∙ report_is d c p t (Some no_pairs) fc fp ft
keys_are d f (payload_object c p t y count fc fp ft fy) =
    count_is d 4 count ∙ ap (λ o. needed o Shape (λ v. forms.report_keys d (list_of v))) fy
    ∙ report_is d c p t (list_of y) fc fp ft
keys_are d f (tick_object t count ft) = count_is d 1 count
    ∙ ap (λ o. needed o Shape (λ v. forms.tick (moment_in v))) ft
keys_are d f (repair_object p t count fp ft) =
    count_is d 2 count ∙ ap
    (λ o. needed o Shape (λ v. forms.repaired_keys (get (codes "repaired") d) d v)) ft
    ∙ ap (λ o. forms.repaired_keys o d t) fp
keys_are d f (replacement_object p t count fp ft) =
    let none : get (codes "repaired") d ≡ None =
    absent (codes "repaired") d (get (codes "repaired") d) refl
    (λ z. no_third (codes "time") (codes "replaced") (codes "repaired") d t p z
    (differ (codes "time") (codes "replaced") refl)
    (differ (codes "time") (codes "repaired") refl)
    (differ (codes "replaced") (codes "repaired") refl) count ft fp) in
    count_is d 2 count ∙ ap
    (λ o. needed o Shape (λ v. forms.repaired_keys (get (codes "repaired") d) d v)) ft
    ∙ ap (λ o. forms.repaired_keys o d t) none ∙ ap (λ o. forms.replaced_keys o d t) fp
keys_are d f (acquittal_object c t count fc ft) =
    let none : get (codes "repaired") d ≡ None =
    absent (codes "repaired") d (get (codes "repaired") d) refl
    (λ z. no_third (codes "time") (codes "acquit") (codes "repaired") d t c z
    (differ (codes "time") (codes "acquit") refl)
    (differ (codes "time") (codes "repaired") refl)
    (differ (codes "acquit") (codes "repaired") refl) count ft fc) in
    let none_too : get (codes "replaced") d ≡ None =
    absent (codes "replaced") d (get (codes "replaced") d) refl
    (λ z. no_third (codes "time") (codes "acquit") (codes "replaced") d t c z
    (differ (codes "time") (codes "acquit") refl)
    (differ (codes "time") (codes "replaced") refl)
    (differ (codes "acquit") (codes "replaced") refl) count ft fc) in
    count_is d 2 count ∙ ap
    (λ o. needed o Shape (λ v. forms.repaired_keys (get (codes "repaired") d) d v)) ft
    ∙ ap (λ o. forms.repaired_keys o d t) none ∙ ap (λ o. forms.replaced_keys o d t) none_too
    ∙ ap (λ o. needed o Shape (λ v. forms.acquit (case_in (as_str v)) (moment_in t))) fc

-- whether an object of so many keys has a form
abbrev is_there : Option Data → Bool
is_there None = false
is_there (Some x) = true

abbrev has_two : Option Data → Option Data → Option Data → Option Data → Bool
has_two time repaired replaced acquit =
    is_there time && (is_there repaired || (is_there replaced || is_there acquit))

abbrev has_three : Option Data → Option Data → Option Data → Bool
has_three class path time = is_there class && (is_there path && is_there time)

abbrev has_keys : ℕ → Data → Bool
has_keys n d =
    cond (n == 1) (is_there (get (codes "tick") d))
    (cond (n == 2) (has_two (get (codes "time") d) (get (codes "repaired") d)
    (get (codes "replaced") d) (get (codes "acquit") d))
    (cond (n == 3) (has_three (get (codes "class") d) (get (codes "path") d) (get (codes "time") d))
    (cond (n == 4) (is_there (get (codes "payload") d) && has_three (get (codes "class") d)
    (get (codes "path") d) (get (codes "time") d))
    false)))

or_true : (b : Bool) → (b || true) ≡ true
or_true true = refl
or_true false = refl

three_there : (d c p t : Data) → get (codes "class") d ≡ Some c → get (codes "path") d ≡ Some p
    → get (codes "time") d ≡ Some t
    → has_three (get (codes "class") d) (get (codes "path") d) (get (codes "time") d) ≡ true
three_there d c p t fc fp ft =
    ap (λ o. has_three o (get (codes "path") d) (get (codes "time") d)) fc
    ∙ ap (λ o. has_three (Some c) o (get (codes "time") d)) fp
    ∙ ap (λ o. has_three (Some c) (Some p) o) ft

keys_have : (d : Data) (f : Form) → HasKeys d f → has_keys (key_count d) d ≡ true
keys_have d f (report_object c p t count fc fp ft) = ap (λ n. has_keys n d) count
    ∙ three_there d c p t fc fp ft
keys_have d f (payload_object c p t y count fc fp ft fy) =
    ap (λ n. has_keys n d) count
    ∙ ap (λ o. is_there o && has_three (get (codes "class") d) (get (codes "path") d)
    (get (codes "time") d)) fy ∙ three_there d c p t fc fp ft
keys_have d f (tick_object t count ft) = ap (λ n. has_keys n d) count ∙ ap is_there ft
keys_have d f (repair_object p t count fp ft) =
    ap (λ n. has_keys n d) count
    ∙ ap (λ o. has_two o (get (codes "repaired") d) (get (codes "replaced") d)
    (get (codes "acquit") d)) ft
    ∙ ap (λ o. has_two (Some t) o (get (codes "replaced") d) (get (codes "acquit") d)) fp
keys_have d f (replacement_object p t count fp ft) =
    ap (λ n. has_keys n d) count
    ∙ ap (λ o. has_two o (get (codes "repaired") d) (get (codes "replaced") d)
    (get (codes "acquit") d)) ft
    ∙ ap (λ o. has_two (Some t) (get (codes "repaired") d) o (get (codes "acquit") d)) fp
    ∙ or_true (is_there (get (codes "repaired") d))
keys_have d f (acquittal_object c t count fc ft) =
    ap (λ n. has_keys n d) count
    ∙ ap (λ o. has_two o (get (codes "repaired") d) (get (codes "replaced") d)
    (get (codes "acquit") d)) ft
    ∙ ap (λ o. has_two (Some t) (get (codes "repaired") d) (get (codes "replaced") d) o) fc
    ∙ ap (λ b. is_there (get (codes "repaired") d) || b)
    (or_true (is_there (get (codes "replaced") d)))
    ∙ or_true (is_there (get (codes "repaired") d))

no_keys : (d : Data) (n : ℕ) → key_count d ≡ n → has_keys n d ≡ false → by_count n d ≡ Err Shape
    → Known (HasKeys d) (object_entry d)
no_keys d n count none shape =
    let whole : has_keys (key_count d) d ≡ false = ap (λ m. has_keys m d) count ∙ none in
    formless (λ f has. let yes = keys_have d f has in cc) (count_is d n count ∙ shape)

one_key_known : (d : Data) (o : Option Data) → key_count d ≡ 1 → get (codes "tick") d ≡ o
    → Known (HasKeys d) (object_entry d)
unfolding forms.one_key
one_key_known d (Some t) count is = formed (ATick (moment_in t)) (tick_object t count is)
one_key_known d None count is =
    no_keys d 1 count (ap is_there is) (ap (λ o. needed o Shape (λ v. forms.tick (moment_in v))) is)

two_keys_known : (d : Data) (time repaired replaced acquit : Option Data) → key_count d ≡ 2
    → get (codes "time") d ≡ time → get (codes "repaired") d ≡ repaired
    → get (codes "replaced") d ≡ replaced → get (codes "acquit") d ≡ acquit
    → Known (HasKeys d) (object_entry d)
unfolding forms.two_keys forms.repaired_keys forms.replaced_keys forms.acquit_keys
two_keys_known d None r p c count ft _ _ _ =
    no_keys d 2 count (ap
    (λ o. has_two o (get (codes "repaired") d) (get (codes "replaced") d)
    (get (codes "acquit") d)) ft)
    (ap (λ o. needed o Shape (λ v. forms.repaired_keys (get (codes "repaired") d) d v)) ft)
two_keys_known d (Some t) (Some r) p c count ft fr _ _ =
    formed (ARepair (path_in (as_str r)) (moment_in t)) (repair_object r t count fr ft)
two_keys_known d (Some t) None (Some p) c count ft _ fp _ =
    formed (AReplacement (path_in (as_str p)) (moment_in t)) (replacement_object p t count fp ft)
two_keys_known d (Some t) None None (Some c) count ft _ _ fc =
    formed (AnAcquittal (case_in (as_str c)) (moment_in t)) (acquittal_object c t count fc ft)
two_keys_known d (Some t) None None None count ft fr fp fc =
    no_keys d 2 count
    (ap (λ o. has_two o (get (codes "repaired") d) (get (codes "replaced") d)
    (get (codes "acquit") d)) ft
    ∙ ap (λ o. has_two (Some t) o (get (codes "replaced") d) (get (codes "acquit") d)) fr
    ∙ ap (λ o. has_two (Some t) None o (get (codes "acquit") d)) fp
    ∙ ap (λ o. has_two (Some t) None None o) fc)
    (ap (λ o. needed o Shape (λ v. forms.repaired_keys (get (codes "repaired") d) d v)) ft
    ∙ ap (λ o. forms.repaired_keys o d t) fr ∙ ap (λ o. forms.replaced_keys o d t) fp
    ∙ ap (λ o. needed o Shape (λ v. forms.acquit (case_in (as_str v)) (moment_in t))) fc)

-- the keys of a report are all there, or one is not
data Three (d : Data) : Type 0 where
  all : (c p t : Data) → get (codes "class") d ≡ Some c → get (codes "path") d ≡ Some p
      → get (codes "time") d ≡ Some t → Three d
  lost : has_three (get (codes "class") d) (get (codes "path") d) (get (codes "time") d) ≡ false
      → ((y : Option Pairs) → forms.report_keys d y ≡ Err Shape) → Three d

three_by_keys : (d : Data) (class path time : Option Data) → get (codes "class") d ≡ class
    → get (codes "path") d ≡ path → get (codes "time") d ≡ time → Three d
unfolding forms.report_keys
three_by_keys d None p t fc _ _ =
    lost (ap (λ o. has_three o (get (codes "path") d) (get (codes "time") d)) fc)
    (λ y. ap (λ o. report_from o (get (codes "path") d) (get (codes "time") d) y) fc)
three_by_keys d (Some c) None t fc fp _ =
    lost (ap (λ o. has_three o (get (codes "path") d) (get (codes "time") d)) fc
    ∙ ap (λ o. has_three (Some c) o (get (codes "time") d)) fp)
    (λ y. ap (λ o. report_from o (get (codes "path") d) (get (codes "time") d) y) fc
    ∙ ap (λ o. report_from (Some c) o (get (codes "time") d) y) fp)
three_by_keys d (Some c) (Some p) None fc fp ft =
    lost (ap (λ o. has_three o (get (codes "path") d) (get (codes "time") d)) fc
    ∙ ap (λ o. has_three (Some c) o (get (codes "time") d)) fp
    ∙ ap (λ o. has_three (Some c) (Some p) o) ft)
    (λ y. ap (λ o. report_from o (get (codes "path") d) (get (codes "time") d) y) fc
    ∙ ap (λ o. report_from (Some c) o (get (codes "time") d) y) fp
    ∙ ap (λ o. report_from (Some c) (Some p) o y) ft)
three_by_keys d (Some c) (Some p) (Some t) fc fp ft = all c p t fc fp ft

three_of : (d : Data) → Three d
three_of d = three_by_keys d (get (codes "class") d) (get (codes "path") d) (get (codes "time") d)
    refl refl refl

three_keys_known : (d : Data) → key_count d ≡ 3 → Three d → Known (HasKeys d) (object_entry d)
three_keys_known d count (all c p t fc fp ft) =
    formed (AReport (class_in (as_str c)) (path_in (as_str p)) (moment_in t) (Some no_pairs))
    (report_object c p t count fc fp ft)
three_keys_known d count (lost none shape) = no_keys d 3 count none (shape (Some no_pairs))

four_keys_known : (d : Data) (o : Option Data) → key_count d ≡ 4 → get (codes "payload") d ≡ o
    → Three d → Known (HasKeys d) (object_entry d)
unfolding forms.four_keys
four_keys_known d None count fy three =
    no_keys d 4 count (ap
    (λ o. is_there o && has_three (get (codes "class") d) (get (codes "path") d)
    (get (codes "time") d)) fy)
    (ap (λ o. needed o Shape (λ v. forms.report_keys d (list_of v))) fy)
four_keys_known d (Some y) count fy (all c p t fc fp ft) =
    formed (AReport (class_in (as_str c)) (path_in (as_str p)) (moment_in t) (list_of y))
    (payload_object c p t y count fc fp ft fy)
four_keys_known d (Some y) count fy (lost none shape) =
    no_keys d 4 count (ap
    (λ o. is_there o && has_three (get (codes "class") d) (get (codes "path") d)
    (get (codes "time") d)) fy ∙ none)
    (ap (λ o. needed o Shape (λ v. forms.report_keys d (list_of v))) fy ∙ shape (list_of y))

abbrev by_four : {A : Type 0} (a b c e : Bool) (v w x y z : A) → A
by_four a b c e v w x y z = cond a v (cond b w (cond c x (cond e y z)))

none_of_four : {A : Type 0} (a b c e : Bool) (v w x y z : A) → a ≡ false → b ≡ false → c ≡ false
    → e ≡ false → by_four a b c e v w x y z ≡ z
none_of_four a b c e v w x y z na nb nc ne =
    ap (λ t. by_four t b c e v w x y z) na ∙ ap (λ t. by_four false t c e v w x y z) nb
    ∙ ap (λ t. by_four false false t e v w x y z) nc
    ∙ ap (λ t. by_four false false false t v w x y z) ne

keys_by : (d : Data) (a b c e : Bool) → (key_count d == 1) ≡ a → (key_count d == 2) ≡ b
    → (key_count d == 3) ≡ c → (key_count d == 4) ≡ e → Known (HasKeys d) (object_entry d)
keys_by d true b c e is _ _ _ =
    one_key_known d (get (codes "tick") d) (eqb-true (key_count d) 1 is) refl
keys_by d false true c e _ is _ _ =
    two_keys_known d (get (codes "time") d) (get (codes "repaired") d) (get (codes "replaced") d)
    (get (codes "acquit") d) (eqb-true (key_count d) 2 is) refl refl refl refl
keys_by d false false true e _ _ is _ =
    three_keys_known d (eqb-true (key_count d) 3 is) (three_of d)
keys_by d false false false true _ _ _ is =
    four_keys_known d (get (codes "payload") d) (eqb-true (key_count d) 4 is) refl (three_of d)
keys_by d false false false false na nb nc ne =
    no_keys d (key_count d) refl
    (none_of_four (key_count d == 1) (key_count d == 2) (key_count d == 3) (key_count d == 4)
    (is_there (get (codes "tick") d))
    (has_two (get (codes "time") d) (get (codes "repaired") d) (get (codes "replaced") d)
    (get (codes "acquit") d))
    (has_three (get (codes "class") d) (get (codes "path") d) (get (codes "time") d))
    (is_there (get (codes "payload") d) && has_three (get (codes "class") d) (get (codes "path") d)
    (get (codes "time") d)) false na nb nc ne)
    (none_of_four (key_count d == 1) (key_count d == 2) (key_count d == 3) (key_count d == 4)
    (forms.one_key d) (forms.two_keys d) (forms.report_keys d (Some no_pairs))
    (forms.four_keys d) (Err Shape) na nb nc ne)

keys_known : (d : Data) → Known (HasKeys d) (object_entry d)
keys_known d = keys_by d (key_count d == 1) (key_count d == 2) (key_count d == 3) (key_count d == 4)
    refl refl refl refl

-- ---- a line

content_is : (content : List ℕ) (f : Form) → HasLineForm content f
    → content_entry content ≡ form_entry f
unfolding content_entry json_entry
content_is content f (in_words plain has) =
    ap (λ t. cond t (json_entry content) (words_entry (words content))) plain
    ∙ words_are (words content) f has
content_is content f (in_json d json said has) =
    ap (λ t. cond t (json_entry content) (words_entry (words content))) json
    ∙ ap (λ o. needed o Json object_entry) said ∙ keys_are d f has

broken_is : (content : List ℕ) → IsBroken content → content_entry content ≡ Err Json
unfolding content_entry json_entry
broken_is content (json, none) =
    ap (λ t. cond t (json_entry content) (words_entry (words content))) json
    ∙ ap (λ o. needed o Json object_entry) none

-- a form, nothing that reads as JSON, or neither
data Kind (content : List ℕ) : Type 0 where
  has_form : (f : Form) → HasLineForm content f → Kind content
  broken : IsBroken content → Kind content
  neither : (IsBroken content → ⊥) → ((f : Form) → HasLineForm content f → ⊥)
      → content_entry content ≡ Err Shape → Kind content

only_words : (content : List ℕ) → is_json content ≡ false
    → ((f : Form) → HasWords (words content) f → ⊥) → (f : Form) → HasLineForm content f → ⊥
only_words content plain none f (in_words p has) = none f has
only_words content plain none f (in_json d json said has) = cc

only_json : (content : List ℕ) (d : Data) → is_json content ≡ true → json_of content ≡ Some d
    → ((f : Form) → HasKeys d f → ⊥) → (f : Form) → HasLineForm content f → ⊥
only_json content d json said none f (in_words p has) = cc
only_json content d json said none f (in_json e j s has) = let same : e ≡ d = cc in
    none f (subst (λ (x : Data). HasKeys x f) same has)

plain_kind : (content : List ℕ) → is_json content ≡ false
    → Known (HasWords (words content)) (words_entry (words content)) → Kind content
unfolding content_entry
plain_kind content plain (formed f has) = has_form f (in_words plain has)
plain_kind content plain (formless none shape) =
    neither (λ b. let json = b.0 in cc) (only_words content plain none)
    (ap (λ t. cond t (json_entry content) (words_entry (words content))) plain ∙ shape)

json_kind : (content : List ℕ) (d : Data) → is_json content ≡ true → json_of content ≡ Some d
    → Known (HasKeys d) (object_entry d) → Kind content
unfolding content_entry json_entry
json_kind content d json said (formed f has) = has_form f (in_json d json said has)
json_kind content d json said (formless none shape) =
    neither (λ b. let broke = b.1 in cc) (only_json content d json said none)
    (ap (λ t. cond t (json_entry content) (words_entry (words content))) json
    ∙ ap (λ o. needed o Json object_entry) said ∙ shape)

kind_by : (content : List ℕ) (t : Bool) (o : Option Data) → is_json content ≡ t
    → json_of content ≡ o → Kind content
kind_by content false o plain _ = plain_kind content plain (words_known (words content))
kind_by content true None json said = broken (json, said)
kind_by content true (Some d) json said = json_kind content d json said (keys_known d)

kind : (content : List ℕ) → Kind content
kind content = kind_by content (is_json content) (json_of content) refl refl

short_is : (line : List ℕ) → length line ≤ line_limit
    → line_entry line ≡ content_entry (without_return line)
unfolding line_entry
short_is line short =
    ap (λ t. cond t (Err TooLong) (content_entry (without_return line)))
    (le-ltb line_limit (length line) short)

long_is : (line : List ℕ) → line_limit < length line → line_entry line ≡ Err TooLong
unfolding line_entry
long_is line long = ap (λ t. cond t (Err TooLong) (content_entry (without_return line)))
    (lt-ltb line_limit (length line) long)

says_kind : (line : List ℕ) → length line ≤ line_limit → Kind (without_return line)
    → Says line (content_entry (without_return line))
says_kind line short (has_form f has) =
    subst (Says line) (sym (content_is (without_return line) f has)) (says_form line f short has)
says_kind line short (broken b) =
    subst (Says line) (sym (broken_is (without_return line) b)) (no_json short b)
says_kind line short (neither unbroken none shape) =
    subst (Says line) (sym shape) (no_form short unbroken none)

says_by : (line : List ℕ) (t : Bool) → nat_lt line_limit (length line) ≡ t
    → Says line (line_entry line)
says_by line true is = let long : line_limit < length line = ltb-true line_limit (length line) is in
    subst (Says line) (sym (long_is line long)) (too_long long)
says_by line false is =
    let short : length line ≤ line_limit = ltb-false line_limit (length line) is in
    subst (Says line) (sym (short_is line short))
    (says_kind line short (kind (without_return line)))

-- what a line says is its entry or first fault
pub says_entry : (line : List ℕ) → Says line (line_entry line)
says_entry line = says_by line (nat_lt line_limit (length line)) refl

shape_is : (content : List ℕ) → (IsBroken content → ⊥) → ((f : Form) → HasLineForm content f → ⊥)
    → Kind content → content_entry content ≡ Err Shape
shape_is content unbroken none (has_form f has) = absurd (none f has)
shape_is content unbroken none (broken b) = absurd (unbroken b)
shape_is content unbroken none (neither _ _ shape) = shape

of_form : (line : List ℕ) (f : Form) (r : Result Entry LineFault) → length line ≤ line_limit
    → HasLineForm (without_return line) f → form_entry f ≡ r → line_entry line ≡ r
of_form line f r short has is = short_is line short ∙ content_is (without_return line) f has ∙ is

-- and a line says nothing else
pub says_only : (line : List ℕ) (r : Result Entry LineFault) → Says line r → line_entry line ≡ r
says_only line r (too_long long) = long_is line long
says_only line r (no_json short b) = short_is line short ∙ broken_is (without_return line) b
says_only line r (no_form short unbroken none) = short_is line short
    ∙ shape_is (without_return line) unbroken none (kind (without_return line))
says_only line r (no_class f short has lacks) =
    of_form line f (Err Class) short has (class_lacks f lacks)
says_only line r (no_path f short has lacks) =
    of_form line f (Err Path) short has (path_lacks f lacks)
says_only line r (no_time f short has lacks) =
    of_form line f (Err Time) short has (time_lacks f lacks)
says_only line r (no_value f short has lacks) =
    of_form line f (Err Value) short has (value_lacks f lacks)
says_only line r (entry e f is short has) = of_form line f (Ok e) short has (entry_whole e f is)
