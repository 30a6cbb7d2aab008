-- Records of words spoken, read and spelled.
use Rattle.std.proofs.Common.{◌≡◌, ℕ, ◌+◌, ◌-◌, ◌^◌, ◌<◌, ◌≤◌, Bool, true, false, not, ◌&&◌, ◌==◌}
use Rattle.std.proofs.Common.{nat_lt, nat_le, IsTrue, List, [], ◌∷◌, ◌++◌, length, Option}
use Rattle.std.proofs.Common.{option_map, Some, None, inl, inr, refl, sym, ap, ◌∙◌, arith}
use Rattle.std.specs.List.{All, list_all}
use Rattle.std.proofs.lemmas.Bool.{false≢true, leb-true, le-leb, ltb-true, lt-ltb, eqb-true, eq-eqb}
use Rattle.std.proofs.lemmas.List.Sums.{AllPass-from_list_all, list_all-from_AllPass}
use Rattle.fm_name.specs.Class.{is_class}
use Rattle.fm_name.specs.Path.{is_path}
use Rattle.fm_name.specs.declared.events.EventName.{EventName}
use Rattle.fm_bytes.specs.Numbers.{AllBytes, u32_bytes, u64_bytes, counted_bytes}
use Rattle.fm_bytes.specs.Reading.{number_from, flag_from, both_from, counted_from, whole}
use Rattle.fm_bytes.proofs.Booleans.{and_parts, and_true}
use Rattle.fm_bytes.proofs.Readers.{IsReader, reader_as, some_same, choice_some, choice_split}
use Rattle.fm_bytes.proofs.Readers.{choice_true, word_reader, flag_reader, counted_fits}
use Rattle.fm_bytes.proofs.Readers.{counted_reader}
use Rattle.fm_entry.specs.declared.broken.Broken.{Broken}
use Rattle.fm_entry.specs.declared.list_event.ListKind.{ListKind}
use Rattle.fm_entry.specs.declared.list_event.ListKind.TheVariants.{Suspect as SuspectKind}
use Rattle.fm_entry.specs.declared.list_event.ListKind.TheVariants.{Undiagnosable, Upset, Updated}
use Rattle.fm_entry.specs.declared.list_event.ListKind.TheVariants.{Repaired as RepairedKind}
use Rattle.fm_entry.specs.declared.suspect.Mark.{Mark}
use Rattle.fm_entry.specs.declared.suspect.Mark.TheVariants.{Present, Repaired as RepairedMark}
use Rattle.fm_entry.specs.declared.suspect.Mark.TheVariants.{Replaced as ReplacedMark, Acquitted}
use Rattle.fm_entry.specs.declared.suspect.Suspect.{Suspect}
use Rattle.fm_entry.specs.declared.list_event.ListEvent.{ListEvent}
use Rattle.fm_entry.specs.declared.spoken.Spoken.{Spoken}
use Rattle.fm_entry.specs.Words.{IsEvent, IsSuspect, IsBrokenLink, IsWordOf, IsSpelledSpoken}
use Rattle.fm_entry.specs.Words.{links_ascend, event_fits, suspect_fits, link_fits, links_fit}
use Rattle.fm_entry.specs.Words.{word_fits}
use Rattle.fm_entry.specs.WordBytes.{kind_byte, head_byte, mark_byte, event_bytes, suspect_bytes}
use Rattle.fm_entry.specs.WordBytes.{link_bytes, has_links, broken_bytes, word_bytes, spoken_bytes}
use Rattle.fm_entry.specs.Reading.{class_from, path_from, moment_from, module_from, case_from}
use Rattle.fm_entry.specs.WordReading.{list_kind_of, head_of, mark_of, record_number_from}
use Rattle.fm_entry.specs.WordReading.{certainty_from}
use Rattle.fm_entry.specs.WordReading.{own_from, head_from, mark_from, event_from, suspect_from}
use Rattle.fm_entry.specs.WordReading.{link_from}
use Rattle.fm_entry.specs.WordReading.{links_from, broken_from, word_body_from, word_from}
use Rattle.fm_entry.specs.WordReading.{words_from, spoken_from}
use Rattle.fm_bytes.proofs.Combined.{both_reader, where_reader, made_reader, coded_reader}
use Rattle.fm_entry.proofs.Readers.{then_reader, made_where_reader, whole_spelled, whole_read}
use Rattle.fm_entry.proofs.Readers.{spelling_prefix}
use Rattle.fm_entry.proofs.PartReaders.{class_reader, path_reader, moment_reader, module_reader}
use Rattle.fm_entry.proofs.PartReaders.{case_reader, record_number_reader, certainty_reader}
use Rattle.fm_entry.proofs.PartReaders.{own_reader}

-- the kinds and the marks by their numbers
kind_means : (k : ListKind) → list_kind_of (kind_byte k) ≡ Some k
kind_means SuspectKind = refl
kind_means Undiagnosable = refl
kind_means Upset = refl
kind_means Updated = refl
kind_means RepairedKind = refl

kind_small : (k : ListKind) → kind_byte k < 8
kind_small SuspectKind = omega arith
kind_small Undiagnosable = omega arith
kind_small Upset = omega arith
kind_small Updated = omega arith
kind_small RepairedKind = omega arith

kind_codes : (n : ℕ) (k : ListKind) → list_kind_of n ≡ Some k → n ≡ kind_byte k
kind_codes n k h =
    elim (choice_split (n == 1) (Some SuspectKind) _ (Some k) h) [
      | inl is ↦ eqb-true n 1 is.0 ∙ ap kind_byte (some_same SuspectKind k is.1)
      | inr other ↦ elim (choice_split (n == 2) (Some Undiagnosable) _ (Some k) other.1) [
        | inl is ↦ eqb-true n 2 is.0 ∙ ap kind_byte (some_same Undiagnosable k is.1)
        | inr other ↦ elim (choice_split (n == 3) (Some Upset) _ (Some k) other.1) [
          | inl is ↦ eqb-true n 3 is.0 ∙ ap kind_byte (some_same Upset k is.1)
          | inr other ↦ elim (choice_split (n == 4) (Some Updated) _ (Some k) other.1) [
            | inl is ↦ eqb-true n 4 is.0 ∙ ap kind_byte (some_same Updated k is.1)
            | inr other ↦
                let last = choice_some (n == 5) (Some RepairedKind) k other.1 in
                eqb-true n 5 last.0 ∙ ap kind_byte (some_same RepairedKind k last.1)
          ]
        ]
      ]
    ]

head_means : (k : ListKind) (b : Bool) → head_of (head_byte k b) ≡ Some (k, b)
head_means SuspectKind true = refl
head_means Undiagnosable true = refl
head_means Upset true = refl
head_means Updated true = refl
head_means RepairedKind true = refl
head_means SuspectKind false = refl
head_means Undiagnosable false = refl
head_means Upset false = refl
head_means Updated false = refl
head_means RepairedKind false = refl

head_small : (k : ListKind) (b : Bool) → head_byte k b ≤ 255
head_small k true = let few = kind_small k in omega arith
head_small k false = let few = kind_small k in omega arith

paired : (b : Bool) (o : Option ListKind) (h : ListKind × Bool)
    → option_map (λ k. (k, b)) o ≡ Some h
    → (o ≡ Some h.0) × (b ≡ h.1)
paired b None h e = cc
paired b (Some k) h e =
    let same = some_same (k, b) h e in
    (ap (λ (p : ListKind × Bool). Some p.0) same, ap (λ (p : ListKind × Bool). p.1) same)

head_codes : (n : ℕ) (h : ListKind × Bool) → head_of n ≡ Some h → n ≡ head_byte h.0 h.1
head_codes n h e =
    elim (choice_split (nat_lt 8 n) (option_map (λ k. (k, true)) (list_kind_of (n - 8))) _ (Some
    h) e) [
      | inl is ↦
          let parts = paired true (list_kind_of (n - 8)) h is.1 in
          let kind = kind_codes (n - 8) h.0 parts.0 in
          let past = ltb-true 8 n is.0 in
          let all : n ≡ 8 + kind_byte h.0 = omega arith in
          all ∙ ap (head_byte h.0) parts.1
      | inr other ↦
          let parts = paired false (list_kind_of n) h other.1 in
          kind_codes n h.0 parts.0 ∙ ap (head_byte h.0) parts.1
    ]

mark_means : (m : Mark) → mark_of (mark_byte m) ≡ Some m
mark_means Present = refl
mark_means RepairedMark = refl
mark_means ReplacedMark = refl
mark_means Acquitted = refl

mark_small : (m : Mark) → mark_byte m ≤ 255
mark_small Present = omega arith
mark_small RepairedMark = omega arith
mark_small ReplacedMark = omega arith
mark_small Acquitted = omega arith

mark_codes : (n : ℕ) (m : Mark) → mark_of n ≡ Some m → n ≡ mark_byte m
mark_codes n m h =
    elim (choice_split (n == 0) (Some Present) _ (Some m) h) [
      | inl is ↦ eqb-true n 0 is.0 ∙ ap mark_byte (some_same Present m is.1)
      | inr other ↦ elim (choice_split (n == 1) (Some RepairedMark) _ (Some m) other.1) [
        | inl is ↦ eqb-true n 1 is.0 ∙ ap mark_byte (some_same RepairedMark m is.1)
        | inr other ↦ elim (choice_split (n == 2) (Some ReplacedMark) _ (Some m) other.1) [
          | inl is ↦ eqb-true n 2 is.0 ∙ ap mark_byte (some_same ReplacedMark m is.1)
          | inr other ↦
              let last = choice_some (n == 3) (Some Acquitted) m other.1 in
              eqb-true n 3 last.0 ∙ ap mark_byte (some_same Acquitted m last.1)
        ]
      ]
    ]

head_reader : IsReader (λ h. true) (λ h. head_byte h.0 h.1 ∷ []) head_from
unfolding head_from
head_reader =
    coded_reader (λ h. head_byte h.0 h.1) head_of (λ h. head_means h.0 h.1)
    (λ h. head_small h.0 h.1) head_codes

mark_reader : IsReader (λ m. true) (λ m. mark_byte m ∷ []) mark_from
unfolding mark_from
mark_reader = coded_reader mark_byte mark_of mark_means mark_small mark_codes

-- an event
pub event_reader : IsReader event_fits event_bytes event_from
unfolding event_from
event_reader =
    made_reader (λ f. record { class = f.0; path = f.1 }) (λ e. (e.class, e.path)) _ _
    (both_from class_from path_from) (λ f. refl) (λ e. refl)
    (both_reader _ _ _ _ class_from path_from class_reader path_reader)

last_true : (a b c : Bool) → IsTrue (a && (b && (c && (true && true)))) → IsTrue (a && (b && c))
last_true a b c h =
    let one = and_parts a _ h in
    let two = and_parts b _ one.1 in
    and_true a _ one.0 (and_true b _ two.0 (and_parts c _ two.1).0)

true_last : (a b c : Bool) → IsTrue (a && (b && c)) → IsTrue (a && (b && (c && (true && true))))
true_last a b c h =
    let one = and_parts a _ h in
    let two = and_parts b _ one.1 in
    and_true a _ one.0 (and_true b _ two.0 (and_true c _ two.1 refl))

-- a suspect
pub suspect_reader : IsReader suspect_fits suspect_bytes suspect_from
unfolding suspect_from
suspect_reader =
    reader_as _ suspect_fits _ suspect_bytes _
    (λ s h. last_true (is_class s.class) (is_path s.path) (nat_le s.certainty 100) h)
    (λ s h. true_last (is_class s.class) (is_path s.path) (nat_le s.certainty 100) h) (λ s h. refl)
    (made_reader (λ f. record {
      class = f.0;
      path = f.1.0;
      certainty = f.1.1.0;
      retire =
          f.1.1.1.0;
      mark = f.1.1.1.1;
    })
    (λ s. (s.class, (s.path, (s.certainty, (s.retire, s.mark))))) _ _ _ (λ f. refl) (λ s. refl)
    (both_reader _ _ _ _ class_from _ class_reader
    (both_reader _ _ _ _ path_from _ path_reader
    (both_reader _ _ _ _ certainty_from _ certainty_reader
    (both_reader _ _ _ _ flag_from mark_from flag_reader mark_reader)))))

-- a broken link
pub link_reader : IsReader link_fits link_bytes link_from
unfolding link_from
link_reader =
    made_reader (λ f. record { instance = f.0; effect = f.1 }) (λ l. (l.instance, l.effect)) _ _
    (both_from (number_from 4) (number_from 4)) (λ f. refl) (λ l. refl)
    (both_reader _ _ _ _ (number_from 4) (number_from 4) word_reader word_reader)

-- broken links, one or more, in order
pub links_reader : IsReader
    (λ links. counted_fits 4 link_fits links && (has_links links && links_ascend links))
    (counted_bytes 4 link_bytes) links_from
unfolding links_from
links_reader =
    where_reader (counted_fits 4 link_fits) (λ links. has_links links && links_ascend links)
    (counted_bytes 4 link_bytes)
    (counted_from 4 link_from) (counted_reader 4 link_fits link_bytes link_from link_reader)

-- the broken links of a word that has some, or none
abbrev links_at : Bool → List Broken → Bool
links_at true links = counted_fits 4 link_fits links && (has_links links && links_ascend links)
links_at false links = not (has_links links)

some_links : (x : Broken) (xs : List Broken) → has_links (x ∷ xs) ≡ true
some_links x xs = lt-ltb 0 (length (x ∷ xs)) (omega arith)

no_links : (links : List Broken) → IsTrue (not (has_links links)) → links ≡ []
no_links [] h = refl
no_links (x ∷ xs) h = absurd (false≢true (sym (ap not (some_links x xs)) ∙ h))

broken_reader : (marked : Bool) → IsReader (links_at marked) broken_bytes (broken_from marked)
unfolding broken_from
broken_reader true =
    reader_as _ (links_at true) _ broken_bytes _ (λ links h. h) (λ links h. h)
    (λ links h. let parts = and_parts (counted_fits 4 link_fits links) _ h in
    sym (choice_true (has_links links) _ _ (and_parts (has_links links) _ parts.1).0)) links_reader
broken_reader false = record {
  sound = λ bytes t all h.
      let same = some_same ([], bytes) t h in (
        ap (λ (p : List Broken × List ℕ). not (has_links p.0)) (sym same),
        ap (λ (p : List Broken × List ℕ). broken_bytes p.0 ++ p.1) same,
      );
  whole = λ links rest fits.
      let none = no_links links fits in
      ap (λ (xs : List Broken). Some ([], broken_bytes xs ++ rest)) none
      ∙ ap (λ (xs : List Broken). Some (xs, rest)) (sym none);
}

links_marked : (b : Bool) (links : List Broken) → IsTrue (links_at b links) → has_links links ≡ b
links_marked true links h =
    (and_parts (has_links links) _ (and_parts (counted_fits 4 link_fits links) _ h).1).0
links_marked false links h = ap has_links (no_links links h)

links_same : (links : List Broken) → links_at (has_links links) links ≡ links_fit links
links_same [] = refl
links_same (x ∷ xs) =
    ap (λ (b : Bool). links_at b (x ∷ xs)) (some_links x xs)
    ∙ ap (λ (b : Bool). counted_fits 4 link_fits (x ∷ xs) && (b && links_ascend (x ∷ xs)))
    (some_links x xs)

-- what follows the first byte of a word
abbrev BodyFields : Type 0
BodyFields = ℕ × (ℕ × (ℕ × (ℕ × (List EventName × (List Suspect × List Broken)))))

abbrev body_fits : ℕ → Bool → BodyFields → Bool
body_fits own marked f =
    (f.0 == own)
    && (nat_lt f.1.0 (2 ^ 63)
    && (nat_lt f.1.1.0 (2 ^ 62)
    && (nat_lt f.1.1.1.0 (2 ^ 32)
    && (counted_fits 4 event_fits f.1.1.1.1.0
    && (counted_fits 4 suspect_fits f.1.1.1.1.1.0 && links_at marked f.1.1.1.1.1.1)))))

abbrev body_bytes_of : BodyFields → List ℕ
body_bytes_of f =
    u32_bytes f.0
    ++ (u64_bytes f.1.0
    ++ (u64_bytes f.1.1.0
    ++ (u32_bytes f.1.1.1.0
    ++ (counted_bytes 4 event_bytes f.1.1.1.1.0
    ++ (counted_bytes 4 suspect_bytes f.1.1.1.1.1.0 ++ broken_bytes f.1.1.1.1.1.1)))))

body_reader : (own : ℕ) → own < 8 → (marked : Bool)
    → IsReader (body_fits own marked) body_bytes_of (word_body_from own marked)
body_reader own known marked =
    both_reader _ _ _ _ (own_from own) _ (own_reader own known)
    (both_reader _ _ _ _ case_from _ case_reader
    (both_reader _ _ _ _ moment_from _ moment_reader
    (both_reader _ _ _ _ (number_from 4) _ word_reader
    (both_reader _ _ _ _ (counted_from 4 event_from) _
    (counted_reader 4 _ _ event_from event_reader)
    (both_reader _ _ _ _ (counted_from 4 suspect_from) _
    (counted_reader 4 _ _ suspect_from suspect_reader)
    (broken_reader marked))))))

body_marked : (own : ℕ) (b : Bool) (f : BodyFields) → IsTrue (body_fits own b f)
    → has_links f.1.1.1.1.1.1 ≡ b
body_marked own b f h =
    let one = and_parts (f.0 == own) _ h in
    let two = and_parts (nat_lt f.1.0 (2 ^ 63)) _ one.1 in
    let three = and_parts (nat_lt f.1.1.0 (2 ^ 62)) _ two.1 in
    let four = and_parts (nat_lt f.1.1.1.0 (2 ^ 32)) _ three.1 in
    let five = and_parts (counted_fits 4 event_fits f.1.1.1.1.0) _ four.1 in
    let six = and_parts (counted_fits 4 suspect_fits f.1.1.1.1.1.0) _ five.1 in
    links_marked b f.1.1.1.1.1.1 six.1

-- a word as its first byte and what follows it, and back
abbrev to_fields : ListEvent → (ListKind × Bool) × BodyFields
to_fields w = (
  (w.kind, has_links w.broken),
  (w.case.module, (w.case.case, (w.moment, (w.conf, (w.observed, (w.suspects, w.broken)))))),
)

abbrev of_fields : (ListKind × Bool) × BodyFields → ListEvent
of_fields f = record {
  kind = f.0.0;
  case = record { «module» = f.1.0; case = f.1.1.0 };
  moment = f.1.1.1.0;
  conf = f.1.1.1.1.0;
  observed = f.1.1.1.1.1.0;
  suspects = f.1.1.1.1.1.1.0;
  broken = f.1.1.1.1.1.1.1;
}

fields_back : (own : ℕ) (f : (ListKind × Bool) × BodyFields) → IsTrue (body_fits own f.0.1 f.1)
    → to_fields (of_fields f) ≡ f
fields_back own f h = ap (λ (b : Bool). ((f.0.0, b), f.1)) (body_marked own f.0.1 f.1 h)

word_same : (own : ℕ) (w : ListEvent)
    → body_fits own (has_links w.broken) (to_fields w).1 ≡ word_fits own w
word_same own w =
    ap (λ (b : Bool). (w.case.module == own)
    && (nat_lt w.case.case (2 ^ 63)
    && (nat_lt w.moment (2 ^ 62)
    && (nat_lt w.conf (2 ^ 32)
    && (counted_fits 4 event_fits w.observed
    && (counted_fits 4 suspect_fits w.suspects && b)))))) (links_same w.broken)

-- a word of a module
pub word_reader_of : (own : ℕ) → own < 8 → IsReader (word_fits own) word_bytes (word_from own)
unfolding word_from
word_reader_of own known =
    reader_as _ (word_fits own) _ word_bytes _
    (λ w h. sym (word_same own w) ∙ h) (λ w h. word_same own w ∙ h) (λ w h. refl)
    (made_where_reader of_fields to_fields _ _ _ (fields_back own) (λ w. refl)
    (then_reader (λ h. true) (λ h. body_fits own h.1) (λ h. head_byte h.0 h.1 ∷ [])
    (λ h. body_bytes_of)
    head_from (λ h. word_body_from own h.1) head_reader (λ h k. body_reader own known h.1)))

words_reader : (own : ℕ) → own < 8
    → IsReader (λ ws. counted_fits 4 (word_fits own) ws && nat_lt 0 (length ws))
    (counted_bytes 4 word_bytes) (words_from own)
words_reader own known =
    where_reader (counted_fits 4 (word_fits own)) (λ ws. nat_lt 0 (length ws))
    (counted_bytes 4 word_bytes) (counted_from 4 (word_from own))
    (counted_reader 4 (word_fits own) word_bytes (word_from own) (word_reader_of own known))

-- what passes a test for each item
all_pass : {A : Type 0} (p : A → Bool) (P : A → Type 0) → ((x : A) → IsTrue (p x) → P x)
    → (xs : List A) → IsTrue (list_all p xs) → All P xs
all_pass p P f xs h k d less = f _ (AllPass-from_list_all p xs h k d less)

pass_all : {A : Type 0} (p : A → Bool) (P : A → Type 0) → ((x : A) → P x → IsTrue (p x))
    → (xs : List A) → All P xs → IsTrue (list_all p xs)
pass_all p P f xs h = list_all-from_AllPass p xs (λ k d less. f _ (h k d less))

pub event_is : (e : EventName) → IsTrue (event_fits e) → IsEvent e
event_is e h = let parts = and_parts (is_class e.class) _ h in
    record { class_is = parts.0; path_is = parts.1 }

pub event_back : (e : EventName) → IsEvent e → IsTrue (event_fits e)
event_back e h = and_true (is_class e.class) _ h.class_is h.path_is

pub suspect_is : (s : Suspect) → IsTrue (suspect_fits s) → IsSuspect s
suspect_is s h =
    let one = and_parts (is_class s.class) _ h in
    let two = and_parts (is_path s.path) _ one.1 in
    record { class_is = one.0; path_is = two.0; certainty_fits = leb-true s.certainty 100 two.1 }

pub suspect_back : (s : Suspect) → IsSuspect s → IsTrue (suspect_fits s)
suspect_back s h =
    and_true (is_class s.class) _ h.class_is
    (and_true (is_path s.path) _ h.path_is (le-leb s.certainty 100 h.certainty_fits))

pub link_is : (l : Broken) → IsTrue (link_fits l) → IsBrokenLink l
link_is l h =
    let parts = and_parts (nat_lt l.instance (2 ^ 32)) _ h in
    record {
      instance_fits = ltb-true l.instance (2 ^ 32) parts.0;
      effect_fits =
          ltb-true l.effect (2 ^ 32) parts.1;
    }

pub link_back : (l : Broken) → IsBrokenLink l → IsTrue (link_fits l)
link_back l h =
    and_true (nat_lt l.instance (2 ^ 32)) _ (lt-ltb l.instance (2 ^ 32) h.instance_fits)
    (lt-ltb l.effect (2 ^ 32) h.effect_fits)

-- a list that fits, and back
list_is : {A : Type 0} (p : A → Bool) (P : A → Type 0) → ((x : A) → IsTrue (p x) → P x)
    → (xs : List A)
    → IsTrue (counted_fits 4 p xs) → (length xs < 2 ^ 32) × All P xs
list_is p P f xs h =
    let parts = and_parts (nat_lt (length xs) (2 ^ 32)) _ h in
    (ltb-true (length xs) (2 ^ 32) parts.0, all_pass p P f xs parts.1)

list_back : {A : Type 0} (p : A → Bool) (P : A → Type 0) → ((x : A) → P x → IsTrue (p x))
    → (xs : List A)
    → length xs < 2 ^ 32 → All P xs → IsTrue (counted_fits 4 p xs)
list_back p P f xs few all =
    and_true (nat_lt (length xs) (2 ^ 32)) _ (lt-ltb (length xs) (2 ^ 32) few)
    (pass_all p P f xs all)

-- a word that fits has a spelling, and back
pub word_is : (own : ℕ) (w : ListEvent) → IsTrue (word_fits own w) → IsWordOf own w
word_is own w h =
    let one = and_parts (w.case.module == own) _ h in
    let two = and_parts (nat_lt w.case.case (2 ^ 63)) _ one.1 in
    let three = and_parts (nat_lt w.moment (2 ^ 62)) _ two.1 in
    let four = and_parts (nat_lt w.conf (2 ^ 32)) _ three.1 in
    let five = and_parts (counted_fits 4 event_fits w.observed) _ four.1 in
    let six = and_parts (counted_fits 4 suspect_fits w.suspects) _ five.1 in
    let last = and_parts (counted_fits 4 link_fits w.broken) _ six.1 in
    let events = list_is event_fits IsEvent event_is w.observed five.0 in
    let suspects = list_is suspect_fits IsSuspect suspect_is w.suspects six.0 in
    let links = list_is link_fits IsBrokenLink link_is w.broken last.0 in
    record {
      module_is = eqb-true w.case.module own one.0;
      case_fits = ltb-true w.case.case (2 ^ 63) two.0;
      moment_fits = ltb-true w.moment (2 ^ 62) three.0;
      conf_fits = ltb-true w.conf (2 ^ 32) four.0;
      observed_fit = events.0;
      observed_are = events.1;
      suspects_fit = suspects.0;
      suspects_are = suspects.1;
      broken_fit = links.0;
      broken_are = links.1;
      broken_ascend = last.1;
    }

pub word_back : (own : ℕ) (w : ListEvent) → IsWordOf own w → IsTrue (word_fits own w)
word_back own w h =
    and_true (w.case.module == own) _ (eq-eqb w.case.module own h.module_is)
    (and_true (nat_lt w.case.case (2 ^ 63)) _ (lt-ltb w.case.case (2 ^ 63) h.case_fits)
    (and_true (nat_lt w.moment (2 ^ 62)) _ (lt-ltb w.moment (2 ^ 62) h.moment_fits)
    (and_true (nat_lt w.conf (2 ^ 32)) _ (lt-ltb w.conf (2 ^ 32) h.conf_fits)
    (and_true (counted_fits 4 event_fits w.observed) _
    (list_back event_fits IsEvent event_back w.observed h.observed_fit h.observed_are)
    (and_true (counted_fits 4 suspect_fits w.suspects) _
    (list_back suspect_fits IsSuspect suspect_back w.suspects h.suspects_fit h.suspects_are)
    (and_true (counted_fits 4 link_fits w.broken) _
    (list_back link_fits IsBrokenLink link_back w.broken h.broken_fit h.broken_are)
    h.broken_ascend))))))

abbrev fields_fit : ℕ → ℕ × List ListEvent → Bool
fields_fit own f = nat_lt f.0 (2 ^ 46) &&
    (counted_fits 4 (word_fits own) f.1 && nat_lt 0 (length f.1))

abbrev fields_bytes : ℕ × List ListEvent → List ℕ
fields_bytes f = u64_bytes f.0 ++ counted_bytes 4 word_bytes f.1

fields_reader : (own : ℕ) → own < 8
    → IsReader (fields_fit own) fields_bytes (both_from record_number_from (words_from own))
fields_reader own known =
    both_reader _ _ _ _ record_number_from (words_from own) record_number_reader
    (words_reader own known)

abbrev spoken_fits : Spoken → Bool
spoken_fits s = nat_lt s.module 8 && fields_fit s.module (s.number, s.events)

spoken_reader : IsReader spoken_fits spoken_bytes spoken_from
unfolding spoken_from
spoken_reader =
    made_reader (λ f. record { «module» = f.0; number = f.1.0; events = f.1.1 })
    (λ s. (s.module, (s.number, s.events))) _ _ _
    (λ f. refl) (λ s. refl)
    (then_reader (λ n. nat_lt n 8) fields_fit u32_bytes (λ own. fields_bytes) module_from
    (λ own. both_from record_number_from (words_from own)) module_reader
    (λ own h. fields_reader own (ltb-true own 8 h)))

spoken_is : (s : Spoken) → IsTrue (spoken_fits s) → IsSpelledSpoken s
spoken_is s h =
    let known = and_parts (nat_lt s.module 8) _ h in
    let one = and_parts (nat_lt s.number (2 ^ 46)) _ known.1 in
    let two = and_parts (counted_fits 4 (word_fits s.module) s.events) _ one.1 in
    let words = list_is (word_fits s.module) (IsWordOf s.module) (word_is s.module) s.events two.0
    in
    record {
      module_fits = ltb-true s.module 8 known.0;
      number_fits = ltb-true s.number (2 ^ 46) one.0;
      some_words = ltb-true 0 (length s.events) two.1;
      words_fit = words.0;
      words_are = words.1;
    }

spoken_back : (s : Spoken) → IsSpelledSpoken s → IsTrue (spoken_fits s)
spoken_back s h =
    and_true (nat_lt s.module 8) _ (lt-ltb s.module 8 h.module_fits)
    (and_true (nat_lt s.number (2 ^ 46)) _ (lt-ltb s.number (2 ^ 46) h.number_fits)
    (and_true (counted_fits 4 (word_fits s.module) s.events) _
    (list_back (word_fits s.module) (IsWordOf s.module) (word_back s.module) s.events h.words_fit
    h.words_are)
    (lt-ltb 0 (length s.events) h.some_words)))

-- the record that all bytes are
pub spoken_spelled : (bytes : List ℕ) (s : Spoken) → AllBytes bytes
    → whole (spoken_from bytes) ≡ Some s → IsSpelledSpoken s × (bytes ≡ spoken_bytes s)
spoken_spelled bytes s all h =
    let known = whole_spelled spoken_fits spoken_bytes spoken_from spoken_reader bytes s all h in
    (spoken_is s known.0, known.1)

-- the bytes of a record read as the record
pub spoken_whole : (bytes : List ℕ) (s : Spoken) → IsSpelledSpoken s → bytes ≡ spoken_bytes s
    → whole (spoken_from bytes) ≡ Some s
spoken_whole bytes s spelled same =
    whole_read spoken_fits spoken_bytes spoken_from spoken_reader bytes s (spoken_back s spelled)
    same

-- no spelling of a record is a proper prefix of another
pub spoken_prefix : (r s : Spoken) (xs ys : List ℕ) → IsSpelledSpoken r → IsSpelledSpoken s
    → spoken_bytes r ++ xs ≡ spoken_bytes s ++ ys → (r ≡ s) × (xs ≡ ys)
spoken_prefix r s xs ys h k same =
    spelling_prefix spoken_fits spoken_bytes spoken_from spoken_reader r s xs ys (spoken_back r h)
    (spoken_back s k) same
