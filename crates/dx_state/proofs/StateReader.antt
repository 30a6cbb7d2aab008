-- States, read and spelled.
use Rattle.std.proofs.Common.{◌≡◌, ℕ, ◌^◌, ◌<◌, ◌≤◌, ◌==◌, Bool, true, false, not, ◌&&◌, ◌||◌}
use Rattle.std.proofs.Common.{nat_lt}
use Rattle.std.proofs.Common.{IsTrue, List, [], ◌∷◌, Some, inl, inr, refl, sym, ap, ◌∙◌, arith}
use Rattle.std.specs.List.{list_any, list_all}
use Rattle.std.proofs.lemmas.Bool.{eqb-true}
use Rattle.fm_bytes.specs.Numbers.{AllBytes, is_unsigned, u64_bytes, counted_bytes}
use Rattle.fm_bytes.specs.Reading.{number_from, counted_from, whole}
use Rattle.fm_bytes.proofs.Booleans.{and_parts}
use Rattle.fm_bytes.proofs.Readers.{IsReader, reader_as, some_same, choice_some, choice_split}
use Rattle.fm_bytes.proofs.Readers.{word_reader, long_reader, counted_fits}
use Rattle.fm_bytes.proofs.Readers.{counted_reader}
use Rattle.fm_bytes.proofs.Combined.{both_reader, where_reader, made_reader, coded_reader}
use Rattle.fm_entry.specs.Words.{link_fits, links_ascend}
use Rattle.fm_entry.specs.WordBytes.{has_links, link_bytes}
use Rattle.fm_entry.specs.WordReading.{link_from, word_from}
use Rattle.fm_entry.specs.declared.broken.Broken.{Broken}
use Rattle.fm_entry.proofs.Readers.{then_reader, made_where_reader, whole_spelled, whole_read}
use Rattle.fm_entry.proofs.SpokenReader.{link_reader, word_reader_of}
use Rattle.fm_core.specs.Meaning.{OpenCase, Diagnosis}
use Rattle.dx_state.specs.StateBytes.{is_marked, case_links, open_case_bytes, moments_bytes}
use Rattle.dx_state.specs.StateBytes.{parts_bytes, version_byte, diagnosis_bytes}
use Rattle.dx_state.specs.StateReading.{marked_of, marked_from, case_links_from, open_case_from}
use Rattle.dx_state.specs.StateReading.{moments_from, parts_from, marked_parts_from}
use Rattle.dx_state.specs.StateReading.{diagnosis_from}
use Rattle.dx_state.specs.Fitting.{is_number_32, case_links_fit, open_case_fits, state_parts_fit}
use Rattle.dx_state.specs.Fitting.{diagnosis_fits}

-- the first byte
version_means : (b : Bool) → marked_of (version_byte b) ≡ Some b
version_means true = refl
version_means false = refl

version_small : (b : Bool) → version_byte b ≤ 255
version_small true = omega arith
version_small false = omega arith

version_codes : (n : ℕ) (b : Bool) → marked_of n ≡ Some b → n ≡ version_byte b
version_codes n b h =
    elim (choice_split (n == 1) (Some false) _ (Some b) h) [
      | inl is ↦ eqb-true n 1 is.0 ∙ ap version_byte (some_same false b is.1)
      | inr other ↦
          let last = choice_some (n == 2) (Some true) b other.1 in
          eqb-true n 2 last.0 ∙ ap version_byte (some_same true b last.1)
    ]

marked_reader : IsReader (λ b. true) (λ b. version_byte b ∷ []) marked_from
unfolding marked_from
marked_reader = coded_reader version_byte marked_of version_means version_small version_codes

-- the links of an open case
no_links : (links : List Broken) → IsTrue (not (has_links links)) → links ≡ []
no_links [] h = refl
no_links (x ∷ xs) h = absurd (let never : ⊥ = grind arith in never)

pub case_links_reader : (marked : Bool) → IsReader (case_links_fit marked) (case_links marked)
    (case_links_from marked)
unfolding case_links_from
case_links_reader true =
    reader_as _ (case_links_fit true) _ (case_links true) _ (λ links h. h) (λ links h. h)
    (λ links h. refl)
    (where_reader (counted_fits 4 link_fits) links_ascend (counted_bytes 4 link_bytes)
    (counted_from 4 link_from) (counted_reader 4 link_fits link_bytes link_from link_reader))
case_links_reader false = record {
  sound = λ bytes t all h.
      let same = some_same ([], bytes) t h in (
        ap (λ (p : List Broken × List ℕ). not (has_links p.0)) (sym same),
        ap (λ (p : List Broken × List ℕ). p.1) same,
      );
  whole = λ links rest fits. ap (λ (xs : List Broken). Some (xs, rest)) (sym (no_links links fits));
}

-- an open case
pub open_case_reader : (marked : Bool) → IsReader (open_case_fits marked) (open_case_bytes marked)
    (open_case_from marked)
unfolding open_case_from
open_case_reader marked =
    made_reader (λ f. record {
      number = f.0;
      opened = f.1.0;
      entries = f.1.1.0;
      observed = f.1.1.1.0;
      broken = f.1.1.1.1;
    })
    (λ c. (c.number, (c.opened, (c.entries, (c.observed, c.broken))))) _ _ _ (λ f. refl) (λ c. refl)
    (both_reader _ _ _ _ (number_from 8) _ long_reader
    (both_reader _ _ _ _ (number_from 8) _ long_reader
    (both_reader _ _ _ _ (counted_from 8 (number_from 8)) _
    (counted_reader 8 _ _ (number_from 8) long_reader)
    (both_reader _ _ _ _ (counted_from 4 (number_from 4)) (case_links_from marked)
    (counted_reader 4 _ _ (number_from 4) word_reader) (case_links_reader marked)))))

-- the moments of an engine
pub moments_reader : IsReader (counted_fits 2 is_unsigned) moments_bytes moments_from
moments_reader = counted_reader 2 is_unsigned u64_bytes (number_from 8) long_reader

-- what follows the first byte
pub parts_reader : (own : ℕ) → own < 8 → (marked : Bool)
    → IsReader (state_parts_fit own marked) (parts_bytes marked) (parts_from own marked)
unfolding parts_from
parts_reader own known marked =
    made_reader (λ f. record {
      conf = f.0;
      time = f.1.0;
      next = f.1.1.0;
      open_cases = f.1.1.1.0;
      solved = f.1.1.1.1.0;
      engines = f.1.1.1.1.1;
    })
    (λ s. (s.conf, (s.time, (s.next, (s.open_cases, (s.solved, s.engines)))))) _ _ _
    (λ f. refl) (λ s. refl)
    (both_reader _ _ _ _ (number_from 4) _ word_reader
    (both_reader _ _ _ _ (number_from 8) _ long_reader
    (both_reader _ _ _ _ (number_from 8) _ long_reader
    (both_reader _ _ _ _ (counted_from 8 (open_case_from marked)) _
    (counted_reader 8 _ _ (open_case_from marked) (open_case_reader marked))
    (both_reader _ _ _ _ (counted_from 8 (word_from own)) (counted_from 4 moments_from)
    (counted_reader 8 _ _ (word_from own) (word_reader_of own known))
    (counted_reader 4 _ _ moments_from moments_reader))))))

marked_parts_reader : (own : ℕ) → own < 8 → (marked : Bool)
    → IsReader (λ s. state_parts_fit own marked s && (not marked || is_marked s))
    (parts_bytes marked)
    (marked_parts_from own marked)
marked_parts_reader own known marked =
    where_reader (state_parts_fit own marked) (λ s. not marked || is_marked s) (parts_bytes marked)
    (parts_from own marked) (parts_reader own known marked)

-- no case of a state that is not marked has links
none_marked : (cs : List OpenCase) → IsTrue (list_all (open_case_fits false) cs)
    → list_any (λ c. has_links c.broken) cs ≡ false
none_marked [] h = refl
none_marked (c ∷ cs) h =
    let parts = and_parts (open_case_fits false c) _ h in
    let one = and_parts (is_unsigned c.number) _ parts.0 in
    let two = and_parts (is_unsigned c.opened) _ one.1 in
    let three = and_parts (counted_fits 8 is_unsigned c.entries) _ two.1 in
    let four = and_parts (counted_fits 4 is_number_32 c.observed) _ three.1 in
    let none : has_links c.broken ≡ false = ap has_links (no_links c.broken four.1) in
    ap (λ (b : Bool). b || list_any (λ c. has_links c.broken) cs) none ∙ none_marked cs parts.1

marked_is : (own : ℕ) (b : Bool) (s : Diagnosis)
    → IsTrue (state_parts_fit own b s && (not b || is_marked s)) → is_marked s ≡ b
marked_is own true s h = (and_parts (state_parts_fit own true s) _ h).1
marked_is own false s h =
    let one = and_parts (is_number_32 s.conf) _ (and_parts (state_parts_fit own false s) _ h).0 in
    let two = and_parts (is_unsigned s.time) _ one.1 in
    let three = and_parts (is_unsigned s.next) _ two.1 in
    let four = and_parts (counted_fits 8 (open_case_fits false) s.open_cases) _ three.1 in
    none_marked s.open_cases (and_parts (nat_lt _ (256 ^ 8)) _ four.0).1

-- the first byte is right of each state
either : (b : Bool) → (not b || b) ≡ true
either true = refl
either false = refl

both_fit : (own : ℕ) (s : Diagnosis)
    → (state_parts_fit own (is_marked s) s && (not (is_marked s) || is_marked s)) ≡ diagnosis_fits
    own s
both_fit own s =
    ap (λ (b : Bool). state_parts_fit own (is_marked s) s && b) (either (is_marked s))
    ∙ and_end (state_parts_fit own (is_marked s) s) where
      and_end : (b : Bool) → (b && true) ≡ b
      and_end true = refl
      and_end false = refl

-- a state
pub diagnosis_reader : (own : ℕ) → own < 8
    → IsReader (diagnosis_fits own) diagnosis_bytes (diagnosis_from own)
unfolding diagnosis_from
diagnosis_reader own known =
    reader_as _ (diagnosis_fits own) _ diagnosis_bytes _
    (λ s h. sym (both_fit own s) ∙ h) (λ s h. both_fit own s ∙ h) (λ s h. refl)
    (made_where_reader (λ f. f.1) (λ s. (is_marked s, s)) _ _ _
    (λ f h. ap (λ (b : Bool). (b, f.1)) (marked_is own f.0 f.1 h)) (λ s. refl)
    (then_reader (λ b. true) (λ b s. state_parts_fit own b s && (not b || is_marked s))
    (λ b. version_byte b ∷ []) parts_bytes marked_from (λ b. marked_parts_from own b)
    marked_reader (λ b h. marked_parts_reader own known b)))

-- a state that all of the bytes are is spelled by them
pub diagnosis_spelled : (own : ℕ) → own < 8 → (bytes : List ℕ) (s : Diagnosis) → AllBytes bytes
    → whole (diagnosis_from own bytes) ≡ Some s
    → IsTrue (diagnosis_fits own s) × (bytes ≡ diagnosis_bytes s)
diagnosis_spelled own known bytes s all h =
    whole_spelled (diagnosis_fits own) diagnosis_bytes (diagnosis_from own)
    (diagnosis_reader own known) bytes s all h

-- the bytes of a state read as the state
pub diagnosis_whole : (own : ℕ) → own < 8 → (bytes : List ℕ) (s : Diagnosis)
    → IsTrue (diagnosis_fits own s) → bytes ≡ diagnosis_bytes s
    → whole (diagnosis_from own bytes) ≡ Some s
diagnosis_whole own known bytes s fits same =
    whole_read (diagnosis_fits own) diagnosis_bytes (diagnosis_from own)
    (diagnosis_reader own known) bytes s fits same

-- equal bytes are of equal states
pub diagnosis_once : (own : ℕ) → own < 8 → (s t : Diagnosis) → IsTrue (diagnosis_fits own s)
    → IsTrue (diagnosis_fits own t) → diagnosis_bytes s ≡ diagnosis_bytes t → s ≡ t
diagnosis_once own known s t h k same =
    some_same s t (sym (diagnosis_whole own known (diagnosis_bytes s) s h refl)
    ∙ diagnosis_whole own known (diagnosis_bytes s) t k same)
