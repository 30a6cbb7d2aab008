-- Checkpoints, read and spelled in both ways.
use Rattle.std.proofs.Common.{◌≡◌, inl, inr, ℕ, ◌^◌, ◌<◌, ◌≤◌, Bool, true, false, ◌&&◌, ◌==◌}
use Rattle.std.proofs.Common.{nat_lt, IsTrue, List, [], ◌∷◌, ◌++◌, length, Some}
use Rattle.std.proofs.Common.{if◌then◌else◌, refl, sym, ap, ◌∙◌, arith, subst}
use Rattle.std.proofs.lemmas.Bool.{ltb-true, lt-ltb, eqb-true, eq-eqb}
use Rattle.fm_bytes.specs.Numbers.{AllBytes, u32_bytes, u64_bytes, is_unsigned, long_text}
use Rattle.fm_bytes.specs.Numbers.{counted_bytes}
use Rattle.fm_bytes.specs.Reading.{Read, made, number_from, counted_from, whole}
use Rattle.fm_bytes.proofs.Booleans.{and_parts, and_true}
use Rattle.fm_bytes.proofs.Readers.{IsReader, some_same, choice_some, choice_split}
use Rattle.fm_bytes.proofs.Readers.{word_reader, long_reader, counted_fits, counted_reader}
use Rattle.fm_bytes.proofs.Combined.{both_reader, coded_reader, made_some, whole_some}
use Rattle.fm_entry.specs.Reading.{moment_from}
use Rattle.fm_entry.specs.WordReading.{then_from}
use Rattle.fm_entry.proofs.PartReaders.{moment_reader}
use Rattle.fm_entry.proofs.Readers.{then_reader, whole_spelled, whole_read}
use Rattle.fm_saved.specs.Saved.{saved_from}
use Rattle.fm_saved.specs.Checkpoints.{IsSpelledCheckpoint, SpellsCheckpoint}
use Rattle.fm_saved.specs.Checkpoints.{active_of, active_from}
use Rattle.fm_saved.specs.Checkpoints.{conf_number_from, numbers_from, checkpoint_from}
use Rattle.fm_saved.specs.declared.checkpoint.Checkpoint.{Checkpoint}
use Rattle.fm_saved.proofs.SavedReader.{saved_fits, saved_reader, all_fit, fit_all}

-- the first byte
abbrev active_code : Bool × Bool → ℕ
active_code active = (if active.1 then (if active.0 then 3 else 2) else (if active.0 then 1 else 0))

active_means : (active : Bool × Bool) → active_of (active_code active) ≡ Some active
active_means (true, true) = refl
active_means (true, false) = refl
active_means (false, true) = refl
active_means (false, false) = refl

active_small : (active : Bool × Bool) → active_code active ≤ 255
active_small (true, true) = omega arith
active_small (true, false) = omega arith
active_small (false, true) = omega arith
active_small (false, false) = omega arith

active_codes : (n : ℕ) (active : Bool × Bool) → active_of n ≡ Some active → n ≡ active_code active
active_codes n active h =
    elim (choice_split (n == 0) (Some (false, false)) _ (Some active) h) [
      | inl is ↦ eqb-true n 0 is.0 ∙ ap active_code (some_same (false, false) active is.1)
      | inr other ↦ elim (choice_split (n == 1) (Some (true, false)) _ (Some active) other.1) [
        | inl is ↦ eqb-true n 1 is.0 ∙ ap active_code (some_same (true, false) active is.1)
        | inr other ↦ elim (choice_split (n == 2) (Some (false, true)) _ (Some active) other.1) [
          | inl is ↦ eqb-true n 2 is.0 ∙ ap active_code (some_same (false, true) active is.1)
          | inr other ↦
              let last = choice_some (n == 3) (Some (true, true)) active other.1 in
              eqb-true n 3 last.0 ∙ ap active_code (some_same (true, true) active last.1)
        ]
      ]
    ]

active_reader : IsReader (λ active. true) (λ active. active_code active ∷ []) active_from
unfolding active_from
active_reader = coded_reader active_code active_of active_means active_small active_codes

-- the number of a configuration
abbrev number_fits : Bool → ℕ → Bool
number_fits numbered n = if numbered then nat_lt n (2 ^ 32) else n == 0

abbrev number_bytes : Bool → ℕ → List ℕ
number_bytes numbered n = if numbered then u32_bytes n else []

conf_number_reader : (numbered : Bool)
    → IsReader (number_fits numbered) (number_bytes numbered) (conf_number_from numbered)
conf_number_reader true = word_reader
conf_number_reader false = record {
  sound = λ bytes t all h.
      let same = some_same (0, bytes) t h in (
        eq-eqb t.0 0 (ap (λ (p : ℕ × List ℕ). p.0) (sym same)),
        ap (λ (p : ℕ × List ℕ). p.1) same,
      );
  whole = λ x rest fits.
      let none = eqb-true x 0 fits in
      ap (λ (n : ℕ). Some (n, rest)) (sym none);
}

-- what follows the first byte
abbrev Numbers : Type 0
Numbers = ℕ × (ℕ × (ℕ × List (List ℕ)))

abbrev numbers_fit : Bool → Numbers → Bool
numbers_fit numbered f =
    is_unsigned f.0
    && (nat_lt f.1.0 (2 ^ 62)
    && (number_fits numbered f.1.1.0 && counted_fits 4 saved_fits f.1.1.1))

abbrev numbers_bytes : Bool → Numbers → List ℕ
numbers_bytes numbered f =
    u64_bytes f.0
    ++ (u64_bytes f.1.0 ++ (number_bytes numbered f.1.1.0 ++ counted_bytes 4 long_text f.1.1.1))

numbers_reader : (numbered : Bool)
    → IsReader (numbers_fit numbered) (numbers_bytes numbered) (numbers_from numbered)
numbers_reader numbered =
    both_reader _ _ _ _ (number_from 8) _ long_reader
    (both_reader _ _ _ _ moment_from _ moment_reader
    (both_reader _ _ _ _ (conf_number_from numbered) (counted_from 4 saved_from)
    (conf_number_reader numbered)
    (counted_reader 4 saved_fits long_text saved_from saved_reader)))

-- all that is read, with the way in which it is spelled
abbrev Fields : Type 0
Fields = (Bool × Bool) × Numbers

abbrev fields_fit : Fields → Bool
fields_fit f = true && numbers_fit f.0.1 f.1

abbrev fields_bytes : Fields → List ℕ
fields_bytes f = active_code f.0 ∷ [] ++ numbers_bytes f.0.1 f.1

abbrev fields_from : List ℕ → Read Fields
fields_from bytes = then_from active_from (λ active. numbers_from active.1) bytes

fields_reader : IsReader fields_fit fields_bytes fields_from
fields_reader =
    then_reader (λ active. true) (λ active. numbers_fit active.1)
    (λ active. active_code active ∷ []) (λ active. numbers_bytes active.1) active_from
    (λ active. numbers_from active.1) active_reader (λ active h. numbers_reader active.1)

abbrev of_fields : Fields → Checkpoint
of_fields f = record {
  second = f.0.0;
  base = f.1.0;
  moment = f.1.1.0;
  conf = f.1.1.1.0;
  states = f.1.1.1.1;
}

abbrev to_fields : Bool → Checkpoint → Fields
to_fields numbered c = ((c.second, numbered), (c.base, (c.moment, (c.conf, c.states))))

-- what fits has a spelling
number_small : (numbered : Bool) (n : ℕ) → IsTrue (number_fits numbered n) → n < 2 ^ 32
number_small true n h = ltb-true n (2 ^ 32) h
number_small false n h = let none = eqb-true n 0 h in omega (arith, none)

fields_are : (f : Fields) → IsTrue (fields_fit f) → IsSpelledCheckpoint (of_fields f)
fields_are f h =
    let zero = and_parts true (numbers_fit f.0.1 f.1) h in
    let one = and_parts (is_unsigned f.1.0) _ zero.1 in
    let two = and_parts (nat_lt f.1.1.0 (2 ^ 62)) _ one.1 in
    let three = and_parts (number_fits f.0.1 f.1.1.1.0) _ two.1 in
    let four = and_parts (nat_lt (length f.1.1.1.1) (256 ^ 4)) _ three.1 in
    record {
      base_fits = ltb-true f.1.0 (2 ^ 64) one.0;
      moment_fits = ltb-true f.1.1.0 (2 ^ 62) two.0;
      conf_fits = number_small f.0.1 f.1.1.1.0 three.0;
      few = ltb-true (length f.1.1.1.1) (2 ^ 32) four.0;
      states_fit = all_fit f.1.1.1.1 four.1;
    }

fields_spell : (second numbered : Bool) (n : Numbers)
    → IsTrue (fields_fit ((second, numbered), n))
    → SpellsCheckpoint (fields_bytes ((second, numbered), n)) (of_fields ((second, numbered), n))
fields_spell second true n h = inl refl
fields_spell second false n h =
    let zero = and_parts true (numbers_fit false n) h in
    let one = and_parts (is_unsigned n.0) _ zero.1 in
    let two = and_parts (nat_lt n.1.0 (2 ^ 62)) _ one.1 in
    let three = and_parts (number_fits false n.1.1.0) _ two.1 in
    inr (eqb-true n.1.1.0 0 three.0, refl)

-- and what has a spelling fits
fields_back : (numbered : Bool) (c : Checkpoint) → IsSpelledCheckpoint c
    → IsTrue (number_fits numbered c.conf) → IsTrue (fields_fit (to_fields numbered c))
fields_back numbered c h conf =
    and_true true _ refl
    (and_true (is_unsigned c.base) _ (lt-ltb c.base (2 ^ 64) h.base_fits)
    (and_true (nat_lt c.moment (2 ^ 62)) _ (lt-ltb c.moment (2 ^ 62) h.moment_fits)
    (and_true (number_fits numbered c.conf) _ conf
    (and_true (nat_lt (length c.states) (256 ^ 4)) _ (lt-ltb (length c.states) (2 ^ 32) h.few)
    (fit_all c.states h.states_fit)))))

whole_made : {A B : Type 0} (g : A → B) (r : Read A) (y : B) → whole (made g r) ≡ Some y
    → (x : A) × (whole r ≡ Some x) × (g x ≡ y)
whole_made {A = A} {B = B} g r y h =
    let some = made_some g r (y, []) (whole_some (made g r) y h) in
    let none = ap (λ (p : B × List ℕ). p.1) some.2 in
    let value = ap (λ (p : B × List ℕ). p.0) some.2 in (
      some.0.0,
      ap whole (some.1 ∙ ap (λ (rest : List ℕ). Some (some.0.0, rest)) (sym none)),
      sym value,
    )

made_whole : {A B : Type 0} (g : A → B) (r : Read A) (x : A) → whole r ≡ Some x
    → whole (made g r) ≡ Some (g x)
made_whole g r x h = ap (λ (q : Read _). whole (made g q)) (whole_some r x h)

-- the checkpoint that all bytes are
pub checkpoint_spelled : (bytes : List ℕ) (c : Checkpoint) → AllBytes bytes
    → whole (checkpoint_from bytes) ≡ Some c → IsSpelledCheckpoint c × SpellsCheckpoint bytes c
unfolding checkpoint_from
checkpoint_spelled bytes c all h =
    let found = whole_made of_fields (fields_from bytes) c h in
    let f = found.0 in
    let known = whole_spelled fields_fit fields_bytes fields_from fields_reader bytes f all found.1
    in
    let spells : SpellsCheckpoint (fields_bytes f) (of_fields f) =
    fields_spell f.0.0 f.0.1 f.1 known.0 in (
      subst IsSpelledCheckpoint found.2 (fields_are f known.0),
      subst (λ (d : Checkpoint). SpellsCheckpoint bytes d) found.2
          (subst (λ (xs : List ℕ). SpellsCheckpoint xs (of_fields f)) (sym known.1) spells),
    )

-- the bytes of a checkpoint, spelled in either way, read as the checkpoint
pub checkpoint_whole : (bytes : List ℕ) (c : Checkpoint) → IsSpelledCheckpoint c
    → SpellsCheckpoint bytes c → whole (checkpoint_from bytes) ≡ Some c
unfolding checkpoint_from
checkpoint_whole bytes c spelled (inl same) =
    made_whole of_fields (fields_from bytes) (to_fields true c)
    (whole_read fields_fit fields_bytes fields_from fields_reader bytes (to_fields true c)
    (fields_back true c spelled (lt-ltb c.conf (2 ^ 32) spelled.conf_fits)) same)
checkpoint_whole bytes c spelled (inr older) =
    made_whole of_fields (fields_from bytes) (to_fields false c)
    (whole_read fields_fit fields_bytes fields_from fields_reader bytes (to_fields false c)
    (fields_back false c spelled (eq-eqb c.conf 0 older.0)) older.1)
