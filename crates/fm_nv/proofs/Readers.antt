-- Names, texts and arrays of lists, read and spelled.
use Rattle.std.proofs.Common.{◌≡◌, ℕ, ◌^◌, Bool, ◌&&◌, nat_lt, nat_le, List, ◌∷◌, ◌++◌}
use Rattle.std.proofs.Common.{length, flat_map, None, if◌then◌else◌, refl, sym, ap, ◌∙◌, arith}
use Rattle.std.specs.List.{list_all}
use Rattle.std.specs.Str.{is_utf8}
use Rattle.std.proofs.lemmas.Bool.{leb-true, le-leb, ltb-true, lt-ltb}
use Rattle.fm_bytes.specs.Numbers.{u16_bytes, long_text, counted_bytes}
use Rattle.fm_bytes.specs.Reading.{Read, after, text_of_length, long_text_from, counted_from}
use Rattle.fm_bytes.proofs.Booleans.{and_parts, and_true}
use Rattle.fm_bytes.proofs.Readers.{IsReader, after_some, choice_some, choice_true, reader_as}
use Rattle.fm_bytes.proofs.Readers.{byte_reader, text_sound, text_whole, long_text_reader}
use Rattle.fm_bytes.proofs.Readers.{counted_fits, counted_reader}
use Rattle.fm_nv.specs.Spelled.{is_pair_name, is_text, name_bytes}
use Rattle.fm_nv.specs.Reading.{name_from}

-- a name behind its length
pub name_reader : IsReader is_pair_name name_bytes name_from
unfolding name_from
name_reader = record {
  sound = λ bytes t all h.
      let first = after_some _ _ _ h in
      let some = choice_some _ _ _ first.2 in
      let size = byte_reader.sound bytes first.0 all first.1 in
      let text = text_sound first.0.0 first.0.1 t some.1 in
      let above = ltb-true _ _ some.0 in
      let most = leb-true _ _ size.0 in
      let sized : length t.0 ≡ first.0.0 = text.0 in (
        and_true (is_utf8 t.0) _ text.1
            (and_true (nat_lt 0 (length t.0)) _ (lt-ltb 0 (length t.0) (omega arith))
            (le-leb (length t.0) 255 (omega arith))),
        size.1 ∙ (λ i. sym text.0 i ∷ text.2 i),
      );
  whole = λ x rest fits.
      let one = and_parts _ _ fits in
      let two = and_parts _ _ one.1 in
      ap (λ (r : Read ℕ). after r (λ n left. if nat_lt 0 n then text_of_length n left else None))
      (byte_reader.whole (length x) (x ++ rest) two.1)
      ∙ choice_true _ _ _ two.0 ∙ text_whole x rest one.0;
}

-- a text of a list behind its length
pub text_reader : IsReader is_text long_text (long_text_from 65536)
text_reader = long_text_reader 65536 (omega arith)

-- an array: the number of its items, and the items
abbrev pub array_fits : {A : Type 0} → (A → Bool) → List A → Bool
array_fits fits xs = nat_le (length xs) 65535 && list_all fits xs

abbrev pub array_bytes : {A : Type 0} → (A → List ℕ) → List A → List ℕ
array_bytes spell xs = u16_bytes (length xs) ++ flat_map spell xs

pub array_reader : {A : Type 0} (fits : A → Bool) (spell : A → List ℕ) (read : List ℕ → Read A)
    → IsReader fits spell read
    → IsReader (array_fits fits) (array_bytes spell) (counted_from 2 read)
unfolding u16_bytes
array_reader fits spell read r =
    reader_as (counted_fits 2 fits) (array_fits fits) (counted_bytes 2 spell) (array_bytes spell)
    (counted_from 2 read)
    (λ xs h. let parts = and_parts (nat_lt (length xs) (256 ^ 2)) _ h in
    let small = ltb-true _ _ parts.0 in
    and_true (nat_le (length xs) 65535) _ (le-leb (length xs) 65535 (omega arith)) parts.1)
    (λ xs h. let parts = and_parts (nat_le (length xs) 65535) _ h in
    let small = leb-true _ _ parts.0 in
    and_true (nat_lt (length xs) (256 ^ 2)) _ (lt-ltb (length xs) (256 ^ 2) (omega arith))
    parts.1)
    (λ xs h. refl)
    (counted_reader 2 fits spell read r)
