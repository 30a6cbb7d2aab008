-- Saved bytes and lists of them, read and spelled.
use Rattle.std.proofs.Common.{◌≡◌, ℕ, ◌^◌, Bool, ◌==◌, nat_lt, nat_le, IsTrue, List, ◌++◌}
use Rattle.std.proofs.Common.{All, length, take, drop, Some, refl, sym, ap, ◌∙◌, arith}
use Rattle.std.proofs.Common.{append_assoc, length-append}
use Rattle.std.specs.List.{list_all}
use Rattle.std.proofs.lemmas.Bool.{leb-true, le-leb, ltb-true, lt-ltb, eqb-true, eq-eqb}
use Rattle.std.proofs.lemmas.List.{length-take-le, take-append-drop, take-append-le, take_all}
use Rattle.std.proofs.lemmas.List.Sums.{AllPass-from_list_all, list_all-from_AllPass}
use Rattle.std.proofs.Math.Seq.{drop-append_seam}
use Rattle.fm_bytes.specs.Numbers.{u32_bytes, long_text}
use Rattle.fm_bytes.specs.Reading.{Read, after, number_from, piece_from}
use Rattle.fm_bytes.proofs.Readers.{IsReader, after_some, choice_read, choice_true, left_bytes}
use Rattle.fm_bytes.proofs.Readers.{word_reader}
use Rattle.fm_saved.specs.Saved.{FitsLongText, saved_from}

-- a piece that was read has its length
pub piece_length : (n : ℕ) (bytes : List ℕ) (t : List ℕ × List ℕ) → piece_from n bytes ≡ Some t
    → n ≡ length t.0
unfolding piece_from
piece_length n bytes t h =
    let parts = choice_read (nat_le n (length bytes)) (take n bytes) (drop n bytes) t h in
    sym (ap length parts.1 ∙ length-take-le n bytes (leb-true n (length bytes) parts.0))

-- so many bytes
pub piece_reader : (n : ℕ) → IsReader (λ t. length t == n) (λ t. t) (piece_from n)
unfolding piece_from
piece_reader n = record {
  sound = λ bytes t all h.
      let parts = choice_read (nat_le n (length bytes)) (take n bytes) (drop n bytes) t h in (
        eq-eqb (length t.0) n (sym (piece_length n bytes t h)),
        sym ((λ i. parts.1 i ++ parts.2 i) ∙ take-append-drop n bytes),
      );
  whole = λ x rest fits.
      let size = eqb-true (length x) n fits in
      let room = le-leb n (length (x ++ rest)) (omega (arith, size, length-append x rest)) in
      let front : take n (x ++ rest) ≡ x =
      take-append-le n x rest (omega (arith, size)) ∙ take_all n x (omega (arith, size)) in
      let left : drop n (x ++ rest) ≡ rest =
      ap (λ (m : ℕ). drop m (x ++ rest)) (sym size) ∙ drop-append_seam x rest in
      choice_true _ _ _ room ∙ (λ i. Some (front i, left i));
}

abbrev pub saved_fits : List ℕ → Bool
saved_fits saved = nat_lt (length saved) (2 ^ 32)

-- bytes behind their length
pub saved_reader : IsReader saved_fits long_text saved_from
unfolding saved_from
saved_reader = record {
  sound = λ bytes t all h.
      let first = after_some (number_from 4 bytes) (λ n rest. piece_from n rest) t h in
      let size = word_reader.sound bytes first.0 all first.1 in
      let left = left_bytes bytes (u32_bytes first.0.0) first.0.1 size.1 all in
      let piece = (piece_reader first.0.0).sound first.0.1 t left first.2 in
      let sized : length t.0 ≡ first.0.0 = eqb-true (length t.0) first.0.0 piece.0 in (
        ap (λ (n : ℕ). nat_lt n (2 ^ 32)) sized ∙ size.0,
        size.1 ∙ (λ i. u32_bytes (sym sized i) ++ piece.1 i)
            ∙ sym (append_assoc (u32_bytes (length t.0)) t.0 t.1),
      );
  whole = λ x rest fits.
      ap saved_from (append_assoc (u32_bytes (length x)) x rest)
      ∙ ap (λ (r : Read ℕ). after r (λ n left. piece_from n left))
      (word_reader.whole (length x) (x ++ rest) fits)
      ∙ (piece_reader (length x)).whole x rest (eq-eqb (length x) (length x) refl);
}

-- each of them fits
pub all_fit : (list : List (List ℕ)) → IsTrue (list_all saved_fits list) → All FitsLongText list
all_fit list h k d less =
    ltb-true (length _) (2 ^ 32) (AllPass-from_list_all saved_fits list h k d less)

pub fit_all : (list : List (List ℕ)) → All FitsLongText list → IsTrue (list_all saved_fits list)
fit_all list h =
    list_all-from_AllPass saved_fits list (λ k d less. lt-ltb (length _) (2 ^ 32) (h k d less))
