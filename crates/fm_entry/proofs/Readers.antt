-- Readers made of readers, and what a reader says of all of the bytes.
use Rattle.std.proofs.Common.{◌≡◌, ℕ, Bool, ◌&&◌, IsTrue, List, [], ◌++◌, Some, sym, ap, ◌∙◌}
use Rattle.std.proofs.Common.{subst, append_assoc}
use Rattle.std.proofs.lemmas.List.{append-nil}
use Rattle.fm_bytes.specs.Numbers.{AllBytes}
use Rattle.fm_bytes.specs.Reading.{Read, after, made, whole}
use Rattle.fm_bytes.proofs.Booleans.{and_parts, and_true}
use Rattle.fm_bytes.proofs.Readers.{IsReader, after_some, some_same, left_bytes}
use Rattle.fm_bytes.proofs.Combined.{made_some, made_read, whole_some}
use Rattle.fm_entry.specs.WordReading.{then_from}

-- one value, and another behind it that is read as the first tells
pub then_reader : {A B : Type 0} (f : A → Bool) (g : A → B → Bool) (s : A → List ℕ)
    (u : A → B → List ℕ)
    (r : List ℕ → Read A) (q : A → List ℕ → Read B) → IsReader f s r
    → ((x : A) → IsTrue (f x) → IsReader (g x) (u x) (q x))
    → IsReader (λ p. f p.0 && g p.0 p.1) (λ p. s p.0 ++ u p.0 p.1) (then_from r q)
then_reader {A = A} {B = B} f g s u r q first second = record {
  sound = λ bytes t all h.
      let one = after_some (r bytes) (λ x rest. after (q x rest) (λ y more. Some ((x, y), more))) t
      h in
      let known = first.sound bytes one.0 all one.1 in
      let two = after_some (q one.0.0 one.0.1) (λ y more. Some ((one.0.0, y), more)) t one.2 in
      let left = left_bytes bytes (s one.0.0) one.0.1 known.1 all in
      let more = (second one.0.0 known.0).sound one.0.1 two.0 left two.1 in
      let same : ((one.0.0, two.0.0), two.0.1) ≡ t =
      some_same ((one.0.0, two.0.0), two.0.1) t two.2 in (
        subst (λ (p : (A × B) × List ℕ). IsTrue (f p.0.0 && g p.0.0 p.0.1)) same
            (and_true (f one.0.0) _ known.0 more.0),
        subst (λ (p : (A × B) × List ℕ). bytes ≡ (s p.0.0 ++ u p.0.0 p.0.1) ++ p.1) same
            (known.1 ∙ ap (λ (xs : List ℕ). s one.0.0 ++ xs) more.1
            ∙ sym (append_assoc (s one.0.0) (u one.0.0 two.0.0) two.0.1)),
      );
  whole = λ x rest fits.
      let parts = and_parts (f x.0) (g x.0 x.1) fits in
      ap (λ (bytes : List ℕ).
      after (r bytes) (λ y left. after (q y left) (λ z more. Some ((y, z), more))))
      (append_assoc (s x.0) (u x.0 x.1) rest)
      ∙ ap (λ (z : Read A). after z (λ y left. after (q y left) (λ w more. Some ((y, w), more))))
      (first.whole x.0 (u x.0 x.1 ++ rest) parts.0)
      ∙ ap (λ (z : Read B). after z (λ y more. Some ((x.0, y), more)))
      ((second x.0 parts.0).whole x.1 rest parts.1);
}

-- a value of another type, of just one value that fits
pub made_where_reader : {A B : Type 0} (g : A → B) (h : B → A) (f : A → Bool) (s : A → List ℕ)
    (r : List ℕ → Read A)
    → ((x : A) → IsTrue (f x) → h (g x) ≡ x) → ((y : B) → g (h y) ≡ y) → IsReader f s r
    → IsReader (λ y. f (h y)) (λ y. s (h y)) (λ bytes. made g (r bytes))
made_where_reader {B = B} g h f s r back forth reader = record {
  sound = λ bytes t all e.
      let one = made_some g (r bytes) t e in
      let known = reader.sound bytes one.0 all one.1 in
      let same = back one.0.0 known.0 in (
        ap (λ (p : B × List ℕ). f (h p.0)) one.2 ∙ ap f same ∙ known.0,
        known.1 ∙ sym (ap (λ (p : B × List ℕ). s (h p.0) ++ p.1) one.2
            ∙ ap (λ (x : _). s x ++ one.0.1) same),
      );
  whole = λ y rest fits.
      made_read g (r (s (h y) ++ rest)) (h y) rest (reader.whole (h y) rest fits)
      ∙ ap (λ (z : B). Some (z, rest)) (forth y);
}

all_of : {A : Type 0} (r : Read A) (x : A) → r ≡ Some (x, []) → whole r ≡ Some x
all_of r x h = ap whole h

-- what reads as a value is spelled so
pub whole_spelled : {A : Type 0} (f : A → Bool) (s : A → List ℕ) (r : List ℕ → Read A)
    → IsReader f s r
    → (bytes : List ℕ) (x : A) → AllBytes bytes → whole (r bytes) ≡ Some x → IsTrue (f x)
    × (bytes ≡ s x)
whole_spelled f s r reader bytes x all h =
    let known = reader.sound bytes (x, []) all (whole_some (r bytes) x h) in
    (known.0, known.1 ∙ append-nil (s x))

-- what spells a value reads as it
pub whole_read : {A : Type 0} (f : A → Bool) (s : A → List ℕ) (r : List ℕ → Read A) → IsReader f s r
    → (bytes : List ℕ) (x : A) → IsTrue (f x) → bytes ≡ s x → whole (r bytes) ≡ Some x
whole_read f s r reader bytes x fits same =
    all_of (r bytes) x (ap r (same ∙ sym (append-nil (s x))) ∙ reader.whole x [] fits)

-- no spelling is a proper prefix of another
pub spelling_prefix : {A : Type 0} (f : A → Bool) (s : A → List ℕ) (r : List ℕ → Read A)
    → IsReader f s r
    → (x y : A) (xs ys : List ℕ) → IsTrue (f x) → IsTrue (f y) → s x ++ xs ≡ s y ++ ys → (x ≡ y)
    × (xs ≡ ys)
spelling_prefix {A = A} f s r reader x y xs ys h k same =
    let both = some_same (x, xs) (y, ys) (sym (reader.whole x xs h) ∙ ap r same
    ∙ reader.whole y ys k) in
    (ap (λ (t : A × List ℕ). t.0) both, ap (λ (t : A × List ℕ). t.1) both)
