-- Readers made of readers, against the spelling that is made of theirs.
use Rattle.std.proofs.Common.{◌≡◌, ℕ, ◌≤◌, Bool, true, ◌&&◌, ◌==◌, IsTrue, List, [], ◌∷◌, ◌++◌}
use Rattle.std.proofs.Common.{length, Option, Some, None, if◌then◌else◌, refl, sym, ap, ◌∙◌, subst}
use Rattle.std.proofs.Common.{append_assoc, arith}
use Rattle.std.proofs.lemmas.Bool.{le-leb, eqb-true}
use Rattle.fm_bytes.specs.Reading.{Read, after, made, number_from, both_from, where_from, there}
use Rattle.fm_bytes.specs.Reading.{coded_from, whole}
use Rattle.fm_bytes.proofs.Booleans.{and_parts, and_true}
use Rattle.fm_bytes.proofs.Readers.{IsReader, after_some, some_same, choice_read, choice_some}
use Rattle.fm_bytes.proofs.Readers.{choice_true, left_bytes, byte_reader}

-- what was made of what was read
pub made_some : {A B : Type 0} (g : A → B) (r : Read A) (t : B × List ℕ) → made g r ≡ Some t
    → (s : A × List ℕ) × (r ≡ Some s) × (t ≡ (g s.0, s.1))
made_some g None t h = cc
made_some g (Some s) t h = (s, refl, sym (some_same (g s.0, s.1) t h))

pub made_read : {A B : Type 0} (g : A → B) (r : Read A) (x : A) (rest : List ℕ) → r ≡ Some (x, rest)
    → made g r ≡ Some (g x, rest)
made_read g r x rest h = ap (made g) h

-- one value, and another behind it
pub both_reader : {A B : Type 0} (f : A → Bool) (g : B → Bool) (s : A → List ℕ) (u : B → List ℕ)
    (r : List ℕ → Read A) (q : List ℕ → Read B)
    → IsReader f s r → IsReader g u q
    → IsReader (λ p. f p.0 && g p.1) (λ p. s p.0 ++ u p.1) (both_from r q)
both_reader {A = A} {B = B} f g s u r q first second = record {
  sound = λ bytes t all h.
      let one = after_some (r bytes) (λ x rest. after (q rest) (λ y more. Some ((x, y), more))) t h
      in
      let known = first.sound bytes one.0 all one.1 in
      let two = after_some (q one.0.1) (λ y more. Some ((one.0.0, y), more)) t one.2 in
      let more = second.sound one.0.1 two.0 (left_bytes bytes (s one.0.0) one.0.1 known.1 all) two.1
      in
      let same : ((one.0.0, two.0.0), two.0.1) ≡ t =
      some_same ((one.0.0, two.0.0), two.0.1) t two.2 in (
        subst (λ (p : (A × B) × List ℕ). IsTrue (f p.0.0 && g p.0.1)) same
            (and_true (f one.0.0) _ known.0 more.0),
        subst (λ (p : (A × B) × List ℕ). bytes ≡ (s p.0.0 ++ u p.0.1) ++ p.1) same
            (known.1 ∙ ap (λ (xs : List ℕ). s one.0.0 ++ xs) more.1
            ∙ sym (append_assoc (s one.0.0) (u two.0.0) two.0.1)),
      );
  whole = λ x rest fits.
      let parts = and_parts (f x.0) (g x.1) fits in
      ap (λ (bytes : List ℕ).
      after (r bytes) (λ y left. after (q left) (λ z more. Some ((y, z), more))))
      (append_assoc (s x.0) (u x.1) rest)
      ∙ ap (λ (z : Read A). after z (λ y left. after (q left) (λ w more. Some ((y, w), more))))
      (first.whole x.0 (u x.1 ++ rest) parts.0)
      ∙ ap (λ (z : Read B). after z (λ y more. Some ((x.0, y), more)))
      (second.whole x.1 rest parts.1);
}

-- a value that passes a test
pub where_reader : {A : Type 0} (f p : A → Bool) (s : A → List ℕ) (r : List ℕ → Read A)
    → IsReader f s r
    → IsReader (λ x. f x && p x) s (where_from p r)
where_reader {A = A} f p s r reader = record {
  sound = λ bytes t all h.
      let one = after_some (r bytes) (λ x rest. if p x then Some (x, rest) else None) t h in
      let known = reader.sound bytes one.0 all one.1 in
      let test = choice_read (p one.0.0) one.0.0 one.0.1 t one.2 in (
        and_true (f t.0) (p t.0) (ap f test.1 ∙ known.0) (ap p test.1 ∙ test.0),
        known.1 ∙ sym (λ i. s (test.1 i) ++ test.2 i),
      );
  whole = λ x rest fits.
      let parts = and_parts (f x) (p x) fits in
      ap (λ (z : Read A). after z (λ y left. if p y then Some (y, left) else None))
      (reader.whole x rest parts.0) ∙ choice_true (p x) _ _ parts.1;
}

-- a value of another type, of just one value that is read
pub made_reader : {A B : Type 0} (g : A → B) (h : B → A) (f : A → Bool) (s : A → List ℕ)
    (r : List ℕ → Read A)
    → ((x : A) → h (g x) ≡ x) → ((y : B) → g (h y) ≡ y) → IsReader f s r
    → IsReader (λ y. f (h y)) (λ y. s (h y)) (λ bytes. made g (r bytes))
made_reader {B = B} g h f s r back forth reader = record {
  sound = λ bytes t all e.
      let one = made_some g (r bytes) t e in
      let known = reader.sound bytes one.0 all one.1 in (
        ap (λ (p : B × List ℕ). f (h p.0)) one.2 ∙ ap f (back one.0.0) ∙ known.0,
        known.1 ∙ sym (ap (λ (p : B × List ℕ). s (h p.0) ++ p.1) one.2
            ∙ ap (λ (x : _). s x ++ one.0.1) (back one.0.0)),
      );
  whole = λ y rest fits. made_read g (r (s (h y) ++ rest)) (h y) rest (reader.whole (h y) rest fits)
      ∙ ap (λ (z : B). Some (z, rest)) (forth y);
}

there_some : {A : Type 0} (o : Option A) (rest : List ℕ) (t : A × List ℕ) → there o rest ≡ Some t
    → (o ≡ Some t.0) × (rest ≡ t.1)
there_some None rest t h = cc
there_some {A = A} (Some x) rest t h =
    let same = some_same (x, rest) t h in
    (ap (λ (p : A × List ℕ). Some p.0) same, ap (λ (p : A × List ℕ). p.1) same)

-- a value that stands for a number in one byte
pub coded_reader : {A : Type 0} (code : A → ℕ) (meaning : ℕ → Option A)
    → ((x : A) → meaning (code x) ≡ Some x) → ((x : A) → code x ≤ 255)
    → ((n : ℕ) (x : A) → meaning n ≡ Some x → n ≡ code x)
    → IsReader (λ x. true) (λ x. code x ∷ []) (coded_from meaning)
coded_reader {A = A} code meaning means small codes = record {
  sound = λ bytes t all h.
      let one = after_some (number_from 1 bytes) (λ n rest. there (meaning n) rest) t h in
      let known = byte_reader.sound bytes one.0 all one.1 in
      let value = there_some (meaning one.0.0) one.0.1 t one.2 in
      (refl, known.1 ∙ (λ i. codes one.0.0 t.0 value.0 i ∷ value.1 i));
  whole = λ x rest fits.
      ap (λ (z : Read ℕ). after z (λ n left. there (meaning n) left))
      (byte_reader.whole (code x) rest (le-leb (code x) 255 (small x)))
      ∙ ap (λ (o : Option A). there o rest) (means x);
}

-- all of the bytes
pub whole_some : {A : Type 0} (r : Read A) (x : A) → whole r ≡ Some x → r ≡ Some (x, [])
whole_some None x h = cc
whole_some {A = A} (Some t) x h =
    let test = choice_some (length t.1 == 0) (Some t.0) x h in
    let empty : t.1 ≡ [] = none_left t.1 (eqb-true (length t.1) 0 test.0) in
    let same : t.0 ≡ x = some_same t.0 x test.1 in
    λ i. Some (same i, empty i) where
      none_left : (xs : List ℕ) → length xs ≡ 0 → xs ≡ []
      none_left [] h = refl
      none_left (x ∷ xs) h = absurd (omega arith)
