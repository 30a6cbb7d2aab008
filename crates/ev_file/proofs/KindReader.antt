-- The kinds of nodes, read and spelled.
use Rattle.std.proofs.Common.{◌≡◌, ℕ, ◌^◌, ◌<◌, ◌==◌, Bool, true, false, ◌&&◌, nat_lt}
use Rattle.std.proofs.Common.{IsTrue, List, ◌++◌, Option, Some, None, inl, inr, refl, sym}
use Rattle.std.proofs.Common.{ap, ◌∙◌, subst, arith, if◌then◌else◌}
use Rattle.std.proofs.lemmas.Bool.{ltb-true, lt-ltb, eqb-true, eqb-false, ne_eqb, eq-eqb}
use Rattle.fm_bytes.specs.Numbers.{AllBytes, is_unsigned, u32_bytes, u64_bytes}
use Rattle.fm_bytes.specs.Reading.{Read, made, number_from, flag_from}
use Rattle.fm_bytes.proofs.Booleans.{and_parts, and_true}
use Rattle.fm_bytes.proofs.Readers.{IsReader, choice_split, choice_some, some_same, word_reader}
use Rattle.fm_bytes.proofs.Readers.{long_reader, flag_reader}
use Rattle.fm_bytes.proofs.Combined.{made_some, made_read, both_reader}
use Rattle.ev_graph.specs.declared.nodes.NodeKind.{NodeKind}
use Rattle.ev_graph.specs.declared.nodes.NodeKind.TheVariants.{Fault, Defect, Upset, Inner, Report}
use Rattle.ev_file.specs.Files.{kind_code, kind_bytes, engine_code, flag_bytes}
use Rattle.ev_file.specs.FileReading.{engine_numbered, root_from, kind_from}

-- the number of an engine is not the one that stands for none
abbrev pub engine_fits : Option ℕ → Bool
engine_fits None = true
engine_fits (Some engine) = nat_lt engine 4294967295

abbrev pub kind_fits : NodeKind → Bool
kind_fits (Fault fit retire) = nat_lt fit (2 ^ 32)
kind_fits (Defect fit retire) = nat_lt fit (2 ^ 32)
kind_fits (Upset engine) = engine_fits engine
kind_fits Inner = true
kind_fits (Report within) = is_unsigned within

abbrev root_fits : ℕ × Bool → Bool
root_fits f = nat_lt f.0 (2 ^ 32) && true

abbrev root_bytes : ℕ × Bool → List ℕ
root_bytes f = u32_bytes f.0 ++ flag_bytes f.1

root_reader : IsReader root_fits root_bytes root_from
unfolding root_from
root_reader = both_reader _ _ _ _ (number_from 4) flag_from word_reader flag_reader

engine_choice : (n : ℕ) (b : Bool) → (n == 4294967295) ≡ b
    → engine_code (if b then None else Some n) ≡ n
engine_choice n true h = sym (eqb-true n 4294967295 h)
engine_choice n false h = refl

engine_small : (n : ℕ) (b : Bool) → (n == 4294967295) ≡ b → n < 2 ^ 32
    → IsTrue (engine_fits (if b then None else Some n))
engine_small n true h less = refl
engine_small n false h less =
    let other : n ≡ 4294967295 → ⊥ = eqb-false n 4294967295 h in
    lt-ltb n 4294967295 (omega (arith, less, other))

engine_there : (e : ℕ) → e < 4294967295 → engine_numbered e ≡ Some e
engine_there e less =
    ap (λ (b : Bool). if b then None else Some e)
    (ne_eqb e 4294967295 (λ same. omega (arith, less, same)))

-- a kind of node
one_kind : {A : Type 0} (tag : ℕ) (g : A → NodeKind) (f : A → Bool) (s : A → List ℕ)
    (r : List ℕ → Read A) → IsReader f s r
    → ((x : A) → kind_code (g x) ≡ tag)
    → ((x : A) → IsTrue (f x) → IsTrue (kind_fits (g x)))
    → ((x : A) → kind_bytes (g x) ≡ s x)
    → (code : ℕ) (bytes : List ℕ) (t : NodeKind × List ℕ) → code ≡ tag → AllBytes bytes
    → made g (r bytes) ≡ Some t
    → IsTrue ((kind_code t.0 == code) && kind_fits t.0) × (bytes ≡ kind_bytes t.0 ++ t.1)
one_kind tag g f s r reader coded fitting same code bytes t is all h =
    let some = made_some g (r bytes) t h in
    let known = reader.sound bytes some.0 all some.1 in (
      subst (λ (p : NodeKind × List ℕ). IsTrue ((kind_code p.0 == code) && kind_fits p.0))
          (sym some.2)
          (and_true (kind_code (g some.0.0) == code) _
          (eq-eqb (kind_code (g some.0.0)) code (coded some.0.0 ∙ sym is))
          (fitting some.0.0 known.0)),
      known.1 ∙ ap (λ (xs : List ℕ). xs ++ some.0.1) (sym (same some.0.0))
          ∙ sym (ap (λ (p : NodeKind × List ℕ). kind_bytes p.0 ++ p.1) some.2),
    )

inner_read : (code : ℕ) (bytes : List ℕ) (t : NodeKind × List ℕ) → code ≡ 4
    → Some (Inner, bytes) ≡ Some t
    → IsTrue ((kind_code t.0 == code) && kind_fits t.0) × (bytes ≡ kind_bytes t.0 ++ t.1)
inner_read code bytes t is h =
    subst (λ (p : NodeKind × List ℕ). IsTrue ((kind_code p.0 == code) && kind_fits p.0)
    × (bytes ≡ kind_bytes p.0 ++ p.1)) (some_same (Inner, bytes) t h)
    (and_true (4 == code) true (eq-eqb 4 code (sym is)) refl, refl)

kind_sound : (code : ℕ) (bytes : List ℕ) (t : NodeKind × List ℕ) → AllBytes bytes
    → kind_from code bytes ≡ Some t
    → IsTrue ((kind_code t.0 == code) && kind_fits t.0) × (bytes ≡ kind_bytes t.0 ++ t.1)
unfolding kind_from
kind_sound code bytes t all h =
    elim (choice_split (code == 1) (made (λ f. Fault f.0 f.1) (root_from bytes)) _ (Some t) h) [
      | inl is ↦ one_kind 1 (λ f. Fault f.0 f.1) root_fits root_bytes root_from root_reader
          (λ f. refl) (λ f k. (and_parts (nat_lt f.0 (2 ^ 32)) true k).0) (λ f. refl) code bytes t
          (eqb-true code 1 is.0) all is.1
      | inr other ↦ elim (choice_split (code == 2) (made (λ f. Defect f.0 f.1) (root_from bytes)) _
          (Some t) other.1) [
            | inl is ↦ one_kind 2 (λ f. Defect f.0 f.1) root_fits root_bytes root_from root_reader
                (λ f. refl) (λ f k. (and_parts (nat_lt f.0 (2 ^ 32)) true k).0) (λ f. refl) code
                bytes t (eqb-true code 2 is.0) all is.1
            | inr other ↦ elim (choice_split (code == 3)
                (made (λ n. Upset (engine_numbered n)) (number_from 4 bytes)) _ (Some t) other.1) [
                  | inl is ↦ one_kind 3 (λ n. Upset (engine_numbered n)) (λ n. nat_lt n (2 ^ 32))
                      u32_bytes (number_from 4) word_reader (λ n. refl)
                      (λ n k. engine_small n (n == 4294967295) refl (ltb-true n (2 ^ 32) k))
                      (λ n. ap u32_bytes (engine_choice n (n == 4294967295) refl)) code bytes t
                      (eqb-true code 3 is.0) all is.1
                  | inr other ↦ elim (choice_split (code == 4) (Some (Inner, bytes)) _ (Some t)
                      other.1) [
                        | inl is ↦ inner_read code bytes t (eqb-true code 4 is.0) is.1
                        | inr other ↦
                            let last = choice_some (code == 5) (made Report (number_from 8 bytes)) t
                            other.1 in
                            one_kind 5 Report is_unsigned u64_bytes (number_from 8) long_reader
                            (λ n. refl) (λ n k. k) (λ n. refl) code bytes t (eqb-true code 5 last.0)
                            all last.1
                      ]
                ]
          ]
    ]

kind_read : (k : NodeKind) (rest : List ℕ) → IsTrue (kind_fits k)
    → kind_from (kind_code k) (kind_bytes k ++ rest) ≡ Some (k, rest)
unfolding kind_from
kind_read (Fault fit retire) rest h =
    made_read (λ f. Fault f.0 f.1) _ (fit, retire) rest
    (root_reader.whole (fit, retire) rest (and_true (nat_lt fit (2 ^ 32)) true h refl))
kind_read (Defect fit retire) rest h =
    made_read (λ f. Defect f.0 f.1) _ (fit, retire) rest
    (root_reader.whole (fit, retire) rest (and_true (nat_lt fit (2 ^ 32)) true h refl))
kind_read (Upset None) rest h =
    made_read (λ n. Upset (engine_numbered n)) _ 4294967295 rest
    (word_reader.whole 4294967295 rest refl)
kind_read (Upset (Some e)) rest h =
    let less = ltb-true e 4294967295 h in
    made_read (λ n. Upset (engine_numbered n)) _ e rest
    (word_reader.whole e rest (lt-ltb e (2 ^ 32) (omega (arith, less))))
    ∙ ap (λ (o : Option ℕ). Some (Upset o, rest)) (engine_there e less)
kind_read Inner rest h = refl
kind_read (Report within) rest h =
    made_read Report _ within rest (long_reader.whole within rest h)

pub kind_reader : (code : ℕ)
    → IsReader (λ k. (kind_code k == code) && kind_fits k) kind_bytes (kind_from code)
kind_reader code = record {
  sound = kind_sound code;
  whole = λ k rest fits.
      let parts = and_parts (kind_code k == code) (kind_fits k) fits in
      ap (λ (n : ℕ). kind_from n (kind_bytes k ++ rest)) (sym (eqb-true (kind_code k) code parts.0))
      ∙ kind_read k rest parts.1;
}
