-- A search for a byte finds the first place at which it stands.
use Rattle.std.proofs.Common.{◌≡◌, ℕ, List, Bool, cond, length, position, Option, Some}
use Rattle.std.proofs.Common.{None, sym, ap, ◌∙◌, arith, get_or}
use Rattle.std.specs.List.{position_or_len}
use Rattle.std.proofs.lemmas.Bool.{lt-ltb, le-ltb, false_from_ne_true}
use Rattle.std.proofs.lemmas.List.Sums.{position_or_len_is}
use Rattle.memchr.specs.Find.{IsFirstByte}

pub first_place : (test : ℕ → Bool) (bytes : List ℕ) (found : Option ℕ)
    → IsFirstByte test bytes found → found ≡ position test bytes
first_place test bytes None nowhere =
    let past : position_or_len test bytes ≡ length bytes =
    position_or_len_is test bytes (length bytes) 0 (omega arith)
    (λ k below. false_from_ne_true (test (get_or bytes k 0)) (nowhere k (omega arith) below))
    (λ below. absurd (omega arith)) in
    sym (ap (λ t. cond t (Some (position_or_len test bytes)) None)
    (le-ltb (position_or_len test bytes) (length bytes) (omega (arith, past))))
first_place test bytes (Some k) (none_before, passes) =
    let there : position_or_len test bytes ≡ k =
    position_or_len_is test bytes k 0 (omega (arith, none_before.high))
    (λ i below. false_from_ne_true (test (get_or bytes i 0))
    (none_before.before i (omega arith) below))
    (λ _. passes) in
    sym (ap (λ t. cond t (Some (position_or_len test bytes)) None)
    (lt-ltb (position_or_len test bytes) (length bytes)
    (omega (arith, there, none_before.high))) ∙ ap Some there)
