-- Two tests, each of which holds where the other does, answer alike.
use Rattle.std.proofs.Common.{◌≡◌, Bool, true, sym, ◌∙◌, inl, inr}
use Rattle.std.proofs.lemmas.Bool.{cases_Bool, both_ways}

pub same_answer : (a b : Bool) → (a ≡ true → b ≡ true) → (b ≡ true → a ≡ true) → a ≡ b
same_answer a b f h = elim (cases_Bool a) [
  | inl here ↦ here ∙ sym (f here)
  | inr away ↦ elim (cases_Bool b) [
    | inl there ↦ absurd (both_ways a away (h there))
    | inr none ↦ away ∙ sym none
  ]
]
