-- What a binding gives to columns, as it gets longer.
use Rattle.std.proofs.Common.{◌≡◌, ◌<◌, ◌≤◌, ◌+◌, ℕ, zero, suc, true, false, ◌==◌, ◌||◌}
use Rattle.std.proofs.Common.{nat_lt}
use Rattle.std.proofs.Common.{List, [], ◌∷◌, ◌++◌, length, slice_index, refl}
use Rattle.std.proofs.Common.{arith, ap}
use Rattle.std.proofs.Common.{sym, ◌∙◌, length-append, append_assoc, inl, inr}
use Rattle.std.specs.List.{list_any}
use Rattle.std.proofs.lemmas.Bool.{cases_Bool}
use Rattle.std.proofs.lemmas.Grind.{common_steps}
use Rattle.ev_join.specs.Tables.{TableValue, RisesFrom, bound_values}
use Rattle.ev_join.specs.Candidates.{HasRows}

-- a place of a list is that of a longer one
index_same : (p more : List ℕ) (c : ℕ) → c < length p
    → slice_index (p ++ more) c ≡ slice_index p c
index_same [] more c less = absurd (omega (arith, less))
index_same (x ∷ p) more zero less = refl
index_same (x ∷ p) more (suc c) less = index_same p more c (omega (arith, less))

index_next : (p : List ℕ) (z : ℕ) → slice_index (p ++ z ∷ []) (length p) ≡ z
index_next [] z = refl
index_next (x ∷ p) z = index_next p z

-- columns from an end on are reached by nothing, and have none below
past_end : (cs b : List ℕ) (low : ℕ) → RisesFrom low cs → length b ≤ low → bound_values cs b ≡ []
past_end [] b low r le = refl
past_end (c ∷ cs) b low r le =
    let no : nat_lt c (length b) ≡ false = grind (arith, common_steps, r.0, le) in rw no

none_past : (cs : List ℕ) (low n : ℕ) → RisesFrom low cs → n < low
    → list_any (λ c. c == n) cs ≡ false
none_past [] low n r less = refl
none_past (c ∷ cs) low n r less =
    let more = none_past cs (c + 1) n r.1 (omega (arith, r.0, less)) in
    let no : (c == n) ≡ false = grind (arith, common_steps, r.0, less) in rw (no, more)

-- one more number, where no column asks for it
pub bound_off : (cs p : List ℕ) (low z : ℕ) → RisesFrom low cs
    → list_any (λ c. c == length p) cs ≡ false
    → bound_values cs (p ++ z ∷ []) ≡ bound_values cs p
bound_off [] p low z r e = refl
bound_off (c ∷ cs) p low z r e =
    let len : length (p ++ z ∷ []) ≡ length p + 1 = length-append p (z ∷ []) in
    let other : (c == length p) ≡ false = grind (arith, common_steps, e) in
    let rest : list_any (λ d. d == length p) cs ≡ false = grind (arith, common_steps, e) in
    elim (cases_Bool (nat_lt c (length p))) [
      | inl less ↦
          let in_long : nat_lt c (length (p ++ z ∷ [])) ≡ true =
          grind (arith, common_steps, less, len) in
          let below : c < length p = grind (arith, common_steps, less) in
          rw (less, in_long, index_same p (z ∷ []) c below, bound_off cs p (c + 1) z r.1 rest)
      | inr not_less ↦
          let not_long : nat_lt c (length (p ++ z ∷ [])) ≡ false =
          grind (arith, common_steps, not_less, other, len) in
          rw (not_less, not_long)
    ]

-- one more number, where a column asks for it
pub bound_on : (cs p : List ℕ) (low z : ℕ) → RisesFrom low cs
    → list_any (λ c. c == length p) cs ≡ true
    → bound_values cs (p ++ z ∷ []) ≡ bound_values cs p ++ z ∷ []
bound_on [] p low z r e = absurd (let no : ⊥ = cc in no)
bound_on (c ∷ cs) p low z r e =
    let len : length (p ++ z ∷ []) ≡ length p + 1 = length-append p (z ∷ []) in
    elim (cases_Bool (nat_lt c (length p))) [
      | inl less ↦
          let in_long : nat_lt c (length (p ++ z ∷ [])) ≡ true =
          grind (arith, common_steps, less, len) in
          let below : c < length p = grind (arith, common_steps, less) in
          let other : (c == length p) ≡ false = grind (arith, common_steps, less) in
          let rest : list_any (λ d. d == length p) cs ≡ true =
          sym (ap (λ b. b || list_any (λ d. d == length p) cs) other) ∙ e in
          rw (less, in_long, index_same p (z ∷ []) c below, bound_on cs p (c + 1) z r.1 rest)
      | inr not_less ↦
          elim (cases_Bool (c == length p)) [
            | inl same ↦
                let is : c ≡ length p = grind (arith, common_steps, same) in
                let in_long : nat_lt c (length (p ++ z ∷ [])) ≡ true =
                grind (arith, common_steps, is, len) in
                let at : slice_index (p ++ z ∷ []) c ≡ z =
                ap (λ i. slice_index (p ++ z ∷ []) i) is ∙ index_next p z in
                rw (
                  not_less,
                  in_long,
                  at,
                  past_end cs (p ++ z ∷ []) (c + 1) r.1 (omega (arith, len, is)),
                )
            | inr other ↦
                let past : length p < c = grind (arith, common_steps, not_less, other) in
                let rest : list_any (λ d. d == length p) cs ≡ false =
                none_past cs (c + 1) (length p) r.1 (omega (arith, past)) in
                absurd (let no : ⊥ = grind (arith, common_steps, rest, other, e) in no)
          ]
    ]

-- a longer binding gives more numbers behind the same
pub record Grown (cs p more : List ℕ) : Type 0 where
  pub rest : List ℕ
  pub is : bound_values cs (p ++ more) ≡ bound_values cs p ++ rest

pub grown : (cs p more : List ℕ) → Grown cs p more
grown [] p more = record { rest = []; is = refl }
grown (c ∷ cs) p more =
    let len : length (p ++ more) ≡ length p + length more = length-append p more in
    elim (cases_Bool (nat_lt c (length p))) [
      | inl less ↦
          let in_long : nat_lt c (length (p ++ more)) ≡ true =
          grind (arith, common_steps, less, len) in
          let below : c < length p = grind (arith, common_steps, less) in
          let g = grown cs p more in
          record {
            rest = g.rest;
            is = rw (less, in_long, index_same p more c below, g.is);
          }
      | inr not_less ↦ record { rest = bound_values (c ∷ cs) (p ++ more); is = rw not_less }
    ]

-- what fits a longer beginning fits a shorter one
pub fits_fewer : (tables : List TableValue) (p more : List ℕ) → HasRows tables (p ++ more)
    → HasRows tables p
fits_fewer tables p more h = record {
  each = λ j t stands.
      let row = h.each j t stands in
      let g = grown t.columns p more in
      record {
        place = row.place;
        row = row.row;
        stands = row.stands;
        rest = g.rest ++ row.rest;
        begins = row.begins ∙ ap (λ k. k ++ row.rest) g.is
            ∙ append_assoc (bound_values t.columns p) g.rest row.rest;
      };
}
