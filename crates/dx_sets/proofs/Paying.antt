-- One effect after the other is told that an instance gives it no more.
use Rattle.std.proofs.Common.{◌≡◌, ◌+◌, ◌<◌, ◌∷◌, not, ℕ, Bool, true, false, eqb, List}
use Rattle.std.proofs.Common.{length}
use Rattle.std.proofs.Common.{get_or, drop, refl, ap, ◌∙◌, arith}
use Rattle.std.specs.List.{filter}
use Rattle.std.proofs.lemmas.List.{at_drop_more}
use Rattle.std.proofs.lemmas.Bool.{cond-true, eq-eqb, not_from_false}
use Rattle.ev_incidence.specs.Sets.{occurs}
use Rattle.ev_incidence.specs.Table.{row_at, IncidenceValue}
use Rattle.ev_incidence.proofs.Occurrences.{occurs-cons, filter_yes, filter_no, in_at}
use Rattle.ev_incidence.proofs.Occurrences.{in_transposed}
use Rattle.ev_incidence.proofs.Occurrences.{row_in_range}
use Rattle.dx_sets.specs.Sets.{SetsValue}
use Rattle.dx_sets.specs.Engine.{CutsOf, giver_lost, IsOwed, IsPaying}
use Rattle.dx_sets.proofs.Losing.{paid_one, paying_same}

pub filter_from : (p : ℕ → Bool) (xs : List ℕ) (i : ℕ) → i < length xs
    → p (get_or xs i 0) ≡ true
    → filter p (drop i xs) ≡ get_or xs i 0 ∷ filter p (drop (i + 1) xs)
filter_from p xs i l h =
    at_drop_more (filter p) xs i 0 l ∙ filter_yes p (get_or xs i 0) (drop (i + 1) xs) h

pub filter_past : (p : ℕ → Bool) (xs : List ℕ) (i : ℕ) → i < length xs
    → p (get_or xs i 0) ≡ false
    → filter p (drop i xs) ≡ filter p (drop (i + 1) xs)
filter_past p xs i l h =
    at_drop_more (filter p) xs i 0 l ∙ filter_no p (get_or xs i 0) (drop (i + 1) xs) h

module _ (v : IncidenceValue) (cut : CutsOf) (root place i : ℕ) (s t : SetsValue)
    (o : IsOwed v cut place s) (l : i < length (row_at v.effects place)) where
  abbrev row : List ℕ
  row = row_at v.effects place

  abbrev kept : ℕ → Bool
  kept e = not (cut place e)

  effect_in : get_or row i 0 < length v.uses
  effect_in = omega (
    arith,
    row_in_range v.gets (get_or row i 0) place
        (in_transposed v.effects v.gets (get_or row i 0) place o.incidence.gets_is (in_at row i l)),
    o.incidence.nodes_count,
  )

  module _ (uncut_here : cut place (get_or row i 0) ≡ false)
      (h : IsPaying v cut root (filter kept (drop i row)) s t) where
    split : filter kept (drop i row) ≡ get_or row i 0 ∷ filter kept (drop (i + 1) row)
    split = filter_from kept row i l (not_from_false (cut place (get_or row i 0)) uncut_here)

    pub support_owed : 0 < get_or t.support (get_or row i 0) 0
    support_owed =
        let e = get_or row i 0 in
        omega (
          arith,
          h.support e effect_in,
          ap (λ (xs : List ℕ). occurs e xs) split,
          occurs-cons e e (filter kept (drop (i + 1) row)),
          cond-true {A = ℕ} (eqb e e) 1 0 (eq-eqb e e refl),
        )

    pub paid_here : IsPaying v cut root (filter kept (drop (i + 1) row)) s
        (giver_lost t (get_or row i 0) root)
    paid_here = paid_one v cut root (get_or row i 0) (filter kept (drop (i + 1) row)) s t
        o.incidence o.above effect_in
        (paying_same v cut root (filter kept (drop i row))
        (get_or row i 0 ∷ filter kept (drop (i + 1) row)) s t split h)

  pub paid_past : cut place (get_or row i 0) ≡ true
      → IsPaying v cut root (filter kept (drop i row)) s t
      → IsPaying v cut root (filter kept (drop (i + 1) row)) s t
  paid_past gone h = paying_same v cut root (filter kept (drop i row))
      (filter kept (drop (i + 1) row)) s t
      (filter_past kept row i l (ap not gone)) h
