-- A node that left is looked at, link by link.
use Rattle.std.proofs.Common.{◌≡◌, ◌+◌, ◌<◌, ◌∷◌, [], not, ℕ, Bool, true}
use Rattle.std.proofs.Common.{false}
use Rattle.std.proofs.Common.{List, length, get_or, drop, refl, sym, ap, subst, ◌∙◌, arith}
use Rattle.std.specs.List.{filter}
use Rattle.std.proofs.lemmas.List.{at_drop_more}
use Rattle.std.proofs.lemmas.Bool.{not_from_false}
use Rattle.ev_incidence.specs.Sets.{has_mark}
use Rattle.ev_incidence.specs.Table.{row_at, IncidenceValue, IsIncidence}
use Rattle.ev_incidence.proofs.Occurrences.{in_at, transposed_in, row_in_range}
use Rattle.dx_sets.specs.Sets.{SetsValue}
use Rattle.dx_sets.specs.Engine.{CutsOf, uncut_gets, wiring_cut, AreExact, AreGiven, AreMet}
use Rattle.dx_sets.specs.Engine.{KeepsFit, IsOnWay, IsOwed, IsPaying, CausesLeave, IsLooking, cost}
use Rattle.dx_sets.specs.Engine.{IsSteady, SettlesTo}
use Rattle.dx_sets.proofs.Leaving.{moves_self, moves_same}
use Rattle.dx_sets.proofs.Losing.{keeps_on, cause_lost, effect_lost, owed_now}
use Rattle.dx_sets.proofs.Losing.{exact_now, cause_positive, effect_positive}
use Rattle.dx_sets.proofs.Losing.{exact_paid, met_paid, cost_paid, cost_same, exact_less}
use Rattle.dx_sets.proofs.Losing.{given_less, met_more, cost_more, met_left, keeps_left, cost_left}
use Rattle.dx_sets.proofs.Losing.{popped_exact}
use Rattle.dx_sets.proofs.Paying.{filter_from, filter_past}
use Rattle.dx_sets.proofs.Beginning.{way_start, way_on}

-- a state that differs in the counters alone
keeps_same : (v : IncidenceValue) (cut : CutsOf) (root : ℕ) (s t : SetsValue)
    → t.marks ≡ s.marks → KeepsFit (wiring_cut v cut) root s t
keeps_same v cut root s t m = record {
  keeps = λ Y f w e y.
      ap (λ (ms : List Bool). has_mark ms e) m ∙ w e y;
}

pub way_same : (v : IncidenceValue) (cut : CutsOf) (root : ℕ) (s t : SetsValue)
    → t.marks ≡ s.marks → t.pending ≡ s.pending → IsOnWay v cut root s t
way_same v cut root s t m p = record {
  moves = moves_same s t m p;
  keeps = keeps_same v cut root s t m;
}

place_of : (v : IncidenceValue) (node i : ℕ) → IsIncidence v → i < length (row_at v.uses node)
    → get_or (row_at v.uses node) i 0 < length v.causes
place_of v node i inc l =
    let j = get_or (row_at v.uses node) i 0 in
    row_in_range v.causes j node (transposed_in v.causes v.uses node j inc.uses_is
    (in_at (row_at v.uses node) i l))

giver_of : (v : IncidenceValue) (node i : ℕ) → IsIncidence v → i < length (row_at v.gets node)
    → get_or (row_at v.gets node) i 0 < length v.causes
giver_of v node i inc l =
    let j = get_or (row_at v.gets node) i 0 in
    omega (
      arith,
      row_in_range v.effects j node (transposed_in v.effects v.gets node j inc.gets_is
          (in_at (row_at v.gets node) i l)),
      inc.effects_count,
    )

-- the instance at i of those that the node is a cause of
module _ (v : IncidenceValue) (cut : CutsOf) (root node i : ℕ) (de : List ℕ) (r s : SetsValue)
    (inc : IsIncidence v) (l : i < length (row_at v.uses node))
    (h : IsLooking v cut root (drop i (row_at v.uses node)) de r s) where
  abbrev j : ℕ
  j = get_or (row_at v.uses node) i 0

  abbrev rest : List ℕ
  rest = drop (i + 1) (row_at v.uses node)

  pub cause_place : j < length v.causes
  cause_place = place_of v node i inc l

  pub cause_owed : AreExact v cut s (j ∷ rest) de
  cause_owed = let P : List ℕ → Type 0 = λ xs. AreExact v cut s xs de in
      subst P (at_drop_more (λ xs. xs) (row_at v.uses node) i 0 l) h.exact

  pub cause_some : 0 < get_or s.causes_left j 0
  cause_some = cause_positive v cut root j rest de s inc cause_place cause_owed

  pub cause_last : get_or s.causes_left j 0 ≡ get_or v.k j 0 → IsOwed v cut j (cause_lost s j)
  cause_last e = owed_now v cut root j rest de s inc cause_place cause_owed e

  pub cause_cost : (get_or s.causes_left j 0 ≡ get_or v.k j 0 → ⊥)
      → cost v (cause_lost s j) ≡ cost v s
  cause_cost ne = cost_same v cut root j rest de s inc cause_place cause_owed ne

  pub last_cost : (t : SetsValue) → get_or s.causes_left j 0 ≡ get_or v.k j 0
      → IsPaying v cut root [] (cause_lost s j) t
      → cost v t + length (row_at v.effects j) ≡ cost v s
  last_cost t e p = cost_paid v cut root j rest de s inc cause_place cause_owed t e p

  way_lost : IsOnWay v cut root s (cause_lost s j)
  way_lost = way_same v cut root s (cause_lost s j) refl refl

  pub looked_cause : (get_or s.causes_left j 0 ≡ get_or v.k j 0 → ⊥)
      → IsLooking v cut root rest de r (cause_lost s j)
  looked_cause ne = record {
    exact = exact_now v cut root j rest de s inc cause_place cause_owed ne;
    given = record { each = h.given.each };
    met = record { each = h.met.each };
    way = way_on v cut root r s (cause_lost s j) h.way way_lost;
  }

  pub looked_last : (t : SetsValue) → IsPaying v cut root [] (cause_lost s j) t
      → IsLooking v cut root rest de r t
  looked_last t p = record {
    exact = exact_paid v cut root j rest de s inc cause_place cause_owed t p;
    given = p.given;
    met = met_paid v cut root j rest de s inc cause_place cause_owed t h.met p;
    way = way_on v cut root r s t h.way (way_on v cut root s (cause_lost s j) t way_lost
        (record { moves = p.moves; keeps = p.keeps }));
  }

-- the instance at i of those that it is an effect of
module _ (v : IncidenceValue) (cut : CutsOf) (root node i : ℕ) (r s : SetsValue)
    (inc : IsIncidence v) (l : i < length (row_at v.gets node)) where
  abbrev g : ℕ
  g = get_or (row_at v.gets node) i 0

  abbrev kept : ℕ → Bool
  kept x = not (cut x node)

  abbrev later : List ℕ
  later = filter kept (drop (i + 1) (row_at v.gets node))

  pub effect_place : g < length v.causes
  effect_place = giver_of v node i inc l

  pub looked_cut : cut g node ≡ true
      → IsLooking v cut root [] (filter kept (drop i (row_at v.gets node))) r s
      → IsLooking v cut root [] later r s
  looked_cut gone h = let P : List ℕ → Type 0 = λ xs. IsLooking v cut root [] xs r s in
      subst P (filter_past kept (row_at v.gets node) i l (ap not gone)) h

  module _ (uncut_here : cut g node ≡ false)
      (h : IsLooking v cut root [] (filter kept (drop i (row_at v.gets node))) r s) where
    pub effect_owed : AreExact v cut s [] (g ∷ later)
    effect_owed = let P : List ℕ → Type 0 = λ xs. AreExact v cut s [] xs in
        subst P (filter_from kept (row_at v.gets node) i l (not_from_false (cut g node) uncut_here))
        h.exact

    pub effect_some : 0 < get_or s.effects_left g 0
    effect_some = effect_positive v cut root g later s inc effect_place effect_owed

    pub effect_cost : (get_or s.effects_left g 0 ≡ get_or v.n g 0 → ⊥)
        → cost v (effect_lost s g) ≡ cost v s
    effect_cost ne = cost_more v cut root g later s inc effect_place effect_owed ne

    pub unmet_cost : (t : SetsValue) → CausesLeave v g s t
        → get_or s.effects_left g 0 ≡ get_or v.n g 0
        → cost v (effect_lost t g) + length (row_at v.causes g) ≡ cost v s
    unmet_cost t c e = cost_left v cut root g later s inc effect_place effect_owed t c e

    pub looked_effect : (get_or s.effects_left g 0 ≡ get_or v.n g 0 → ⊥)
        → IsLooking v cut root [] later r (effect_lost s g)
    looked_effect ne = record {
      exact = exact_less v cut root g later s inc effect_place effect_owed s (moves_self s)
          refl refl refl;
      given = given_less v cut root g later s inc effect_place effect_owed s h.given
          (moves_self s) refl;
      met = met_more v cut root g later s inc effect_place effect_owed h.met ne;
      way = way_on v cut root r s (effect_lost s g) h.way
          (way_same v cut root s (effect_lost s g) refl refl);
    }

    pub looked_unmet : get_or s.effects_left g 0 ≡ get_or v.n g 0
        → (t : SetsValue) → CausesLeave v g s t
        → IsLooking v cut root [] later r (effect_lost t g)
    looked_unmet e t c = record {
      exact = exact_less v cut root g later s inc effect_place effect_owed t c.moves
          c.causes_left c.effects_left c.support;
      given = given_less v cut root g later s inc effect_place effect_owed t h.given
          c.moves c.support;
      met = met_left v cut root g later s inc effect_place effect_owed t c h.met;
      way = way_on v cut root r s (effect_lost t g) h.way
          (way_on v cut root s t (effect_lost t g)
          (record {
            moves = c.moves;
            keeps = keeps_left v cut root g later s inc effect_place effect_owed t c e;
          })
          (way_same v cut root t (effect_lost t g) refl refl));
    }

-- a node that comes to be looked at
pub looking_begins : (v : IncidenceValue) (cut : CutsOf) (root node : ℕ) (s t : SetsValue)
    → IsSteady v cut root s
    → s ≡ record {
      marks = t.marks;
      pending = node ∷ t.pending;
      causes_left =
          t.causes_left;
      effects_left = t.effects_left;
      support = t.support;
    }
    → IsLooking v cut root (row_at v.uses node) (uncut_gets v cut node) t t
looking_begins v cut root node s t h p = record {
  exact = popped_exact v cut node s t h.incidence p h.exact;
  given = let P : SetsValue → Type 0 = λ u. AreGiven root u in
      record { each = (subst P p h.given).each };
  met = let P : SetsValue → Type 0 = λ u. AreMet v u in record { each = (subst P p h.met).each };
  way = way_start v cut root t;
}

pub looking_ends : (v : IncidenceValue) (cut : CutsOf) (root : ℕ) (s t : SetsValue)
    → IsIncidence v → IsLooking v cut root [] [] s t → IsSteady v cut root t
looking_ends v cut root s t inc h = record {
  incidence = inc;
  exact = h.exact;
  given = h.given;
  met = h.met;
}

pub looking_again : (v : IncidenceValue) (cut : CutsOf) (root : ℕ) (dc de : List ℕ)
    (s t : SetsValue) → IsLooking v cut root dc de s t → IsLooking v cut root dc de t t
looking_again v cut root dc de s t h = record {
  exact = h.exact;
  given = h.given;
  met = h.met;
  way = way_start v cut root t;
}

-- from a node that was looked at to the next
pub settles_on : (v : IncidenceValue) (cut : CutsOf) (root node : ℕ) (r s t u x : SetsValue)
    → s ≡ record {
      marks = t.marks;
      pending = node ∷ t.pending;
      causes_left =
          t.causes_left;
      effects_left = t.effects_left;
      support = t.support;
    }
    → SettlesTo v cut root r s → IsOnWay v cut root t u → IsOnWay v cut root u x
    → SettlesTo v cut root r x
settles_on v cut root node r s t u x p h a b =
    let same : s.marks ≡ t.marks = ap (λ (z : SetsValue). z.marks) p in
    record {
      shrinks = λ e here. h.shrinks e (ap (λ (ms : List Bool). has_mark ms e) same
          ∙ a.moves.shrinks e (b.moves.shrinks e here));
      keeps = keeps_on v cut root r s x h.keeps (keeps_on v cut root s t x
          (keeps_same v cut root s t (sym same)) (keeps_on v cut root t u x a.keeps b.keeps));
    }
