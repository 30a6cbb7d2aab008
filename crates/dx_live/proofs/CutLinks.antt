-- What a link that is cut does to the best set.
use Rattle.std.proofs.Common.{◌≡◌, ◌<◌, ◌&&◌, ◌||◌, ℕ, Bool, true, false, List, length, eqb}
use Rattle.std.proofs.Common.{get_or}
use Rattle.std.proofs.Common.{refl, sym, ap, ◌∙◌, inl, inr}
use Rattle.std.proofs.lemmas.Bool.{cases_Bool, and_parts, or_left, eqb-true, eq-eqb}
use Rattle.std.proofs.lemmas.Bool.{both_ways}
use Rattle.ev_incidence.specs.Sets.{NodeSet, is_member, has_mark, ascends}
use Rattle.ev_graph.specs.Lawful.{GraphValue, IsGraph}
use Rattle.ev_graph.specs.declared.instances.Link.{Link}
use Rattle.dx_sets.specs.Sets.{SetsValue}
use Rattle.dx_sets.specs.Engine.{CutsOf}
use Rattle.dx_sets.proofs.Filling.{steady_fit}
use Rattle.dx_story.proofs.Answers.{same_answer}
use Rattle.dx_live.specs.Region.{AreLocalCuts, IsLinkOf, IsNoLinkOf}
use Rattle.ev_incidence.proofs.Occurrences.{in_at}
use Rattle.dx_live.specs.Cuts.{CutsValue, cut_at, CutIsMade}
use Rattle.dx_live.specs.Live.{LiveOver, root_over, cuts_over, IsLiveOver, IsBestOver}
use Rattle.dx_live.specs.Live.{cut_with}
use Rattle.dx_live.proofs.Regions.{one_number}
use Rattle.dx_live.proofs.Best.{best_on}

or_none : (a b : Bool) → b ≡ false → (a || b) ≡ a
or_none true b f = refl
or_none false b f = f

both_same : (a b c d : Bool) → a ≡ c → b ≡ d → (a && b) ≡ (c && d)
both_same a b c d p q = ap (λ (x : Bool). x && b) p ∙ ap (λ (x : Bool). c && x) q

-- places of ascending numbers are equal where the numbers are
same_number : (xs : List ℕ) (a b x : ℕ) → ascends xs ≡ true → a < length xs → b < length xs
    → get_or xs b 0 ≡ x → eqb a b ≡ eqb (get_or xs a 0) x
same_number xs a b x up a_in b_in is =
    same_answer (eqb a b) (eqb (get_or xs a 0) x)
    (λ t. eq-eqb (get_or xs a 0) x (ap (λ (z : ℕ). get_or xs z 0) (eqb-true a b t) ∙ is))
    (λ t. eq-eqb a b (one_number xs a b up a_in b_in (eqb-true (get_or xs a 0) x t ∙ sym is)))

module _ (g : GraphValue) (graph : IsGraph g) (l : LiveOver) (h : IsLiveOver g l) (gone : Link)
    (cut : CutsOf) (allowed : NodeSet) (b : IsBestOver g cut allowed l) where
  fewer_cuts : (j e : ℕ) → cut j e ≡ true → cut_with cut gone j e ≡ true
  fewer_cuts j e c = or_left (cut j e) (eqb j gone.instance && eqb e gone.effect) c

  pub cut_best : (here : Link) → IsLinkOf l.region.nodes l.region.places gone here
      → (d : CutsValue) (t : SetsValue)
      → CutIsMade l.region.table l.here here l.cuts l.sets d t
      → IsBestOver g (cut_with cut gone) allowed (record {
        region = l.region;
        sets = t;
        cuts = d;
        here = l.here;
      })
  cut_best here is d t m = record {
    cuts = now;
    best = best_on g graph (root_over l) l.here l.region (cut_with cut gone)
        (cut_at l.region.table.effects d) h.region now h.here refl cut (has_mark l.sets.marks)
        (has_mark t.marks) (λ n. true) allowed allowed fewer_cuts m.shrinks
        (steady_fit l.region.table (cut_at l.region.table.effects d) h.region.incidence l.here t
        m.steady m.over)
        (λ Y f within avoid. m.keeps.keeps Y f within) (λ e i. i) (λ e i a. a) (λ Y w n i. refl)
        b.best;
  } where
    now : AreLocalCuts l.region (cut_with cut gone) (cut_at l.region.table.effects d)
    now = record {
      each = λ u n u_in i.
          let n_in = (h.region.effects u u_in).below n i in
          m.one.each u n i
          ∙ (ap (λ (x : Bool). x || (eqb u here.instance && eqb n here.effect))
          (b.cuts.each u n u_in i)
          ∙ ap (λ (x : Bool). cut (get_or l.region.places u 0) (get_or l.region.nodes n 0) || x)
          (both_same (eqb u here.instance) (eqb n here.effect)
          (eqb (get_or l.region.places u 0) gone.instance)
          (eqb (get_or l.region.nodes n 0) gone.effect)
          (same_number l.region.places u here.instance gone.instance h.region.places_ascend u_in
          is.place_in is.place_is)
          (same_number l.region.nodes n here.effect gone.effect h.region.nodes_ascend n_in
          is.node_in is.node_is)));
    }

  pub uncut_best : IsNoLinkOf l.region.nodes l.region.places gone
      → IsBestOver g (cut_with cut gone) allowed l
  uncut_best none = record {
    cuts = now;
    best = best_on g graph (root_over l) l.here l.region (cut_with cut gone) (cuts_over l) h.region
        now h.here refl cut (has_mark l.sets.marks) (has_mark l.sets.marks) (λ n. true) allowed
        allowed fewer_cuts (λ e i. i)
        (steady_fit l.region.table (cuts_over l) h.region.incidence l.here l.sets h.steady h.over)
        (λ Y f within avoid. within) (λ e i. i) (λ e i a. a) (λ Y w n i. refl) b.best;
  } where
    now : AreLocalCuts l.region (cut_with cut gone) (cuts_over l)
    now = record {
      each = λ u n u_in i.
          let n_in = (h.region.effects u u_in).below n i in
          let x = get_or l.region.places u 0 in
          let y = get_or l.region.nodes n 0 in
          b.cuts.each u n u_in i ∙ sym (or_none (cut x y) (eqb x gone.instance && eqb y gone.effect)
          (elim (cases_Bool (eqb x gone.instance && eqb y gone.effect)) [
            | inl both ↦
                let q = and_parts (eqb x gone.instance) (eqb y gone.effect) both in
                absurd (none.each u n u_in n_in (eqb-true x gone.instance q.0)
                (eqb-true y gone.effect q.1))
            | inr other ↦ other
          ]));
    }

-- what is kept of a live set
pub live_with : (g : GraphValue) (l : LiveOver) (h : IsLiveOver g l) (here : Link) (d : CutsValue)
    (t : SetsValue) → CutIsMade l.region.table l.here here l.cuts l.sets d t
    → IsLiveOver g (record { region = l.region; sets = t; cuts = d; here = l.here })
live_with g l h here d t m = record {
  region = h.region;
  here = h.here;
  cuts = m.cuts;
  steady = m.steady;
  over = m.over;
  kind = h.kind;
}

-- where the instance or the effect is none of the part
pub no_place : (nodes places : List ℕ) (link : Link) → is_member places link.instance ≡ false
    → IsNoLinkOf nodes places link
no_place nodes places link none = record {
  each = λ t l t_in l_in a b. both_ways (is_member places link.instance) none
      (ap (is_member places) (sym a) ∙ in_at places t t_in);
}

pub no_node : (nodes places : List ℕ) (link : Link) → is_member nodes link.effect ≡ false
    → IsNoLinkOf nodes places link
no_node nodes places link none = record {
  each = λ t l t_in l_in a b. both_ways (is_member nodes link.effect) none
      (ap (is_member nodes) (sym b) ∙ in_at nodes l l_in);
}
