-- The best set of the part is the best of the graph, at the beginning and after each change.
use Rattle.std.proofs.Common.{◌≡◌, ◌<◌, not, ℕ, Bool, true, List}
use Rattle.std.proofs.Common.{length, ltb}
use Rattle.std.proofs.Common.{get_or, leb, eqb, suc, refl, sym, ◌∙◌, inl, inr, [], ◌∷◌}
use Rattle.std.specs.List.{filter, count_by}
use Rattle.std.proofs.lemmas.Bool.{cases_eq, cases_Bool, both_ways, and_parts, or_right, cond-true}
use Rattle.std.proofs.lemmas.Bool.{cond-false}
use Rattle.ev_incidence.specs.Sets.{NodeSet, is_member, IsSubset}
use Rattle.ev_graph.specs.Kinds.{is_root_node, is_report_node}
use Rattle.ev_incidence.specs.Wiring.{Wiring}
use Rattle.ev_graph.specs.Wired.{wiring}
use Rattle.ev_graph.specs.Cutting.{without}
use Rattle.ev_graph.specs.Lawful.{GraphValue, IsGraph}
use Rattle.ev_incidence.proofs.Occurrences.{filter_in}
use Rattle.dx_story.specs.Story.{IsStory}
use Rattle.dx_sets.specs.Fit.{IsFit}
use Rattle.dx_sets.specs.Engine.{CutsOf, CutsWithin, wiring_cut}
use Rattle.dx_sets.proofs.Cuts.{produced_fewer, shown_fewer}
use Rattle.dx_story.specs.Greatest.{IsAllowedStory, no_other_report}
use Rattle.dx_live.specs.Region.{RegionValue, IsRegionOf, AreLocalCuts, local, lifted}
use Rattle.dx_live.specs.Live.{IsBestStory, BestIsGreatest, all_allowed}
use Rattle.dx_live.proofs.Regions.{to_global, to_local, fit_within}
use Rattle.dx_live.proofs.Regions.{local_within, lifted_within}
use Rattle.dx_live.proofs.Graphs.{graph_counted, graph_rising, no_root_effect}

pub best_greatest : BestIsGreatest
best_greatest g cut root allowed X h = (
  λ there. record { story = h.story there; greatest = h.every },
  λ away Y y. both_ways (X root) away (h.every Y y root y.story.has_root),
)

-- a larger set of local numbers is one of nodes too
pub lifted_larger : (nodes : List ℕ) (Y Z : NodeSet) → IsSubset Y Z
    → IsSubset (lifted nodes Y) (lifted nodes Z)
lifted_larger [] Y Z h e i = i
lifted_larger (x ∷ xs) Y Z h e i = elim (cases_Bool (eqb x e)) [
  | inl here ↦ cond-true {A = Bool} (eqb x e) (Z 0) (lifted xs (λ l. Z (suc l)) e) here
      ∙ h 0 (sym (cond-true {A = Bool} (eqb x e) (Y 0) (lifted xs (λ l. Y (suc l)) e) here) ∙ i)
  | inr away ↦ cond-false {A = Bool} (eqb x e) (Z 0) (lifted xs (λ l. Z (suc l)) e) away
      ∙ lifted_larger xs (λ l. Y (suc l)) (λ l. Z (suc l)) (λ l y. h (suc l) y) e
      (sym (cond-false {A = Bool} (eqb x e) (Y 0) (lifted xs (λ l. Y (suc l)) e) away) ∙ i)
]

module _ (g : GraphValue) (graph : IsGraph g) (root here : ℕ) (p : RegionValue)
    (more local_more : CutsOf) (h : IsRegionOf (wiring g.instances) root p)
    (cuts : AreLocalCuts p more local_more) (here_in : here < length p.nodes)
    (here_is : get_or p.nodes here 0 ≡ root) where
  abbrev w : Wiring
  w = wiring g.instances

  abbrev pw : Wiring
  pw = wiring_cut p.table local_more

  story_fit : (Y : NodeSet) → IsStory g.nodes (without w more) root Y
      → IsFit (without w more) root Y
  story_fit Y s = record { caused = s.caused; shown = s.shown }

  -- a story of the graph, by local numbers
  story_nodes : (Y : NodeSet) → IsStory g.nodes (without w more) root Y
      → IsSubset Y (is_member p.nodes)
  story_nodes Y s = fit_within w root here p more local_more h cuts here_in here_is graph.rank
      (graph_rising g graph) (graph_counted g graph) Y (story_fit Y s)

  story_local : (Y : NodeSet) → IsStory g.nodes (without w more) root Y
      → IsFit pw here (local p.nodes Y)
  story_local Y s = to_local w root here p more local_more h cuts here_in here_is Y
      (story_nodes Y s) (graph_counted g graph) (story_fit Y s)

  -- the greatest fit set of the part is the best of the graph where all reports are allowed
  pub best_first : (Z : NodeSet) → is_root_node g.nodes root ≡ true → IsFit pw here Z
      → ((Y : NodeSet) → IsFit pw here Y → IsSubset Y (λ l. ltb l (length p.nodes)) → IsSubset Y Z)
      → IsBestStory g more root all_allowed (lifted p.nodes Z)
  best_first Z kind fit all =
      let f = to_global w root here p more local_more h cuts here_in here_is Z fit in
      record {
        story = λ there. record {
          story = record {
            root_kind = kind;
            has_root = there;
            only_root = λ e i root_e. elim (cases_eq e root) [
              | inl same ↦ same
              | inr ne ↦
                  let c = f.caused e i ne in
                  let q = and_parts (is_member
                  (filter (λ x. not (more c.place x)) (w.effects c.place)) e)
                  (leb (w.k c.place) (count_by (lifted p.nodes Z) (w.causes c.place))) c.enough in
                  let effect = (filter_in (λ x. not (more c.place x)) e (w.effects c.place) q.0).1
                  in
                  absurd (both_ways (is_root_node g.nodes e)
                  (no_root_effect g graph c.place e effect) root_e)
            ];
            caused = f.caused;
            shown = f.shown;
          };
          within = λ e i. or_right (not (is_report_node g.nodes e)) true refl;
        };
        every = λ Y y. lifted_within w root here p more local_more h cuts here_in here_is Y Z
            (story_nodes Y y.story)
            (all (local p.nodes Y) (story_local Y y.story)
            (λ l i. (and_parts (ltb l (length p.nodes)) (Y (get_or p.nodes l 0)) i).0));
      }

  -- a set that was the best, less what can't stay
  module _ (cut : CutsOf) (Z0 Z1 A allowed fewer : NodeSet) (less_cut : CutsWithin cut more)
      (shrinks : IsSubset Z1 Z0) (fit : IsFit pw here Z1)
      (keeps : (Y : NodeSet) → IsFit pw here Y → IsSubset Y Z0 → IsSubset Y A → IsSubset Y Z1)
      (less : IsSubset (no_other_report g.nodes fewer) (no_other_report g.nodes allowed))
      (stays : (e : ℕ) → lifted p.nodes Z1 e ≡ true → no_other_report g.nodes allowed e ≡ true
      → no_other_report g.nodes fewer e ≡ true)
      (avoids : (Y : NodeSet) → IsSubset Y (no_other_report g.nodes fewer)
      → IsSubset (local p.nodes Y) A)
      (best : IsBestStory g cut root allowed (lifted p.nodes Z0)) where
    wider : (Y : NodeSet) → IsAllowedStory g more root fewer Y → IsAllowedStory g cut root allowed Y
    wider Y y = record {
      story = record {
        root_kind = y.story.root_kind;
        has_root = y.story.has_root;
        only_root = y.story.only_root;
        caused = λ e i ne. produced_fewer w more cut Y less_cut e (y.story.caused e i ne);
        shown = λ e i. shown_fewer w more cut Y less_cut e (y.story.shown e i);
      };
      within = λ e i. less e (y.within e i);
    }

    pub best_on : IsBestStory g more root fewer (lifted p.nodes Z1)
    best_on =
        let f = to_global w root here p more local_more h cuts here_in here_is Z1 fit in
        let sub = lifted_larger p.nodes Z1 Z0 shrinks in
        record {
          story = λ there.
              let s = best.story (sub root there) in
              record {
                story = record {
                  root_kind = s.story.root_kind;
                  has_root = there;
                  only_root = λ e i root_e. s.story.only_root e (sub e i) root_e;
                  caused = f.caused;
                  shown = f.shown;
                };
                within = λ e i. stays e i (s.within e (sub e i));
              };
          every = λ Y y. lifted_within w root here p more local_more h cuts here_in here_is Y Z1
              (story_nodes Y y.story)
              (keeps (local p.nodes Y) (story_local Y y.story)
              (local_within w root here p more local_more h cuts here_in here_is Y Z0
              (best.every Y (wider Y y))) (avoids Y y.within));
        }
