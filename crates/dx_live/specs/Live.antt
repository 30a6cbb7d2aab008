-- The set of one root, what was cut of the graph, and what a step may still look at.
use Rattle.std.specs.Prelude.{◌≡◌, ◌==◌, ◌&&◌, ◌||◌, ◌++◌, ◌∷◌, ◌<◌, [], not, ℕ, zero, suc, true}
use Rattle.std.specs.Prelude.{false, nat_lt, List, length, map, replicate, slice_index}
use Rattle.ev_incidence.specs.Sets.{NodeSet, has_mark, occurs, IsSubset}
use Rattle.ev_graph.specs.Kinds.{is_root_node}
use Rattle.ev_graph.specs.Wired.{wiring}
use Rattle.ev_graph.specs.Lawful.{GraphValue, IsIncidenceOf}
use Rattle.dx_sets.specs.Sets.{SetsValue}
use Rattle.dx_sets.specs.Fit.{IsFit}
use Rattle.dx_sets.specs.Engine.{CutsOf, IsSteady, wiring_cut, cost}
use Rattle.ev_incidence.specs.Table.{IncidenceValue}
use Rattle.dx_story.specs.Greatest.{IsAllowedStory, IsGreatestStory}
use Rattle.ev_graph.specs.declared.instances.Link.{Link}
use Rattle.dx_live.specs.Region.{KeptRegion, RegionValue, IsRegionOf, AreLocalCuts, lifted}
use Rattle.dx_live.specs.Region.{table_over, region_over}
use Rattle.dx_live.specs.Cuts.{CutsValue, cut_at, AreCutsOf}

-- what is kept of the part that the root reaches, its shrinking sets, which links are cut and the
-- root, by local numbers
pub record LiveValue : Type 0 where
  pub region : KeptRegion
  pub sets : SetsValue
  pub cuts : CutsValue
  pub here : ℕ

-- the same with the incidence of the part
pub record LiveOver : Type 0 where
  pub region : RegionValue
  pub sets : SetsValue
  pub cuts : CutsValue
  pub here : ℕ

-- what a live set is where the graph has this incidence
abbrev pub live_over : IncidenceValue → LiveValue → LiveOver
live_over v l = record {
  region = region_over v l.region;
  sets = l.sets;
  cuts = l.cuts;
  here = l.here;
}

abbrev pub live_root : LiveValue → ℕ
live_root l = slice_index l.region.nodes l.here

abbrev pub live_set : LiveValue → NodeSet
live_set l = lifted l.region.nodes (has_mark l.sets.marks)

-- the root by the incidence of the part, and which links are cut, by local numbers
abbrev pub root_over : LiveOver → ℕ
root_over l = slice_index l.region.nodes l.here

abbrev pub cuts_over : LiveOver → CutsOf
cuts_over l = cut_at l.region.table.effects l.cuts

-- the places, counted from j on, of the rows in which e stands, as often as it stands there
abbrev pub rows_with : ℕ → ℕ → List (List ℕ) → List ℕ
rows_with e j [] = []
rows_with e j (row ∷ rows) = replicate (occurs e row) j ++ rows_with e (suc j) rows

-- the same for each number below n
abbrev pub index_of : ℕ → List (List ℕ) → List (List ℕ)
index_of zero rows = []
index_of (suc n) rows = index_of n rows ++ rows_with n zero rows ∷ []

-- the incidence of a graph, each node's instances in order
abbrev pub graph_table : GraphValue → IncidenceValue
graph_table g = record {
  causes = map (λ i. i.causes) g.instances;
  effects = map (λ i. i.effects) g.instances;
  n = map (λ i. i.n) g.instances;
  k = map (λ i. i.k) g.instances;
  uses = index_of (length g.nodes) (map (λ i. i.causes) g.instances);
  gets = index_of (length g.nodes) (map (λ i. i.effects) g.instances);
}

-- how many looks are still to come at most
abbrev pub live_cost : GraphValue → LiveValue → ℕ
live_cost g l = cost (table_over (graph_table g) l.region.own) l.sets

-- it was made for this graph, and nothing waits to be looked at
pub record IsLiveOver (g : GraphValue) (l : LiveOver) : Type 0 where
  pub region : IsRegionOf (wiring g.instances) (root_over l) l.region
  pub here : l.here < length l.region.nodes
  pub cuts : AreCutsOf l.region.table.effects l.cuts
  pub steady : IsSteady l.region.table (cuts_over l) l.here l.sets
  pub over : l.sets.pending ≡ []
  pub kind : is_root_node g.nodes (root_over l) ≡ true

pub record IsLiveOf (g : GraphValue) (l : LiveValue) : Type 0 where
  pub table : IncidenceValue
  pub incidence : IsIncidenceOf (length g.nodes) g.instances table
  pub over : IsLiveOver g (live_over table l)

-- the set is the greatest story with reports within what is allowed if it has the root, and each
-- such story is within it
pub record IsBestStory (g : GraphValue) (cut : CutsOf) (root : ℕ) (allowed X : NodeSet) : Type 0
  where
    pub story : X root ≡ true → IsAllowedStory g cut root allowed X
    pub every : (Y : NodeSet) → IsAllowedStory g cut root allowed Y → IsSubset Y X

-- its set is the best where just these links are cut and these reports allowed
pub record IsBestOver (g : GraphValue) (cut : CutsOf) (allowed : NodeSet) (l : LiveOver) : Type 0
  where
    pub cuts : AreLocalCuts l.region cut (cuts_over l)
    pub best : IsBestStory g cut (root_over l) allowed
        (lifted l.region.nodes (has_mark l.sets.marks))

pub record IsLiveBest (g : GraphValue) (cut : CutsOf) (allowed : NodeSet) (l : LiveValue) : Type 0
  where
    pub cuts : AreLocalCuts (region_over (graph_table g) l.region) cut
        (cuts_over (live_over (graph_table g) l))
    pub best : IsBestStory g cut (live_root l) allowed (live_set l)

abbrev pub no_cut : CutsOf
no_cut j e = false

abbrev pub all_allowed : NodeSet
all_allowed e = true

-- one more link is cut
abbrev pub cut_with : CutsOf → Link → CutsOf
cut_with cut gone j e = cut j e || (j == gone.instance && e == gone.effect)

-- one fewer is allowed
abbrev pub all_but : NodeSet → ℕ → NodeSet
all_but allowed gone e = allowed e && not (e == gone)

-- where the set is the best, it has the root exactly where there is a story, and then it is the
-- greatest
abbrev pub BestIsGreatest : Type 0
BestIsGreatest = (g : GraphValue) (cut : CutsOf) (root : ℕ) (allowed X : NodeSet)
    → IsBestStory g cut root allowed X
    → (X root ≡ true → IsGreatestStory g cut root allowed X)
    × (X root ≡ false → (Y : NodeSet) → IsAllowedStory g cut root allowed Y → ⊥)

-- no set of the nodes of a part, in which each member but the root is produced and each shows
-- enough, has a member outside the set
pub record HasEveryFit (v : IncidenceValue) (cut : CutsOf) (here : ℕ) (s : SetsValue) : Type 0 where
  pub every : (Y : NodeSet) → IsFit (wiring_cut v cut) here Y
      → IsSubset Y (λ n. nat_lt n (length v.uses)) → IsSubset Y (has_mark s.marks)
