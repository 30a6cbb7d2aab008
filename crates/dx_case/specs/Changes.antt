-- What happens to a live set when links are cut and reports go.
use Rattle.std.specs.Prelude.{◌≡◌, ◌&&◌, ◌||◌, not, ℕ, true, nat_lt, List, length, Option}
use Rattle.std.specs.Prelude.{Some, None, slice_get, ◌<◌, ◌≤◌}
use Rattle.ev_incidence.specs.Sets.{NodeSet, is_member}
use Rattle.ev_graph.specs.Cutting.{is_cut}
use Rattle.ev_graph.specs.Lawful.{GraphValue}
use Rattle.ev_graph.specs.declared.nodes.Node.{Node}
use Rattle.ev_graph.specs.declared.nodes.NodeKind.{NodeKind}
use Rattle.ev_graph.specs.declared.nodes.NodeKind.TheVariants.{Report}
use Rattle.ev_graph.specs.declared.instances.Link.{Link}
use Rattle.dx_sets.specs.Engine.{CutsOf}
use Rattle.dx_live.specs.Live.{LiveValue, IsLiveOf, IsLiveBest, live_root}
use Rattle.dx_case.specs.declared.candidate.Candidate.{Candidate}

-- these links are cut too
abbrev pub cut_or : CutsOf → List Link → CutsOf
cut_or cut links j e = cut j e || is_cut links j e

-- what is allowed less what goes
abbrev pub allowed_less : NodeSet → NodeSet → NodeSet
allowed_less allowed gone e = allowed e && not (gone e)

-- how long others are awaited after a report of the node; 0 for what is no report
abbrev pub within_kind : NodeKind → ℕ
within_kind (Report within) = within
within_kind _ = 0

abbrev pub within_if_any : Option Node → ℕ
within_if_any None = 0
within_if_any (Some node) = within_kind node.kind

abbrev pub node_within : List Node → ℕ → ℕ
node_within nodes e = within_if_any (slice_get nodes e)

-- the window of a report is over at this age of the case; without an age, at once
abbrev pub is_over : List Node → Option ℕ → NodeSet
is_over nodes None e = true
is_over nodes (Some age) e = nat_lt (node_within nodes e) age

-- a report goes that was not observed and whose window is over
abbrev pub goes : List Node → List ℕ → Option ℕ → NodeSet
goes nodes observed age e = not (is_member observed e) && is_over nodes age e

-- those of these reports that go
abbrev pub gone_of : List Node → List ℕ → List ℕ → Option ℕ → NodeSet
gone_of nodes reports observed age e = is_member reports e && goes nodes observed age e

-- links of it were cut, and reports went
pub record IsChanged (g : GraphValue) (links : List Link) (gone : NodeSet)
    (a b : LiveValue) : Type 0 where
  pub live : IsLiveOf g b
  pub root : live_root b ≡ live_root a
  pub best : (cut : CutsOf) (allowed : NodeSet) → IsLiveBest g cut allowed a
      → IsLiveBest g (cut_or cut links) (allowed_less allowed gone) b

-- so with the first n of some candidates, and nothing with the others
pub record AreChangedBelow (g : GraphValue) (links : List Link) (gone : NodeSet) (n : ℕ)
    (old new : List Candidate) : Type 0 where
  pub count : length new ≡ length old
  pub roots : (i : ℕ) (a b : Candidate) → i < n → slice_get old i ≡ Some a
      → slice_get new i ≡ Some b → b.root ≡ a.root
  pub done : (i : ℕ) (a b : Candidate) → i < n → slice_get old i ≡ Some a
      → slice_get new i ≡ Some b → IsChanged g links gone a.live b.live
  pub left : (i : ℕ) → n ≤ i → slice_get new i ≡ slice_get old i

-- so with each
pub record AreChanged (g : GraphValue) (links : List Link) (gone : NodeSet)
    (old new : List Candidate) : Type 0 where
  pub count : length new ≡ length old
  pub roots : (i : ℕ) (a b : Candidate) → slice_get old i ≡ Some a → slice_get new i ≡ Some b
      → b.root ≡ a.root
  pub each : (i : ℕ) (a b : Candidate) → slice_get old i ≡ Some a → slice_get new i ≡ Some b
      → IsChanged g links gone a.live b.live

-- each was made for the graph
pub record AreLivesOf (g : GraphValue) (candidates : List Candidate) : Type 0 where
  pub each : (i : ℕ) (a : Candidate) → slice_get candidates i ≡ Some a → IsLiveOf g a.live
