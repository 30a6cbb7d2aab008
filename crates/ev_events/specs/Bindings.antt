-- The candidates of a propagation: the bindings under which each pattern has a fitting path.
use Rattle.std.specs.Prelude.{◌≡◌, ◌<◌, ◌++◌, ℕ, List, length, slice_get, Some, sum_by}
use Rattle.fm_topo.specs.Topology.{Topology}
use Rattle.ev_tree.specs.Pattern.{Pattern}
use Rattle.ev_check.specs.CheckedFile.{Linking}
use Rattle.ev_join.specs.Order.{IsNotBefore, AreSmall}
use Rattle.ev_join.specs.Candidates.{IsAmong}
use Rattle.ev_events.specs.Names.{iterators}
use Rattle.ev_events.specs.Fits.{fitting}

abbrev pub patterns_of : Linking → List Pattern
patterns_of l = l.left ++ l.right

-- a binding, which gives an instance below 2 ^ 32 to each iterator, under which each pattern has a
-- fitting path
pub record IsBinding (topology : Topology) (l : Linking) (b : List ℕ) : Type 0 where
  pub full : length b ≡ length (iterators l)
  pub small : AreSmall b
  pub fits : (j : ℕ) (q : Pattern) → slice_get (patterns_of l) j ≡ Some q
      → 0 < length (fitting topology (iterators l) b q.parts)

-- the candidate links of a binding: the fitting paths of all patterns
abbrev pub candidate_links : Topology → Linking → List ℕ → ℕ
candidate_links topology l b =
    sum_by (λ q. length (fitting topology (iterators l) b q.parts)) (patterns_of l)

-- candidates, each once, in order of their numbers
pub record AreBindings (topology : Topology) (l : Linking) (bs : List (List ℕ)) : Type 0 where
  pub each : (i : ℕ) (b : List ℕ) → slice_get bs i ≡ Some b → IsBinding topology l b
  pub ascend : (i j : ℕ) (a b : List ℕ) → i < j → slice_get bs i ≡ Some a
      → slice_get bs j ≡ Some b → IsNotBefore a b → ⊥

-- all candidates, each once, in order of their numbers
pub record AreAllBindings (topology : Topology) (l : Linking) (bs : List (List ℕ)) :
    Type 0 where
  pub bindings : AreBindings topology l bs
  pub all : (b : List ℕ) → IsBinding topology l b → IsAmong b bs
