-- What the counters of a shrinking set say, over an incidence of which a test cuts some links.
use Rattle.std.specs.Prelude.{◌≡◌, ◌==◌, ◌&&◌, ◌+◌, ◌-◌, ◌<◌, ◌≤◌, [], not, nat_le, ℕ, Bool, true}
use Rattle.std.specs.Prelude.{nat_lt}
use Rattle.std.specs.Prelude.{false, cond, List}
use Rattle.std.specs.Prelude.{length, slice_index, slice_set}
use Rattle.std.specs.List.{filter, count_by}
use Rattle.ev_incidence.specs.Sets.{NodeSet, is_member, has_mark, occurs, IsSubset}
use Rattle.ev_incidence.specs.Wiring.{Wiring}
use Rattle.ev_incidence.specs.Table.{row_at, IncidenceValue, IsIncidence, wiring_of}
use Rattle.ev_graph.specs.Cutting.{without}
use Rattle.dx_sets.specs.Fit.{IsFit}
use Rattle.dx_sets.specs.Sets.{SetsValue, removed, weight, sum_held, sum_below, Moves}

-- which links are cut: a test of instance and effect
abbrev pub CutsOf : Type 0
CutsOf = ℕ → ℕ → Bool

-- each link that one test cuts is cut by the other
abbrev pub CutsWithin : CutsOf → CutsOf → Type 0
CutsWithin fewer more = (j e : ℕ) → fewer j e ≡ true → more j e ≡ true

-- the effects of an instance whose links are not cut, and the instances that give a node by such
-- links
abbrev pub uncut : IncidenceValue → CutsOf → ℕ → List ℕ
uncut v cut j = filter (λ e. not (cut j e)) (row_at v.effects j)

abbrev pub uncut_gets : IncidenceValue → CutsOf → ℕ → List ℕ
uncut_gets v cut e = filter (λ j. not (cut j e)) (row_at v.gets e)

abbrev pub wiring_cut : IncidenceValue → CutsOf → Wiring
wiring_cut v cut = without (wiring_of v) cut

-- how many instances have K causes left and give e by a link that is not cut
abbrev pub supports : IncidenceValue → CutsOf → List ℕ → ℕ → ℕ
supports v cut c e = sum_below (length v.causes)
    (λ j. cond (nat_le (slice_index v.k j) (slice_index c j)) (occurs e (uncut v cut j)) 0)

-- the counters are as long as what they count
pub record AreSized (v : IncidenceValue) (s : SetsValue) : Type 0 where
  pub marks : length s.marks ≡ length v.uses
  pub support : length s.support ≡ length v.uses
  pub causes_left : length s.causes_left ≡ length v.causes
  pub effects_left : length s.effects_left ≡ length v.causes

-- The counters are right, but for one cause less for each time that an instance stands in dc, and
-- one effect less for each time that it stands in de.
pub record AreExact (v : IncidenceValue) (cut : CutsOf) (s : SetsValue) (dc de : List ℕ) : Type 0
  where
    pub sized : AreSized v s
    pub causes : (j : ℕ) → j < length v.causes
        → slice_index s.causes_left j ≡ weight s (row_at v.causes j) + occurs j dc
    pub effects : (j : ℕ) → j < length v.causes
        → slice_index s.effects_left j ≡ weight s (uncut v cut j) + occurs j de
    pub support : (e : ℕ) → e < length v.uses
        → slice_index s.support e ≡ supports v cut s.causes_left e

-- each member other than the root is given by some instance
pub record AreGiven (root : ℕ) (s : SetsValue) : Type 0 where
  pub each : (e : ℕ) → has_mark s.marks e ≡ true → (e ≡ root → ⊥) → 0 < slice_index s.support e

-- each instance of which a member is a cause has N effects left
pub record AreMet (v : IncidenceValue) (s : SetsValue) : Type 0 where
  pub each : (j x : ℕ) → is_member (row_at v.causes j) x ≡ true → has_mark s.marks x ≡ true
      → slice_index v.n j ≤ slice_index s.effects_left j

-- no fit set loses a member
pub record KeepsFit (w : Wiring) (root : ℕ) (s t : SetsValue) : Type 0 where
  pub keeps : (Y : NodeSet) → IsFit w root Y → IsSubset Y (has_mark s.marks)
      → IsSubset Y (has_mark t.marks)

-- how many looks are still to come at most: at each node that is in the set or not yet looked at
-- and at its links, and at the causes and effects of each instance that has enough left
abbrev pub cost : IncidenceValue → SetsValue → ℕ
cost v s =
    sum_held s (λ e. 1 + (length (row_at v.uses e) + length (row_at v.gets e)))
    + (sum_below (length v.causes)
    (λ j. cond (nat_le (slice_index v.k j) (slice_index s.causes_left j))
    (length (row_at v.effects j)) 0)
    + sum_below (length v.causes)
    (λ j. cond (nat_le (slice_index v.n j) (slice_index s.effects_left j))
    (length (row_at v.causes j)) 0))

-- one instance alone gives the node, which is not the root
abbrev pub hangs_by_one : SetsValue → ℕ → ℕ → Bool
hangs_by_one s e root = (slice_index s.support e == 1) && not (e == root)

abbrev pub left_if_last : SetsValue → ℕ → ℕ → SetsValue
left_if_last s e root = cond (hangs_by_one s e root) (removed s e) s

-- one instance gives the node no more
abbrev pub giver_lost : SetsValue → ℕ → ℕ → SetsValue
giver_lost s e root = record {
  marks = (left_if_last s e root).marks;
  pending = (left_if_last s e root).pending;
  causes_left = (left_if_last s e root).causes_left;
  effects_left = (left_if_last s e root).effects_left;
  support = slice_set (left_if_last s e root).support e
      (slice_index (left_if_last s e root).support e - 1);
}

-- the causes of an instance have just become too few, and its effects still count it
pub record IsOwed (v : IncidenceValue) (cut : CutsOf) (place : ℕ) (s : SetsValue) : Type 0 where
  pub incidence : IsIncidence v
  pub sized : AreSized v s
  pub above : (j : ℕ) → j < length v.causes
      → weight s (row_at v.causes j) ≤ slice_index s.causes_left j
  pub support : (e : ℕ) → e < length v.uses
      → slice_index s.support e ≡ supports v cut s.causes_left e + occurs e (uncut v cut place)

-- between: these effects still count it
pub record IsPaying (v : IncidenceValue) (cut : CutsOf) (root : ℕ) (rest : List ℕ)
    (s t : SetsValue) : Type 0 where
  pub moves : Moves s t
  pub causes_left : t.causes_left ≡ s.causes_left
  pub effects_left : t.effects_left ≡ s.effects_left
  pub sized : AreSized v t
  pub support : (e : ℕ) → e < length v.uses
      → slice_index t.support e ≡ supports v cut s.causes_left e + occurs e rest
  pub given : AreGiven root t
  pub keeps : KeepsFit (wiring_cut v cut) root s t

-- these nodes left
pub record HaveLeft (xs : List ℕ) (s t : SetsValue) : Type 0 where
  pub moves : Moves s t
  pub causes_left : t.causes_left ≡ s.causes_left
  pub effects_left : t.effects_left ≡ s.effects_left
  pub support : t.support ≡ s.support
  pub away : (x : ℕ) → is_member xs x ≡ true → has_mark t.marks x ≡ false
  pub others : (x : ℕ) → has_mark s.marks x ≡ true → is_member xs x ≡ false
      → has_mark t.marks x ≡ true

abbrev pub CausesLeave : IncidenceValue → ℕ → SetsValue → SetsValue → Type 0
CausesLeave v place s t = HaveLeft (row_at v.causes place) s t

-- a state on the way from another: what left waits to be looked at, and no fit set lost a member
pub record IsOnWay (v : IncidenceValue) (cut : CutsOf) (root : ℕ) (s t : SetsValue) : Type 0 where
  pub moves : Moves s t
  pub keeps : KeepsFit (wiring_cut v cut) root s t

-- all counters are right, each member but the root is given, and each instance of which a member is
-- a cause has enough effects left
pub record IsSteady (v : IncidenceValue) (cut : CutsOf) (root : ℕ) (s : SetsValue) : Type 0 where
  pub incidence : IsIncidence v
  pub exact : AreExact v cut s [] []
  pub given : AreGiven root s
  pub met : AreMet v s

-- the instance j has K causes; each of the first n instances has
abbrev pub has_enough : IncidenceValue → ℕ → Bool
has_enough v j = nat_le (slice_index v.k j) (length (row_at v.causes j))

pub record HaveEnough (v : IncidenceValue) (n : ℕ) : Type 0 where
  pub each : (j : ℕ) → j < n → has_enough v j ≡ true

-- the instance j gives e at the beginning, when all causes are there
abbrev pub is_giver : IncidenceValue → CutsOf → ℕ → ℕ → Bool
is_giver v cut e j = not (cut j e) && has_enough v j

-- the first instances have their counts of all causes and of all effects that are not cut
pub record HaveCounts (v : IncidenceValue) (cut : CutsOf) (n : ℕ) (s : SetsValue) : Type 0 where
  pub causes : (j : ℕ) → j < n → slice_index s.causes_left j ≡ length (row_at v.causes j)
  pub effects : (j : ℕ) → j < n → slice_index s.effects_left j ≡ length (uncut v cut j)

-- each node is in the set
pub record AreFilled (v : IncidenceValue) (s : SetsValue) : Type 0 where
  pub each : (e : ℕ) → e < length v.uses → has_mark s.marks e ≡ true
  pub none : s.pending ≡ []

-- nothing gives the node, which is not the root
abbrev pub is_ungiven : SetsValue → ℕ → ℕ → Bool
is_ungiven s e root = (slice_index s.support e == 0) && not (e == root)

-- the set shrank, and no fit set lost a member
pub record SettlesTo (v : IncidenceValue) (cut : CutsOf) (root : ℕ) (s t : SetsValue) : Type 0 where
  pub shrinks : IsSubset (has_mark t.marks) (has_mark s.marks)
  pub keeps : KeepsFit (wiring_cut v cut) root s t

-- those of the first n nodes that p tells have left
pub record HaveLeftBelow (p : NodeSet) (n : ℕ) (s t : SetsValue) : Type 0 where
  pub moves : Moves s t
  pub causes_left : t.causes_left ≡ s.causes_left
  pub effects_left : t.effects_left ≡ s.effects_left
  pub support : t.support ≡ s.support
  pub each : (e : ℕ) → has_mark t.marks e ≡ (has_mark s.marks e && not (nat_lt e n && p e))

-- of the first n instances, those of which a member is a cause have N effects left
pub record AreMetBelow (v : IncidenceValue) (n : ℕ) (s : SetsValue) : Type 0 where
  pub each : (j x : ℕ) → j < n → is_member (row_at v.causes j) x ≡ true
      → has_mark s.marks x ≡ true → slice_index v.n j ≤ slice_index s.effects_left j

-- the first n nodes have their counts of the instances that give them
pub record HaveSupport (v : IncidenceValue) (cut : CutsOf) (n : ℕ) (s : SetsValue) : Type 0 where
  pub each : (e : ℕ) → e < n
      → slice_index s.support e ≡ count_by (is_giver v cut e) (row_at v.gets e)

-- a node is looked at: causes of instances, and effects of instances, still count it
pub record IsLooking (v : IncidenceValue) (cut : CutsOf) (root : ℕ) (dc de : List ℕ)
    (s t : SetsValue) : Type 0 where
  pub exact : AreExact v cut t dc de
  pub given : AreGiven root t
  pub met : AreMet v t
  pub way : IsOnWay v cut root s t
